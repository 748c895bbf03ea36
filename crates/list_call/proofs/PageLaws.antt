-- Laws of the pages that a call's walk noted: each may be read; on a sound store the records in them that pass a test
-- are the model's; the counts that the call returns. Assumes nothing.
use Prim.Native.Nat.{ℕ, ◌*◌, ◌/◌, ◌≤◌, ◌<◌, min}
use mathlib.Core.Path.{◌≡◌, sym, ap, ◌∙◌, subst}
use mathlib.Core.Bool.{Bool, true, false}
use mathlib.Core.List.{List, map, flat_map}
use native.Mathlib.Omega.{arith}
use native.Mathlib.Nat.{le_trans}
use lib.ListN.{length, get_or, take}
use Rattle.lists.specs.Filter.{filter, non_empty}
use Rattle.lists.specs.Members.{All}
use Rattle.shape.specs.Shape.{widths_of, total}
use Rattle.shape.proofs.BoundsLaws.{within-le}
use Rattle.shape.proofs.ShapeLaws.{shape_number-true, capacity-bounds}
use Rattle.region.specs.Strings.{same_bits, empty_string}
use Rattle.region.specs.Query.{LeafTest, holds_records, walk_reads}
use Rattle.record.specs.Record.{Record, record_bit}
use Rattle.record.specs.Bytes.{record_size, record_of}
use Rattle.record.proofs.ByteLaws.{AreBytes}
use Rattle.page.specs.Page.{count_of, page_size, page_at, records_of}
use Rattle.page.proofs.PartLaws.{page-end-le}
use Rattle.page_matches.specs.Output.{emit}
use Rattle.page_matches.proofs.EmitLaws.{IsField}
use Rattle.model.specs.Sets.{in_shape, division_of}
use Rattle.store.specs.declared.State.{State}
use Rattle.store.specs.Store.{store}
use Rattle.store.specs.Promises.{SoundWhere}
use Rattle.query_seen.specs.Seen.{walk_seen_by}
use Rattle.query_seen.proofs.BoundLaws.{Readable}
use Rattle.std.specs.Prelude.{Some, None}
use Rattle.query_walk.specs.Noting.{Noted, Put}
use Rattle.query_walk.proofs.NotedLaws.{noted-le, noted-readable, noted-reads-by, noted-records-by}
use Rattle.query_records.specs.Records.{PageWithin, ListOf, list_hits}
use Rattle.query_records.proofs.ListHitLaws.{All-take-of, IsField-list_hits, map-list_hits}
use Rattle.list_call.specs.Lent.{LimitsLent}
use Rattle.list_call.proofs.LentLaws.{deepest-few}

-- ---- answers of a walk

abbrev pub is_pages : Noted → Bool
is_pages (Some n) = true
is_pages None = false

abbrev pub pages_in : Noted → ℕ
pages_in (Some n) = n
pages_in None = 0

-- ---- pages

-- a page that may be read
PageWithin-readable : (b P : ℕ) (bytes : List ℕ) (g : ℕ) → P ≤ 4096 → P * page_size b ≤ length bytes
    → Readable P b bytes g → PageWithin b bytes g
PageWithin-readable b P bytes g most l h = record {
  number = le_trans h.0 most;
  lent = le_trans (page-end-le b g P h.0) l;
  counted = within-le 1 b (count_of (page_at b bytes g)) h.1;
}

module _ (st : State) (words bytes : List ℕ) (lent : LimitsLent st (length words) (length bytes))
    (enter : ℕ → (ℕ → Bool) → Bool) (list : List ℕ) (r : Noted) (later : List ℕ)
    (o : Put list (walk_seen_by st words bytes enter) r later) (long : length later ≡ length list)
    (n : ℕ) (e : r ≡ Some n) (room : n ≤ length list) where
  abbrev b : ℕ
  b = st.shape.capacity

  each_within : (i : ℕ) → i < n → PageWithin b bytes (get_or later i 0)
  each_within i l =
      PageWithin-readable b st.limits.pages bytes (get_or later i 0) lent.most-pages lent.pages-lent
      (noted-readable st words bytes enter list r later o n e room i l)

  pub pages-listed : ListOf (PageWithin b bytes) b n later
  pages-listed = record {
    capacity = (capacity-bounds st.shape (shape_number-true st.shape lent.shape)).1;
    few =
        le_trans (noted-le st words bytes enter list r later o n e)
        (deepest-few st (length words) (length bytes) lent);
    within = omega (arith, room, long);
    each = each_within;
  }

  pub all-within : All (PageWithin b bytes) (take n later)
  all-within = All-take-of (PageWithin b bytes) later n (omega (arith, room, long)) each_within

  -- ---- records that pass a test of their bytes

  module _ (are : AreBytes bytes) (test : List ℕ → Bool) where
    abbrev pub fields : List (List ℕ)
    fields = list_hits test b bytes (take n later)

    pub IsField-fields : All IsField fields
    IsField-fields = IsField-list_hits b bytes are test (take n later) all-within

    -- on a store that is sound where the call reads it: the reads are the leaves entered that are not empty, and the
    -- records those of S, where the test is one of records
    module _ (wanted : Record → Bool) (same : (f : List ℕ) → AreBytes f → test f ≡ wanted (record_of st.shape f))
        (reads : LeafTest Record) (S : List Record)
        (covers : (p : ℕ → Bool) (x : ℕ) (rs : List Record) → enter x p ≡ true → non_empty rs ≡ true
        → reads p x rs ≡ true)
        (h : SoundWhere (store st words bytes) reads S) (begins : enter 0 empty_string ≡ true) where
      abbrev leaf_reads : ℕ
      leaf_reads = walk_reads enter holds_records empty_string 0 (division_of st.shape S)

      pub reads-as-model : n ≡ leaf_reads
      reads-as-model =
          ap pages_in (sym e ∙ noted-reads-by (store st words bytes) enter reads S covers h begins list r later o)

      abbrev gathered : ℕ → List Record
      gathered k = flat_map (λ g. filter wanted (records_of st.shape (page_at b bytes g))) (take k later)

      pub records-as-model : ((x : ℕ) (p q : ℕ → Bool) → same_bits p q x 0 ≡ true → enter x p ≡ enter x q)
          → ((a : Record) → in_shape st.shape a ≡ true → wanted a ≡ true → (x : ℕ)
          → x ≤ total (widths_of st.shape) → enter x (record_bit st.shape a) ≡ true)
          → map (record_of st.shape) fields ≡ filter wanted S
      records-as-model local lets-in =
          map-list_hits b bytes are test st.shape wanted same (take n later) all-within
          ∙ subst (λ k. ◌≡◌ (gathered k) (filter wanted S)) (sym reads-as-model)
          (noted-records-by (store st words bytes) enter reads S covers h begins list r later o
          (omega (arith, room, reads-as-model)) wanted local lets-in)

-- ---- counts

-- what holds of the counts of a list holds of those that a call returns
pub of-counts : (P : ℕ → ℕ → List ℕ → Type 0) (out : List ℕ) (fs : List (List ℕ)) (written total : ℕ) (out' : List ℕ)
    → total ≡ length fs → written ≡ min total (length out / record_size) → out' ≡ emit out 0 fs
    → P (min (length fs) (length out / record_size)) (length fs) (emit out 0 fs) → P written total out'
of-counts P out fs written total out' t w d found =
    let w' : written ≡ min (length fs) (length out / record_size) =
    w ∙ ap (λ k. min k (length out / record_size)) t in
    subst (λ x. P written total x) (sym d)
    (subst (λ x. P x total (emit out 0 fs)) (sym w')
    (subst (λ x. P (min (length fs) (length out / record_size)) x (emit out 0 fs)) (sym t) found))
