-- Laws of the call save: what each step asks, and the promise from what the steps leave. Assumes nothing.
use Prim.Native.Nat.{ℕ, zero, suc, ◌≤◌}
use mathlib.Core.Path.{◌≡◌, refl, sym, ap, ◌∙◌}
use mathlib.Core.Bool.{Bool, true, false, true≢false}
use mathlib.Core.List.{List, map, flat_map}
use native.Mathlib.Nat.{le_trans}
use lib.ListN.{length, take}
use Rattle.lists.specs.Members.{All}
use Rattle.lists.proofs.FilterLaws.{filter-true}
use Rattle.lists.proofs.Sequences.{flat_map-ext}
use Rattle.shape.specs.Shape.{shape_number}
use Rattle.shape.specs.Refusal.{Answer, accepted, refused, answered_by}
use Rattle.shape.specs.declared.Shape.{Shape}
use Rattle.shape.proofs.RefusalLaws.{accepted-answered_by}
use Rattle.region.specs.Query.{agrees, query_enters}
use Rattle.region.proofs.QueryLaws.{agrees-same}
use Rattle.record.specs.Record.{Record, record_bit}
use Rattle.record.specs.Bytes.{record_of}
use Rattle.record.proofs.ByteLaws.{AreBytes}
use Rattle.page_matches.specs.Output.{hits}
use Rattle.page_matches.proofs.EmitLaws.{IsField}
use Rattle.store.specs.declared.State.{State}
use Rattle.store.specs.Store.{Store, store}
use Rattle.store.specs.Promises.{SoundWhere, with_bytes}
use Rattle.refusals.specs.Limits.{limits_hold}
use Rattle.refusals.specs.Lengths.{MemoryLent, lent_by, lent_number_by}
use Rattle.refusals.proofs.LentLaws.{memory_lent}
use Rattle.refusals.proofs.LimitsLaws.{limits-of-sound}
use Rattle.query_rows.specs.Rows.{Table}
use Rattle.query_rows.proofs.MostLaws.{most_pages-le}
use Rattle.query_seen.specs.Seen.{walk_seen}
use Rattle.std.specs.Prelude.{Some, None}
use Rattle.query_walk.specs.Noting.{Noted, Put, Walkable}
use Rattle.query_walk.proofs.NotedLaws.{noted-le, noted-reads-by}
use Rattle.query_records.specs.Records.{PageWithin, ListOf, list_hits, page_fields}
use Rattle.list_call.specs.Lent.{LimitsLent}
use Rattle.list_call.proofs.LentLaws.{limits_lent, deepest-few, walkable}
use Rattle.list_call.proofs.PageLaws.{is_pages, pages-listed, IsField-fields, records-as-model}
use Rattle.file.specs.Promises.{SavePromise, every_leaf}
use Rattle.save.specs.Private.{free_bits, Filed}
use Rattle.save.proofs.PromiseLaws.{promise-nine, promise-filed}

-- ---- a query that gives nothing

-- agrees with every region
agrees-free : (p : ℕ → Bool) (n t : ℕ) → agrees free_bits p n t ≡ true
agrees-free p zero t = refl
agrees-free p (suc n) t = agrees-free p n (suc t)

-- a test that all records of some pages pass
list_hits-true : (b : ℕ) (bytes gs : List ℕ) → list_hits (λ f. true) b bytes gs ≡ flat_map (page_fields b bytes) gs
unfolding list_hits hits
list_hits-true b bytes gs = flat_map-ext _ (page_fields b bytes) (λ g. filter-true (page_fields b bytes g)) gs

-- ---- a tested state

-- with the table of a query that gives nothing, and room for the pages of all leaves
pub walkable-free : (st : State) (words bytes : ℕ) → LimitsLent st words bytes → (rows : List ℕ) (room : ℕ)
    → Table st free_bits rows → 4096 ≤ room → Walkable st rows words bytes room
walkable-free st words bytes lent rows room t l =
    walkable st words bytes lent free_bits rows room t
    (le_trans (most_pages-le rows st.deepest 0) (le_trans (deepest-few st words bytes lent) l))

-- what a test that is passed tells
pub number-none : (st : State) (words bytes : ℕ) → accepted (tt {0}) ≡ answered_by (lent_by st words bytes) (tt {0})
    → lent_number_by st words bytes ≡ 0
unfolding lent_number_by
number-none st words bytes e = accepted-answered_by tt tt (lent_by st words bytes) e

module _ (st : State) (words bytes : List ℕ) (none : lent_number_by st (length words) (length bytes) ≡ 0) where
  abbrev here : Store
  here = store st words bytes

  abbrev s : Shape
  s = st.shape

  lent : MemoryLent st (length words) (length bytes)
  lent = memory_lent st (length words) (length bytes) none

  pub shape-of-none : shape_number s ≡ 0
  shape-of-none = lent.shape

  pub nine-limits : (out : List ℕ) → limits_hold st ≡ false → SavePromise here out (refused 9) out
  nine-limits out e =
      promise-nine st words bytes out none
      (λ S h. true≢false (sym (limits-of-sound (with_bytes here h.0) S h.1) ∙ e))

  module _ (can : limits_hold st ≡ true) where
    pub limits-lent : LimitsLent st (length words) (length bytes)
    limits-lent = limits_lent st (length words) (length bytes) lent can

    -- ---- what the walk noted

    module _ (list : List ℕ) (r : Noted) (later : List ℕ) (o : Put list (walk_seen st words bytes free_bits) r later)
      where
        pub nine-damaged : (out : List ℕ) → r ≡ None → SavePromise here out (refused 9) out
        nine-damaged out e =
            promise-nine st words bytes out none
            (λ S h. true≢false
            (sym (ap is_pages (noted-reads-by here (query_enters free_bits) every_leaf S (λ p x rs m k. refl) h refl list r
            later o))
            ∙ ap is_pages e))

        module _ (long : length later ≡ length list) (room : 4096 ≤ length list) (n : ℕ) (e : r ≡ Some n) where
          within : n ≤ length list
          within =
              le_trans (noted-le st words bytes (query_enters free_bits) list r later o n e)
              (le_trans (deepest-few st (length words) (length bytes) limits-lent) room)

          pub pages-within : ListOf (PageWithin s.capacity bytes) s.capacity n later
          pages-within =
              pages-listed st words bytes limits-lent (query_enters free_bits) list r later o long n e within

          -- ---- their records

          module _ (are : AreBytes bytes) (out : List ℕ) where
            abbrev fs : List (List ℕ)
            fs = flat_map (page_fields s.capacity bytes) (take n later)

            whole : All IsField fs
            whole =
                rw (sym (list_hits-true s.capacity bytes (take n later)))
                (IsField-fields st words bytes limits-lent (query_enters free_bits) list r later o long n e within are
                (λ f. true))

            as-model : (S : List Record) → SoundWhere here every_leaf S → map (record_of s) fs ≡ S
            as-model S h =
                ap (map (record_of s)) (sym (list_hits-true s.capacity bytes (take n later)))
                ∙ records-as-model st words bytes limits-lent (query_enters free_bits) list r later o long n e within are
                (λ f. true) (λ x. true) (λ f b. refl) every_leaf S (λ p x rs m k. refl) h refl
                (λ x p q d. agrees-same free_bits p q x 0 d)
                (λ a f m x l. agrees-free (record_bit s a) x 0)
                ∙ filter-true S

            pub promise-of-pages : (answer : Answer ℕ) (out' : List ℕ) → Filed s fs out answer out'
                → SavePromise here out answer out'
            promise-of-pages = promise-filed st words bytes out none fs as-model whole
