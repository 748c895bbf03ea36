-- Laws of the call query: what each step asks, and the promise from what the steps leave. Assumes nothing.
use Prim.Native.Nat.{ℕ, ◌/◌, ◌≤◌, min}
use mathlib.Core.Path.{◌≡◌, sym, ap, ◌∙◌, subst}
use mathlib.Core.Bool.{true, false, true≢false}
use mathlib.Core.List.{List, map, flat_map}
use mathlib.Core.Option.{Option}
use native.Mathlib.Omega.{arith}
use native.Mathlib.Nat.{le_trans}
use lib.ListN.{length, take}
use Rattle.lists.specs.Filter.{filter}
use Rattle.lists.specs.Members.{All}
use Rattle.shape.specs.Shape.{shape_number}
use Rattle.shape.specs.Refusal.{accepted, refused, answered_by}
use Rattle.shape.specs.Key.{query_fits}
use Rattle.shape.proofs.RefusalLaws.{accepted-answered_by}
use Rattle.region.specs.Query.{query_enters}
use Rattle.record.specs.Record.{Record, matches}
use Rattle.record.specs.Bytes.{record_size, record_of}
use Rattle.record.proofs.ByteLaws.{AreBytes}
use Rattle.model.specs.Model.{listed}
use Rattle.model.specs.Sets.{query_bits, reads_of}
use Rattle.model.proofs.MatchLaws.{matches-agrees}
use Rattle.page.specs.Page.{page_at, records_of}
use Rattle.page_matches.specs.Pattern.{pattern_of, passes}
use Rattle.page_matches.specs.Output.{emit}
use Rattle.page_matches.proofs.PatternLaws.{passes-matches}
use Rattle.store.specs.declared.State.{State}
use Rattle.store.specs.Store.{store}
use Rattle.store.specs.Promises.{QueryPromise, SoundWhereRead, with_bytes}
use Rattle.refusals.specs.Limits.{limits_hold}
use Rattle.refusals.specs.Lengths.{MemoryLent}
use Rattle.refusals.proofs.LimitsLaws.{limits-of-sound}
use Rattle.std.specs.Prelude.{Some, None}
use Rattle.query_rows.specs.Rows.{Table, most_pages}
use Rattle.query_rows.proofs.MostLaws.{most_pages-le}
use Rattle.query_seen.specs.Seen.{walk_seen}
use Rattle.query_walk.specs.Noting.{Noted, Put, Walkable}
use Rattle.query_walk.proofs.NotedLaws.{length-noted, noted-reads, noted-records}
use Rattle.query_walk.proofs.StartLaws.{length-walk_seen-le}
use Rattle.query_records.specs.Records.{PageWithin, ListOf, list_hits}
use Rattle.query_records.proofs.ListHitLaws.{IsField-list_hits, map-list_hits}
use Rattle.list_call.specs.Lent.{LimitsLent}
use Rattle.list_call.proofs.LentLaws.{limits_lent, deepest-few, walkable}
use Rattle.list_call.proofs.PageLaws.{is_pages, pages_in, pages-listed, all-within, of-counts}
use Rattle.query_number.specs.Number.{query_by, query_number_by}
use Rattle.query_number.proofs.EarlyLaws.{parts-of-query_number_by}
use Rattle.query.proofs.PromiseLaws.{promise-nine, promise-listed}

-- what a test that is passed tells
pub number-none : (st : State) (words bytes : ℕ) (q : List (Option ℕ))
    → accepted (tt {0}) ≡ answered_by (query_by st words bytes q) (tt {0}) → query_number_by st words bytes q ≡ 0
unfolding query_number_by
number-none st words bytes q e = accepted-answered_by tt tt (query_by st words bytes q) e

module _ (st : State) (words bytes : List ℕ) (q : List (Option ℕ))
    (none : query_number_by st (length words) (length bytes) q ≡ 0) where
  lent : MemoryLent st (length words) (length bytes)
  lent = (parts-of-query_number_by st (length words) (length bytes) q none).0

  pub shape-of-none : shape_number st.shape ≡ 0
  shape-of-none = lent.shape

  fits : query_fits st.shape q ≡ true
  fits = (parts-of-query_number_by st (length words) (length bytes) q none).1

  pub nine-limits : (out : List ℕ) → limits_hold st ≡ false → QueryPromise (store st words bytes) q out (refused 9) out
  nine-limits out e =
      promise-nine st words bytes q out (sym none)
      (λ S h. true≢false (sym (limits-of-sound (with_bytes (store st words bytes) h.0) S h.1) ∙ e))

  module _ (can : limits_hold st ≡ true) where
    pub limits-lent : LimitsLent st (length words) (length bytes)
    limits-lent = limits_lent st (length words) (length bytes) lent can

    -- no walk notes more pages than the longer list has room for
    pub rows_few : (rows : List ℕ) → most_pages rows st.deepest 0 ≤ 4096
    rows_few rows =
        le_trans (most_pages-le rows st.deepest 0) (deepest-few st (length words) (length bytes) limits-lent)

    pub walkable-rows : (rows : List ℕ) (room : ℕ)
        → Table st (query_bits st.shape q) rows → most_pages rows st.deepest 0 ≤ room
        → Walkable st rows (length words) (length bytes) room
    walkable-rows = walkable st (length words) (length bytes) limits-lent (query_bits st.shape q)

    -- the list has room for what the walk sees
    pub seen-room : (rows : List ℕ) (room : ℕ)
        → Table st (query_bits st.shape q) rows → most_pages rows st.deepest 0 ≤ room
        → length (walk_seen st words bytes (query_bits st.shape q)).pages ≤ room
    seen-room rows room t l =
        (length-walk_seen-le st rows words bytes room (walkable-rows rows room t l) (query_bits st.shape q) t).0

    module _ (list : List ℕ) (r : Noted) (later : List ℕ)
        (o : Put list (walk_seen st words bytes (query_bits st.shape q)) r later)
        (long : length later ≡ length list)
        (room : length (walk_seen st words bytes (query_bits st.shape q)).pages ≤ length list) where
      pub nine-damaged : (out : List ℕ) → r ≡ None → QueryPromise (store st words bytes) q out (refused 9) out
      nine-damaged out e =
          promise-nine st words bytes q out (sym none)
          (λ S h. true≢false (sym (ap is_pages (noted-reads (store st words bytes) q S h list r later o))
          ∙ ap is_pages e))

      module _ (n : ℕ) (e : r ≡ Some n) where
        within : n ≤ length list
        within =
            omega (arith, room, length-noted st words bytes (query_enters (query_bits st.shape q)) list r later o n e)

        pub pages-within : ListOf (PageWithin st.shape.capacity bytes) st.shape.capacity n later
        pages-within =
            pages-listed st words bytes limits-lent (query_enters (query_bits st.shape q)) list r later o long n e
            within

        module _ (are : AreBytes bytes) (out : List ℕ) where
          abbrev fs : List (List ℕ)
          fs = list_hits (passes (pattern_of q)) st.shape.capacity bytes (take n later)

          within_all : All (PageWithin st.shape.capacity bytes) (take n later)
          within_all =
              all-within st words bytes limits-lent (query_enters (query_bits st.shape q)) list r later o long n e
              within

          -- the matching records of the first k pages noted
          abbrev gathered : ℕ → List Record
          gathered k =
              flat_map (λ g. filter (matches st.shape q)
              (records_of st.shape (page_at st.shape.capacity bytes g)))
              (take k later)

          as-model : (S : List Record) → SoundWhereRead (store st words bytes) (query_bits st.shape q) S
              → (n ≡ reads_of st.shape q S) × (map (record_of st.shape) fs ≡ filter (matches st.shape q) S)
          as-model S h =
              let reads : n ≡ reads_of st.shape q S =
              ap pages_in (sym e ∙ noted-reads (store st words bytes) q S h list r later o) in (
                reads,
                map-list_hits st.shape.capacity bytes are (passes (pattern_of q)) st.shape (matches st.shape q)
                    (passes-matches st.shape shape-of-none q fits) (take n later) within_all
                    ∙ subst (λ k. ◌≡◌ (gathered k) (filter (matches st.shape q) S)) (sym reads)
                    (noted-records (store st words bytes) q S h list r later o (omega (arith, within, reads))
                    (λ x f. matches-agrees st.shape shape-of-none q x f fits)),
              )

          pub promise-of-pages : (written total : ℕ) (out' : List ℕ) → total ≡ length fs
              → written ≡ min total (length out / record_size) → out' ≡ emit out 0 fs
              → QueryPromise (store st words bytes) q out (accepted (listed written total n)) out'
          promise-of-pages written total out' t w d =
              of-counts (λ x y z. QueryPromise (store st words bytes) q out (accepted (listed x y n)) z) out fs
              written total out' t w d
              (promise-listed st words bytes q out (sym none) fs
              (IsField-list_hits st.shape.capacity bytes are (passes (pattern_of q)) (take n later) within_all)
              n as-model)
