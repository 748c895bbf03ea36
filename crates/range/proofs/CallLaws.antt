-- Laws of the call range: what each step asks, and the promise from what the steps leave. Assumes nothing.
use Prim.Native.Nat.{ℕ, ◌/◌, ◌^◌, ◌≤◌, min}
use mathlib.Core.Path.{◌≡◌, sym, ap, ◌∙◌}
use mathlib.Core.Bool.{Bool, true, false, true≢false}
use mathlib.Core.List.{List, map}
use mathlib.Core.Option.{Option}
use native.Mathlib.Nat.{le_trans}
use lib.ListN.{length, take}
use Rattle.shape.specs.Shape.{shape_number}
use Rattle.shape.specs.Refusal.{accepted, refused, answered_by}
use Rattle.shape.specs.Key.{encoded_wanted}
use Rattle.shape.specs.Range.{Interval, range_fits}
use Rattle.shape.specs.declared.Shape.{Shape}
use Rattle.shape.proofs.RefusalLaws.{accepted-answered_by}
use Rattle.region.specs.Strings.{empty_string}
use Rattle.region.specs.Query.{QueryBit}
use Rattle.record.specs.Lanes.{bias_key}
use Rattle.record.specs.Record.{Record}
use Rattle.record.specs.Bytes.{record_size, record_of}
use Rattle.record.proofs.ByteLaws.{AreBytes}
use Rattle.range_box.specs.Box.{Box, box_of, in_box, box_enters}
use Rattle.range_box.proofs.BoxLaws.{box_meets-whole, box_meets-same}
use Rattle.range_box.proofs.RangeLaws.{box_fits-box_of}
use Rattle.model.specs.Model.{listed, inside}
use Rattle.model.specs.Sets.{range_reads_of}
use Rattle.model.proofs.RangeWalkLaws.{box_meets-record, range_reads_of-walk}
use Rattle.page_matches.specs.Pattern.{GivenSixteenBits}
use Rattle.page_matches.specs.Output.{emit}
use Rattle.page_matches.specs.Within.{lies_in}
use Rattle.store.specs.declared.State.{State}
use Rattle.store.specs.Store.{store, fixed_of}
use Rattle.store.specs.Promises.{RangePromise, SoundWhere, meeting, with_bytes}
use Rattle.refusals.specs.Limits.{limits_hold}
use Rattle.refusals.specs.Lengths.{MemoryLent}
use Rattle.refusals.proofs.LimitsLaws.{limits-of-sound}
use Rattle.query_rows.specs.Rows.{Table}
use Rattle.query_rows.proofs.MostLaws.{most_pages-le}
use Rattle.std.specs.Prelude.{Some, None}
use Rattle.query_walk.specs.Noting.{Noted, Put, Walkable}
use Rattle.query_walk.proofs.NotedLaws.{noted-le, noted-reads-by}
use Rattle.query_seen.specs.Seen.{walk_seen_by}
use Rattle.query_records.specs.Records.{PageWithin, ListOf, list_hits}
use Rattle.list_call.specs.Lent.{LimitsLent}
use Rattle.list_call.proofs.LentLaws.{limits_lent, walkable}
use Rattle.list_call.proofs.PageLaws.{is_pages, pages-listed, IsField-fields, reads-as-model, records-as-model}
use Rattle.list_call.proofs.PageLaws.{of-counts}
use Rattle.range_number.specs.Ends.{low_ends, high_ends, low_key, high_key}
use Rattle.range_number.specs.Number.{range_by, range_number_by}
use Rattle.range_number.proofs.EndLaws.{low-sixteen, high-sixteen}
use Rattle.range_number.proofs.EarlyLaws.{parts-of-range_number_by}
use Rattle.range_walk.specs.Meeting.{Meeting}
use Rattle.range.proofs.BoxLaws.{TellsMeeting-keys, lies_in-in_box}
use Rattle.range.proofs.PromiseLaws.{promise-nine, promise-listed}

-- what a test that is passed tells
pub number-none : (st : State) (words bytes : ℕ) (r : List (Option Interval))
    → accepted (tt {0}) ≡ answered_by (range_by st words bytes r) (tt {0}) → range_number_by st words bytes r ≡ 0
unfolding range_number_by
number-none st words bytes r e = accepted-answered_by tt tt (range_by st words bytes r) e

module _ (st : State) (words bytes : List ℕ) (r : List (Option Interval))
    (none : range_number_by st (length words) (length bytes) r ≡ 0) where
  abbrev s : Shape
  s = st.shape

  abbrev box : Box
  box = box_of s r

  lent : MemoryLent st (length words) (length bytes)
  lent = (parts-of-range_number_by st (length words) (length bytes) r none).0

  pub shape-of-none : shape_number s ≡ 0
  shape-of-none = lent.shape

  fits : range_fits s r ≡ true
  fits = (parts-of-range_number_by st (length words) (length bytes) r none).1

  pub low-of-none : GivenSixteenBits (encoded_wanted s (low_ends r))
  low-of-none = low-sixteen s shape-of-none r fits

  pub high-of-none : GivenSixteenBits (encoded_wanted s (high_ends r))
  high-of-none = high-sixteen s shape-of-none r fits

  pub nine-limits : (out : List ℕ) → limits_hold st ≡ false → RangePromise (store st words bytes) r out (refused 9) out
  nine-limits out e =
      promise-nine st words bytes r out none
      (λ S h. true≢false (sym (limits-of-sound (with_bytes (store st words bytes) h.0) S h.1) ∙ e))

  -- the box meets the region of all keys, so a walk may begin there
  begins : box_enters s box 0 empty_string ≡ true
  begins = box_meets-whole s box shape-of-none (box_fits-box_of s r ∙ fits) empty_string

  module _ (can : limits_hold st ≡ true) where
    pub limits-lent : LimitsLent st (length words) (length bytes)
    limits-lent = limits_lent st (length words) (length bytes) lent can

    -- a list for 2^T pages has room for those that the rows of any query let in
    pub walkable-rows : (q : ℕ → QueryBit) (rows : List ℕ) (room : ℕ) → Table st q rows → 2 ^ st.deepest ≤ room
        → Walkable st rows (length words) (length bytes) room
    walkable-rows q rows room t l =
        walkable st (length words) (length bytes) limits-lent q rows room t
        (le_trans (most_pages-le rows st.deepest 0) l)

    module _ (list : List ℕ) (noted : Noted) (later : List ℕ)
        (o : Meeting st (low_key s r) (high_key s r) words bytes list noted later) where
      -- by the test of the box
      put : Put list (walk_seen_by st words bytes (box_enters s box)) noted later
      put = o (box_enters s box) (TellsMeeting-keys s shape-of-none r fits st.deepest)

      pub nine-damaged : (out : List ℕ) → noted ≡ None → RangePromise (store st words bytes) r out (refused 9) out
      nine-damaged out e =
          promise-nine st words bytes r out none
          (λ S h. true≢false
          (sym (ap is_pages (noted-reads-by (store st words bytes) (box_enters s box) (meeting s box) S
          (λ p x rs m k. m) h begins list noted later put))
          ∙ ap is_pages e))

      module _ (long : length later ≡ length list) (room : 2 ^ st.deepest ≤ length list)
          (n : ℕ) (e : noted ≡ Some n) where
        within : n ≤ length list
        within = le_trans (noted-le st words bytes (box_enters s box) list noted later put n e) room

        pub pages-within : ListOf (PageWithin s.capacity bytes) s.capacity n later
        pages-within = pages-listed st words bytes limits-lent (box_enters s box) list noted later put long n e within

        module _ (are : AreBytes bytes) (out : List ℕ) where
          abbrev fs : List (List ℕ)
          fs = list_hits (lies_in (bias_key s) (low_key s r) (high_key s r)) s.capacity bytes (take n later)

          abbrev wanted : Record → Bool
          wanted x = in_box box x.key

          as-model : (S : List Record) → SoundWhere (store st words bytes) (meeting s box) S
              → (n ≡ range_reads_of s r S) × (map (record_of s) fs ≡ inside (fixed_of st) S r)
          as-model S h = (
            reads-as-model st words bytes limits-lent (box_enters s box) list noted later put long n e within are
                (lies_in (bias_key s) (low_key s r) (high_key s r)) wanted (lies_in-in_box s shape-of-none r fits) (meeting s box) S
                (λ p x rs m k. m) h begins
                ∙ sym (range_reads_of-walk s shape-of-none r fits S),
            records-as-model st words bytes limits-lent (box_enters s box) list noted later put long n e within are
                (lies_in (bias_key s) (low_key s r) (high_key s r)) wanted (lies_in-in_box s shape-of-none r fits) (meeting s box) S
                (λ p x rs m k. m) h begins
                (λ x p q d. box_meets-same s box p q x d)
                (λ a f m x l. box_meets-record s shape-of-none box a f m x),
          )

          pub promise-of-pages : (written total : ℕ) (out' : List ℕ) → total ≡ length fs
              → written ≡ min total (length out / record_size) → out' ≡ emit out 0 fs
              → RangePromise (store st words bytes) r out (accepted (listed written total n)) out'
          promise-of-pages written total out' t w d =
              of-counts (λ x y z. RangePromise (store st words bytes) r out (accepted (listed x y n)) z) out fs
              written total out' t w d
              (promise-listed st words bytes r out none fs
              (IsField-fields st words bytes limits-lent (box_enters s box) list noted later put long n e within are
              (lies_in (bias_key s) (low_key s r) (high_key s r)))
              n as-model)
