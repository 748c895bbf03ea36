-- `range::read_pages`: damage and the pages noted are laws of the promise. Assumes nothing.
use Rattle.std.proofs.Common.{ℕ, ◌≡◌, ◌/◌, List, length, take, min, ap, sym, subst, ◌∙◌}
use Rattle.std.proofs.Math.Option.{Option}
use native.Mathlib.Omega.{arith}
use Rattle.std.specs.Prelude.{Some}
use Rattle.std.proofs.lemmas.List.{length-take-le}
use Rattle.shape.specs.Range.{Interval, range_intervals}
use Rattle.record.specs.Bytes.{record_size}
use Rattle.page_matches.specs.Output.{emit}
use Rattle.page_matches.specs.Within.{lies_in}
use Rattle.store.specs.declared.State.{State}
use Rattle.query_rows.specs.Rows.{Table, limited}
use Rattle.query_rows.proofs.TableLaws.{Table-limited}
use Rattle.query_walk.specs.Noting.{Noted}
use Rattle.query_records.specs.Records.{PageWithin, ListOf, list_hits}
use Rattle.query_records.proofs.ListLaws.{ListOf-take}
use Rattle.range_number.specs.Ends.{low_key, high_key}
use Rattle.range_walk.specs.Meeting.{Meeting}
use Rattle.range.specs.Private.{Tested}
use Rattle.range.proofs.CallLaws.{shape-of-none, low-of-none, high-of-none, limits-lent, walkable-rows, nine-damaged}
use Rattle.range.proofs.CallLaws.{pages-within, promise-of-pages}
use Rattle.range.proofs.read_pages.Goals as goal

module _ (st : State) (words bytes rows list : List ℕ) (r : List (Option Interval))
    (h : Tested st r rows (length words) (length bytes) (length list)) where
  -- the table, once the limits are put behind the rows
  tabled : (rows' : List ℕ) → rows' ≡ limited st rows → Table st h.query rows'
  tabled rows' e =
      rw e (Table-limited st rows (limits-lent st words bytes r h.none h.can).depth-twelve h.query h.table h.rows-lent)

  -- the walk was by the range's packed ends
  module _ (low high : ℕ) (el : low ≡ low_key st.shape r) (eh : high ≡ high_key st.shape r) (noted : Noted)
      (later : List ℕ) (o : Meeting st low high words bytes list noted later) where
    met : Meeting st (low_key st.shape r) (high_key st.shape r) words bytes list noted later
    met =
        subst (λ k. Meeting st k (high_key st.shape r) words bytes list noted later) el
        (subst (λ k. Meeting st low k words bytes list noted later) eh o)

    listed : length later ≡ length list → (n : ℕ) → noted ≡ Some n
        → ListOf (PageWithin st.shape.capacity bytes) st.shape.capacity n later
    listed long n is = pages-within st words bytes r h.none h.can list noted later met long h.room-left n is

pub low_key-low-requires : goal.low_key-low-requires
low_key-low-requires c =
    let a = c.args in (
      shape-of-none a.state a.dir.now a.pages.now (range_intervals a.range) c.requires.none,
      low-of-none a.state a.dir.now a.pages.now (range_intervals a.range) c.requires.none,
    )

pub high_key-high-requires : goal.high_key-high-requires
high_key-high-requires c =
    let a = c.args in (
      shape-of-none a.state a.dir.now a.pages.now (range_intervals a.range) c.requires.none,
      high-of-none a.state a.dir.now a.pages.now (range_intervals a.range) c.requires.none,
    )

pub fill_limits-requires : goal.fill_limits-requires
fill_limits-requires c =
    let a = c.args in
    shape-of-none a.state a.dir.now a.pages.now (range_intervals a.range) c.requires.none

pub note_met-noted-requires : goal.note_met-noted-requires
note_met-noted-requires c =
    let a = c.args in
    let r = range_intervals a.range in
    record {
      walkable =
          walkable-rows a.state a.dir.now a.pages.now r c.requires.none c.requires.can c.requires.query _
          (length a.list.now)
          (tabled a.state a.dir.now a.pages.now a.rows.now a.list.now r c.requires _ c.fill_limits.ensures)
          c.requires.room-left;
      deepest_in_bounds = c.requires.room-left;
    }

pub returns-in_default : goal.returns-in_default
returns-in_default c =
    let a = c.args in
    let r = range_intervals a.range in
    nine-damaged a.state a.dir.now a.pages.now r c.requires.none c.requires.can a.list.now _ _
    (met a.state a.dir.now a.pages.now a.rows.now a.list.now r c.requires _ _ c.low_key-low.ensures
    c.high_key-high.ensures _ _ c.note_met-noted.ensures) a.out.now c.in_default.is

pub bias_key-requires : goal.bias_key-requires
bias_key-requires c =
    let a = c.args in
    shape-of-none a.state a.dir.now a.pages.now (range_intervals a.range) c.requires.none

pub slice_bounds-put_within-end : goal.slice_bounds-put_within-end
slice_bounds-put_within-end c =
    let a = c.args in
    (listed a.state a.dir.now a.pages.now a.rows.now a.list.now (range_intervals a.range) c.requires _ _
    c.low_key-low.ensures c.high_key-high.ensures _ _ c.note_met-noted.ensures c.note_met-noted.auto.list _
    c.in-Some.is).within

pub slice_bounds-put_within-end-2 : goal.slice_bounds-put_within-end-2
slice_bounds-put_within-end-2 c =
    let a = c.args in
    sym (length-take-le _ _ (listed a.state a.dir.now a.pages.now a.rows.now a.list.now (range_intervals a.range)
    c.requires _ _ c.low_key-low.ensures c.high_key-high.ensures _ _ c.note_met-noted.ensures c.note_met-noted.auto.list
    _ c.in-Some.is).within)

pub put_within-total-requires : goal.put_within-total-requires
put_within-total-requires c =
    let a = c.args in
    ListOf-take _ _ _ _
    (listed a.state a.dir.now a.pages.now a.rows.now a.list.now (range_intervals a.range) c.requires _ _
    c.low_key-low.ensures c.high_key-high.ensures _ _ c.note_met-noted.ensures c.note_met-noted.auto.list _ c.in-Some.is)
    c.in-Some.n (omega arith)

pub returns : goal.returns
returns c =
    let a = c.args in
    let r = range_intervals a.range in
    let put = c.put_within-total in
    let b = a.state.shape.capacity in
    let pages = take c.in-Some.n c.note_met-noted.new.list in
    promise-of-pages a.state a.dir.now a.pages.now r c.requires.none c.requires.can a.list.now _ _
    (met a.state a.dir.now a.pages.now a.rows.now a.list.now r c.requires _ _ c.low_key-low.ensures
    c.high_key-high.ensures _ _ c.note_met-noted.ensures) c.note_met-noted.auto.list c.requires.room-left _ c.in-Some.is
    (λ i. omega (arith, c.type_inv.pages i)) a.out.now _ _ _
    (put.ensures.value.0
    ∙ (λ i. length
    (list_hits (lies_in (c.bias_key.ensures i) (c.low_key-low.ensures i) (c.high_key-high.ensures i)) b a.pages.now pages)))
    (c.min.ensures ∙ ap (λ k. min put.result (k / record_size)) put.auto.out)
    (put.ensures.out_after
    ∙ (λ i. emit a.out.now 0
    (list_hits (lies_in (c.bias_key.ensures i) (c.low_key-low.ensures i) (c.high_key-high.ensures i)) b a.pages.now pages)))
