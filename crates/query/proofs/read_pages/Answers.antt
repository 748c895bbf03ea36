-- `query::read_pages`: damage and the pages noted are laws of the promise. Assumes nothing.
use Rattle.std.proofs.Common.{ℕ, ◌≡◌, ◌≤◌, ◌/◌, List, length, take, min, ap, ◌∙◌}
use Rattle.std.proofs.Math.Option.{Option}
use native.Mathlib.Omega.{arith}
use Rattle.std.specs.Prelude.{Some}
use Rattle.std.proofs.lemmas.List.{length-take-le}
use Rattle.shape.specs.Key.{wanted_values}
use Rattle.region.specs.Query.{QueryBit}
use Rattle.model.specs.Sets.{query_bits}
use Rattle.record.specs.Bytes.{record_size}
use Rattle.page_matches.specs.Pattern.{passes}
use Rattle.page_matches.specs.Output.{emit}
use Rattle.store.specs.declared.State.{State}
use Rattle.query_rows.specs.Rows.{Table, most_pages, limited}
use Rattle.query_rows.proofs.TableLaws.{Table-limited, most_pages-limited}
use Rattle.query_seen.specs.Seen.{walk_seen}
use Rattle.query_walk.specs.Noting.{Noted, Put}
use Rattle.query_records.specs.Records.{PageWithin, ListOf, list_hits}
use Rattle.query_records.proofs.ListLaws.{ListOf-take}
use Rattle.query.specs.Private.{Tested}
use Rattle.query.proofs.CallLaws.{shape-of-none, limits-lent, walkable-rows, seen-room, nine-damaged, pages-within}
use Rattle.query.proofs.CallLaws.{promise-of-pages}
use Rattle.query.proofs.read_pages.Goals as goal

-- once the limits are put behind the rows
module _ (st : State) (words bytes rows list : List ℕ) (q : List (Option ℕ))
    (h : Tested st q rows (length words) (length bytes) (length list)) (rows' : List ℕ) (e : rows' ≡ limited st rows) where
  deep : st.deepest ≤ 12
  deep = (limits-lent st words bytes q h.none h.can).depth-twelve

  tabled : Table st (query_bits st.shape q) rows'
  tabled = rw e (Table-limited st rows deep (query_bits st.shape q) h.table h.rows-lent)

  -- the list has room for the pages that it lets in
  roomed : most_pages rows' st.deepest 0 ≤ length list
  roomed = rw (e, most_pages-limited st rows deep) h.room-left

  seen : length (walk_seen st words bytes (query_bits st.shape q)).pages ≤ length list
  seen = seen-room st words bytes q h.none h.can rows' (length list) tabled roomed

  -- the pages noted
  listed : (r : Noted) (later : List ℕ)
      → ((p : ℕ → QueryBit) → Table st p rows' → Put list (walk_seen st words bytes p) r later)
      → length later ≡ length list → (n : ℕ) → r ≡ Some n
      → ListOf (PageWithin st.shape.capacity bytes) st.shape.capacity n later
  listed r later o long n is =
      pages-within st words bytes q h.none h.can list r later (o _ tabled) long seen n is

pub fill_limits-requires : goal.fill_limits-requires
fill_limits-requires c =
    let a = c.args in
    shape-of-none a.state a.dir.now a.pages.now (wanted_values a.query) c.requires.none

pub note_pages-noted-requires : goal.note_pages-noted-requires
note_pages-noted-requires c =
    let a = c.args in
    let q = wanted_values a.query in
    walkable-rows a.state a.dir.now a.pages.now q c.requires.none c.requires.can _ (length a.list.now)
    (tabled a.state a.dir.now a.pages.now a.rows.now a.list.now q c.requires _ c.fill_limits.ensures)
    (roomed a.state a.dir.now a.pages.now a.rows.now a.list.now q c.requires _ c.fill_limits.ensures)

pub returns-in_default : goal.returns-in_default
returns-in_default c =
    let a = c.args in
    let q = wanted_values a.query in
    let limits = c.fill_limits.ensures in
    let noted = c.note_pages-noted in
    nine-damaged a.state a.dir.now a.pages.now q c.requires.none c.requires.can a.list.now _ _
    (noted.ensures _ (tabled a.state a.dir.now a.pages.now a.rows.now a.list.now q c.requires _ limits)) noted.auto.list
    (seen a.state a.dir.now a.pages.now a.rows.now a.list.now q c.requires _ limits) a.out.now c.in_default.is

pub slice_bounds-put_pages-end : goal.slice_bounds-put_pages-end
slice_bounds-put_pages-end c =
    let a = c.args in
    omega (
      arith,
      (listed a.state a.dir.now a.pages.now a.rows.now a.list.now (wanted_values a.query) c.requires _
          c.fill_limits.ensures _ _ c.note_pages-noted.ensures c.note_pages-noted.auto.list _ c.in-Some.is).within,
    )

pub slice_bounds-put_pages-end-2 : goal.slice_bounds-put_pages-end-2
slice_bounds-put_pages-end-2 c =
    let a = c.args in
    omega (
      arith,
      (listed a.state a.dir.now a.pages.now a.rows.now a.list.now (wanted_values a.query) c.requires _
          c.fill_limits.ensures _ _ c.note_pages-noted.ensures c.note_pages-noted.auto.list _ c.in-Some.is).within,
      length-take-le {A = ℕ},
    )

pub put_pages-total-requires : goal.put_pages-total-requires
put_pages-total-requires c =
    let a = c.args in
    ListOf-take _ _ _ _
    (listed a.state a.dir.now a.pages.now a.rows.now a.list.now (wanted_values a.query) c.requires _ c.fill_limits.ensures
    _ _ c.note_pages-noted.ensures c.note_pages-noted.auto.list _ c.in-Some.is) c.in-Some.n (omega arith)

pub returns : goal.returns
returns c =
    let a = c.args in
    let q = wanted_values a.query in
    let limits = c.fill_limits.ensures in
    let noted = c.note_pages-noted in
    let put = c.put_pages-total in
    let pattern = c.pattern_of.ensures in
    let pages = take c.in-Some.n noted.new.list in
    promise-of-pages a.state a.dir.now a.pages.now q c.requires.none c.requires.can a.list.now _ _
    (noted.ensures _ (tabled a.state a.dir.now a.pages.now a.rows.now a.list.now q c.requires _ limits)) noted.auto.list
    (seen a.state a.dir.now a.pages.now a.rows.now a.list.now q c.requires _ limits) _ c.in-Some.is
    (λ i. omega (arith, c.type_inv.pages i)) a.out.now _ _ _
    (put.ensures.value.0
    ∙ ap (λ x. length (list_hits (passes x) a.state.shape.capacity a.pages.now pages)) pattern)
    (c.min.ensures ∙ ap (λ k. min put.result (k / record_size)) put.auto.out)
    (put.ensures.out_after
    ∙ ap (λ x. emit a.out.now 0 (list_hits (passes x) a.state.shape.capacity a.pages.now pages)) pattern)
