-- Each refusal is a law of the promise; the rows are some query's, and each list has the room.
use Rattle.std.proofs.Common.{ℕ, ◌≡◌, ◌≤◌, ◌^◌, List, true, false, length, arith}
use Rattle.std.proofs.Math.Option.{Option}
use Rattle.std.proofs.Math.Pow.{pow_mono}
use Rattle.std.proofs.lemmas.Result.{err_from_is_err_and}
use Rattle.shape.specs.Refusal.{accepted, answered_by}
use Rattle.shape.specs.Shape.{widths_of}
use Rattle.shape.specs.Range.{Interval, range_intervals}
use Rattle.region.specs.Query.{QueryBit}
use Rattle.store.specs.declared.State.{State}
use Rattle.refusals.specs.Limits.{limits_hold}
use Rattle.range_number.specs.Number.{range_by, range_number_by}
use Rattle.query_rows.specs.Rows.{Rows}
use Rattle.list_call.specs.Lent.{LimitsLent}
use Rattle.range.specs.Private.{Tested}
use Rattle.range.proofs.CallLaws.{number-none, shape-of-none, nine-limits, limits-lent}
use Rattle.range.proofs.PromiseLaws.{promise-early}
use Rattle.range.proofs.range.Goals as goal

pub returns-in_err-validate_range : goal.returns-in_err-validate_range
returns-in_err-validate_range c =
    let a = c.args in
    let p = err_from_is_err_and c.from_residual.result c.from_residual.ensures.1 in
    rw (p.1, p.2)
    (promise-early a.state a.dir.now a.pages.now (range_intervals a.range) a.out.now _ c.in_err-validate_range.ensures)

-- past the test of the range
module _ (st : State) (words bytes : List ℕ) (r : List (Option Interval))
    (passed : accepted (tt {0}) ≡ answered_by (range_by st (length words) (length bytes) r) (tt {0})) where
  none : range_number_by st (length words) (length bytes) r ≡ 0
  none = number-none st (length words) (length bytes) r passed

  -- and past that of the limits
  module _ (can : limits_hold st ≡ true) where
    limits : LimitsLent st (length words) (length bytes)
    limits = limits-lent st words bytes r none can

    -- the rows are those of a query
    tested : (query : ℕ → QueryBit) (rows : List ℕ) → Rows (widths_of st.shape) query st.deepest rows → length rows ≡ 83
        → (room : ℕ) → 2 ^ st.deepest ≤ room → Tested st r rows (length words) (length bytes) room
    tested query rows h long room l = record {
      none = none;
      can = can;
      query = query;
      table = h;
      rows-lent = omega (arith, long);
      room-left = l;
    }

pub limits_hold-requires : goal.limits_hold-requires
limits_hold-requires c =
    let a = c.args in
    shape-of-none a.state a.dir.now a.pages.now (range_intervals a.range) (none _ _ _ _ c.in_ok-validate_range.ensures)

pub returns-then-not-limits_hold : goal.returns-then-not-limits_hold
returns-then-not-limits_hold c =
    let a = c.args in
    let fail : limits_hold a.state ≡ false = cc in
    nine-limits a.state a.dir.now a.pages.now (range_intervals a.range) (none _ _ _ _ c.in_ok-validate_range.ensures)
    a.out.now fail

pub fill_rows-requires : goal.fill_rows-requires
fill_rows-requires c =
    let can : limits_hold c.args.state ≡ true = cc in
    let l = limits _ _ _ _ c.in_ok-validate_range.ensures can in
    record { shape = l.shape; deep = l.depth-twelve; bits = l.depth-bits; table-lent = omega arith }

pub read_pages-requires : goal.read_pages-requires
read_pages-requires c =
    let can : limits_hold c.args.state ≡ true = cc in
    tested _ _ _ _ c.in_ok-validate_range.ensures can _ _ c.fill_rows.ensures.1 c.fill_rows.ensures.0 _
    (pow_mono {j = 4} c.if-depth-le4.true)

pub read_pages-requires-then-depth-le6 : goal.read_pages-requires-then-depth-le6
read_pages-requires-then-depth-le6 c =
    let can : limits_hold c.args.state ≡ true = cc in
    tested _ _ _ _ c.in_ok-validate_range.ensures can _ _ c.fill_rows.ensures.1 c.fill_rows.ensures.0 _
    (pow_mono {j = 6} c.if-depth-le6.true)

pub read_pages-requires-then-depth-le8 : goal.read_pages-requires-then-depth-le8
read_pages-requires-then-depth-le8 c =
    let can : limits_hold c.args.state ≡ true = cc in
    tested _ _ _ _ c.in_ok-validate_range.ensures can _ _ c.fill_rows.ensures.1 c.fill_rows.ensures.0 _
    (pow_mono {j = 8} c.if-depth-le8.true)

pub read_pages-requires-2 : goal.read_pages-requires-2
read_pages-requires-2 c =
    let can : limits_hold c.args.state ≡ true = cc in
    tested _ _ _ _ c.in_ok-validate_range.ensures can _ _ c.fill_rows.ensures.1 c.fill_rows.ensures.0 _
    (pow_mono {j = 12} (limits _ _ _ _ c.in_ok-validate_range.ensures can).depth-twelve)
