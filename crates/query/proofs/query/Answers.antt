-- Each refusal is a law of the promise; the rows are the query's, and each list has the room.
use Rattle.std.proofs.Common.{ℕ, ◌≡◌, ◌≤◌, List, true, false, length, subst, arith}
use Rattle.std.proofs.Math.Option.{Option}
use Rattle.std.proofs.lemmas.Result.{err_from_is_err_and}
use Rattle.shape.specs.Refusal.{accepted, answered_by}
use Rattle.shape.specs.Shape.{widths_of}
use Rattle.shape.specs.Key.{wanted_values, encoded_wanted}
use Rattle.store.specs.declared.State.{State}
use Rattle.refusals.specs.Limits.{limits_hold}
use Rattle.query_number.specs.Number.{query_by, query_number_by}
use Rattle.query_rows.specs.Rows.{Rows, wanted_at, most_pages}
use Rattle.query_rows.proofs.TableLaws.{rows-encoded}
use Rattle.list_call.specs.Lent.{LimitsLent}
use Rattle.query.specs.Private.{Tested}
use Rattle.query.proofs.CallLaws.{number-none, shape-of-none, nine-limits, limits-lent, rows_few}
use Rattle.query.proofs.PromiseLaws.{promise-early}
use Rattle.query.proofs.query.Goals as goal

pub returns-in_err-validate_query : goal.returns-in_err-validate_query
returns-in_err-validate_query c =
    let a = c.args in
    let p = err_from_is_err_and c.from_residual.result c.from_residual.ensures.1 in
    rw (p.1, p.2)
    (promise-early a.state a.dir.now a.pages.now (wanted_values a.query) a.out.now _ c.in_err-validate_query.ensures)

-- past the test of the query
module _ (st : State) (words bytes : List ℕ) (q : List (Option ℕ))
    (passed : accepted (tt {0}) ≡ answered_by (query_by st (length words) (length bytes) q) (tt {0})) where
  none : query_number_by st (length words) (length bytes) q ≡ 0
  none = number-none st (length words) (length bytes) q passed

  -- and past that of the limits
  module _ (can : limits_hold st ≡ true) where
    limits : LimitsLent st (length words) (length bytes)
    limits = limits-lent st words bytes q none can

    -- the rows are the query's
    tested : (encoded : List (Option ℕ)) → encoded ≡ encoded_wanted st.shape q → (rows : List ℕ)
        → Rows (widths_of st.shape) (wanted_at (widths_of st.shape) encoded) st.deepest rows → length rows ≡ 83
        → (room : ℕ) → most_pages rows st.deepest 0 ≤ room → Tested st q rows (length words) (length bytes) room
    tested encoded same rows h long room l = record {
      none = none;
      can = can;
      table =
          rows-encoded st.shape (shape-of-none st words bytes q none) q st.deepest rows limits.depth-bits
          (subst (λ v. Rows (widths_of st.shape) (wanted_at (widths_of st.shape) v) st.deepest rows) same h);
      rows-lent = omega (arith, long);
      room-left = l;
    }

    few : (rows : List ℕ) → most_pages rows st.deepest 0 ≤ 4096
    few = rows_few st words bytes q none can

pub limits_hold-requires : goal.limits_hold-requires
limits_hold-requires c =
    let a = c.args in
    shape-of-none a.state a.dir.now a.pages.now (wanted_values a.query) (none _ _ _ _ c.in_ok-validate_query.ensures)

pub returns-then-not-limits_hold : goal.returns-then-not-limits_hold
returns-then-not-limits_hold c =
    let a = c.args in
    let fail : limits_hold a.state ≡ false = cc in
    nine-limits a.state a.dir.now a.pages.now (wanted_values a.query) (none _ _ _ _ c.in_ok-validate_query.ensures)
    a.out.now fail

pub encode_query-encoded-requires : goal.encode_query-encoded-requires
encode_query-encoded-requires c =
    let a = c.args in
    shape-of-none a.state a.dir.now a.pages.now (wanted_values a.query) (none _ _ _ _ c.in_ok-validate_query.ensures)

pub fill_rows-requires : goal.fill_rows-requires
fill_rows-requires c =
    let can : limits_hold c.args.state ≡ true = cc in
    let l = limits _ _ _ _ c.in_ok-validate_query.ensures can in
    record { shape = l.shape; deep = l.depth-twelve; bits = l.depth-bits; table-lent = omega arith }

pub most_pages-most-requires : goal.most_pages-most-requires
most_pages-most-requires c =
    let can : limits_hold c.args.state ≡ true = cc in
    (limits _ _ _ _ c.in_ok-validate_query.ensures can).depth-twelve

pub read_pages-requires : goal.read_pages-requires
read_pages-requires c =
    let can : limits_hold c.args.state ≡ true = cc in
    tested _ _ _ _ c.in_ok-validate_query.ensures can _ c.encode_query-encoded.ensures _ c.fill_rows.ensures.1
    c.fill_rows.ensures.0 _ (omega (arith, c.most_pages-most.ensures, c.if-most-le16.true))

pub read_pages-requires-then-most-le64 : goal.read_pages-requires-then-most-le64
read_pages-requires-then-most-le64 c =
    let can : limits_hold c.args.state ≡ true = cc in
    tested _ _ _ _ c.in_ok-validate_query.ensures can _ c.encode_query-encoded.ensures _ c.fill_rows.ensures.1
    c.fill_rows.ensures.0 _ (omega (arith, c.most_pages-most.ensures, c.if-most-le64.true))

pub read_pages-requires-then-most-le256 : goal.read_pages-requires-then-most-le256
read_pages-requires-then-most-le256 c =
    let can : limits_hold c.args.state ≡ true = cc in
    tested _ _ _ _ c.in_ok-validate_query.ensures can _ c.encode_query-encoded.ensures _ c.fill_rows.ensures.1
    c.fill_rows.ensures.0 _ (omega (arith, c.most_pages-most.ensures, c.if-most-le256.true))

pub read_pages-requires-2 : goal.read_pages-requires-2
read_pages-requires-2 c =
    let can : limits_hold c.args.state ≡ true = cc in
    tested _ _ _ _ c.in_ok-validate_query.ensures can _ c.encode_query-encoded.ensures _ c.fill_rows.ensures.1
    c.fill_rows.ensures.0 _ (few _ _ _ _ c.in_ok-validate_query.ensures can _)
