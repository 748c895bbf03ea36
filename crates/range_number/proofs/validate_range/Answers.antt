-- The low ends are tested first; behind them the high ends decide, then whether the ends rise.
use Rattle.std.proofs.Common.{◌≡◌, true, false, sym, ◌∙◌}
use Rattle.std.proofs.lemmas.Result.{err_from_is_err_and}
use Rattle.shape.specs.Key.{query_fits}
use Rattle.shape.specs.Range.{range_intervals, range_rises}
use Rattle.key_between.specs.Between.{lies_between}
use Rattle.query_number.proofs.EarlyLaws.{sixteen-of-fits}
use Rattle.range_number.specs.Ends.{low_ends, high_ends}
use Rattle.range_number.proofs.EndLaws.{range_rises-ends}
use Rattle.range_number.proofs.EarlyLaws.{told-low, range_by-rest, parts-low}
use Rattle.range_number.proofs.validate_range.Goals as goal
use Rattle.range_number.proofs.validate_range.Goals.{After-lies_between}

pub returns-in_err-validate_query : goal.returns-in_err-validate_query
returns-in_err-validate_query c =
    let a = c.args in
    let p = err_from_is_err_and c.from_residual.result c.from_residual.ensures.1 in
    rw (p.1, p.2)
    (told-low a.state a.words a.bytes (range_intervals a.range) _ c.low_ends-lows.ensures _ c.in_err-validate_query.ensures)

pub query_fits-requires : goal.query_fits-requires
query_fits-requires c =
    let a = c.args in
    (parts-low a.state a.words a.bytes (range_intervals a.range) _ c.low_ends-lows.ensures
    c.in_ok-validate_query.ensures).0.shape

pub returns-then-not-query_fits : goal.returns-then-not-query_fits
returns-then-not-query_fits c =
    let a = c.args in
    let r = range_intervals a.range in
    let out : query_fits a.state.shape (high_ends r) ≡ false = cc in
    sym (range_by-rest a.state a.words a.bytes r _ c.low_ends-lows.ensures c.in_ok-validate_query.ensures ∙ rw out)

pub low_key-low-requires : goal.low_key-low-requires
low_key-low-requires c =
    let a = c.args in
    let r = range_intervals a.range in
    let low = parts-low a.state a.words a.bytes r _ c.low_ends-lows.ensures c.in_ok-validate_query.ensures in
    (low.0.shape, sixteen-of-fits a.state.shape low.0.shape (low_ends r) low.1)

pub high_key-requires : goal.high_key-requires
high_key-requires c =
    let a = c.args in
    let r = range_intervals a.range in
    let low = parts-low a.state a.words a.bytes r _ c.low_ends-lows.ensures c.in_ok-validate_query.ensures in
    let fit : query_fits a.state.shape (high_ends r) ≡ true = cc in
    (low.0.shape, sixteen-of-fits a.state.shape low.0.shape (high_ends r) fit)

-- whether the ends rise
rising : (c : After-lies_between) → c.lies_between.result ≡ range_rises c.args.state.shape (range_intervals c.args.range)
rising c =
    let a = c.args in
    let s = a.state.shape in
    let r = range_intervals a.range in
    let low = parts-low a.state a.words a.bytes r _ c.low_ends-lows.ensures c.in_ok-validate_query.ensures in
    let fit : query_fits s (high_ends r) ≡ true = cc in
    let ends = range_rises-ends s r (sixteen-of-fits s low.0.shape (low_ends r) low.1)
    (sixteen-of-fits s low.0.shape (high_ends r) fit) in
    c.lies_between.ensures ∙ (λ i. lies_between (c.low_key-low.ensures i) (c.high_key.ensures i) (c.low_key-low.ensures i)) ∙ ends

pub returns-then-not-lies_between : goal.returns-then-not-lies_between
returns-then-not-lies_between c =
    let a = c.args in
    let r = range_intervals a.range in
    let fit : query_fits a.state.shape (high_ends r) ≡ true = cc in
    let falls : range_rises a.state.shape r ≡ false = cc (rising c.before) in
    sym
    (range_by-rest a.state a.words a.bytes r _ c.low_ends-lows.ensures c.in_ok-validate_query.ensures ∙ rw (fit, falls))

pub returns : goal.returns
returns c =
    let a = c.args in
    let r = range_intervals a.range in
    let fit : query_fits a.state.shape (high_ends r) ≡ true = cc in
    let rises : range_rises a.state.shape r ≡ true = cc (rising c.before) in
    sym
    (range_by-rest a.state a.words a.bytes r _ c.low_ends-lows.ensures c.in_ok-validate_query.ensures ∙ rw (fit, rises))
