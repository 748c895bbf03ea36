-- The lent memory is tested first; behind it the query decides.
use Rattle.std.proofs.Common.{◌≡◌, true, false, sym, ◌∙◌}
use Rattle.std.proofs.lemmas.Result.{err_from_is_err_and}
use Rattle.shape.specs.Refusal.{answered_by}
use Rattle.shape.specs.Key.{wanted_values, names_unused, query_fits}
use Rattle.shape.proofs.TestLaws.{told-append}
use Rattle.model.specs.Model.{query_conditions}
use Rattle.refusals.specs.Lengths.{lent_by}
use Rattle.refusals.proofs.LentLaws.{memory_lent-passed}
use Rattle.query_number.proofs.EarlyLaws.{query_by-query}
use Rattle.query_number.proofs.validate_query.Goals as goal

pub returns-in_err-validate_lent : goal.returns-in_err-validate_lent
returns-in_err-validate_lent c =
    let a = c.args in
    let p = err_from_is_err_and c.from_residual.result c.from_residual.ensures.1 in
    rw (p.1, p.2)
    (told-append tt _ (lent_by a.state a.words a.bytes) (query_conditions a.state.shape (wanted_values a.query)) tt
    c.in_err-validate_lent.ensures)

pub returns-then-names_unused : goal.returns-then-names_unused
unfolding answered_by
returns-then-names_unused c =
    let a = c.args in
    let unused : names_unused a.state.shape (wanted_values a.query) ≡ true = cc in
    sym (query_by-query a.state a.words a.bytes (wanted_values a.query) c.in_ok-validate_lent.ensures ∙ rw unused)

pub query_fits-requires : goal.query_fits-requires
query_fits-requires c =
    let a = c.args in
    (memory_lent-passed a.state a.words a.bytes c.in_ok-validate_lent.ensures).shape

pub returns-then-not-query_fits : goal.returns-then-not-query_fits
unfolding answered_by
returns-then-not-query_fits c =
    let a = c.args in
    let used : names_unused a.state.shape (wanted_values a.query) ≡ false = cc in
    let out : query_fits a.state.shape (wanted_values a.query) ≡ false = cc in
    sym (query_by-query a.state a.words a.bytes (wanted_values a.query) c.in_ok-validate_lent.ensures ∙ rw (used, out))

pub returns : goal.returns
unfolding answered_by
returns c =
    let a = c.args in
    let used : names_unused a.state.shape (wanted_values a.query) ≡ false = cc in
    let fit : query_fits a.state.shape (wanted_values a.query) ≡ true = cc in
    sym (query_by-query a.state a.words a.bytes (wanted_values a.query) c.in_ok-validate_lent.ensures ∙ rw (used, fit))
