-- Each way that the call ends is a law of the promise.
use Rattle.std.proofs.Common.{◌≡◌, ℕ, true, false}
use Rattle.std.proofs.lemmas.Result.{err_from_is_err_and}
use Rattle.shape.specs.Refusal.{accepted, answered_by}
use Rattle.shape.proofs.RefusalLaws.{accepted-answered_by}
use Rattle.store.specs.declared.State.{State}
use Rattle.refusals.specs.Lengths.{lent_by, lent_number_by}
use Rattle.refusals.specs.Limits.{limits_hold}
use Rattle.refusals.proofs.LentLaws.{memory_lent}
use Rattle.check_call.proofs.CheckLaws.{check-refused, check-limits-fail, store_lent, check-shows}
use Rattle.check_call.proofs.check.Goals as goal

-- what a test that is passed tells
none : (st : State) (words bytes : ℕ) → accepted (tt {0}) ≡ answered_by (lent_by st words bytes) (tt {0})
    → lent_number_by st words bytes ≡ 0
unfolding lent_number_by
none st words bytes e = accepted-answered_by tt tt (lent_by st words bytes) e

pub returns-in_err-validate_lent : goal.returns-in_err-validate_lent
returns-in_err-validate_lent c =
    let a = c.args in
    let p = err_from_is_err_and c.from_residual.result c.from_residual.ensures.1 in
    rw (p.1, p.2) (check-refused a.state a.dir.now a.pages.now _ c.in_err-validate_lent.ensures)

pub limits_hold-requires : goal.limits_hold-requires
limits_hold-requires c = (memory_lent _ _ _ (none _ _ _ c.in_ok-validate_lent.ensures)).shape

pub returns-then-not-limits_hold : goal.returns-then-not-limits_hold
returns-then-not-limits_hold c =
    let a = c.args in
    let fail : limits_hold a.state ≡ false = cc in
    check-limits-fail a.state a.dir.now a.pages.now (none _ _ _ c.in_ok-validate_lent.ensures) fail

pub shows_leaves-requires : goal.shows_leaves-requires
shows_leaves-requires c =
    let a = c.args in
    let limits : limits_hold a.state ≡ true = cc in
    store_lent a.state a.dir.now a.pages.now (none _ _ _ c.in_ok-validate_lent.ensures) limits

pub returns : goal.returns
returns c =
    let a = c.args in
    let limits : limits_hold a.state ≡ true = cc in
    check-shows a.state a.dir.now a.pages.now (none _ _ _ c.in_ok-validate_lent.ensures) limits _ c.shows_leaves.ensures
