-- `save::save`: each refusal is a law of the promise; the pages noted are all leaves'. Assumes nothing.
use Rattle.std.proofs.Common.{sym, ◌∙◌}
use native.Mathlib.Omega.{arith}
use Rattle.std.proofs.lemmas.List.{length-take-le}
use Rattle.std.proofs.lemmas.Result.{err_from_is_err_and}
use Rattle.query_records.proofs.ListLaws.{ListOf-take}
use Rattle.save.proofs.CallLaws.{number-none, shape-of-none, nine-limits, limits-lent, nine-damaged, pages-within}
use Rattle.save.proofs.CallLaws.{promise-of-pages}
use Rattle.save.proofs.PromiseLaws.{promise-early}
use Rattle.save.proofs.save.Goals as goal

pub returns-in_err-validate_lent : goal.returns-in_err-validate_lent
returns-in_err-validate_lent c =
    let a = c.args in
    let p = err_from_is_err_and c.from_residual.result c.from_residual.ensures.1 in
    rw (p.1, p.2) (promise-early a.state a.dir.now a.pages.now a.out.now _ c.in_err-validate_lent.ensures)

pub limits_hold-requires : goal.limits_hold-requires
limits_hold-requires c =
    let a = c.args in
    shape-of-none a.state a.dir.now a.pages.now (number-none _ _ _ c.in_ok-validate_lent.ensures)

pub returns-then-not-limits_hold : goal.returns-then-not-limits_hold
returns-then-not-limits_hold c =
    let a = c.args in
    nine-limits a.state a.dir.now a.pages.now (number-none _ _ _ c.in_ok-validate_lent.ensures) a.out.now
    (sym c.limits_hold.ensures ∙ c.if-not-limits_hold.true)

pub note_all-noted-requires : goal.note_all-noted-requires
note_all-noted-requires c =
    let a = c.args in (
      limits-lent a.state a.dir.now a.pages.now (number-none _ _ _ c.in_ok-validate_lent.ensures)
          (sym c.limits_hold.ensures ∙ c.if-not-limits_hold.false),
      omega arith,
    )

pub returns-in_default : goal.returns-in_default
returns-in_default c =
    let a = c.args in
    nine-damaged a.state a.dir.now a.pages.now (number-none _ _ _ c.in_ok-validate_lent.ensures)
    (sym c.limits_hold.ensures ∙ c.if-not-limits_hold.false) _ _ _ c.note_all-noted.ensures a.out.now c.in_default.is

pub slice_bounds-list-end : goal.slice_bounds-list-end
slice_bounds-list-end c =
    let a = c.args in
    (pages-within a.state a.dir.now a.pages.now (number-none _ _ _ c.in_ok-validate_lent.ensures)
    (sym c.limits_hold.ensures ∙ c.if-not-limits_hold.false) _ _ _ c.note_all-noted.ensures c.note_all-noted.auto.list
    (omega arith) _ c.in-Some.is).within

pub slice_bounds-write_file-end : goal.slice_bounds-write_file-end
slice_bounds-write_file-end c =
    let a = c.args in
    sym (length-take-le _ _ (pages-within a.state a.dir.now a.pages.now
    (number-none _ _ _ c.in_ok-validate_lent.ensures)
    (sym c.limits_hold.ensures ∙ c.if-not-limits_hold.false) _ _ _ c.note_all-noted.ensures c.note_all-noted.auto.list
    (omega arith) _ c.in-Some.is).within)

pub write_file-requires : goal.write_file-requires
write_file-requires c =
    let a = c.args in
    let none = number-none _ _ _ c.in_ok-validate_lent.ensures in (
      shape-of-none a.state a.dir.now a.pages.now none,
      ListOf-take _ _ _ _ (pages-within a.state a.dir.now a.pages.now none
          (sym c.limits_hold.ensures ∙ c.if-not-limits_hold.false) _ _ _ c.note_all-noted.ensures
          c.note_all-noted.auto.list (omega arith) _ c.in-Some.is) c.in-Some.n (omega arith),
    )

pub returns : goal.returns
returns c =
    let a = c.args in
    promise-of-pages a.state a.dir.now a.pages.now (number-none _ _ _ c.in_ok-validate_lent.ensures)
    (sym c.limits_hold.ensures ∙ c.if-not-limits_hold.false) _ _ _ c.note_all-noted.ensures c.note_all-noted.auto.list
    (omega arith) _ c.in-Some.is (λ i. omega (arith, c.type_inv.pages i)) a.out.now _ _ c.write_file.ensures
