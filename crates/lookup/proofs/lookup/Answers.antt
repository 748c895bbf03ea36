-- The promise is kept by an early refusal and by the store's answer.
use Rattle.std.proofs.Common.{sym, ap, ◌∙◌}
use mathlib.Core.Path.{subst}
use Rattle.std.proofs.lemmas.Result.{err_from_is_err_and}
use Rattle.shape.specs.declared.refusal.Refusal.TheVariants as why
use Rattle.store.specs.Answers.{found_answer}
use Rattle.store.specs.Store.{store}
use Rattle.refusals.specs.Passed.{Passed}
use Rattle.refusals.proofs.NumberLaws.{told-lent, shape-lent, told-out, number-none}
use Rattle.refusals.proofs.PassedLaws.{passed}
use Rattle.lookup.specs.Private.{sought_answer}
use Rattle.lookup.proofs.PromiseLaws.{promise-early, promise-sought}
use Rattle.lookup.proofs.lookup.Goals as goal

pub returns-in_err-validate_lent : goal.returns-in_err-validate_lent
returns-in_err-validate_lent c =
    let a = c.args in
    let p = err_from_is_err_and c.from_residual.result c.from_residual.ensures.1 in
    rw (p.1, p.2)
    (promise-early (store a.state a.dir.now a.pages.now) a.key.values _
    (told-lent a.state a.dir.now a.pages.now a.key.values _ c.in_err-validate_lent.ensures))

pub encode_key-encoded-requires : goal.encode_key-encoded-requires
encode_key-encoded-requires c =
    let a = c.args in
    shape-lent a.state a.dir.now a.pages.now c.in_ok-validate_lent.ensures

pub encodings_fit-requires : goal.encodings_fit-requires
encodings_fit-requires c =
    let a = c.args in
    shape-lent a.state a.dir.now a.pages.now c.in_ok-validate_lent.ensures

pub returns-then-not-encodings_fit : goal.returns-then-not-encodings_fit
returns-then-not-encodings_fit c =
    let a = c.args in
    promise-early (store a.state a.dir.now a.pages.now) a.key.values why.Value
    (told-out a.state a.dir.now a.pages.now c.in_ok-validate_lent.ensures a.key.values _ c.encode_key-encoded.ensures _
    c.encodings_fit.ensures c.if-not-encodings_fit.true)

pub seek_key-requires : goal.seek_key-requires
seek_key-requires c =
    let a = c.args in
    let none = number-none a.state a.dir.now a.pages.now c.in_ok-validate_lent.ensures a.key.values _
    c.encode_key-encoded.ensures _ c.encodings_fit.ensures c.if-not-encodings_fit.false in
    subst (Passed _) (sym c.encode_key-encoded.ensures) (passed _ _ none)

pub returns : goal.returns
returns c =
    let a = c.args in
    let before = store a.state a.dir.now a.pages.now in
    let none = number-none a.state a.dir.now a.pages.now c.in_ok-validate_lent.ensures a.key.values _
    c.encode_key-encoded.ensures _ c.encodings_fit.ensures c.if-not-encodings_fit.false in
    promise-sought before a.key.values (found_answer c.seek_key.result) none
    (c.seek_key.ensures ∙ ap (sought_answer before) c.encode_key-encoded.ensures)
