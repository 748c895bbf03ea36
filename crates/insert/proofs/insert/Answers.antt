-- The promise is kept by an early refusal, by 11 and by the record that is added.
use Rattle.std.proofs.lemmas.Result.{err_from_is_err_and}
use Rattle.shape.specs.declared.refusal.Refusal.TheVariants as why
use Rattle.store.specs.Store.{store}
use Rattle.refusals.proofs.NumberLaws.{told-lent, shape-lent, told-out, number-none}
use Rattle.change.proofs.InsertPromiseLaws.{insert-zero, insert-added}
use Rattle.insert_promise.proofs.EarlyLaws.{promise-early}
use Rattle.insert.proofs.insert.Goals as goal

pub returns-in_err-validate_lent : goal.returns-in_err-validate_lent
returns-in_err-validate_lent c =
    let a = c.args in
    let p = err_from_is_err_and c.from_residual.result c.from_residual.ensures.1 in
    rw (p.1, p.2)
    (promise-early (store a.state a.dir.now a.pages.now) a.key.values a.content _
    (told-lent a.state a.dir.now a.pages.now a.key.values _ c.in_err-validate_lent.ensures))

pub encode_key-requires : goal.encode_key-requires
encode_key-requires c =
    let a = c.args in
    shape-lent a.state a.dir.now a.pages.now c.in_ok-validate_lent.ensures

pub encodings_fit-requires : goal.encodings_fit-requires
encodings_fit-requires c =
    let a = c.args in
    shape-lent a.state a.dir.now a.pages.now c.in_ok-validate_lent.ensures

pub returns-then-not-encodings_fit : goal.returns-then-not-encodings_fit
returns-then-not-encodings_fit c =
    let a = c.args in
    promise-early (store a.state a.dir.now a.pages.now) a.key.values a.content why.Value
    (told-out a.state a.dir.now a.pages.now c.in_ok-validate_lent.ensures a.key.values _ c.encode_key.ensures _
    c.encodings_fit.ensures c.if-not-encodings_fit.true)

-- ---- the key passes

pub returns-then-content-eq0 : goal.returns-then-content-eq0
returns-then-content-eq0 c =
    let a = c.args in
    let none = number-none a.state a.dir.now a.pages.now c.in_ok-validate_lent.ensures a.key.values _
    c.encode_key.ensures _ c.encodings_fit.ensures c.if-not-encodings_fit.false in
    insert-zero (store a.state a.dir.now a.pages.now) a.key.values a.content none c.if-content-eq0.true

pub add-requires : goal.add-requires
add-requires c =
    let a = c.args in
    number-none a.state a.dir.now a.pages.now c.in_ok-validate_lent.ensures a.key.values _
    c.encode_key.ensures _ c.encodings_fit.ensures c.if-not-encodings_fit.false

pub returns : goal.returns
returns c =
    let a = c.args in
    let none = number-none a.state a.dir.now a.pages.now c.in_ok-validate_lent.ensures a.key.values _
    c.encode_key.ensures _ c.encodings_fit.ensures c.if-not-encodings_fit.false in
    insert-added (store a.state a.dir.now a.pages.now) a.key.values a.content none c.if-content-eq0.false _ _
    c.add.ensures
