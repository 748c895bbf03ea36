-- The promise is kept by an early refusal, by a refusal of the plan or of the tests, and by what the planned steps leave.
use Rattle.std.proofs.Common.{◌≡◌, ℕ, List, true, false, length, refl, sym, subst, subst₂, arith, rules}
use Rattle.std.specs.Prelude.{Ok}
use Rattle.std.proofs.lemmas.Result.{err_from_is_err_and}
use Rattle.shape.specs.Refusal.{accepted, answered_by}
use Rattle.shape.specs.Shape.{widths_of, index_fits}
use Rattle.shape.specs.Key.{encodings}
use Rattle.shape.specs.declared.refusal.Refusal.TheVariants as why
use Rattle.store.specs.Promises.{key_number, DeletePromise}
use Rattle.store.specs.Store.{store}
use Rattle.store.specs.declared.State.{State}
use Rattle.refusals.specs.Lengths.{lent_by}
use Rattle.refusals.specs.Passed.{Passed, OfValues}
use Rattle.refusals.proofs.LimitsLaws.{limits-parts}
use Rattle.refusals.proofs.NumberLaws.{told-lent, shape-lent, told-out, number-none}
use Rattle.refusals.proofs.PassedLaws.{passed}
use Rattle.delete_plan.specs.Plan.{KeepPlanned, JoinPlanned, DeletePlanned}
use Rattle.delete_plan.proofs.MetLaws.{directory_lent}
use Rattle.delete_promise.proofs.FoundLaws.{promise-early, record_lent}
use Rattle.delete_promise.proofs.GuardLaws.{promise-not-whole}
use Rattle.delete_promise.proofs.AcceptedLaws.{promise-kept, leaves_lent, pair_lent, promise-joined}
use Rattle.delete.proofs.delete.Goals as goal

-- ---- 1, 14, 15, 2 and 3

pub returns-in_err-validate_lent : goal.returns-in_err-validate_lent
returns-in_err-validate_lent c =
    let a = c.args in
    let p = err_from_is_err_and c.from_residual.result c.from_residual.ensures.1 in
    rw (p.1, p.2)
    (promise-early (store a.state a.dir.now a.pages.now) a.key.values _
    (told-lent a.state a.dir.now a.pages.now a.key.values _ c.in_err-validate_lent.ensures))

pub encode_key-encoded-requires : goal.encode_key-encoded-requires
encode_key-encoded-requires c =
    let a = c.args in
    shape-lent a.state a.dir.now a.pages.now c.in_ok-validate_lent.ensures

pub encodings_fit-requires : goal.encodings_fit-requires
encodings_fit-requires c =
    let a = c.args in
    shape-lent a.state a.dir.now a.pages.now c.in_ok-validate_lent.ensures

pub returns-then-not-encodings_fit : goal.returns-then-not-encodings_fit
returns-then-not-encodings_fit c =
    let a = c.args in
    promise-early (store a.state a.dir.now a.pages.now) a.key.values why.Value
    (told-out a.state a.dir.now a.pages.now c.in_ok-validate_lent.ensures a.key.values _ c.encode_key-encoded.ensures false
    c.if-not-encodings_fit.ensures refl)

-- ---- they let the key pass

module _ (st : State) (words bytes values encoded : List ℕ)
    (lent : accepted (tt {0}) ≡ answered_by (lent_by st (length words) (length bytes)) (tt {0}))
    (same : encoded ≡ encodings st.shape values) (fits : true ≡ index_fits (widths_of st.shape) encoded) where
  early : key_number (store st words bytes) values ≡ 0
  early = number-none st words bytes lent values encoded same true fits refl

  key-passed : Passed (store st words bytes) encoded
  key-passed = subst (Passed (store st words bytes)) (sym same) (passed (store st words bytes) values early)

  -- what holds of all values with these encodings holds of the call's
  called : (X : List ℕ → Type 0) → OfValues (store st words bytes) encoded X → X values
  called X told = told values early (sym same)

pub plan_delete-requires : goal.plan_delete-requires
plan_delete-requires c =
    let a = c.args in
    key-passed a.state a.dir.now a.pages.now a.key.values _ c.in_ok-validate_lent.ensures c.encode_key-encoded.ensures
    c.if-not-encodings_fit.ensures

-- ---- refused by the plan

-- what is returned is told as the plan's refusal, and the state is the one before
pub returns-in-Err : goal.returns-in-Err
returns-in-Err c =
    let a = c.args in
    let before = store a.state a.dir.now a.pages.now in
    let encoded = c.encode_key-encoded.result.values in
    subst₂ (DeletePromise before a.key.values) (grind arith) (grind arith)
    (called a.state a.dir.now a.pages.now a.key.values _ c.in_ok-validate_lent.ensures c.encode_key-encoded.ensures
    c.if-not-encodings_fit.ensures _ (subst (DeletePlanned before encoded) c.in-Err.is c.plan_delete.ensures))

-- ---- the leaf stays

pub removal_keeps-requires : goal.removal_keeps-requires
removal_keeps-requires c =
    let before = store c.args.state c.args.dir.now c.args.pages.now in
    let encoded = c.encode_key-encoded.result.values in
    let k : KeepPlanned before encoded c.in-Keep.found =
    subst (λ p. DeletePlanned before encoded (Ok p)) c.in-Keep.is (subst (DeletePlanned before encoded) c.in-Ok.is c.plan_delete.ensures) in
    let leaf = k.found.leaf in
    let few = (limits-parts c.args.state leaf.limits).1 in
    record {
      lent = directory_lent before encoded _ _ leaf;
      deep = leaf.deep;
      page-lt = omega (arith, leaf.own-within, few);
    }

pub returns-then-not-removal_keeps : goal.returns-then-not-removal_keeps
returns-then-not-removal_keeps c =
    let a = c.args in
    let before = store a.state a.dir.now a.pages.now in
    let encoded = c.encode_key-encoded.result.values in
    called a.state a.dir.now a.pages.now a.key.values _ c.in_ok-validate_lent.ensures c.encode_key-encoded.ensures
    c.if-not-encodings_fit.ensures _
    (promise-not-whole before encoded _ (subst (λ p. DeletePlanned before encoded (Ok p)) c.in-Keep.is (subst (DeletePlanned before encoded) c.in-Ok.is c.plan_delete.ensures))
    false c.if-not-removal_keeps.ensures refl)

pub keep_leaf-requires : goal.keep_leaf-requires
keep_leaf-requires c =
    let before = store c.args.state c.args.dir.now c.args.pages.now in
    let encoded = c.encode_key-encoded.result.values in
    let k : KeepPlanned before encoded c.in-Keep.found =
    subst (λ p. DeletePlanned before encoded (Ok p)) c.in-Keep.is (subst (DeletePlanned before encoded) c.in-Ok.is c.plan_delete.ensures) in
    record {
      lent = directory_lent before encoded _ _ k.found.leaf;
      deep = k.found.leaf.deep;
      own = record_lent before encoded _ k.found;
    }

pub returns-else-not-removal_keeps : goal.returns-else-not-removal_keeps
returns-else-not-removal_keeps c =
    let a = c.args in
    let before = store a.state a.dir.now a.pages.now in
    let encoded = c.encode_key-encoded.result.values in
    let k : KeepPlanned before encoded c.in-Keep.found =
    subst (λ p. DeletePlanned before encoded (Ok p)) c.in-Keep.is (subst (DeletePlanned before encoded) c.in-Ok.is c.plan_delete.ensures) in
    called a.state a.dir.now a.pages.now a.key.values _ c.in_ok-validate_lent.ensures c.encode_key-encoded.ensures
    c.if-not-encodings_fit.ensures _
    (promise-kept before encoded _ k.found _ _ c.keep_leaf.ensures.words_are c.keep_leaf.ensures.bytes-are k.alone
    (c.if-not-removal_keeps.ensures.yes refl))

-- ---- it is joined

pub join_keeps-requires : goal.join_keeps-requires
join_keeps-requires c =
    let before = store c.args.state c.args.dir.now c.args.pages.now in
    let encoded = c.encode_key-encoded.result.values in
    let k : JoinPlanned before encoded c.in-Join.found c.in-Join.join =
    subst (λ p. DeletePlanned before encoded (Ok p)) c.in-Join.is (subst (DeletePlanned before encoded) c.in-Ok.is c.plan_delete.ensures) in
    let few = (limits-parts c.args.state k.found.leaf.limits).1 in
    record {
      lent = directory_lent before encoded _ _ k.found.leaf;
      leaves = leaves_lent before encoded _ k.found _ k (search rules);
      page-lt = omega (arith, k.found.leaf.own-within, few);
      other-lt = omega (arith, k.met.other-within, few);
    }

pub returns-then-not-join_keeps : goal.returns-then-not-join_keeps
returns-then-not-join_keeps c =
    let a = c.args in
    let before = store a.state a.dir.now a.pages.now in
    let encoded = c.encode_key-encoded.result.values in
    called a.state a.dir.now a.pages.now a.key.values _ c.in_ok-validate_lent.ensures c.encode_key-encoded.ensures
    c.if-not-encodings_fit.ensures _
    (promise-not-whole before encoded _ (subst (λ p. DeletePlanned before encoded (Ok p)) c.in-Join.is (subst (DeletePlanned before encoded) c.in-Ok.is c.plan_delete.ensures))
    false c.if-not-join_keeps.ensures refl)

pub join_leaves-joined-requires : goal.join_leaves-joined-requires
join_leaves-joined-requires c =
    let before = store c.args.state c.args.dir.now c.args.pages.now in
    let encoded = c.encode_key-encoded.result.values in
    let k : JoinPlanned before encoded c.in-Join.found c.in-Join.join =
    subst (λ p. DeletePlanned before encoded (Ok p)) c.in-Join.is (subst (DeletePlanned before encoded) c.in-Ok.is c.plan_delete.ensures) in
    record {
      lent = directory_lent before encoded _ _ k.found.leaf;
      leaves = leaves_lent before encoded _ k.found _ k (search rules);
      pair = pair_lent before encoded _ k.found _ k;
    }

pub returns-else-not-join_keeps : goal.returns-else-not-join_keeps
returns-else-not-join_keeps c =
    let a = c.args in
    let before = store a.state a.dir.now a.pages.now in
    let encoded = c.encode_key-encoded.result.values in
    let k : JoinPlanned before encoded c.in-Join.found c.in-Join.join =
    subst (λ p. DeletePlanned before encoded (Ok p)) c.in-Join.is (subst (DeletePlanned before encoded) c.in-Ok.is c.plan_delete.ensures) in
    called a.state a.dir.now a.pages.now a.key.values _ c.in_ok-validate_lent.ensures c.encode_key-encoded.ensures
    c.if-not-encodings_fit.ensures _
    (promise-joined before encoded _ k.found _ k c.join_leaves-joined.result _ _ c.join_leaves-joined.ensures.words_are
    c.join_leaves-joined.ensures.bytes-are (search rules) (c.if-not-join_keeps.ensures.yes refl))
