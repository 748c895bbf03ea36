-- The promise of an insert that is refused early. Assumes nothing.
use Prim.Native.Nat.{ℕ}
use mathlib.Core.Path.{◌≡◌, sym, subst, ◌∙◌}
use mathlib.Core.List.{List}
use Rattle.shape.specs.Refusal.{answered_by, told}
use Rattle.shape.specs.declared.refusal.Refusal.{Refusal}
use Rattle.shape.proofs.RefusalLaws.{answered_by-named}
use Rattle.shape.proofs.TestLaws.{told-answered_by, told-suc}
use Rattle.record.specs.declared.Content.{Content}
use Rattle.model.specs.Model.{changed}
use Rattle.store.specs.Promises.{key_refusals, InsertPromise}
use Rattle.store.specs.Store.{Store}
use Rattle.store.proofs.NumberLaws.{named-key}
use Rattle.change.proofs.InsertPromiseLaws.{insert-early}

-- 1, 14, 15, 2 or 3
pub promise-early : (before : Store) (values : List ℕ) (content : Content) (r : Refusal)
    → told r ≡ answered_by (key_refusals before values) (tt {0}) → InsertPromise before values content (told r) before
promise-early before values content r e =
    let cs = key_refusals before values in
    let k = told-suc (tt {0}) r cs e in
    subst (λ a. InsertPromise before values content a before)
    (sym
    (told-answered_by (tt {0}) r cs (changed 0) e
    ∙ answered_by-named before.state.shape (changed 0) cs (named-key before values) k.0 k.1))
    (insert-early before values content k.0 k.1)
