-- Laws of an insert's early number: 1, 14, 15, 2 and 3 as for any key, or else 11. Assumes nothing.
use Prim.Native.Nat.{ℕ, suc}
use mathlib.Core.Path.{◌≡◌, refl, ap, ◌∙◌}
use mathlib.Core.Bool.{cond}
use mathlib.Core.List.{List, ◌++◌}
use lib.Dec.{eqb}
use borrow.Author.Tests.{eq-eqb, ne_eqb}
use Rattle.shape.specs.Refusal.{Condition, first_number}
use Rattle.shape.specs.Shape.{shape_conditions}
use Rattle.record.specs.declared.Content.{Content}
use Rattle.model.specs.Model.{key_conditions, payload_conditions}
use Rattle.model.proofs.ConditionLaws.{first_number-first, first_number-rest}
use Rattle.store.specs.Store.{Store, lent_conditions}
use Rattle.store.specs.Promises.{key_refusals, key_number, insert_refusals, insert_number}

module _ (store : Store) (values : List ℕ) (content : Content) where
  -- 1, 14, 15, 2 and 3
  abbrev first : List Condition
  first = lent_conditions store ++ key_conditions store.state.shape values

  pub insert_number-key : (n : ℕ) → key_number store values ≡ suc n → insert_number store values content ≡ suc n
  unfolding key_refusals insert_refusals
  insert_number-key = first_number-first first (payload_conditions content)

  module _ (none : key_number store values ≡ 0) where
    insert_number-payload : insert_number store values content ≡ cond (eqb content.payload 0) 11 0
    unfolding key_refusals insert_refusals lent_conditions shape_conditions first_number
    insert_number-payload = first_number-rest first (payload_conditions content) refl none

    pub insert_number-zero : content.payload ≡ 0 → insert_number store values content ≡ 11
    insert_number-zero e = insert_number-payload ∙ ap (λ β. cond β 11 0) (eq-eqb content.payload 0 e)

    pub insert_number-other : (content.payload ≡ 0 → ⊥) → insert_number store values content ≡ 0
    insert_number-other some = insert_number-payload ∙ ap (λ β. cond β 11 0) (ne_eqb content.payload 0 some)
