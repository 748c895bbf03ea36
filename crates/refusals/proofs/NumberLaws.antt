-- Laws of the early refusals of a call with a key, as the calls find them: 1, 14, 15 and 2 by the test of the lent
-- memory, then 3 by the key's encodings. Assumes nothing.
use Prim.Native.Nat.{ℕ}
use mathlib.Core.Path.{◌≡◌, sym, ap, ◌∙◌}
use mathlib.Core.Bool.{Bool, true, false, not, cond}
use mathlib.Core.List.{List}
use lib.ListN.{length}
use Rattle.shape.specs.Refusal.{accepted, refused, told, answered_by}
use Rattle.shape.specs.Shape.{shape_number, widths_of, index_fits}
use Rattle.shape.specs.Key.{encodings}
use Rattle.shape.specs.declared.refusal.Refusal.{Refusal}
use Rattle.shape.specs.declared.refusal.Refusal.TheVariants as why
use Rattle.shape.proofs.RefusalLaws.{accepted-answered_by}
use Rattle.shape.proofs.TestLaws.{told-append, passed-append}
use Rattle.model.specs.Model.{key_conditions}
use Rattle.model.proofs.SetLaws.{index_fits-encodings}
use Rattle.store.specs.Store.{store, lent_conditions}
use Rattle.store.specs.Promises.{key_refusals, key_number}
use Rattle.store.specs.declared.State.{State}
use Rattle.refusals.specs.Lengths.{lent_by}
use Rattle.refusals.proofs.LentLaws.{memory_lent-passed}

module _ (st : State) (words bytes : List ℕ) where
  -- the test is refused: so is the call
  pub told-lent : (values : List ℕ) (r : Refusal) → told r ≡ answered_by (lent_by st (length words) (length bytes)) (tt {0})
      → told r ≡ answered_by (key_refusals (store st words bytes) values) (tt {0})
  unfolding key_refusals lent_conditions lent_by
  told-lent values r e =
      told-append tt r (lent_by st (length words) (length bytes)) (key_conditions st.shape values) tt e

  module _ (passed : accepted (tt {0}) ≡ answered_by (lent_by st (length words) (length bytes)) (tt {0})) where
    pub shape-lent : shape_number st.shape ≡ 0
    shape-lent = (memory_lent-passed st (length words) (length bytes) passed).shape

    module _ (values encoded : List ℕ) (same : encoded ≡ encodings st.shape values) (fit : Bool)
        (tested : fit ≡ index_fits (widths_of st.shape) encoded) where
      -- the values fit exactly if their encodings do
      key-left : (β : Bool) → fit ≡ β
          → answered_by (key_refusals (store st words bytes) values) (tt {0}) ≡ cond (not β) (refused 3) (accepted (tt {0}))
      unfolding key_refusals lent_conditions lent_by answered_by
      key-left β e =
          passed-append tt (lent_by st (length words) (length bytes)) (key_conditions st.shape values) tt passed
          ∙ ap (λ γ. cond (not γ) (refused 3) (accepted (tt {0})))
          (sym (index_fits-encodings st.shape values) ∙ ap (index_fits (widths_of st.shape)) (sym same) ∙ sym tested ∙ e)

      pub told-out : fit ≡ false → told why.Value ≡ answered_by (key_refusals (store st words bytes) values) (tt {0})
      told-out e = sym (key-left false e)

      pub number-none : fit ≡ true → key_number (store st words bytes) values ≡ 0
      number-none e = accepted-answered_by tt tt (key_refusals (store st words bytes) values) (sym (key-left true e))
