-- Laws of the word at a sibling's cell, where the widths are those of the state's shape and the place is that of the
-- step. Assumes nothing.
use Prim.Native.Nat.{ℕ, suc, ◌<◌}
use mathlib.Core.Path.{◌≡◌, refl, ap, subst}
use mathlib.Core.Bool.{Bool}
use mathlib.Core.List.{List, []}
use native.Mathlib.Omega.{arith}
use lib.ListN.{get_or, length}
use Rattle.shape.specs.Shape.{Fit, widths_of, total}
use Rattle.split.specs.Steps.{steps_below}
use Rattle.split.specs.Bits.{split_bit}
use Rattle.pairs.specs.Pairs.{StepPair}
use Rattle.shape.proofs.ShapeLaws.{widths-fit}
use Rattle.cell.specs.Cell.{cell_address, Agree}
use Rattle.region.specs.Strings.{sibling}
use Rattle.directory_sibling.specs.Sibling.{StepWithin, SiblingWord}
use Rattle.store.specs.Store.{store}
use Rattle.store.specs.declared.State.{State}
use Rattle.change.specs.Delete.{AtSibling}
use Rattle.directory_lent.specs.Lent.{DirectoryLent}

module _ (st : State) (ws : List ℕ) (same : ws ≡ widths_of st.shape) (z : ℕ) (below : z < st.deepest) where
  module _ (size : ℕ) (lent : DirectoryLent st size) where
    -- a step below T is one of the widths'
    pub step-asked : Fit ws × (z < total ws)
    step-asked = (widths-fit st.shape ws lent.shape same, omega (arith, ap total same, lent.deep))

    pub step_within : (g : ℕ) → StepPair ws z g → StepWithin ws g st.deepest
    step_within g pair =
        record {
          fit = step-asked.0;
          deep = omega (arith, ap total same, lent.deep);
          step = record { low = pair.low; live = pair.live; before = refl };
          below = omega (arith, pair.before);
        }

  -- a word at the sibling of the region that ends with the step
  pub at_sibling : (encoded words : List ℕ) (g word : ℕ) → StepPair ws z g
      → SiblingWord ws encoded (length (steps_below ws g)) st.deepest words word
      → AtSibling (store st words []) encoded z (λ w. word ≡ w)
  at_sibling encoded words g word pair h =
      subst
      (λ v. (q : ℕ → Bool) × Agree (suc z) (sibling (split_bit v encoded) z) q
      × (word ≡ get_or words (cell_address v st.deepest q) 0)) same
      (subst (λ n. SiblingWord ws encoded n st.deepest words word) pair.before h)
