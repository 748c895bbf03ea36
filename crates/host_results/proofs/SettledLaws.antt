-- Laws of the number of a call that leaves a state, and of the words after it: those of an accepted one show the state,
-- those of a refused one are as they came. Assumes nothing.
use Prim.Native.Nat.{ℕ, suc}
use mathlib.Core.Path.{◌≡◌, refl, sym, ap, ◌∙◌}
use mathlib.Core.Bool.{true, false, false≢true}
use mathlib.Core.List.{List}
use native.Mathlib.Omega.{arith}
use lib.ListN.{drop}
use Rattle.shape.specs.Refusal.{Answer, accepted, refused, refused_with, is_refused, number_told}
use Rattle.store.specs.declared.State.{State}
use Rattle.host_state.specs.Image.{state_size, state_in, state_put}
use Rattle.host_state.proofs.ImageLaws.{drop-state_put}
use Rattle.host_results.specs.Settled.{Settled}

-- a number other than 0 is a refusal's
pub is_refused-number_told : {A : Type 0} (answer : Answer A) (n : ℕ) → number_told answer ≡ suc n
    → is_refused answer ≡ true
is_refused-number_told (accepted x) n e = absurd (omega arith)
is_refused-number_told (refused m) n e = refl
is_refused-number_told (refused_with m x) n e = refl

module _ {A : Type 0} (answer : Answer A) (state : State) (words : List ℕ) where
  pub settled-done : is_refused answer ≡ false → (words' : List ℕ) → words' ≡ state_put state words
      → state_in words' ≡ state → Settled answer state words words'
  settled-done done words' e shown =
      record {
        words-done = λ _. e;
        state-done = λ _. shown;
        past-done = λ _. ap (drop state_size) e ∙ drop-state_put state words;
        words-refused = λ f. absurd (false≢true (sym done ∙ f));
      }
