-- The depth of an answer, and the words after a call that leaves a state. Assumes nothing.
use Rattle.std.specs.Prelude.{ℕ, ◌≡◌, true, false, List, drop}
use Rattle.shape.specs.Refusal.{Answer, accepted, refused, refused_with, is_refused, carried_beside}
use Rattle.model.specs.Model.{Reply, changed, found, listed}
use Rattle.store.specs.declared.State.{State}
use Rattle.host_state.specs.Image.{state_size, state_in, state_put}

-- the depth that an answer tells, 0 where it tells none: of the refusals 5 alone has one
abbrev pub depth_told : Answer Reply → ℕ
depth_told (accepted (changed depth)) = depth
depth_told (accepted (found content reads depth)) = depth
depth_told (accepted (listed written total reads)) = 0
depth_told (refused n) = 0
depth_told (refused_with n x) = carried_beside {A = Reply} 5 (refused_with n x)

-- the words after a call that leaves a state: words that show it, or, of a refused call, the words as they came
pub record Settled {A : Type 0} (answer : Answer A) (state : State) (words words' : List ℕ) : Type 0 where
  pub words-done : is_refused answer ≡ false → words' ≡ state_put state words
  pub state-done : is_refused answer ≡ false → state_in words' ≡ state
  pub past-done : is_refused answer ≡ false → drop state_size words' ≡ drop state_size words
  pub words-refused : is_refused answer ≡ true → words' ≡ words
