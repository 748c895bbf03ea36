-- What insert and delete promise of a state that lies in lent words (document 01, "Calls", "Refused calls"; document
-- 02, requests 6 and 7). Assumes nothing.
use Rattle.std.specs.Prelude.{ℕ, suc, ◌≡◌, List, drop}
use Rattle.shape.specs.Refusal.{Answer}
use Rattle.model.specs.Model.{Reply, changed}
use Rattle.store.specs.declared.State.{State}
use Rattle.host_state.specs.Image.{state_size, state_in}
use Rattle.host_results.specs.Result.{key_answer}

-- a call gave a number, an attribute and a depth, and took the state that the words showed to the one that they show
-- then, as it promises. Shut out: a call that leaves the new state unwritten; a refused one that writes a state; a
-- depth beside 4 or 6; an attribute beside 15
pub record LentChangePromise (Promise : State → Answer Reply → State → Type 0) (words : List ℕ)
    (number attribute depth : ℕ) (words' : List ℕ) : Type 0 where
  pub promise-kept : Promise (state_in words) (key_answer number attribute depth (changed depth)) (state_in words')
  -- "no other number carries a depth"
  pub depth-if-refused : (n : ℕ) → number ≡ suc n → (number ≡ 5 → ⊥) → depth ≡ 0
  -- 14 alone names an attribute
  pub attribute-if-other : (number ≡ 14 → ⊥) → attribute ≡ 0
  -- "All of them return the number and change nothing."
  pub words-kept : (n : ℕ) → number ≡ suc n → words' ≡ words
  -- whatever lies past the state stays
  pub words-past : drop state_size words' ≡ drop state_size words
