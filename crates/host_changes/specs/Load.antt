-- What load promises of a state that lies in lent words (document 02, requests 5 and 7). Assumes nothing.
use Rattle.std.specs.Prelude.{ℕ, suc, ◌≡◌, cond, List, [], ltb, length, drop}
use Rattle.shape.specs.Refusal.{Condition, accepted, answered_by}
use Rattle.store.specs.Store.{Memory, memory}
use Rattle.file.specs.Loading.{load_refusals}
use Rattle.file.specs.Promises.{LoadPromise}
use Rattle.host_state.specs.Image.{state_size, state_in}
use Rattle.host_results.specs.Result.{Reports}

-- those of load; with fewer words than a state has, those of a load into no memory: 12, 1, 14, 15 and 13, then 2
unfoldable pub lent_load_refusals : List ℕ → List ℕ → Memory → List Condition
lent_load_refusals file words m =
    cond (ltb (length words) state_size) (load_refusals file (memory [] [])) (load_refusals file m)

-- load gave a number and an attribute, and left words and memory: those of a store that it makes as it promises, or
-- what came. Shut out: a load that leaves the state unwritten; one that makes a store before it refuses the state
-- words; 1 for a bad width
pub record LentLoadPromise (file : List ℕ) (words : List ℕ) (m : Memory) (number attribute : ℕ) (words' : List ℕ)
    (m' : Memory) : Type 0 where
  pub reported : Reports {A = Unit {0}} number attribute tt tt (answered_by (lent_load_refusals file words m) tt)
  -- "All of them return the number and change nothing."
  pub words-kept : (n : ℕ) → number ≡ suc n → words' ≡ words
  pub memory_kept : (n : ℕ) → number ≡ suc n → m' ≡ m
  -- the words show the state of the loaded store
  pub loaded : number ≡ 0 → LoadPromise file m (accepted tt) (record { state = state_in words'; memory = m' })
  -- whatever lies past the state stays
  pub words-past : drop state_size words' ≡ drop state_size words
