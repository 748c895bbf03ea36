-- Laws of the leaf that a join leaves: it lies within the directory, and its page is one of the two. Assumes nothing.
use Prim.Native.Nat.{ℕ, suc, ◌+◌, ◌-◌, ◌≤◌, ◌<◌}
use mathlib.Core.Path.{◌≡◌}
use mathlib.Core.Bool.{Bool, true, false}
use mathlib.Core.List.{List}
use native.Mathlib.Omega.{arith}
use lib.ListN.{get_or}
use Rattle.store.specs.declared.State.{State}
use Rattle.change.specs.Delete.{joined_tally, tally_depth}
use Rattle.change.proofs.DeleteTallyLaws.{get_d-joined_tally-at, le-tally_depth}
use Rattle.delete_plan.specs.declared.Stored.{Stored}
use Rattle.delete_plan.specs.declared.Join.{Join}
use Rattle.delete_pages.specs.PageBytes.{kept_page}
use Rattle.delete_steps.specs.Steps.{LeavesLent}

-- a depth with a leaf is at most T
pub top-le : (st : State) (r : Stored) (j : Join) → LeavesLent st r j → st.deepest ≤ 12 → (leaves : List ℕ)
    → leaves ≡ joined_tally j.top (suc j.step - j.top) st.tally.leaves
    → j.top ≤ tally_depth st.deepest leaves
top-le st r j l short leaves e =
    let more : suc j.step - j.top ≡ suc (j.step - j.top) = omega (arith, l.above) in
    let one : get_or leaves j.top 0 ≡ get_or st.tally.leaves j.top 0 + 1 =
    rw (e, more)
    (get_d-joined_tally-at j.top (j.step - j.top) st.tally.leaves
    (omega (arith, l.thirteen, l.above, l.deep, l.depth-step))) in
    le-tally_depth leaves st.deepest j.top (omega (arith, l.above, l.deep, l.depth-step)) (omega arith)

pub kept_page-lt : (β : Bool) (g h n : ℕ) → g < n → h < n → kept_page β g h < n
kept_page-lt true g h n u v = v
kept_page-lt false g h n u v = u
