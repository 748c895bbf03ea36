-- For a reader: the list of steps is the pairs with k < w_j in order. Each stands in it (`step-step_number`), and they
-- stand by k, then by j. Assumes nothing.
use Prim.Native.Nat.{ℕ, ◌+◌, ◌*◌, ◌≤◌, ◌<◌}
use mathlib.Core.Path.{◌≡◌, ap, subst}
use mathlib.Core.List.{List}
use mathlib.Core.Logic.{◌⊎◌, inl, inr}
use native.Mathlib.Omega.{arith}
use lib.ListN.{length}
use Rattle.lists.proofs.Numbers.{lt-or-le}
use Rattle.shape.specs.Shape.{Fit}
use Rattle.split.specs.Steps.{steps_below, steps, step, step_number}
use Rattle.split.proofs.StepLaws.{step-step_number, step_number-lt, StepBelow, step_number-onto}

pub steps-ordered : (ws : List ℕ) → Fit ws → (t u : ℕ) → t < u → u < length (steps ws)
    → 4 * (step ws t).bit + (step ws t).attribute < 4 * (step ws u).bit + (step ws u).attribute
unfolding steps step_number
steps-ordered ws fit t u l h =
    let a = step_number-onto ws t 64 (omega arith) in
    let b = step_number-onto ws u 64 h in
    rw (at t a, at u b)
    (go a.0 a.1 b.0 b.1 a.4 b.4 (step_number-lt ws b.0 b.1 b.2 b.3 a.0 a.1))
  where
    at : (v : ℕ) (s : StepBelow ws v 64) → step ws v ≡ record { bit = s.0; attribute = s.1 }
    at v s =
        subst (λ x. step ws x ≡ record { bit = s.0; attribute = s.1 }) s.4
        (step-step_number ws s.0 s.1 s.2 s.3 (fit s.1))

    go : (k j m i : ℕ) → step_number ws k j ≡ t → step_number ws m i ≡ u
        → (4 * m + i < 4 * k + j → step_number ws m i < step_number ws k j) → 4 * k + j < 4 * m + i
    go k j m i e f n = last (lt-or-le (4 * k + j) (4 * m + i)) (lt-or-le (4 * m + i) (4 * k + j))
      where
        last : (4 * k + j < 4 * m + i) ⊎ (4 * m + i ≤ 4 * k + j)
            → (4 * m + i < 4 * k + j) ⊎ (4 * k + j ≤ 4 * m + i) → 4 * k + j < 4 * m + i
        last (inl s) q = s
        last (inr s) (inl q) = absurd (omega (arith, n q))
        last (inr s) (inr q) =
            let g : 4 * k + j ≡ 4 * m + i = omega arith in
            absurd (omega (arith, ap (λ x. length (steps_below ws x)) g))
