-- An answer as a result tells it that has no field for a depth. Assumes nothing.
use Rattle.std.specs.Prelude.{ℕ, cond, eqb}
use Rattle.shape.specs.Refusal.{Answer, accepted, refused, refused_with}

-- the depth that 5 carries is left out
abbrev pub depthless : {A : Type 0} → Answer A → Answer A
depthless (accepted x) = accepted x
depthless (refused n) = refused n
depthless (refused_with n x) = cond (eqb n 5) (refused 5) (refused_with n x)
