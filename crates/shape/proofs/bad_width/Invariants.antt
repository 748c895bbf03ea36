-- No attribute below j has a bad width.
use Rattle.std.proofs.Common.{◌≡◌, ◌<◌, ℕ, false}
use Rattle.shape.specs.Shape.{bad_width}
use Rattle.shape.proofs.bad_width.Given as goal

abbrev pub invariant-loop-j : goal.invariant-loop-j
invariant-loop-j l = (i : ℕ) → i < l.j → bad_width l.fn.shape i ≡ false
