-- The widths of the attributes below j are within their bounds.
use Rattle.std.proofs.Common.{◌≡◌, ◌<◌, ℕ, true}
use Rattle.shape.specs.Shape.{width_fits}
use Rattle.shape.proofs.widths_fit.Given as goal

abbrev pub invariant-loop-j : goal.invariant-loop-j
invariant-loop-j l = (i : ℕ) → i < l.j → width_fits l.fn.shape i ≡ true
