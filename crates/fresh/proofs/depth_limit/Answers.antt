-- The widths of a shape within its bounds fit, and each call gives its part of `depth_limit_of`.
use Rattle.std.proofs.Common.{arith}
use Rattle.shape.specs.Shape.{width_list}
use Rattle.shape.proofs.ShapeLaws.{widths-fit}
use Rattle.model.specs.Limits.{depth_limit_of}
use Rattle.fresh.proofs.depth_limit.Goals as goal

pub total_of-bits-requires : goal.total_of-bits-requires
total_of-bits-requires c = widths-fit c.args.shape (width_list c.widths_of.result) c.requires.0 c.widths_of.ensures

pub returns : goal.returns
unfolding depth_limit_of
returns c = rw (← c.log2.ensures, ← c.widths_of.ensures, ← c.total_of-bits.ensures.0) (omega arith)
