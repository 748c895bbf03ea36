-- One width outside its bounds is enough.
use Rattle.std.proofs.Common.{◌≡◌, false, sym, arith, get_or}
use Rattle.shape.specs.Shape.{within}
use Rattle.shape.proofs.BoundsLaws.{all_below-fails}
use Rattle.shape.proofs.widths_fit.Goals as goal

pub returns-then-not-in_range : goal.returns-then-not-in_range
returns-then-not-in_range c =
    let bad : within 1 16 (get_or c.args.shape.widths c.loop-j.j 0) ≡ false = cc in
    sym (all_below-fails (λ j. within 1 16 (get_or c.args.shape.widths j 0)) c.args.shape.attributes c.loop-j.j
    (omega arith) bad)
