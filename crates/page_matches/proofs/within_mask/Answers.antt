use Rattle.std.proofs.Common.{rules}
use Rattle.page_matches.specs.Within.{lies_in}
use Rattle.page_matches.proofs.within_mask.Goals as goal

pub returns : goal.returns
unfolding lies_in
returns c = c.mask_of.ensures (lies_in c.args.bias c.args.low c.args.high) (λ bytes r l p. search rules)
