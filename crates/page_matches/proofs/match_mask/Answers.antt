use Rattle.std.proofs.Common.{rules}
use Rattle.page_matches.specs.Pattern.{passes}
use Rattle.page_matches.proofs.match_mask.Goals as goal

pub returns : goal.returns
unfolding passes
returns c = c.mask_of.ensures (passes c.args.pattern) (λ bytes r l p. search rules)
