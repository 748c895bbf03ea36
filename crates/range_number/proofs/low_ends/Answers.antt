use Rattle.std.proofs.Common.{refl, rules}
use Rattle.range_number.specs.Ends.{low_end, low_ends}
use Rattle.range_number.proofs.low_ends.Goals as goal

pub returns : goal.returns
unfolding low_ends
returns c = c.ends.ensures low_end (refl, λ i r p. search rules)
