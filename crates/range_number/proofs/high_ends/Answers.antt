use Rattle.std.proofs.Common.{refl, rules}
use Rattle.range_number.specs.Ends.{high_end, high_ends}
use Rattle.range_number.proofs.high_ends.Goals as goal

pub returns : goal.returns
unfolding high_ends
returns c = c.ends.ensures high_end (refl, λ i r p. search rules)
