use Rattle.std.proofs.Common.{[], ◌∷◌}
use Rattle.shape.specs.Key.{wanted_values}
use Rattle.range_number.proofs.ends.Goals as goal

pub returns : goal.returns
unfolding wanted_values
returns g c wanted d = λ i.
    c.end_at-a0.ensures wanted d i
    ∷ c.end_at-a1.ensures wanted d i
    ∷ c.end_at-a2.ensures wanted d i
    ∷ c.end_at-a3.ensures wanted d i
    ∷ []
