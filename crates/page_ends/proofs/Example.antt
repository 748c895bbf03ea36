-- The fixed bits of widths 2, 2, computed: with no step only those past the widths, after step 0 also bit 0 of
-- attribute 0, after all four steps every bit. Assumes nothing.
use mathlib.Core.Path.{◌≡◌, refl}
use mathlib.Core.List.{[], ◌∷◌}
use Rattle.split.specs.Steps.{steps_below, steps, steps_of, attribute_depth}
use Rattle.record.specs.Packed.{packed_key}
use Rattle.page_ends.specs.Ends.{fixed_bits}

fixed_bits-none : fixed_bits (2 ∷ 2 ∷ 0 ∷ 0 ∷ []) 0 ≡ 0xfffffffffffcfffc
unfolding fixed_bits packed_key attribute_depth steps_of steps steps_below
fixed_bits-none = refl

fixed_bits-one : fixed_bits (2 ∷ 2 ∷ 0 ∷ 0 ∷ []) 1 ≡ 0xfffffffffffcfffe
unfolding fixed_bits packed_key attribute_depth steps_of steps steps_below
fixed_bits-one = refl

fixed_bits-all : fixed_bits (2 ∷ 2 ∷ 0 ∷ 0 ∷ []) 4 ≡ 0xffffffffffffffff
unfolding fixed_bits packed_key attribute_depth steps_of steps steps_below
fixed_bits-all = refl
