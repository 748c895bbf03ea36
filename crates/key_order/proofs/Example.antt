-- The values of two keys of the proof table, computed: of widths 2, 2, the keys (2,0) and (3,1) have split bits 1000
-- and 1011. Assumes nothing.
use mathlib.Core.Path.{◌≡◌, refl}
use mathlib.Core.List.{[], ◌∷◌}
use Rattle.split.specs.Steps.{steps_below, steps, step}
use Rattle.split.specs.Bits.{split_bit}
use Rattle.key_order.specs.Order.{first_step, compared}
use Rattle.std.specs.declared.cmp.Ordering.TheVariants.{Less, Equal, Greater}

first_step-of-keys : first_step (2 ∷ 2 ∷ 0 ∷ 0 ∷ []) (2 ∷ 0 ∷ 0 ∷ 0 ∷ []) (3 ∷ 1 ∷ 0 ∷ 0 ∷ []) ≡ 2
unfolding first_step split_bit step steps steps_below
first_step-of-keys = refl

compared-before : compared (2 ∷ 2 ∷ 0 ∷ 0 ∷ []) (2 ∷ 0 ∷ 0 ∷ 0 ∷ []) (3 ∷ 1 ∷ 0 ∷ 0 ∷ []) ≡ Less
unfolding compared split_bit step steps steps_below
compared-before = refl

compared-after : compared (2 ∷ 2 ∷ 0 ∷ 0 ∷ []) (3 ∷ 1 ∷ 0 ∷ 0 ∷ []) (2 ∷ 0 ∷ 0 ∷ 0 ∷ []) ≡ Greater
unfolding compared split_bit step steps steps_below
compared-after = refl

compared_same : compared (2 ∷ 2 ∷ 0 ∷ 0 ∷ []) (3 ∷ 1 ∷ 0 ∷ 0 ∷ []) (3 ∷ 1 ∷ 0 ∷ 0 ∷ []) ≡ Equal
unfolding compared split_bit step steps steps_below
compared_same = refl
