-- The split bit of a key at the place of its step. Assumes nothing.
use Prim.Native.Nat.{ℕ, ◌+◌, ◌*◌, ◌-◌, ◌/◌, ◌%◌, ◌^◌, ◌<◌}
use mathlib.Core.Path.{◌≡◌, sym, ap, ◌∙◌}
use mathlib.Core.List.{List}
use native.Mathlib.Omega.{arith}
use native.Mathlib.Numerals.{add-one}
use lib.Bits.{bit_and, and_mask}
use lib.Dec.{eqb}
use lib.ListN.{get_or, length}
use Rattle.shape.specs.Shape.{Fit}
use Rattle.split.specs.Steps.{steps_below, step_number}
use Rattle.split.specs.Bits.{bit_of, split_bit}
use Rattle.split.proofs.BitLaws.{split_bit-step_number}

pub split_bit-place : (ws key : List ℕ) (g : ℕ) → Fit ws → g / 4 < get_or ws (g % 4) 0
    → split_bit ws key (length (steps_below ws g)) ≡ bit_of (get_or ws (g % 4) 0) (get_or key (g % 4) 0) (g / 4)
unfolding step_number
split_bit-place ws key g fit l =
    let place : g ≡ 4 * (g / 4) + g % 4 = omega arith in
    ap (λ x. split_bit ws key (length (steps_below ws x))) place
    ∙ split_bit-step_number ws fit key (g / 4) (g % 4) (omega arith) l

-- by a shift and a mask
pub split_bit-shifted : (ws key : List ℕ) (g w : ℕ) → Fit ws → g / 4 < get_or ws (g % 4) 0 → w ≡ get_or ws (g % 4) 0
    → eqb (bit_and (get_or key (g % 4) 0 / 2 ^ (w - (g / 4 + 1))) 1) 1 ≡ split_bit ws key (length (steps_below ws g))
split_bit-shifted ws key g w fit l e =
    rw e
    (ap (λ x. eqb x 1) (and_mask (get_or key (g % 4) 0 / 2 ^ (get_or ws (g % 4) 0 - (g / 4 + 1))) 1)
    ∙ ap (λ k. eqb (get_or key (g % 4) 0 / 2 ^ (get_or ws (g % 4) 0 - k) % 2) 1) (add-one (g / 4))
    ∙ sym (split_bit-place ws key g fit l))
