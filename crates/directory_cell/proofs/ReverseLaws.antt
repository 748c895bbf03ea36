-- Laws of bits in reverse order: four, by computing all sixteen. Assumes nothing.
use Prim.Native.Nat.{ℕ, ◌+◌, ◌*◌, ◌/◌, ◌%◌, ◌^◌, ◌<◌}
use mathlib.Core.Path.{◌≡◌, refl, ap, ◌∙◌}
use mathlib.Core.Bool.{true}
use native.Mathlib.Omega.{arith}
use lib.Bits.{bit_and, and_mask}
use lib.Dec.{eqb}
use borrow.Author.Tests.{eqb-true}
use Rattle.shape.specs.Shape.{all_below}
use Rattle.shape.proofs.BoundsLaws.{test-of-all_below}
use Rattle.directory_cell.specs.Private.{reversed_bits}

-- entry n of the table
abbrev pub entry : ℕ → ℕ
entry n = bit_and (0xf7b3d591e6a2c480 / 2 ^ (4 * n)) 15

all-entries : all_below 16 (λ n. eqb (entry n) (reversed_bits n)) ≡ true
all-entries = refl

pub entry-reversed : (n : ℕ) → n < 16 → (entry n ≡ reversed_bits n) × (entry n < 16)
entry-reversed n l =
    let e = eqb-true (entry n) (reversed_bits n)
    (test-of-all_below (λ n. eqb (entry n) (reversed_bits n)) 16 n all-entries l) in
    (e, omega (arith, e))

pub four-lt : (rest : ℕ) → bit_and rest 15 < 16
four-lt rest = omega (arith, and_mask rest 4)

-- four bits of a number, halved again and again
pub reversed_bits-four : (rest : ℕ) → reversed_bits (bit_and rest 15)
    ≡ rest % 2 * 8 + rest / 2 % 2 * 4 + rest / 2 / 2 % 2 * 2 + rest / 2 / 2 / 2 % 2
reversed_bits-four rest =
    ap reversed_bits (and_mask rest 4) ∙ (λ i. first i * 8 + second i * 4 + third i * 2 + fourth i)
  where
    first : rest % 16 % 2 ≡ rest % 2
    first = omega arith

    second : rest % 16 / 2 % 2 ≡ rest / 2 % 2
    second = omega arith

    third : rest % 16 / 4 % 2 ≡ rest / 2 / 2 % 2
    third = omega arith

    fourth : rest % 16 / 8 % 2 ≡ rest / 2 / 2 / 2 % 2
    fourth = omega arith
