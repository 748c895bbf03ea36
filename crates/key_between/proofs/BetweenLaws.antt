-- Laws of the values of attributes 0 and 2, each with 16 free bits above it: cut out of a key; compared by one
-- subtraction; the tests of all four values by their flags. Assumes nothing.
use Prim.Native.Nat.{ℕ, ◌+◌, ◌-◌, ◌*◌, ◌/◌, ◌%◌, ◌^◌, ◌≤◌, ◌<◌}
use mathlib.Core.Path.{◌≡◌, refl, ap, ◌∙◌}
use mathlib.Core.Bool.{Bool, true, false, cond, ◌&&◌}
use native.Mathlib.Omega.{arith}
use lib.Bits.{bit_and, and_mask, and_block, and_zero_r}
use lib.Dec.{eqb, leb}
use borrow.Author.Tests.{leb-true, leb-false}
use Rattle.shape.specs.Shape.{within}
use Rattle.record.specs.Packed.{packed_value}
use Rattle.key_between.specs.Between.{lies_between}
use Rattle.key_between.specs.Private.{even_values, even_flags, not_below, within_at}

-- ---- the two values of a key

-- the mask 0x0000ffff_0000ffff
pub even_values-mask : (key : ℕ) → bit_and key 281470681808895 ≡ even_values key
even_values-mask key =
    let low = key % 2 ^ 32 in
    let high = key / 2 ^ 32 in
    let parts : key ≡ high * 2 ^ 32 + low = omega arith in
    let two : high % 2 ^ 16 ≡ packed_value key 2 = refl in
    let zero : low % 2 ^ 16 ≡ packed_value key 0 = omega arith in
    ap (λ k. bit_and k 281470681808895) parts
    ∙ and_block 32 high 65535 low 65535 (omega arith) (omega arith)
    ∙ (λ i. and_mask high 16 i * 2 ^ 32 + and_mask low 16 i)
    ∙ omega (arith, two, zero)

-- ---- one subtraction

-- the bit above a value stays where nothing is borrowed
above-value : (a b : ℕ) → a < 2 ^ 16 → b < 2 ^ 16 → bit_and (2 ^ 16 + b - a) (2 ^ 16) ≡ cond (leb a b) (2 ^ 16) 0
above-value a b h k = go (leb a b) refl
  where
    cut : (q r : ℕ) → r < 2 ^ 16 → bit_and (q * 2 ^ 16 + r) (2 ^ 16) ≡ bit_and q 1 * 2 ^ 16
    cut q r l = and_block 16 q 1 r 0 l (omega arith) ∙ omega (arith, and_zero_r r)

    go : (β : Bool) → leb a b ≡ β → bit_and (2 ^ 16 + b - a) (2 ^ 16) ≡ cond β (2 ^ 16) 0
    go true e =
        let le : a ≤ b = leb-true a b e in
        let parts : 2 ^ 16 + b - a ≡ 1 * 2 ^ 16 + (b - a) = omega arith in
        ap (λ n. bit_and n (2 ^ 16)) parts ∙ cut 1 (b - a) (omega arith)
    go false e =
        let lt : b < a = leb-false a b e in
        let parts : 2 ^ 16 + b - a ≡ 0 * 2 ^ 16 + (2 ^ 16 + b - a) = omega arith in
        ap (λ n. bit_and n (2 ^ 16)) parts ∙ cut 0 (2 ^ 16 + b - a) (omega arith)

-- with 0x00010000_00010000 above both
pub even_flags-not_below : (first second : ℕ)
    → bit_and (even_values second + 281474976776192 - even_values first) 281474976776192
    ≡ even_flags (not_below first second 0) (not_below first second 2)
unfolding even_flags
even_flags-not_below first second =
    let a0 = packed_value first 0 in
    let a2 = packed_value first 2 in
    let b0 = packed_value second 0 in
    let b2 = packed_value second 2 in
    let small : (x : ℕ) → x % 2 ^ 16 < 2 ^ 16 = λ x. omega arith in
    let s0 : a0 < 2 ^ 16 = small (first / 2 ^ 0) in
    let s2 : a2 < 2 ^ 16 = small (first / 2 ^ 32) in
    let t0 : b0 < 2 ^ 16 = small (second / 2 ^ 0) in
    let t2 : b2 < 2 ^ 16 = small (second / 2 ^ 32) in
    let parts : even_values second + 281474976776192 - even_values first
    ≡ (2 ^ 16 + b2 - a2) * 2 ^ 32 + (2 ^ 16 + b0 - a0) = omega (arith, s0, s2, t0, t2) in
    ap (λ n. bit_and n 281474976776192) parts
    ∙ and_block 32 (2 ^ 16 + b2 - a2) (2 ^ 16) (2 ^ 16 + b0 - a0) (2 ^ 16) (omega arith) (omega arith)
    ∙ omega (arith, above-value a0 b0 s0 t0, above-value a2 b2 s2 t2)

-- ---- tests by their flags

pub and-even_flags : (α β γ δ : Bool) → bit_and (even_flags α β) (even_flags γ δ) ≡ even_flags (α && γ) (β && δ)
unfolding even_flags
and-even_flags true true true true = refl
and-even_flags true true true false = refl
and-even_flags true true false true = refl
and-even_flags true true false false = refl
and-even_flags true false true true = refl
and-even_flags true false true false = refl
and-even_flags true false false true = refl
and-even_flags true false false false = refl
and-even_flags false true true true = refl
and-even_flags false true true false = refl
and-even_flags false true false true = refl
and-even_flags false true false false = refl
and-even_flags false false true true = refl
and-even_flags false false true false = refl
and-even_flags false false false true = refl
and-even_flags false false false false = refl

-- a key shifted by one value
packed_value-next : (key : ℕ) → packed_value (key / 65536) 0 ≡ packed_value key 1
packed_value-next key = omega arith

packed_value-last : (key : ℕ) → packed_value (key / 65536) 2 ≡ packed_value key 3
packed_value-last key = let e : key / 65536 / 2 ^ 32 ≡ key / 2 ^ 48 = omega arith in ap (λ n. n % 2 ^ 16) e

all-even_flags : (α β : Bool) → eqb (even_flags α β) 281474976776192 ≡ (α && β)
unfolding even_flags
all-even_flags true true = refl
all-even_flags true false = refl
all-even_flags false true = refl
all-even_flags false false = refl

and-turn : (α β γ : Bool) → (α && (β && γ)) ≡ ((α && β) && γ)
and-turn true β γ = refl
and-turn false β γ = refl

-- all four values: those of attributes 1 and 3 are those of 0 and 2 in the keys shifted by one value
module _ (low high key : ℕ) where
  abbrev even : ℕ → ℕ → ℕ → ℕ
  even l h k = even_flags (within_at l h k 0) (within_at l h k 2)

  pub lies_between-flags :
      eqb (bit_and (even low high key) (even (low / 65536) (high / 65536) (key / 65536))) 281474976776192
      ≡ lies_between low high key
  unfolding lies_between
  lies_between-flags =
      let at : ℕ → Bool = within_at low high key in
      let shifted : ℕ → Bool = within_at (low / 65536) (high / 65536) (key / 65536) in
      let one : shifted 0 ≡ at 1 =
      λ i. within (packed_value-next low i) (packed_value-next high i) (packed_value-next key i) in
      let three : shifted 2 ≡ at 3 =
      λ i. within (packed_value-last low i) (packed_value-last high i) (packed_value-last key i) in
      ap (λ n. eqb n 281474976776192) (and-even_flags (at 0) (at 2) (shifted 0) (shifted 2))
      ∙ all-even_flags (at 0 && shifted 0) (at 2 && shifted 2)
      ∙ (λ i. (at 0 && one i) && (at 2 && three i))
      ∙ and-turn (at 0 && at 1) (at 2) (at 3)
