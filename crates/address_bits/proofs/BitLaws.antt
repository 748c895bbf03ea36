-- Laws of index vectors with a bit set or cleared: attribute by attribute, the one undoes the other. Assumes nothing.
use Prim.Native.Nat.{ℕ, zero, suc, ◌+◌, ◌-◌, ◌/◌, ◌%◌, ◌^◌, ◌≤◌, ◌<◌}
use mathlib.Core.Path.{◌≡◌, sym, ap, ◌∙◌}
use mathlib.Core.List.{List, [], ◌∷◌}
use mathlib.Core.Logic.{◌⊎◌, inl, inr}
use native.Mathlib.Omega.{arith}
use lib.ListN.{get_or, length, set}
use lib.Seq.{get_or-set_same, set-set, set-get_or}
use borrow.Author.Tests.{eq-eqb, ne_eqb}
use Rattle.lists.proofs.Numbers.{eq-or-ne}
use Rattle.address_bits.specs.Bits.{bit_set, bit_cleared}
use Rattle.address_bits.specs.Private.{only_at}

-- ---- one attribute

pub only_at-same : (x j z : ℕ) → j ≡ z → only_at x j z ≡ x
unfolding only_at
only_at-same x j z e = rw (eq-eqb j z e)

pub only_at-other : (x j z : ℕ) → (j ≡ z → ⊥) → only_at x j z ≡ 0
unfolding only_at
only_at-other x j z ne = rw (ne_eqb j z ne)

-- what holds of index z with x more, and of every index as it is
pub add-only_at-lt : (is : List ℕ) (x z m : ℕ) → get_or is z 0 + x < m → (j : ℕ) → get_or is j 0 < m
    → get_or is j 0 + only_at x j z < m
add-only_at-lt is x z m h j l = go (eq-or-ne j z)
  where
    go : (j ≡ z) ⊎ (j ≡ z → ⊥) → get_or is j 0 + only_at x j z < m
    go (inl e) = omega (arith, only_at-same x j z e, ap (λ r. get_or is r 0) e)
    go (inr ne) = omega (arith, only_at-other x j z ne)

pub only_at-le : (is : List ℕ) (x z : ℕ) → x ≤ get_or is z 0 → (j : ℕ) → only_at x j z ≤ get_or is j 0
only_at-le is x z h j = go (eq-or-ne j z)
  where
    go : (j ≡ z) ⊎ (j ≡ z → ⊥) → only_at x j z ≤ get_or is j 0
    go (inl e) = omega (arith, only_at-same x j z e, ap (λ r. get_or is r 0) e)
    go (inr ne) = omega (arith, only_at-other x j z ne)

-- ---- all four

-- an operation with 0 on the right changes nothing
set-only_at : (f : ℕ → ℕ → ℕ) → ((i : ℕ) → f i 0 ≡ i) → (x z i0 i1 i2 i3 : ℕ) → z < 4
    → f i0 (only_at x 0 z) ∷ f i1 (only_at x 1 z) ∷ f i2 (only_at x 2 z) ∷ f i3 (only_at x 3 z) ∷ []
    ≡ set (i0 ∷ i1 ∷ i2 ∷ i3 ∷ []) z (f (get_or (i0 ∷ i1 ∷ i2 ∷ i3 ∷ []) z 0) x)
unfolding only_at
set-only_at f e x zero i0 i1 i2 i3 h = cc (e i1, e i2, e i3)
set-only_at f e x (suc zero) i0 i1 i2 i3 h = cc (e i0, e i2, e i3)
set-only_at f e x (suc (suc zero)) i0 i1 i2 i3 h = cc (e i0, e i1, e i3)
set-only_at f e x (suc (suc (suc zero))) i0 i1 i2 i3 h = cc (e i0, e i1, e i2)
set-only_at f e x (suc (suc (suc (suc z)))) i0 i1 i2 i3 h = absurd (omega arith)

-- d0 to d3 are the bit for its attribute, 0 for the others
module _ (x g i0 i1 i2 i3 d0 d1 d2 d3 : ℕ) (e : x ≡ 2 ^ (g / 4)) (e0 : d0 ≡ only_at x 0 (g % 4))
    (e1 : d1 ≡ only_at x 1 (g % 4)) (e2 : d2 ≡ only_at x 2 (g % 4)) (e3 : d3 ≡ only_at x 3 (g % 4)) where
  pub bit_set-each : (i0 + d0) ∷ (i1 + d1) ∷ (i2 + d2) ∷ (i3 + d3) ∷ [] ≡ bit_set g (i0 ∷ i1 ∷ i2 ∷ i3 ∷ [])
  bit_set-each =
      rw (e0, e1, e2, e3, sym e) (set-only_at (λ i y. i + y) (λ i. omega arith) x (g % 4) i0 i1 i2 i3 (omega arith))

  pub bit_cleared-each : (i0 - d0) ∷ (i1 - d1) ∷ (i2 - d2) ∷ (i3 - d3) ∷ [] ≡ bit_cleared g (i0 ∷ i1 ∷ i2 ∷ i3 ∷ [])
  bit_cleared-each =
      rw (e0, e1, e2, e3, sym e) (set-only_at (λ i y. i - y) (λ i. omega arith) x (g % 4) i0 i1 i2 i3 (omega arith))

-- ---- set, then cleared

module _ (g : ℕ) (v : List ℕ) (l : g % 4 < length v) where
  pub get_d-bit_set : get_or (bit_set g v) (g % 4) 0 ≡ get_or v (g % 4) 0 + 2 ^ (g / 4)
  get_d-bit_set = get_or-set_same v (g % 4) (get_or v (g % 4) 0 + 2 ^ (g / 4)) 0 l

  pub bit_cleared-bit_set : bit_cleared g (bit_set g v) ≡ v
  bit_cleared-bit_set =
      let z = g % 4 in
      let old : get_or (bit_set g v) z 0 - 2 ^ (g / 4) ≡ get_or v z 0 = omega (arith, get_d-bit_set) in
      ap (set (bit_set g v) z) old
      ∙ set-set v z (get_or v z 0 + 2 ^ (g / 4)) (get_or v z 0)
      ∙ set-get_or v z 0
