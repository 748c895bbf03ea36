-- Laws of the addresses that one step appends: each is the sum of a power of two for each bit 1 of its string, and no
-- two of these powers are equal. Assumes nothing.
use Prim.Native.Nat.{ℕ, zero, suc, ◌+◌, ◌*◌, ◌/◌, ◌%◌, ◌^◌, ◌≤◌, ◌<◌}
use mathlib.Core.Path.{◌≡◌, refl, sym, ap, ◌∙◌, subst}
use mathlib.Core.Bool.{Bool, true, false, false≢true}
use mathlib.Core.List.{List, [], ◌∷◌}
use native.Mathlib.Omega.{arith}
use lib.ListN.{get_or, length, set}
use lib.Pow.{pow-add}
use Rattle.shape.specs.Shape.{Fit}
use Rattle.split.specs.Steps.{steps, step, bit_value, attribute_depth}
use Rattle.split.proofs.DepthLaws.{step_of, step-here}
use Rattle.address.specs.Address.{formula}
use Rattle.address.specs.Doubling.{sides}
use Rattle.pairs.specs.Pairs.{StepPair}
use Rattle.address.proofs.AppendLaws.{address-new}
use Rattle.cell.specs.Cell.{cell, cell_address}
use Rattle.cell.proofs.CellLaws.{In-cell, length-cell, cell-zero, cell-suc, cell_address-same}
use Rattle.pairs.proofs.PlaceLaws.{step_number-pair, step_pair-lt}
use Rattle.address_bits.proofs.BitLaws.{get_d-bit_set}
use Rattle.region.specs.Strings.{with_bit}
use Rattle.region.proofs.StringLaws.{with_bit-same, with_bit-other}
use Rattle.directory.proofs.CellLaws.{cell-bit_set}
use Rattle.directory.proofs.SubsetLaws.{power_sum, power_sum-with_bit, Distinct}

-- ---- the formula as a sum of shifted indices

-- the sum of i_j * 2^(e_j)
abbrev shifted_sum : List ℕ → List ℕ → ℕ
shifted_sum [] es = 0
shifted_sum (i ∷ is) [] = 0
shifted_sum (i ∷ is) (e ∷ es) = i * 2 ^ e + shifted_sum is es

-- by how much the formula shifts each index: attribute z is in front, the others follow in order
abbrev pub shifts : ℕ → (h0 h1 h2 h3 : ℕ) → List ℕ
shifts zero h0 h1 h2 h3 = (h1 + (h2 + h3)) ∷ (h2 + h3) ∷ h3 ∷ 0 ∷ []
shifts (suc zero) h0 h1 h2 h3 = (h2 + h3) ∷ (h0 + (h2 + h3)) ∷ h3 ∷ 0 ∷ []
shifts (suc (suc zero)) h0 h1 h2 h3 = (h1 + h3) ∷ h3 ∷ (h0 + (h1 + h3)) ∷ 0 ∷ []
shifts (suc (suc (suc z))) h0 h1 h2 h3 = (h1 + h2) ∷ h2 ∷ 0 ∷ (h0 + (h1 + h2)) ∷ []

length-shifts : (z h0 h1 h2 h3 : ℕ) → length (shifts z h0 h1 h2 h3) ≡ 4
length-shifts zero h0 h1 h2 h3 = refl
length-shifts (suc zero) h0 h1 h2 h3 = refl
length-shifts (suc (suc zero)) h0 h1 h2 h3 = refl
length-shifts (suc (suc (suc z))) h0 h1 h2 h3 = refl

formula-shifts : (z h0 h1 h2 h3 : ℕ) → z < 4 → (i0 i1 i2 i3 : ℕ)
    → formula z (2 ^ h0 ∷ 2 ^ h1 ∷ 2 ^ h2 ∷ 2 ^ h3 ∷ []) (i0 ∷ i1 ∷ i2 ∷ i3 ∷ [])
    ≡ shifted_sum (i0 ∷ i1 ∷ i2 ∷ i3 ∷ []) (shifts z h0 h1 h2 h3)
unfolding formula
formula-shifts zero h0 h1 h2 h3 h i0 i1 i2 i3 = rw (pow-add 2 h1 (h2 + h3), pow-add 2 h2 h3) (omega arith)
formula-shifts (suc zero) h0 h1 h2 h3 h i0 i1 i2 i3 = rw (pow-add 2 h0 (h2 + h3), pow-add 2 h2 h3) (omega arith)
formula-shifts (suc (suc zero)) h0 h1 h2 h3 h i0 i1 i2 i3 =
    rw (pow-add 2 h0 (h1 + h3), pow-add 2 h1 h3) (omega arith)
formula-shifts (suc (suc (suc zero))) h0 h1 h2 h3 h i0 i1 i2 i3 =
    rw (pow-add 2 h0 (h1 + h2), pow-add 2 h1 h2) (omega arith)
formula-shifts (suc (suc (suc (suc z)))) h0 h1 h2 h3 h i0 i1 i2 i3 = absurd (omega arith)

shifted_sum-zero : (es : List ℕ) → shifted_sum (0 ∷ 0 ∷ 0 ∷ 0 ∷ []) es ≡ 0
shifted_sum-zero [] = refl
shifted_sum-zero (a ∷ []) = omega arith
shifted_sum-zero (a ∷ b ∷ []) = omega arith
shifted_sum-zero (a ∷ b ∷ c ∷ []) = omega arith
shifted_sum-zero (a ∷ b ∷ c ∷ d ∷ es) = omega arith

-- x more at attribute j
shifted_sum-plus : (is es : List ℕ) (j x : ℕ) → j < length is → length is ≡ length es
    → shifted_sum (set is j (get_or is j 0 + x)) es ≡ x * 2 ^ get_or es j 0 + shifted_sum is es
shifted_sum-plus [] es j x h e = absurd (omega arith)
shifted_sum-plus (i ∷ is) [] j x h e = absurd (omega arith)
shifted_sum-plus (i ∷ is) (a ∷ es) zero x h e = omega arith
shifted_sum-plus (i ∷ is) (a ∷ es) (suc j) x h e = omega (arith, shifted_sum-plus is es j x (omega arith) (omega arith))

-- ---- the exponent of each bit

-- that of step s, with these shifts of the indices
abbrev pub exponent : List ℕ → List ℕ → ℕ → ℕ
exponent ws es s = (step ws s).bit + get_or es (step ws s).attribute 0

module _ (ws : List ℕ) (fit : Fit ws) where
  shifted_sum-cell : (es : List ℕ) → length es ≡ 4 → (q : ℕ → Bool) (n : ℕ) → n ≤ length (steps ws)
      → shifted_sum (cell ws n q) es ≡ power_sum (exponent ws es) q n
  unfolding power_sum
  shifted_sum-cell es len q zero h = ap (λ v. shifted_sum v es) (cell-zero ws q) ∙ shifted_sum-zero es
  shifted_sum-cell es len q (suc n) h =
      let j = (step ws n).attribute in
      let k = (step ws n).bit in
      let b = bit_value (q n) in
      let s = step_of ws n h in
      let here = step-here ws fit s.0 s.1 s.2 s.3 s.4 in
      let hj : j < 4 = subst (λ u. u.attribute < 4) (sym here) s.2 in
      ap (λ v. shifted_sum v es) (cell-suc ws fit n h q)
      ∙ shifted_sum-plus (cell ws n q) es j (b * 2 ^ k) (subst (λ u. j < u) (sym (length-cell ws n q)) hj)
      (length-cell ws n q ∙ sym len)
      ∙ omega (
        arith,
        shifted_sum-cell es len q n (omega arith),
        ap (λ x. b * x) (pow-add 2 k (get_or es j 0)),
      )

  -- step y is the pair at place g
  module _ (y g : ℕ) (pair : StepPair ws y g) where
    abbrev pub weights : ℕ → ℕ
    weights =
        exponent ws
        (shifts (g % 4) (attribute_depth ws y 0) (attribute_depth ws y 1) (attribute_depth ws y 2) (attribute_depth ws y 3))

    pub cell_address-power_sum : (q : ℕ → Bool) → q y ≡ true → cell_address ws (suc y) q ≡ power_sum weights q (suc y)
    unfolding cell_address sides cell
    cell_address-power_sum q e =
        let is = cell ws (suc y) q in
        let k = g / 4 in
        let z = g % 4 in
        let set-bit = cell-bit_set ws fit y g pair q e in
        let room : z < length (cell ws y q) = subst (λ n. z < n) (sym (length-cell ws y q)) (omega arith) in
        let new : 2 ^ k ≤ get_or is z 0 =
        subst (λ v. 2 ^ k ≤ get_or v z 0) (sym set-bit) (omega (arith, get_d-bit_set g (cell ws y q) room)) in
        address-new ws fit k z (omega arith) pair.live (step_number-pair ws y g pair) is (In-cell ws (suc y) q) new
        ∙ formula-shifts z (attribute_depth ws y 0) (attribute_depth ws y 1) (attribute_depth ws y 2)
        (attribute_depth ws y 3) (omega arith) _ _ _ _
        ∙ shifted_sum-cell
        (shifts z (attribute_depth ws y 0) (attribute_depth ws y 1) (attribute_depth ws y 2) (attribute_depth ws y 3))
        (length-shifts z _ _ _ _) q (suc y) (step_pair-lt ws y g pair fit)

    -- two equal exponents would give two strings one address
    pub weights-distinct : Distinct weights y
    weights-distinct s u l h e =
        let same = (cell_address-same ws fit (suc y) (step_pair-lt ws y g pair fit) (two s) (two u)).0
        (cell_address-power_sum (two s) (last s (omega arith)) ∙ sum s (omega arith)
        ∙ ap (λ x. 2 ^ x + power_sum weights one (suc y)) e
        ∙ sym (cell_address-power_sum (two u) (last u h) ∙ sum u h)) in
        false≢true
        (sym (none s (omega arith)) ∙ sym (with_bit-other one u true s (λ d. omega arith))
        ∙ sym (same s (omega arith)) ∙ with_bit-same one s true)
      where
        -- bit y alone, and with bit s
        one : ℕ → Bool
        one = with_bit (λ s. false) y true

        two : ℕ → ℕ → Bool
        two s = with_bit one s true

        none : (s : ℕ) → s < y → one s ≡ false
        none s b = with_bit-other (λ s. false) y true s (λ d. omega arith)

        last : (s : ℕ) → s < y → two s y ≡ true
        last s b = with_bit-other one s true y (λ d. omega arith) ∙ with_bit-same (λ s. false) y true

        sum : (s : ℕ) → s < y → power_sum weights (two s) (suc y) ≡ 2 ^ weights s + power_sum weights one (suc y)
        sum s b = power_sum-with_bit weights one (suc y) s (omega arith) (none s b)
