-- The latest pair of a cell's index vector is that of its last step, where the bit of this step is 1. Assumes nothing.
use Prim.Native.Nat.{ℕ, zero, suc, ◌+◌, ◌-◌, ◌/◌, ◌%◌, ◌^◌, ◌≤◌, ◌<◌}
use mathlib.Core.Path.{◌≡◌, refl, sym, ap, ◌∙◌, subst}
use mathlib.Core.Bool.{Bool, true}
use mathlib.Core.List.{List}
use mathlib.Core.Logic.{◌⊎◌, inl, inr}
use native.Mathlib.Omega.{arith}
use native.Mathlib.Nat.{lt_of_lt_of_le}
use native.Mathlib.Numerals.{add-one}
use lib.ListN.{get_or, length}
use lib.Pow.{pow_mono}
use Rattle.lists.proofs.Numbers.{eq-or-ne}
use Rattle.shape.specs.Shape.{Fit}
use Rattle.split.specs.Steps.{attribute_depth}
use Rattle.split.proofs.StepLaws.{depth_before}
use Rattle.pairs.specs.Pairs.{StepPair}
use Rattle.address_formula.specs.LatestPair.{creating_pair, latest_pair}
use Rattle.address.proofs.LatestLaws.{highest_bit-is, highest_bit-below}
use Rattle.address_formula.proofs.LatestPairLaws.{creating_pair-some, creating_pair-none}
use Rattle.address.proofs.SideLaws.{In-sides-get}
use Rattle.cell.specs.Cell.{cell}
use Rattle.cell.proofs.CellLaws.{In-cell, length-cell}
use Rattle.pairs.proofs.PlaceLaws.{steps_before-pair, attribute_depth-place}
use Rattle.address_bits.proofs.BitLaws.{get_d-bit_set}
use Rattle.directory.proofs.CellLaws.{cell-bit_set}

module _ (ws : List ℕ) (fit : Fit ws) (y g : ℕ) (pair : StepPair ws y g) (q : ℕ → Bool) (e : q y ≡ true) where
  abbrev is : List ℕ
  is = cell ws (suc y) q

  -- each index has the bits of pairs up to the step's
  below : (j : ℕ) → j < 4 → get_or is j 0 < 2 ^ ((g + 4 - j) / 4)
  unfolding depth_before
  below j h =
      let after = steps_before-pair ws y g pair in
      let bits : attribute_depth ws (suc y) j ≡ depth_before ws (g + 1) j =
      ap (λ n. attribute_depth ws n j) (sym (after.before ∙ add-one y))
      ∙ attribute_depth-place ws (g + 1) j h after.low in
      let most : attribute_depth ws (suc y) j ≤ (g + 4 - j) / 4 = omega (arith, bits) in
      lt_of_lt_of_le (In-sides-get ws (suc y) (In-cell ws (suc y) q) j h) (pow_mono most)

  creating_pair-le : (j : ℕ) → j < 4 → creating_pair (get_or is j 0) j ≤ g + 1
  creating_pair-le j h = go (eq-or-ne (get_or is j 0) 0)
    where
      go : (get_or is j 0 ≡ 0) ⊎ (get_or is j 0 ≡ 0 → ⊥) → creating_pair (get_or is j 0) j ≤ g + 1
      go (inl d) = omega (arith, creating_pair-none (get_or is j 0) j d)
      go (inr d) =
          let low : (g + 4 - j) / 4 ≤ 16 = omega (arith, pair.low) in
          let bit = highest_bit-below ((g + 4 - j) / 4) (get_or is j 0) (omega arith) (below j h) low in
          omega (arith, bit, creating_pair-some (get_or is j 0) j _ d refl)

  -- the step's attribute has its bit
  creating_pair-last : creating_pair (get_or is (g % 4) 0) (g % 4) ≡ g + 1
  creating_pair-last =
      let z = g % 4 in
      let k = g / 4 in
      let room : z < length (cell ws y q) = subst (λ n. z < n) (sym (length-cell ws y q)) (omega arith) in
      let has : 2 ^ k ≤ get_or is z 0 =
      subst (λ v. 2 ^ k ≤ get_or v z 0) (sym (cell-bit_set ws fit y g pair q e))
      (omega (arith, get_d-bit_set g (cell ws y q) room)) in
      let top : (g + 4 - z) / 4 ≡ suc k = omega arith in
      let less : get_or is z 0 < 2 ^ suc k = subst (λ n. get_or is z 0 < 2 ^ n) top (below z (omega arith)) in
      let some : get_or is z 0 ≡ 0 → ⊥ = λ d. omega (arith, has, pow_mono {i = 0} {j = k} (omega arith)) in
      creating_pair-some (get_or is z 0) z k some (highest_bit-is 64 k (get_or is z 0) (omega (arith, pair.low)) has less)
      ∙ omega arith

  pub latest_pair-cell : latest_pair is ≡ g + 1
  unfolding latest_pair
  latest_pair-cell =
      at (g % 4) (omega arith) creating_pair-last (creating_pair-le 0 (omega arith)) (creating_pair-le 1 (omega arith))
      (creating_pair-le 2 (omega arith)) (creating_pair-le 3 (omega arith))
    where
      at : (z : ℕ) → z < 4 → creating_pair (get_or is z 0) z ≡ g + 1
          → creating_pair (get_or is 0 0) 0 ≤ g + 1 → creating_pair (get_or is 1 0) 1 ≤ g + 1
          → creating_pair (get_or is 2 0) 2 ≤ g + 1 → creating_pair (get_or is 3 0) 3 ≤ g + 1 → latest_pair is ≡ g + 1
      at zero h d l0 l1 l2 l3 = omega arith
      at (suc zero) h d l0 l1 l2 l3 = omega arith
      at (suc (suc zero)) h d l0 l1 l2 l3 = omega arith
      at (suc (suc (suc zero))) h d l0 l1 l2 l3 = omega arith
      at (suc (suc (suc (suc z)))) h d l0 l1 l2 l3 = absurd (omega arith)
