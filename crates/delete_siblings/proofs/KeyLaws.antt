-- Laws of a packed key of the sibling of a key's region: the bit of one split step is the other one. Assumes nothing.
use Prim.Native.Nat.{ℕ, suc, ◌+◌, ◌-◌, ◌*◌, ◌/◌, ◌%◌, ◌^◌, ◌≤◌, ◌<◌}
use mathlib.Core.Path.{◌≡◌, refl, sym, ap, ◌∙◌, subst}
use mathlib.Core.Bool.{Bool, true, false, not, beq}
use mathlib.Core.List.{List}
use mathlib.Core.Logic.{◌⊎◌, inl, inr}
use native.Mathlib.Nat.{sub-zero, one-mul, div-eq_of_lt, mod-eq_of_lt}
use native.Mathlib.Omega.{arith}
use lib.Bits.{bit_xor, xor_lt}
use lib.Dec.{eqb}
use lib.ListN.{get_or, length}
use lib.Pow.{pow-add, pow-lt, pow_pos, shl-shr, shl_exact}
use Rattle.lists.proofs.Bools.{and_split}
use Rattle.lists.proofs.Numbers.{eq-or-ne, lt-or-le}
use Rattle.shape.specs.Shape.{Fit, index_fits, widths_of, shape_number}
use Rattle.shape.specs.declared.Shape.{Shape}
use Rattle.shape.proofs.ShapeLaws.{index_fits-below, widths_of-fit}
use Rattle.split.specs.Steps.{steps_below, step_number, attribute_depth, steps_of}
use Rattle.split.specs.Bits.{bit_of, split_bit}
use Rattle.split.proofs.BitLaws.{split_bit-step_number}
use Rattle.split.proofs.DepthLaws.{step_of, step_number-below}
use Rattle.pairs.specs.Pairs.{StepPair}
use Rattle.cell.specs.Cell.{Agree}
use Rattle.region.specs.Strings.{sibling}
use Rattle.region.proofs.StringLaws.{with_bit-same, with_bit-other}
use Rattle.record.specs.Packed.{packed_value, unpacked_key}
use Rattle.record.proofs.PackedLaws.{get_d-unpacked_key}
use Rattle.key_order.proofs.BitLaws.{bit-packed_value, packed_value-xor, bit_of-xor}
use Rattle.page_ends.specs.Ends.{key_begins}
use Rattle.page_ends.proofs.BeginLaws.{SameFixed, key_begins-same_fixed}
use Rattle.delete_siblings.specs.Siblings.{SiblingKey}
use Rattle.delete_siblings.specs.Private.{flipped_key}

-- ---- a power of two

-- a greater one by a smaller one
pow-split : (e m d : ℕ) → e ≡ d + m → 2 ^ e / 2 ^ m ≡ 2 ^ d
pow-split e m d h =
    ap (λ n. 2 ^ n / 2 ^ m) h ∙ ap (λ n. n / 2 ^ m) (pow-add 2 d m) ∙ shl-shr (2 ^ d) m

-- its bit e is 1, the others are 0
pow-bit : (e : ℕ) → 2 ^ e / 2 ^ e % 2 ≡ 1
pow-bit e = ap (λ n. n % 2) (pow-split e e 0 (omega arith))

pow-bit-other : (e m : ℕ) → (e ≡ m → ⊥) → 2 ^ e / 2 ^ m % 2 ≡ 0
pow-bit-other e m n = go (lt-or-le e m)
  where
    go : (e < m) ⊎ (m ≤ e) → 2 ^ e / 2 ^ m % 2 ≡ 0
    go (inl l) = ap (λ n. n % 2) (div-eq_of_lt (pow-lt l))
    go (inr l) =
        let d = e - suc m in
        let above : e ≡ (d + 1) + m = omega (arith, n) in
        let even = pow-add 2 d 1 in
        ap (λ n. n % 2) (pow-split e m (d + 1) above ∙ even) ∙ omega arith

-- as a packed key it has one value other than 0
packed_value-pow : (j i : ℕ) → i < 16 → packed_value (2 ^ (16 * j + i)) j ≡ 2 ^ i
packed_value-pow j i h =
    let own : 16 * j + i ≡ i + 16 * j = omega arith in
    ap (λ n. n % 2 ^ 16) (pow-split (16 * j + i) (16 * j) i own) ∙ mod-eq_of_lt (pow-lt h)

packed_value-pow-other : (j i z : ℕ) → i < 16 → (j ≡ z → ⊥) → packed_value (2 ^ (16 * j + i)) z ≡ 0
packed_value-pow-other j i z h n = go (lt-or-le j z)
  where
    go : (j < z) ⊎ (z ≤ j) → packed_value (2 ^ (16 * j + i)) z ≡ 0
    go (inl l) = ap (λ n. n % 2 ^ 16) (div-eq_of_lt (pow-lt (omega arith)))
    go (inr l) =
        let d = 16 * j + i - 16 * z - 16 in
        let above : 16 * j + i ≡ (d + 16) + 16 * z = omega (arith, n) in
        let many = pow-add 2 d 16 in
        ap (λ n. n % 2 ^ 16) (pow-split (16 * j + i) (16 * z) (d + 16) above ∙ many) ∙ omega arith

-- ---- a bit and one that tells whether it is the other

flipped : (β : Bool) → not (beq β true) ≡ not β
flipped true = refl
flipped false = refl

kept : (β : Bool) → not (beq β false) ≡ β
kept true = refl
kept false = refl

-- ---- bit k of attribute j

module _ (ws : List ℕ) (four : length ws ≡ 4) (fit : Fit ws) (key : ℕ)
    (fits : index_fits ws (unpacked_key key) ≡ true) (k j : ℕ) (hj : j < 4) (hk : k < get_or ws j 0) where
  -- its place in a packed key, and the key with the other bit there
  abbrev at : ℕ → ℕ → ℕ
  at k j = 16 * j + (get_or ws j 0 - suc k)

  abbrev pub beside_key : ℕ
  beside_key = bit_xor key (2 ^ at k j)

  -- ---- within the widths

  pow-lt-width : (z : ℕ) → z < 4 → packed_value (2 ^ at k j) z < 2 ^ get_or ws z 0
  pow-lt-width z l = go (eq-or-ne j z)
    where
      small : get_or ws j 0 - suc k < 16
      small = omega (arith, fit j)

      go : (j ≡ z) ⊎ (j ≡ z → ⊥) → packed_value (2 ^ at k j) z < 2 ^ get_or ws z 0
      go (inl e) =
          subst (λ z. packed_value (2 ^ at k j) z < 2 ^ get_or ws z 0) e
          (rw (packed_value-pow j (get_or ws j 0 - suc k) small) (pow-lt (omega arith)))
      go (inr n) = rw (packed_value-pow-other j (get_or ws j 0 - suc k) z small n) (pow_pos (get_or ws z 0))

  value-lt : (z : ℕ) → z < 4 → packed_value key z < 2 ^ get_or ws z 0
  value-lt z l = rw (get_d-unpacked_key key z l) at (index_fits-below ws (unpacked_key key) fits z (omega arith))

  beside-lt : (z : ℕ) → z < 4 → packed_value beside_key z < 2 ^ get_or ws z 0
  beside-lt z l =
      rw (packed_value-xor key (2 ^ at k j) z)
      (xor_lt (get_or ws z 0) (packed_value key z) (packed_value (2 ^ at k j) z) (value-lt z l) (pow-lt-width z l))

  -- nothing of both is past the widths
  same-past : SameFixed ws 0 (unpacked_key beside_key) (unpacked_key key)
  unfolding attribute_depth steps_of
  same-past z l =
      rw (get_d-unpacked_key beside_key z l, get_d-unpacked_key key z l, sub-zero (get_or ws z 0))
      (div-eq_of_lt (beside-lt z l) ∙ sym (div-eq_of_lt (value-lt z l)))

  pub index_fits-beside_key : index_fits ws (unpacked_key beside_key) ≡ true
  unfolding key_begins
  index_fits-beside_key =
      (and_split _ _
      ((key_begins-same_fixed ws four fit 0 (omega arith) (unpacked_key beside_key) (unpacked_key key) fits).1 same-past)).0

  -- ---- its split bits

  -- bit m of attribute z, by that of the power
  split_bit-xor : (m z : ℕ) → z < 4 → m < get_or ws z 0 → (b : ℕ) → 2 ^ at k j / 2 ^ at m z % 2 ≡ b
      → split_bit ws (unpacked_key beside_key) (step_number ws m z)
      ≡ not (beq (split_bit ws (unpacked_key key) (step_number ws m z)) (eqb b 1))
  split_bit-xor m z l h b e =
      let w = get_or ws z 0 in
      let own : split_bit ws (unpacked_key key) (step_number ws m z) ≡ bit_of w (packed_value key z) m =
      split_bit-step_number ws fit (unpacked_key key) m z l h ∙ ap (λ v. bit_of w v m) (get_d-unpacked_key key z l) in
      let pow : bit_of w (packed_value (2 ^ at k j) z) m ≡ eqb b 1 =
      ap (λ n. eqb n 1) (bit-packed_value (2 ^ at k j) z (w - suc m) (omega (arith, fit z)) ∙ e) in
      split_bit-step_number ws fit (unpacked_key beside_key) m z l h
      ∙ ap (λ v. bit_of w v m) (get_d-unpacked_key beside_key z l)
      ∙ bit_of-xor w key (2 ^ at k j) z m
      ∙ ap (λ β. not (beq β (bit_of w (packed_value (2 ^ at k j) z) m))) (sym own)
      ∙ ap (λ β. not (beq (split_bit ws (unpacked_key key) (step_number ws m z)) β)) pow

  split_bit-at : split_bit ws (unpacked_key beside_key) (step_number ws k j)
      ≡ not (split_bit ws (unpacked_key key) (step_number ws k j))
  split_bit-at =
      split_bit-xor k j hj hk 1 (pow-bit (at k j)) ∙ flipped (split_bit ws (unpacked_key key) (step_number ws k j))

  -- two steps at one place of a packed key are the same
  at-one-to-one : (m z : ℕ) → z < 4 → m < get_or ws z 0 → at k j ≡ at m z → step_number ws m z ≡ step_number ws k j
  at-one-to-one m z l h e =
      let same : z ≡ j = omega (arith, fit j, fit z) in
      let width = ap (λ i. get_or ws i 0) same in
      let bit : m ≡ k = omega (arith, e, same, width) in
      (λ i. step_number ws (bit i) (same i))

  split_bit-apart : (m z : ℕ) → z < 4 → m < get_or ws z 0 → (step_number ws m z ≡ step_number ws k j → ⊥)
      → split_bit ws (unpacked_key beside_key) (step_number ws m z) ≡ split_bit ws (unpacked_key key) (step_number ws m z)
  split_bit-apart m z l h n =
      split_bit-xor m z l h 0 (pow-bit-other (at k j) (at m z) (λ e. n (at-one-to-one m z l h e)))
      ∙ kept (split_bit ws (unpacked_key key) (step_number ws m z))

  -- it falls into the sibling of the key's region that ends with that bit
  pub agree-beside_key : Agree (suc (step_number ws k j)) (sibling (split_bit ws (unpacked_key key)) (step_number ws k j))
      (split_bit ws (unpacked_key beside_key))
  agree-beside_key t l = go (eq-or-ne t x)
    where
      x : ℕ
      x = step_number ws k j

      p : ℕ → Bool
      p = split_bit ws (unpacked_key key)

      go : (t ≡ x) ⊎ (t ≡ x → ⊥) → sibling p x t ≡ split_bit ws (unpacked_key beside_key) t
      go (inl e) = rw e (with_bit-same p x (not (p x)) ∙ sym split_bit-at)
      go (inr n) =
          let st = step_of ws t (omega (arith, l, step_number-below ws fit k j hj hk)) in
          with_bit-other p x (not (p x)) t n
          ∙ subst (λ u. p u ≡ split_bit ws (unpacked_key beside_key) u) st.4
          (sym (split_bit-apart st.0 st.1 st.2 st.3 (λ e. n (sym st.4 ∙ e))))

-- ---- a shape's widths

-- by the place of the step
pub sibling_key : (s : Shape) → shape_number s ≡ 0 → (key : ℕ) → index_fits (widths_of s) (unpacked_key key) ≡ true
    → (ws : List ℕ) → ws ≡ widths_of s → (z g : ℕ) → StepPair ws z g → SiblingKey s key z (flipped_key ws g key)
unfolding step_number widths_of
sibling_key s good key fits ws same z g pair =
    record {
      fits =
          subst (λ v. index_fits vs (unpacked_key (flipped_key v g key)) ≡ true) (sym same)
          (index_fits-beside_key vs refl fit key fits (g / 4) (g % 4) (omega arith) here.live);
      agree =
          subst (λ v. Agree (suc z) (sibling (split_bit vs (unpacked_key key)) z)
          (split_bit vs (unpacked_key (flipped_key v g key)))) (sym same)
          (subst (λ y. Agree (suc y) (sibling (split_bit vs (unpacked_key key)) y)
          (split_bit vs (unpacked_key (flipped_key vs g key)))) number
          (agree-beside_key vs refl fit key fits (g / 4) (g % 4) (omega arith) here.live));
    }
  where
    vs : List ℕ
    vs = widths_of s

    fit : Fit vs
    fit = widths_of-fit s good

    here : StepPair vs z g
    here = subst (λ v. StepPair v z g) same pair

    number : step_number vs (g / 4) (g % 4) ≡ z
    number =
        let whole : 4 * (g / 4) + g % 4 ≡ g = omega arith in
        ap (λ x. length (steps_below vs x)) whole ∙ here.before

-- with 1 shifted to the place of the bit
pub flipped_key-shift : (ws : List ℕ) → Fit ws → (g key w : ℕ) → g / 4 < get_or ws (g % 4) 0 → w ≡ get_or ws (g % 4) 0
    → bit_xor key ((1 * 2 ^ (16 * (g % 4) + (w - (g / 4 + 1)))) % 2 ^ 64) ≡ flipped_key ws g key
flipped_key-shift ws fit g key w live own = ap (bit_xor key) shifted
  where
    place : ℕ
    place = 16 * (g % 4) + (get_or ws (g % 4) 0 - suc (g / 4))

    shifted : (1 * 2 ^ (16 * (g % 4) + (w - (g / 4 + 1)))) % 2 ^ 64 ≡ 2 ^ place
    shifted =
        let e : 16 * (g % 4) + (w - (g / 4 + 1)) ≡ place = omega (arith, own) in
        ap (λ n. (1 * 2 ^ n) % 2 ^ 64) e
        ∙ shl_exact {a = 1} 1 place 64 (omega arith) (omega (arith, fit (g % 4), live))
        ∙ one-mul (2 ^ place)
