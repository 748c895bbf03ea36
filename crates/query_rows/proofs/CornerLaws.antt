-- Laws of the low corner of a region: one step more adds the bit that the step sets in a packed key; under the mask of
-- the fixed bits a corner tells the region's keys. Assumes nothing.
use Prim.Native.Nat.{ℕ, zero, suc, ◌+◌, ◌*◌, ◌-◌, ◌/◌, ◌%◌, ◌^◌, ◌≤◌, ◌<◌}
use mathlib.Core.Path.{◌≡◌, refl, sym, ap, ◌∙◌, subst}
use mathlib.Core.Bool.{Bool, true, false, cond}
use mathlib.Core.List.{List}
use mathlib.Core.Logic.{◌⊎◌, inl, inr}
use native.Mathlib.Omega.{arith}
use native.Mathlib.Nat.{pow-suc, le_trans}
use lib.Dec.{eqb}
use lib.ListN.{get_or, length}
use lib.Pow.{pow_mono, pow_pos, shl_lt, shl-shr, shr-shr}
use borrow.Author.Tests.{eq-eqb, ne_eqb}
use Rattle.lists.proofs.Numbers.{eq-or-ne}
use Rattle.shape.specs.Shape.{Fit, total, index_fits}
use Rattle.shape.specs.Key.{per_attribute}
use Rattle.split.specs.Steps.{steps, steps_of, step_number, bit_value, attribute_depth}
use Rattle.split.specs.Bits.{bit_of, split_bit}
use Rattle.split.proofs.StepLaws.{StepBelow}
use Rattle.split.proofs.BitLaws.{split_bit-step_number}
use Rattle.split.proofs.DepthLaws.{attribute_depth-width, step_of, attribute_depth-z, attribute_depth-next}
use Rattle.split.proofs.DepthLaws.{attribute_depth-next-other, lt-attribute_depth}
use Rattle.split.proofs.DepthLaws.{step_number-lt-attribute_depth}
use Rattle.cell.specs.Cell.{Agree}
use Rattle.region.specs.Strings.{with_bit, empty_string}
use Rattle.region.proofs.StringLaws.{with_bit-same, with_bit-other}
use Rattle.record.specs.Packed.{packed_key, SixteenBits, packed_value, unpacked_key}
use Rattle.record.proofs.PackedLaws.{packed_key-lt, get_d-unpacked_key}
use Rattle.page_ends.specs.Ends.{fixed_bits, ends_begin, ends_agree}
use Rattle.page_ends.proofs.MaskLaws.{packed_value-packed_key}
use Rattle.page_ends.proofs.BeginLaws.{bit_of-high, index_fits-of-below, length-steps-four}
use Rattle.page_ends.proofs.AgreeLaws.{ends_begin-agree, ends_agree-ends_begin}
use Rattle.query_rows.specs.Corners.{Corner}
use Rattle.query_rows.specs.Rows.{value_bit}
use Rattle.query_rows.proofs.DepthLaws.{bit_value-lt, eqb-bit_value}
use Rattle.query_rows.proofs.FixedLaws.{value_bit-here, halves}

-- ---- one value more

-- y more of attribute z
packed_key-plus : (f g : ℕ → ℕ) (z y : ℕ) → z < 4 → g z ≡ f z + y → ((j : ℕ) → j < 4 → (j ≡ z → ⊥) → g j ≡ f j)
    → packed_key (per_attribute g) ≡ packed_key (per_attribute f) + 2 ^ (16 * z) * y
unfolding packed_key
packed_key-plus f g zero y h e o =
    omega (
      arith,
      o 1 (omega arith) (λ i. omega arith),
      o 2 (omega arith) (λ i. omega arith),
      o 3 (omega arith) (λ i. omega arith),
    )
packed_key-plus f g (suc zero) y h e o =
    omega (
      arith,
      o 0 (omega arith) (λ i. omega arith),
      o 2 (omega arith) (λ i. omega arith),
      o 3 (omega arith) (λ i. omega arith),
    )
packed_key-plus f g (suc (suc zero)) y h e o =
    omega (
      arith,
      o 0 (omega arith) (λ i. omega arith),
      o 1 (omega arith) (λ i. omega arith),
      o 3 (omega arith) (λ i. omega arith),
    )
packed_key-plus f g (suc (suc (suc zero))) y h e o =
    omega (
      arith,
      o 0 (omega arith) (λ i. omega arith),
      o 1 (omega arith) (λ i. omega arith),
      o 2 (omega arith) (λ i. omega arith),
    )
packed_key-plus f g (suc (suc (suc (suc z)))) y h e o = absurd (omega arith)

-- ---- the corner of a side

-- t is the number of the step (k, z)
module _ (ws : List ℕ) (fit : Fit ws) (t k z : ℕ) (hz : z < 4) (hk : k < get_or ws z 0)
    (number : step_number ws k z ≡ t) where
  -- its attribute's width
  abbrev w : ℕ
  w = get_or ws z 0

  module _ (p : ℕ → Bool) (key : ℕ) (c : Corner ws t p key) (β : Bool) where
    -- the first bits of attribute j: those of z one more
    abbrev first_of : ℕ → ℕ
    first_of j = cond (eqb j z) (2 * c.first j + bit_value β) (c.first j)

    first-here : first_of z ≡ 2 * c.first z + bit_value β
    first-here = rw (eq-eqb z z refl)

    first-other : (j : ℕ) → (j ≡ z → ⊥) → first_of j ≡ c.first j
    first-other j ne = rw (ne_eqb j z ne)

    packs-side : key + bit_value β * value_bit ws t
        ≡ packed_key (per_attribute (λ j. first_of j * 2 ^ (get_or ws j 0 - attribute_depth ws (suc t) j)))
    packs-side =
        ap (λ n. n + bit_value β * value_bit ws t) c.packs
        ∙ ap (λ n. packed_key (per_attribute (λ j. c.first j * 2 ^ (get_or ws j 0 - attribute_depth ws t j))) + n) more
        ∙ sym (packed_key-plus (λ j. c.first j * 2 ^ (get_or ws j 0 - attribute_depth ws t j))
        (λ j. first_of j * 2 ^ (get_or ws j 0 - attribute_depth ws (suc t) j)) z
        (bit_value β * 2 ^ (w - suc k)) hz here other)
      where
        more : bit_value β * value_bit ws t ≡ 2 ^ (16 * z) * (bit_value β * 2 ^ (w - suc k))
        more = ap (λ n. bit_value β * n) (value_bit-here ws fit t k z hz hk number) ∙ omega arith

        here : first_of z * 2 ^ (w - attribute_depth ws (suc t) z)
            ≡ c.first z * 2 ^ (w - attribute_depth ws t z) + bit_value β * 2 ^ (w - suc k)
        here =
            rw (
              first-here,
              attribute_depth-next ws fit k z hz hk number,
              attribute_depth-z ws fit k z hz hk number,
              halves ws fit t k z hz hk number,
            )
            (omega arith)

        other : (j : ℕ) → j < 4 → (j ≡ z → ⊥)
            → first_of j * 2 ^ (get_or ws j 0 - attribute_depth ws (suc t) j)
            ≡ c.first j * 2 ^ (get_or ws j 0 - attribute_depth ws t j)
        other j l ne = rw (first-other j ne, attribute_depth-next-other ws fit k z hz hk number j l ne)

    below-side : (j : ℕ) → j < 4 → (j ≡ z) ⊎ (j ≡ z → ⊥) → first_of j < 2 ^ attribute_depth ws (suc t) j
    below-side j l (inl e) =
        let old : c.first z < 2 ^ k =
        subst (λ d. c.first z < 2 ^ d) (attribute_depth-z ws fit k z hz hk number) (c.below z hz) in
        rw (e, first-here, attribute_depth-next ws fit k z hz hk number, pow-suc 2 k) (omega (arith, bit_value-lt β))
    below-side j l (inr ne) =
        rw (first-other j ne, attribute_depth-next-other ws fit k z hz hk number j l ne) (c.below j l)

    bits-side : (j i : ℕ) → j < 4 → i < attribute_depth ws (suc t) j → (j ≡ z) ⊎ (j ≡ z → ⊥)
        → bit_of (attribute_depth ws (suc t) j) (first_of j) i ≡ with_bit p t β (step_number ws i j)
    bits-side j i l h (inl e) =
        rw (e, first-here, attribute_depth-next ws fit k z hz hk number) (by_bit (eq-or-ne i k))
      where
        all : ℕ
        all = 2 * c.first z + bit_value β

        by_bit : (i ≡ k) ⊎ (i ≡ k → ⊥) → bit_of (suc k) all i ≡ with_bit p t β (step_number ws i z)
        by_bit (inl same) =
            let none : suc k - suc i ≡ 0 = omega arith in
            let low : all / 2 ^ 0 % 2 ≡ bit_value β = omega (arith, bit_value-lt β) in
            ap (λ n. eqb (all / 2 ^ n % 2) 1) none
            ∙ ap (λ n. eqb n 1) low
            ∙ eqb-bit_value β
            ∙ sym (with_bit-same p t β)
            ∙ ap (with_bit p t β) (sym (ap (λ n. step_number ws n z) same ∙ number))
        by_bit (inr ne) =
            let top : attribute_depth ws (suc t) j ≡ suc k =
            ap (attribute_depth ws (suc t)) e ∙ attribute_depth-next ws fit k z hz hk number in
            let inner : i < attribute_depth ws t z = omega (arith, attribute_depth-z ws fit k z hz hk number) in
            let before = step_number-lt-attribute_depth ws fit t i z hz inner in
            let more : suc k - suc i ≡ 1 + (k - suc i) = omega (arith, attribute_depth-z ws fit k z hz hk number) in
            let half : all / 2 ^ 1 ≡ c.first z = omega (arith, bit_value-lt β) in
            ap (λ n. eqb (all / 2 ^ n % 2) 1) more
            ∙ ap (λ n. eqb (n % 2) 1) (sym (shr-shr all 1 (k - suc i)) ∙ ap (λ n. n / 2 ^ (k - suc i)) half)
            ∙ subst (λ d. bit_of d (c.first z) i ≡ p (step_number ws i z)) (attribute_depth-z ws fit k z hz hk number)
            (c.bits z i hz inner)
            ∙ sym (with_bit-other p t β (step_number ws i z) (λ q. omega arith))
    bits-side j i l h (inr ne) =
        let inner : i < attribute_depth ws t j =
        omega (arith, attribute_depth-next-other ws fit k z hz hk number j l ne) in
        let before = step_number-lt-attribute_depth ws fit t i j l inner in
        rw (first-other j ne, attribute_depth-next-other ws fit k z hz hk number j l ne)
        (c.bits j i l inner ∙ sym (with_bit-other p t β (step_number ws i j) (λ q. omega arith)))

    Corner-here : Corner ws (suc t) (with_bit p t β) (key + bit_value β * value_bit ws t)
    Corner-here = record {
      first = first_of;
      packs = packs-side;
      below = λ j l. below-side j l (eq-or-ne j z);
      bits = λ j i l h. bits-side j i l h (eq-or-ne j z);
    }

module _ (ws : List ℕ) (fit : Fit ws) (t : ℕ) (h : t < length (steps ws)) where
  module _ (p : ℕ → Bool) (key : ℕ) (c : Corner ws t p key) where
    -- a 0-side has the region's corner
    pub Corner-lower : Corner ws (suc t) (with_bit p t false) key
    Corner-lower =
        let d = step_of ws t h in
        let same : key + 0 * value_bit ws t ≡ key = omega arith in
        subst (Corner ws (suc t) (with_bit p t false)) same
        (Corner-here ws fit t d.0 d.1 d.2 d.3 d.4 p key c false)

    -- a 1-side has the step's bit besides
    pub Corner-upper : Corner ws (suc t) (with_bit p t true) (key + value_bit ws t)
    Corner-upper =
        let d = step_of ws t h in
        let more : key + 1 * value_bit ws t ≡ key + value_bit ws t = omega arith in
        subst (Corner ws (suc t) (with_bit p t true)) more
        (Corner-here ws fit t d.0 d.1 d.2 d.3 d.4 p key c true)

-- ---- a corner

pub Corner-zero : (ws : List ℕ) → Corner ws 0 empty_string 0
unfolding packed_key attribute_depth steps_of
Corner-zero ws = record {
  first = λ j. 0;
  packs = omega arith;
  below = λ j l. pow_pos (attribute_depth ws 0 j);
  bits = λ j k l h. absurd (omega arith);
}

module _ (ws : List ℕ) (fit : Fit ws) (x : ℕ) (p : ℕ → Bool) (key : ℕ) (c : Corner ws x p key) where
  -- the values
  abbrev value : ℕ → ℕ
  value j = c.first j * 2 ^ (get_or ws j 0 - attribute_depth ws x j)

  value-lt : (j : ℕ) → j < 4 → value j < 2 ^ get_or ws j 0
  value-lt j l =
      let e : attribute_depth ws x j + (get_or ws j 0 - attribute_depth ws x j) ≡ get_or ws j 0 =
      omega (arith, attribute_depth-width ws j x l) in
      subst (λ n. value j < 2 ^ n) e
      (shl_lt (attribute_depth ws x j) (get_or ws j 0 - attribute_depth ws x j) (c.below j l))

  sixteen : SixteenBits (per_attribute value)
  sixteen zero = le_trans (value-lt 0 (omega arith)) (pow_mono (fit 0))
  sixteen (suc zero) = le_trans (value-lt 1 (omega arith)) (pow_mono (fit 1))
  sixteen (suc (suc zero)) = le_trans (value-lt 2 (omega arith)) (pow_mono (fit 2))
  sixteen (suc (suc (suc zero))) = le_trans (value-lt 3 (omega arith)) (pow_mono (fit 3))
  sixteen (suc (suc (suc (suc j)))) = omega arith

  pub Corner-lt : key < 2 ^ 64
  Corner-lt = rw c.packs (packed_key-lt (per_attribute value) sixteen)

  pub packed_value-corner : (j : ℕ) → j < 4 → packed_value key j ≡ value j
  packed_value-corner j l = ap (λ n. packed_value n j) c.packs ∙ packed_value-packed_key value sixteen j l

  unpacked : (j : ℕ) → j < 4 → get_or (unpacked_key key) j 0 ≡ value j
  unpacked j l = get_d-unpacked_key key j l ∙ packed_value-corner j l

  module _ (four : length ws ≡ 4) (within : x ≤ total ws) where
    fits : index_fits ws (unpacked_key key) ≡ true
    fits =
        index_fits-of-below ws (unpacked_key key)
        (λ j l.
        let m : j < 4 = omega arith in
        subst (λ n. n < 2 ^ get_or ws j 0) (sym (unpacked j m)) (value-lt j m))

    -- its split bits below x are the region's
    agree : Agree x (split_bit ws (unpacked_key key)) p
    agree t l = at (step_of ws t (omega (arith, length-steps-four ws four fit)))
      where
        at : StepBelow ws t 64 → split_bit ws (unpacked_key key) t ≡ p t
        at (k, j, hj, hk, number, low) =
            let w = get_or ws j 0 in
            let d = attribute_depth ws x j in
            let deep = attribute_depth-width ws j x hj in
            let kd : k < d = lt-attribute_depth ws fit x k j hj hk (omega arith) in
            subst (λ u. split_bit ws (unpacked_key key) u ≡ p u) number
            (split_bit-step_number ws fit (unpacked_key key) k j hj hk
            ∙ ap (λ v. bit_of w v k) (unpacked j hj)
            ∙ sym (bit_of-high w d (value j) k deep kd)
            ∙ ap (λ v. bit_of d v k) (shl-shr (c.first j) (w - d))
            ∙ c.bits j k hj kd)

    -- under the mask of the fixed bits it tells the region's keys
    pub ends_agree-corner : (bias : ℕ) (page : List ℕ) (n : ℕ)
        → ends_agree bias (fixed_bits ws x) key page n ≡ ends_begin ws bias x p page n
    ends_agree-corner bias page n =
        ends_agree-ends_begin ws four fit x within key fits bias page n
        ∙ ends_begin-agree ws bias x (split_bit ws (unpacked_key key)) p agree page n
