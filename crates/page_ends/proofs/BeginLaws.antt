-- Laws of keys that begin with a string: a key has values in bounds and begins with the first x split bits of one that
-- has, exactly if their values are the same above the w_j − h_j bits that are free. Assumes nothing.
use Prim.Native.Nat.{ℕ, suc, ◌+◌, ◌-◌, ◌/◌, ◌%◌, ◌^◌, ◌≤◌, ◌<◌}
use mathlib.Core.Path.{◌≡◌, refl, sym, ap, ◌∙◌, subst}
use mathlib.Core.Bool.{true}
use mathlib.Core.List.{List, [], ◌∷◌}
use mathlib.Core.Logic.{◌↔◌}
use native.Mathlib.Omega.{arith}
use native.Mathlib.Nat.{le_trans, div-lt_iff_lt-mul}
use lib.Dec.{eqb, ltb}
use lib.ListN.{get_or, length}
use lib.Pow.{pow-add, pow_pos, shr_lt, shr-shr}
use borrow.Author.Tests.{lt-ltb}
use Rattle.lists.proofs.Bools.{and_split, and_both}
use Rattle.shape.specs.Shape.{Fit, total, index_fits}
use Rattle.shape.proofs.AttributeLaws.{per_attribute-get_d}
use Rattle.shape.proofs.ShapeLaws.{index_fits-below}
use Rattle.split.specs.Steps.{steps, step_number, attribute_depth}
use Rattle.split.specs.Bits.{bit_of, split_bit}
use Rattle.split.proofs.StepLaws.{length-steps}
use Rattle.split.proofs.DepthLaws.{step_of, attribute_depth-width, lt-attribute_depth, step_number-lt-attribute_depth}
use Rattle.split.proofs.BitLaws.{split_bit-step_number}
use Rattle.region.specs.Strings.{same_bits}
use Rattle.region.proofs.StringLaws.{bit-of-same_bits, same_bits-below}
use Rattle.record.proofs.KeyLaws.{eq-of-bit_of}
use Rattle.page_ends.specs.Ends.{key_begins}

-- ---- the first h bits of a value of w

-- they are the bits of a quotient
pub bit_of-high : (w h v k : ℕ) → h ≤ w → k < h → bit_of h (v / 2 ^ (w - h)) k ≡ bit_of w v k
bit_of-high w h v k l m =
    let e : (w - h) + (h - suc k) ≡ w - suc k = omega arith in
    ap (λ n. eqb (n % 2) 1) (shr-shr v (w - h) (h - suc k) ∙ ap (λ i. v / 2 ^ i) e)

high_lt : (w h v : ℕ) → h ≤ w → v < 2 ^ w → v / 2 ^ (w - h) < 2 ^ h
high_lt w h v l b =
    let e : w ≡ h + (w - h) = omega arith in
    shr_lt h (w - h) (subst (λ i. v < 2 ^ i) e b)

lt-of-high : (w h v : ℕ) → h ≤ w → v / 2 ^ (w - h) < 2 ^ h → v < 2 ^ w
lt-of-high w h v l b =
    let e : h + (w - h) ≡ w = omega arith in
    subst (λ n. v < n) (sym (pow-add 2 h (w - h)) ∙ ap (λ i. 2 ^ i) e) ((div-lt_iff_lt-mul (pow_pos (w - h))).0 b)

-- ---- values within the widths

pub index_fits-of-below : (ws is : List ℕ) → ((j : ℕ) → j < length ws → get_or is j 0 < 2 ^ get_or ws j 0)
    → index_fits ws is ≡ true
index_fits-of-below [] is h = refl
index_fits-of-below (w ∷ ws) [] h = refl
index_fits-of-below (w ∷ ws) (i ∷ is) h =
    and_both (ltb i (2 ^ w)) (index_fits ws is) (lt-ltb i (2 ^ w) (h 0 (omega arith)))
    (index_fits-of-below ws is (λ j l. h (suc j) (omega arith)))

-- ---- keys

pub length-steps-four : (ws : List ℕ) → length ws ≡ 4 → Fit ws → length (steps ws) ≡ total ws
length-steps-four ws four fit =
    let e = per_attribute-get_d 0 ws four in
    subst (λ l. length (steps l) ≡ total l) e (length-steps _ _ _ _ (λ j. subst (λ l. get_or l j 0 ≤ 16) (sym e) (fit j)))

module _ (ws : List ℕ) (x : ℕ) where
  -- how many bits of a value of attribute j are free after x steps
  abbrev pub free_bits : ℕ → ℕ
  free_bits j = get_or ws j 0 - attribute_depth ws x j

  -- two keys have the same bits above the free ones
  abbrev pub SameFixed : List ℕ → List ℕ → Type 0
  SameFixed key other = (j : ℕ) → j < 4 → get_or key j 0 / 2 ^ free_bits j ≡ get_or other j 0 / 2 ^ free_bits j

module _ (ws : List ℕ) (four : length ws ≡ 4) (fit : Fit ws) (x : ℕ) (within : x ≤ total ws) where
  module _ (key other : List ℕ) (fits : index_fits ws other ≡ true) where
    below : (values : List ℕ) → index_fits ws values ≡ true → (j : ℕ) → j < 4 → get_or values j 0 < 2 ^ get_or ws j 0
    below values e j l = index_fits-below ws values e j (omega arith)

    -- bit k of attribute j, where it is fixed
    same_fixed-of-begins : key_begins ws x (split_bit ws other) key ≡ true → SameFixed ws x key other
    unfolding key_begins
    same_fixed-of-begins e j l =
        let parts = and_split (index_fits ws key) (same_bits (split_bit ws key) (split_bit ws other) x 0) e in
        let w = get_or ws j 0 in
        let h = attribute_depth ws x j in
        let hw = attribute_depth-width ws j x l in
        eq-of-bit_of h (get_or key j 0 / 2 ^ (w - h)) (get_or other j 0 / 2 ^ (w - h))
        (high_lt w h (get_or key j 0) hw (below key parts.0 j l))
        (high_lt w h (get_or other j 0) hw (below other fits j l))
        (λ k m.
        let kw : k < w = le_trans m hw in
        bit_of-high w h (get_or key j 0) k hw m
        ∙ sym (split_bit-step_number ws fit key k j l kw)
        ∙ sym (bit-of-same_bits (split_bit ws key) (split_bit ws other) x 0 parts.1 (step_number ws k j) (omega arith)
        (omega (arith, step_number-lt-attribute_depth ws fit x k j l m)))
        ∙ split_bit-step_number ws fit other k j l kw
        ∙ sym (bit_of-high w h (get_or other j 0) k hw m))

    fits-of-same_fixed : SameFixed ws x key other → index_fits ws key ≡ true
    fits-of-same_fixed e =
        index_fits-of-below ws key
        (λ j m.
        let l : j < 4 = omega arith in
        let hw = attribute_depth-width ws j x l in
        lt-of-high (get_or ws j 0) (attribute_depth ws x j) (get_or key j 0) hw
        (subst (λ n. n < 2 ^ attribute_depth ws x j) (sym (e j l))
        (high_lt (get_or ws j 0) (attribute_depth ws x j) (get_or other j 0) hw (below other fits j l))))

    begins-of-same_fixed : SameFixed ws x key other → key_begins ws x (split_bit ws other) key ≡ true
    unfolding key_begins
    begins-of-same_fixed e =
        and_both (index_fits ws key) (same_bits (split_bit ws key) (split_bit ws other) x 0) (fits-of-same_fixed e)
        (same_bits-below (split_bit ws key) (split_bit ws other) x x 0 (omega arith) bit)
      where
        bit : (t : ℕ) → t < x → split_bit ws key t ≡ split_bit ws other t
        bit t m =
            let st = step_of ws t (omega (arith, length-steps-four ws four fit)) in
            let k : ℕ = st.0 in
            let j : ℕ = st.1 in
            let l : j < 4 = st.2 in
            let kw = st.3 in
            let w = get_or ws j 0 in
            let h = attribute_depth ws x j in
            let hw = attribute_depth-width ws j x l in
            let kh : k < h = lt-attribute_depth ws fit x k j l kw (omega (arith, st.4)) in
            subst (λ u. split_bit ws key u ≡ split_bit ws other u) st.4
            (split_bit-step_number ws fit key k j l kw
            ∙ sym (bit_of-high w h (get_or key j 0) k hw kh)
            ∙ ap (λ v. bit_of h v k) (e j l)
            ∙ bit_of-high w h (get_or other j 0) k hw kh
            ∙ sym (split_bit-step_number ws fit other k j l kw))

    -- a key begins with the first x split bits of one within the widths
    pub key_begins-same_fixed : (key_begins ws x (split_bit ws other) key ≡ true) ↔ SameFixed ws x key other
    key_begins-same_fixed = (same_fixed-of-begins, begins-of-same_fixed)
