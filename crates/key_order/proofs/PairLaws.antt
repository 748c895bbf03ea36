-- Laws of the first pair in which two packed keys differ: the least of the four attributes' first bits in their
-- exclusive-or. Assumes nothing.
use Prim.Native.Nat.{ℕ, zero, suc, ◌+◌, ◌*◌, ◌/◌, ◌%◌, ◌-◌, ◌^◌, ◌≤◌, ◌<◌, min}
use mathlib.Core.Path.{◌≡◌, sym, ap, ◌∙◌, subst}
use mathlib.Core.Bool.{Bool, true, false, not, beq, true≢false}
use mathlib.Core.List.{List, [], ◌∷◌}
use mathlib.Core.Logic.{◌⊎◌, inl, inr}
use native.Mathlib.Omega.{arith}
use lib.Bits.{bit_and, bit_xor, and_mask}
use lib.Dec.{eqb}
use lib.ListN.{get_or}
use borrow.Author.Tests.{not-true, not-false}
use Rattle.lists.proofs.Bools.{eq-of-beq}
use Rattle.lists.proofs.Numbers.{lt-or-le}
use Rattle.split.specs.Bits.{bit_of}
use Rattle.record.specs.Packed.{packed_value, unpacked_key}
use Rattle.record.proofs.PackedLaws.{get_d-unpacked_key}
use Rattle.pairs.specs.Pairs.{IsStep, pair_bit}
use Rattle.key_order.specs.Order.{FirstPair}
use Rattle.key_order.specs.Private.{FirstBit}
use Rattle.key_order.proofs.BitLaws.{bit-packed_value, bit_of-xor}
use Rattle.key_order.proofs.CommonLaws.{beq-eq}

-- ---- the least of four numbers and 64

abbrev pub least : (ℕ → ℕ) → ℕ
least f = min (min (min (f 0) (f 1)) (min (f 2) (f 3))) 64

least-le : (f : ℕ → ℕ) (r : ℕ) → r < 4 → least f ≤ f r
least-le f zero h = omega arith
least-le f (suc zero) h = omega arith
least-le f (suc (suc zero)) h = omega arith
least-le f (suc (suc (suc zero))) h = omega arith
least-le f (suc (suc (suc (suc r)))) h = absurd (omega arith)

least-attained : (f : ℕ → ℕ) → least f < 64 → (r : ℕ) × (r < 4) × (f r ≡ least f)
least-attained f h = go (lt-or-le (least f) (f 0)) (lt-or-le (least f) (f 1)) (lt-or-le (least f) (f 2))
  where
    go : (least f < f 0) ⊎ (f 0 ≤ least f) → (least f < f 1) ⊎ (f 1 ≤ least f) → (least f < f 2) ⊎ (f 2 ≤ least f)
        → (r : ℕ) × (r < 4) × (f r ≡ least f)
    go (inr a) b c = (0, omega arith, omega arith)
    go (inl a) (inr b) c = (1, omega arith, omega arith)
    go (inl a) (inl b) (inr c) = (2, omega arith, omega arith)
    go (inl a) (inl b) (inl c) = (3, omega arith, omega arith)

-- ---- the bits of two keys

pub pair_bit-unpacked_key : (ws : List ℕ) (key g : ℕ)
    → pair_bit ws (unpacked_key key) g ≡ bit_of (get_or ws (g % 4) 0) (packed_value key (g % 4)) (g / 4)
pair_bit-unpacked_key ws key g =
    ap (λ v. bit_of (get_or ws (g % 4) 0) v (g / 4)) (get_d-unpacked_key key (g % 4) (omega arith))

module _ (ws : List ℕ) (x y : ℕ) where
  -- a bit of the exclusive-or, by its place
  abbrev pub xor_bit : ℕ → Bool
  xor_bit g = bit_of (get_or ws (g % 4) 0) (packed_value (bit_xor x y) (g % 4)) (g / 4)

  xor_bit-is : (g : ℕ) → xor_bit g ≡ not (beq (pair_bit ws (unpacked_key x) g) (pair_bit ws (unpacked_key y) g))
  xor_bit-is g =
      bit_of-xor (get_or ws (g % 4) 0) x y (g % 4) (g / 4)
      ∙ sym (λ i. not (beq (pair_bit-unpacked_key ws x g i) (pair_bit-unpacked_key ws y g i)))

  -- the first pair by the first of these bits that is 1
  pub first_pair-of-xor : (g : ℕ) → g ≤ 64 → ((h : ℕ) → h < g → IsStep ws h → xor_bit h ≡ false)
      → (g < 64 → IsStep ws g) → (g < 64 → xor_bit g ≡ true)
      → FirstPair ws (unpacked_key x) (unpacked_key y) g
  first_pair-of-xor g most zero-before step one =
      record {
        most = most;
        same-before = λ h l k.
            sym (eq-of-beq (pair_bit ws (unpacked_key x) h) (pair_bit ws (unpacked_key y) h)
            (not-false _ (sym (xor_bit-is h) ∙ zero-before h l k)));
        step-there = step;
        differ-there = λ l e.
            true≢false
            (sym (beq-eq (pair_bit ws (unpacked_key x) g) (pair_bit ws (unpacked_key y) g) e)
            ∙ not-true _ (sym (xor_bit-is g) ∙ one l));
      }

  module _ (f : ℕ → ℕ) (bits : (r : ℕ) → r < 4 → FirstBit (get_or ws r 0) (packed_value (bit_xor x y) r) r (f r)) where
    zero-below : (h : ℕ) → h < least f → IsStep ws h → xor_bit h ≡ false
    zero-below h l k =
        let r = h % 4 in
        let small : r < 4 = omega arith in
        let place : 4 * (h / 4) + r ≡ h = omega arith in
        (bits r small).zero-before (h / 4) k (omega (arith, least-le f r small))

    -- what holds at the place of the attribute that attains the least
    attained : (g r : ℕ) → f r ≡ g → g < 64 → r < 4 → IsStep ws g × (xor_bit g ≡ true)
    attained g r e l h =
        let b = bits r h in
        let at : f r < 64 = omega arith in
        let attribute : r ≡ g % 4 = sym (subst (λ p. p % 4 ≡ r) e (b.attribute-there at)) in (
          subst (λ q. g / 4 < get_or ws q 0) attribute (subst (λ p. p / 4 < get_or ws r 0) e (b.step-there at)),
          subst (λ q. bit_of (get_or ws q 0) (packed_value (bit_xor x y) q) (g / 4) ≡ true) attribute
              (subst (λ p. bit_of (get_or ws r 0) (packed_value (bit_xor x y) r) (p / 4) ≡ true) e (b.one-there at)),
        )

    there : least f < 64 → IsStep ws (least f) × (xor_bit (least f) ≡ true)
    there l = let a = least-attained f l in attained (least f) a.0 a.2 l a.1

    pub first_pair-least : FirstPair ws (unpacked_key x) (unpacked_key y) (least f)
    first_pair-least = first_pair-of-xor (least f) (omega arith) zero-below (λ l. (there l).0) (λ l. (there l).1)

-- ---- the four attributes together

pub first_pair-of : (w0 w1 w2 w3 x y p0 p1 p2 p3 g : ℕ) → FirstBit w0 (packed_value (bit_xor x y) 0) 0 p0
    → FirstBit w1 (packed_value (bit_xor x y) 1) 1 p1 → FirstBit w2 (packed_value (bit_xor x y) 2) 2 p2
    → FirstBit w3 (packed_value (bit_xor x y) 3) 3 p3 → g ≡ min (min (min p0 p1) (min p2 p3)) 64
    → FirstPair (w0 ∷ w1 ∷ w2 ∷ w3 ∷ []) (unpacked_key x) (unpacked_key y) g
first_pair-of w0 w1 w2 w3 x y p0 p1 p2 p3 g b0 b1 b2 b3 e =
    subst (FirstPair (w0 ∷ w1 ∷ w2 ∷ w3 ∷ []) (unpacked_key x) (unpacked_key y)) (sym e)
    (first_pair-least (w0 ∷ w1 ∷ w2 ∷ w3 ∷ []) x y (λ r. get_or (p0 ∷ p1 ∷ p2 ∷ p3 ∷ []) r 0) bits)
  where
    bits : (r : ℕ) → r < 4
        → FirstBit (get_or (w0 ∷ w1 ∷ w2 ∷ w3 ∷ []) r 0) (packed_value (bit_xor x y) r) r
        (get_or (p0 ∷ p1 ∷ p2 ∷ p3 ∷ []) r 0)
    bits zero h = b0
    bits (suc zero) h = b1
    bits (suc (suc zero)) h = b2
    bits (suc (suc (suc zero))) h = b3
    bits (suc (suc (suc (suc r)))) h = absurd (omega arith)

-- ---- a bit by shift and mask

pub shifted-bit : (key w g : ℕ) → w ≤ 16 → g / 4 < w
    → eqb (bit_and (key / 2 ^ (16 * (g % 4) + w - 1 - g / 4)) 1) 1 ≡ bit_of w (packed_value key (g % 4)) (g / 4)
shifted-bit key w g h l =
    let i = w - suc (g / 4) in
    let e : 16 * (g % 4) + w - 1 - g / 4 ≡ 16 * (g % 4) + i = omega arith in
    ap (λ b. eqb b 1)
    (ap (λ n. bit_and (key / 2 ^ n) 1) e
    ∙ and_mask (key / 2 ^ (16 * (g % 4) + i)) 1
    ∙ sym (bit-packed_value key (g % 4) i (omega arith)))
