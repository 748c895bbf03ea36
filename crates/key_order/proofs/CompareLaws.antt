-- Laws of two packed keys compared by the top bits of their differences: no bit, and the leading one in the first
-- attribute that has it. Assumes nothing.
use Prim.Native.Nat.{ℕ, zero, suc, ◌+◌, ◌*◌, ◌-◌, ◌/◌, ◌%◌, ◌^◌, ◌≤◌, ◌<◌}
use mathlib.Core.Path.{◌≡◌, refl, sym, ap, ◌∙◌, subst}
use mathlib.Core.Bool.{Bool, true, false, cond}
use mathlib.Core.List.{List, [], ◌∷◌}
use mathlib.Core.Logic.{◌⊎◌, inl, inr}
use native.Mathlib.Omega.{arith}
use lib.Bits.{bit_or, bit_xor, and_le_l, and_le_r, or_add_and, or_lt}
use lib.Dec.{eqb}
use lib.ListN.{get_or, length}
use lib.Pow.{pow_pos}
use borrow.Author.Tests.{ne_eqb}
use Rattle.lists.proofs.Numbers.{lt-or-le, eq-or-ne, pow_below}
use Rattle.shape.specs.Shape.{Fit, total}
use Rattle.split.specs.Steps.{steps}
use Rattle.split.specs.Bits.{bit_of}
use Rattle.split.proofs.StepLaws.{length-steps}
use Rattle.record.specs.Packed.{packed_value, unpacked_key}
use Rattle.pairs.specs.Pairs.{IsStep}
use Rattle.std.specs.declared.cmp.Ordering.TheVariants.{Less, Equal, Greater}
use Rattle.key_order.specs.Order.{compared, FirstPair}
use Rattle.key_order.specs.Private.{has_bit, top_bits, LeadingOne, key_bit, of_first, BitOfFirst}
use Rattle.key_order.proofs.BitLaws.{lt-of-has_bit}
use Rattle.key_order.proofs.LeadingLaws.{top_bits-lt, has_bit-top_bits, width-of-has_bit, bit_of-below}
use Rattle.key_order.proofs.PairLaws.{pair_bit-unpacked_key, xor_bit, first_pair-of-xor}
use Rattle.key_order.proofs.StepLaws.{compared_same, compared-differ}

-- ---- numbers together

or-le-l : (a b : ℕ) → a ≤ bit_or a b
or-le-l a b = omega (arith, or_add_and a b, and_le_r a b)

or-le-r : (a b : ℕ) → b ≤ bit_or a b
or-le-r a b = omega (arith, or_add_and a b, and_le_l a b)

module _ (d : ℕ → ℕ) where
  -- all from d 0 to d n
  abbrev or_to : ℕ → ℕ
  or_to zero = d 0
  or_to (suc n) = bit_or (or_to n) (d (suc n))

  le-or_to : (n r : ℕ) → r ≤ n → d r ≤ or_to n
  le-or_to zero zero h = omega arith
  le-or_to zero (suc r) h = absurd (omega arith)
  le-or_to (suc n) r h = go (eq-or-ne r (suc n)) (le-or_to n r)
    where
      go : (r ≡ suc n) ⊎ (r ≡ suc n → ⊥) → (r ≤ n → d r ≤ or_to n) → d r ≤ or_to (suc n)
      go (inl e) ih = subst (λ q. d q ≤ or_to (suc n)) (sym e) (or-le-r (or_to n) (d (suc n)))
      go (inr o) ih = omega (arith, ih (omega arith), or-le-l (or_to n) (d (suc n)))

  or_to-lt : (m n : ℕ) → ((r : ℕ) → r ≤ n → d r < 2 ^ m) → or_to n < 2 ^ m
  or_to-lt m zero h = h 0 (omega arith)
  or_to-lt m (suc n) h =
      or_lt m (or_to n) (d (suc n)) (or_to-lt m n (λ r l. h r (omega arith))) (h (suc n) (omega arith))

-- ---- the first attribute that has the leading one

module _ (ws : List ℕ) (fit : Fit ws) (x y : ℕ) where
  abbrev z : ℕ
  z = bit_xor x y

  -- the bits in which attribute r differs
  abbrev differing : ℕ → ℕ
  differing r = top_bits (get_or ws r 0) (packed_value z r)

  zero-below : (m h : ℕ) → or_to differing 3 < 2 ^ m → h / 4 + m < 64 → IsStep ws h → xor_bit ws x y h ≡ false
  zero-below m h small past live =
      let r = h % 4 in
      bit_of-below (get_or ws r 0) (packed_value z r) (h / 4) m (fit r) live
      (omega (arith, le-or_to differing 3 r (omega arith))) past

  first_pair-none : or_to differing 3 ≡ 0 → FirstPair ws (unpacked_key x) (unpacked_key y) 64
  first_pair-none e =
      first_pair-of-xor ws x y 64 (omega arith) (λ h l live. zero-below 0 h (omega arith) (omega arith) live)
      (λ l. absurd (omega arith)) (λ l. absurd (omega arith))

  module _ (j k s : ℕ) (hj : j < 4) (place : k + suc s ≡ 64) (small : or_to differing 3 < 2 ^ suc s)
      (zero-before : (r : ℕ) → r < j → key_bit ws z s r ≡ false) (one : key_bit ws z s j ≡ true) where
    abbrev g : ℕ
    g = 4 * k + j

    k-is : k ≡ g / 4
    k-is = omega arith

    j-is : j ≡ g % 4
    j-is = omega arith

    live : k < get_or ws j 0
    live = width-of-has_bit (get_or ws j 0) (packed_value z j) k s (fit j) place one

    bit-there : (key : ℕ) → bit_of (get_or ws (g % 4) 0) (packed_value key (g % 4)) (g / 4) ≡ key_bit ws key s j
    bit-there key =
        sym (λ i. bit_of (get_or ws (j-is i) 0) (packed_value key (j-is i)) (k-is i))
        ∙ sym (has_bit-top_bits (get_or ws j 0) (packed_value key j) k s (fit j) place live)

    zero-before-place : (h : ℕ) → h < g → IsStep ws h → xor_bit ws x y h ≡ false
    zero-before-place h l step = go (lt-or-le (h / 4) k)
      where
        go : (h / 4 < k) ⊎ (k ≤ h / 4) → xor_bit ws x y h ≡ false
        go (inl b) = zero-below (suc s) h small (omega arith) step
        go (inr b) =
            sym (has_bit-top_bits (get_or ws (h % 4) 0) (packed_value z (h % 4)) (h / 4) s (fit (h % 4)) (omega arith) step)
            ∙ zero-before (h % 4) (omega arith)

    low : g < 64
    low = omega (arith, fit j, live)

    first_pair-leading : FirstPair ws (unpacked_key x) (unpacked_key y) g
    first_pair-leading =
        first_pair-of-xor ws x y g (omega (arith, low)) zero-before-place
        (λ l. subst (λ q. g / 4 < get_or ws q 0) j-is (subst (λ q. q < get_or ws j 0) k-is live))
        (λ l. bit-there z ∙ one)

    compared-attribute : length (steps ws) ≡ total ws
        → compared ws (unpacked_key x) (unpacked_key y) ≡ cond (key_bit ws x s j) Greater Less
    compared-attribute all =
        compared-differ ws fit (unpacked_key x) (unpacked_key y) g first_pair-leading all low
        ∙ ap (λ β. cond β Greater Less) (pair_bit-unpacked_key ws x g ∙ bit-there x)

  -- ---- how the keys stand to each other

  module _ (all : length (steps ws) ≡ total ws) where
    compared-none : or_to differing 3 ≡ 0 → compared ws (unpacked_key x) (unpacked_key y) ≡ Equal
    compared-none e =
        compared_same ws fit (unpacked_key x) (unpacked_key y) 64 (first_pair-none e) all (omega arith)

    compared-first : (bit : ℕ) (h : LeadingOne (or_to differing 3) bit)
        → compared ws (unpacked_key x) (unpacked_key y)
        ≡ cond (of_first (key_bit ws z h.place) (key_bit ws x h.place)) Greater Less
    compared-first bit h = go (has 0) (has 1) (has 2) (has 3) refl refl refl refl
      where
        s : ℕ
        s = h.place

        has : ℕ → Bool
        has = key_bit ws z s

        low-place : s < 64
        low-place =
            pow_below s 64 (or_to differing 3) h.low
            (or_to-lt differing 64 3 (λ r l. top_bits-lt (get_or ws r 0) (packed_value z r) (fit r)))

        at : (j : ℕ) → j < 4 → ((r : ℕ) → r < j → has r ≡ false) → has j ≡ true
            → compared ws (unpacked_key x) (unpacked_key y) ≡ cond (key_bit ws x s j) Greater Less
        at j l before one = compared-attribute j (63 - s) s l (omega (arith, low-place)) h.high before one all

        Zero : ℕ → Type 0
        Zero n = (r : ℕ) → r < n → has r ≡ false

        none : Zero 0
        none r l = absurd (omega arith)

        also : (n : ℕ) → Zero n → has n ≡ false → Zero (suc n)
        also n before e r l = turn (eq-or-ne r n)
          where
            turn : (r ≡ n) ⊎ (r ≡ n → ⊥) → has r ≡ false
            turn (inl q) = ap has q ∙ e
            turn (inr o) = before r (omega arith)

        not-all : Zero 4 → ⊥
        not-all zeros =
            let below = or_to-lt differing s 3 (λ r l. lt-of-has_bit (differing r) s
            (omega (arith, le-or_to differing 3 r l, h.high)) (zeros r (omega arith))) in
            omega (arith, below, h.low)

        go : (β0 β1 β2 β3 : Bool) → has 0 ≡ β0 → has 1 ≡ β1 → has 2 ≡ β2 → has 3 ≡ β3
            → compared ws (unpacked_key x) (unpacked_key y)
            ≡ cond (cond β0 (key_bit ws x s 0) (cond β1 (key_bit ws x s 1) (cond β2 (key_bit ws x s 2) (key_bit ws x s 3))))
            Greater Less
        go true β1 β2 β3 e0 e1 e2 e3 = at 0 (omega arith) none e0
        go false true β2 β3 e0 e1 e2 e3 = at 1 (omega arith) (also 0 none e0) e1
        go false false true β3 e0 e1 e2 e3 = at 2 (omega arith) (also 1 (also 0 none e0) e1) e2
        go false false false true e0 e1 e2 e3 = at 3 (omega arith) (also 2 (also 1 (also 0 none e0) e1) e2) e3
        go false false false false e0 e1 e2 e3 =
            absurd (not-all (also 3 (also 2 (also 1 (also 0 none e0) e1) e2) e3))

-- ---- the four attributes together

module _ (w0 w1 w2 w3 : ℕ) (fit : Fit (w0 ∷ w1 ∷ w2 ∷ w3 ∷ [])) (x y d0 d1 d2 d3 : ℕ)
    (e0 : d0 ≡ top_bits w0 (packed_value (bit_xor x y) 0)) (e1 : d1 ≡ top_bits w1 (packed_value (bit_xor x y) 1))
    (e2 : d2 ≡ top_bits w2 (packed_value (bit_xor x y) 2)) (e3 : d3 ≡ top_bits w3 (packed_value (bit_xor x y) 3)) where
  abbrev ws : List ℕ
  ws = w0 ∷ w1 ∷ w2 ∷ w3 ∷ []

  together : bit_or (bit_or (bit_or d0 d1) d2) d3 ≡ or_to (differing ws fit x y) 3
  together i = bit_or (bit_or (bit_or (e0 i) (e1 i)) (e2 i)) (e3 i)

  pub compared-zero : bit_or (bit_or (bit_or d0 d1) d2) d3 ≡ 0 → compared ws (unpacked_key x) (unpacked_key y) ≡ Equal
  compared-zero e = compared-none ws fit x y (length-steps w0 w1 w2 w3 fit) (sym together ∙ e)

  pub compared-bit : (bit r : ℕ) → LeadingOne (bit_or (bit_or (bit_or d0 d1) d2) d3) bit
      → BitOfFirst ws x bit d0 d1 d2 r → compared ws (unpacked_key x) (unpacked_key y) ≡ cond (eqb r 0) Less Greater
  compared-bit bit r one first =
      let h = subst (λ n. LeadingOne n bit) together one in
      let s = h.place in
      compared-first ws fit x y (length-steps w0 w1 w2 w3 fit) bit h
      ∙ tested (of_first (key_bit ws (bit_xor x y) s) (key_bit ws x s)) s
      ∙ ap (λ n. cond (eqb n 0) Less Greater) (sym
      (first s h.is-power
      ∙ (λ i. cond (cond (has_bit s (e0 i)) (key_bit ws x s 0) (cond (has_bit s (e1 i)) (key_bit ws x s 1)
      (cond (has_bit s (e2 i)) (key_bit ws x s 2) (key_bit ws x s 3)))) (h.is-power i) 0)))
    where
      tested : (β : Bool) (s : ℕ) → cond β Greater Less ≡ cond (eqb (cond β (2 ^ s) 0) 0) Less Greater
      tested true s = ap (λ α. cond α Less Greater) (sym (ne_eqb (2 ^ s) 0 (λ e. omega (arith, pow_pos s))))
      tested false s = refl
