-- Laws of keys: a number by its bits; a key by its split bits; the same key as a test on split bits and as equal lists.
-- Assumes nothing.
use Prim.Native.Nat.{ℕ, zero, suc, ◌+◌, ◌-◌, ◌/◌, ◌%◌, ◌^◌, ◌≤◌, ◌<◌}
use mathlib.Core.Path.{◌≡◌, refl, sym, ap, ◌∙◌, subst}
use mathlib.Core.Bool.{Bool, true, false}
use mathlib.Core.List.{List, [], ◌∷◌}
use mathlib.Core.Logic.{◌⊎◌, inl, inr}
use native.Mathlib.Omega.{arith}
use native.Mathlib.Nat.{div-div-eq-div-mul, pow-succ', two-pow-succ, pow-zero, div-one, lt_of_lt_of_le}
use lib.Dec.{eqb}
use lib.ListN.{get_or, length, get_or-eq_default}
use lib.Pow.{pow_mono}
use borrow.Author.Tests.{eqb-true, eqb-false, eq-eqb}
use Rattle.lists.proofs.Bools.{eq-of-iff}
use Rattle.lists.proofs.Numbers.{lt-or-le}
use Rattle.shape.specs.Shape.{Fit, widths_of, total, all_below, index_fits, shape_number}
use Rattle.shape.specs.declared.Shape.{Shape}
use Rattle.shape.proofs.AttributeLaws.{per_attribute-get_d}
use Rattle.shape.proofs.BoundsLaws.{all_below-suc, test-of-all_below}
use Rattle.shape.proofs.ShapeLaws.{widths_of-fit, length-widths_of, index_fits-below}
use Rattle.split.specs.Steps.{steps, step_number}
use Rattle.split.specs.Bits.{bit_of, split_bit}
use Rattle.split.proofs.StepLaws.{length-steps}
use Rattle.split.proofs.DepthLaws.{step_of, step_number-below}
use Rattle.split.proofs.BitLaws.{split_bit-step_number}
use Rattle.region.specs.Strings.{same_bits}
use Rattle.region.proofs.StringLaws.{bit-of-same_bits, same_bits-below}
use Rattle.record.specs.Record.{Record, record_bit, same_key}

-- ---- a number by its bits

parity : (x y : ℕ) (β : Bool) → eqb (x % 2) 1 ≡ β → eqb (y % 2) 1 ≡ β → x % 2 ≡ y % 2
parity x y true e k = omega (arith, eqb-true (x % 2) 1 e, eqb-true (y % 2) 1 k)
parity x y false e k =
    let even : (z : ℕ) → (z % 2 ≡ 1 → ⊥) → z % 2 ≡ 0 = λ z n. omega arith in
    even x (eqb-false (x % 2) 1 e) ∙ sym (even y (eqb-false (y % 2) 1 k))

pub bit_of-half : (w v k : ℕ) → k < w → bit_of w (v / 2) k ≡ bit_of (suc w) v k
bit_of-half w v k h =
    let up : suc (w - suc k) ≡ suc w - suc k = omega arith in
    ap (λ x. eqb (x % 2) 1)
    (div-div-eq-div-mul v 2 (2 ^ (w - suc k)) ∙ ap (λ x. v / x) (sym (pow-succ' 2 (w - suc k)) ∙ ap (λ x. 2 ^ x) up))

pub bit_of-last : (w v : ℕ) → bit_of (suc w) v w ≡ eqb (v % 2) 1
bit_of-last w v =
    let none : suc w - suc w ≡ 0 = omega arith in
    ap (λ x. eqb (x % 2) 1) (ap (λ x. v / 2 ^ x) none ∙ ap (λ x. v / x) (pow-zero 2) ∙ div-one v)

-- numbers of w bits with equal bits
pub eq-of-bit_of : (w u v : ℕ) → u < 2 ^ w → v < 2 ^ w → ((k : ℕ) → k < w → bit_of w u k ≡ bit_of w v k) → u ≡ v
eq-of-bit_of zero u v hu hv h = omega (arith, pow-zero 2)
eq-of-bit_of (suc w) u v hu hv h =
    let halves : u / 2 ≡ v / 2 =
    eq-of-bit_of w (u / 2) (v / 2) (omega (arith, two-pow-succ w)) (omega (arith, two-pow-succ w))
    (λ k l. bit_of-half w u k l ∙ h k (omega arith) ∙ sym (bit_of-half w v k l)) in
    let ends : u % 2 ≡ v % 2 =
    parity u v (eqb (v % 2) 1) (sym (bit_of-last w u) ∙ h w (omega arith) ∙ bit_of-last w v) refl in
    omega arith

-- ---- a key by its split bits

module _ (ws : List ℕ) (fit : Fit ws) (key other : List ℕ) where
  split_bit-same : ((j : ℕ) → j < 4 → get_or key j 0 ≡ get_or other j 0) → (t : ℕ) → t < length (steps ws)
      → split_bit ws key t ≡ split_bit ws other t
  split_bit-same h t l =
      let st = step_of ws t l in
      let k : ℕ = st.0 in
      let j : ℕ = st.1 in
      subst (λ u. split_bit ws key u ≡ split_bit ws other u) st.4
      (split_bit-step_number ws fit key k j st.2 st.3
      ∙ ap (λ v. bit_of (get_or ws j 0) v k) (h j st.2)
      ∙ sym (split_bit-step_number ws fit other k j st.2 st.3))

  -- keys within the widths
  pub same-of-split_bit : ((j : ℕ) → j < 4 → get_or key j 0 < 2 ^ get_or ws j 0)
      → ((j : ℕ) → j < 4 → get_or other j 0 < 2 ^ get_or ws j 0)
      → ((t : ℕ) → t < length (steps ws) → split_bit ws key t ≡ split_bit ws other t) → (j : ℕ) → j < 4
      → get_or key j 0 ≡ get_or other j 0
  same-of-split_bit hk ho h j l =
      eq-of-bit_of (get_or ws j 0) (get_or key j 0) (get_or other j 0) (hk j l) (ho j l)
      (λ k m.
      sym (split_bit-step_number ws fit key k j l m)
      ∙ h (step_number ws k j) (step_number-below ws fit k j l m)
      ∙ split_bit-step_number ws fit other k j l m)

-- ---- shapes within their bounds

module _ (s : Shape) (n : shape_number s ≡ 0) where
  -- there are W split steps
  pub length-steps-widths_of : length (steps (widths_of s)) ≡ total (widths_of s)
  unfolding widths_of
  length-steps-widths_of = length-steps _ _ _ _ (widths_of-fit s n)

  pub key_below : (key : List ℕ) → index_fits (widths_of s) key ≡ true → (j : ℕ) → j < 4
      → get_or key j 0 < 2 ^ get_or (widths_of s) j 0
  key_below key e j l = index_fits-below (widths_of s) key e j (omega (arith, length-widths_of s))

  -- a key within the widths fits its bytes
  pub key-below-bytes : (key : List ℕ) → length key ≡ 4 → index_fits (widths_of s) key ≡ true
      → (j : ℕ) → get_or key j 0 < 2 ^ 16
  key-below-bytes key e f j = by-attribute (lt-or-le j 4)
    where
      by-attribute : (j < 4) ⊎ (4 ≤ j) → get_or key j 0 < 2 ^ 16
      by-attribute (inl l) = lt_of_lt_of_le (key_below key f j l) (pow_mono (widths_of-fit s n j))
      by-attribute (inr l) = rw (get_or-eq_default key 0 {n = j} (omega arith)) (omega arith)

-- ---- the same key

pub all_below-of-tests : (n : ℕ) (test : ℕ → Bool) → ((j : ℕ) → j < n → test j ≡ true) → all_below n test ≡ true
all_below-of-tests zero test h = refl
all_below-of-tests (suc n) test h =
    all_below-suc test n (all_below-of-tests n test (λ j l. h j (omega arith))) (h n (omega arith))

pub same_key-of-numbers : (key : List ℕ) (r : Record) → ((j : ℕ) → j < 4 → get_or key j 0 ≡ get_or r.key j 0)
    → same_key key r ≡ true
same_key-of-numbers key r h = all_below-of-tests 4 _ (λ j l. eq-eqb (get_or key j 0) (get_or r.key j 0) (h j l))

pub numbers-of-same_key : (key : List ℕ) (r : Record) → same_key key r ≡ true
    → (j : ℕ) → j < 4 → get_or key j 0 ≡ get_or r.key j 0
numbers-of-same_key key r e j l =
    eqb-true (get_or key j 0) (get_or r.key j 0) (test-of-all_below (λ i. eqb (get_or key i 0) (get_or r.key i 0)) 4 j e l)

pub same_key-of-eq : (key : List ℕ) (r : Record) → key ≡ r.key → same_key key r ≡ true
same_key-of-eq key r e = same_key-of-numbers key r (λ j l. ap (λ k. get_or k j 0) e)

pub eq-of-same_key : (key : List ℕ) (r : Record) → length key ≡ 4 → length r.key ≡ 4
    → same_key key r ≡ true → key ≡ r.key
eq-of-same_key key r k h e =
    let same = numbers-of-same_key key r e in
    sym (per_attribute-get_d 0 key k)
    ∙ (λ i. same 0 (omega arith) i ∷ same 1 (omega arith) i ∷ same 2 (omega arith) i ∷ same 3 (omega arith) i ∷ [])
    ∙ per_attribute-get_d 0 r.key h

-- two keys within the widths are the same exactly if all their split bits are
pub same_key-same_bits : (s : Shape) → shape_number s ≡ 0 → (key : List ℕ) (r : Record)
    → index_fits (widths_of s) key ≡ true → index_fits (widths_of s) r.key ≡ true
    → same_key key r ≡ same_bits (split_bit (widths_of s) key) (record_bit s r) (total (widths_of s)) 0
same_key-same_bits s n key r f g = eq-of-iff _ _ to_bits from_bits
  where
    ws : List ℕ
    ws = widths_of s

    all-steps : length (steps ws) ≡ total ws
    all-steps = length-steps-widths_of s n

    to_bits : same_key key r ≡ true → same_bits (split_bit ws key) (record_bit s r) (total ws) 0 ≡ true
    to_bits e =
        same_bits-below (split_bit ws key) (record_bit s r) (total ws) (total ws) 0 (omega arith)
        (λ t l.
        split_bit-same ws (widths_of-fit s n) key r.key (numbers-of-same_key key r e) t (omega (arith, all-steps)))

    from_bits : same_bits (split_bit ws key) (record_bit s r) (total ws) 0 ≡ true → same_key key r ≡ true
    from_bits e =
        same_key-of-numbers key r
        (same-of-split_bit ws (widths_of-fit s n) key r.key (key_below s n key f) (key_below s n r.key g)
        (λ t l.
        let below : t < 0 + total ws = omega (arith, all-steps) in
        sym (bit-of-same_bits (split_bit ws key) (record_bit s r) (total ws) 0 e t (omega arith) below)))
