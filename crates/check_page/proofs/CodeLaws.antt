-- Laws of the first split bits of a key as a number: one bit as the code takes it, the loop over the pairs, beginnings,
-- order. Assumes nothing.
use Prim.Native.Nat.{ℕ, suc, ◌+◌, ◌-◌, ◌*◌, ◌/◌, ◌%◌, ◌^◌, ◌≤◌, ◌<◌}
use mathlib.Core.Path.{◌≡◌, refl, sym, ap, ◌∙◌}
use mathlib.Core.Bool.{Bool, true, false, cond}
use mathlib.Core.List.{List, [], ◌∷◌}
use native.Mathlib.Omega.{arith}
use native.Mathlib.Nat.{zero-add, mod-eq_of_lt, pow-zero, two-pow-succ}
use lib.Bits.{bit_or, or_shifted}
use lib.Dec.{leb, ltb, eqb}
use lib.ListN.{get_or}
use lib.Pow.{pow_mono}
use borrow.Author.Tests.{le-leb, lt-leb, le-ltb, eqb-true, eqb-false}
use Rattle.shape.specs.Shape.{Fit, total}
use Rattle.split.specs.Steps.{bit_value}
use Rattle.split.specs.Bits.{bit_of, split_bit}
use Rattle.split.proofs.BitLaws.{split_bit-step_number}
use Rattle.pairs.specs.Pairs.{StepPair, StepsBefore}
use Rattle.pairs.proofs.PlaceLaws.{steps_before-zero, steps_before-lt, steps_before-step, steps_before-skip, step_number-pair}
use Rattle.region.specs.Strings.{same_bits}
use Rattle.region.specs.Sets.{before}
use Rattle.key_order.specs.Order.{first_step, compared}
use Rattle.std.specs.Ordering.{is_lt}
use Rattle.std.specs.declared.cmp.Ordering.TheVariants.{Less, Equal, Greater}
use Rattle.key_order.proofs.FirstLaws.{same_bits-first_step}
use Rattle.check_test.specs.Codes.{code}
use Rattle.check_test.proofs.CodeLaws.{code_lt, code-add, code-div, same_bits-code, before-code}
use Rattle.check_page.specs.PageTest.{key_code}

bit_value-lt : (β : Bool) → bit_value β < 2 ^ 1
bit_value-lt true = omega arith
bit_value-lt false = omega arith

-- ---- the loop over the pairs

-- the first n of x bits, which are those before place g
pub record Coded (ws key : List ℕ) (x c n g : ℕ) : Type 0 where
  pub most : n ≤ x
  pub place : StepsBefore ws n g
  pub bits : c ≡ code n 0 (split_bit ws key)

pub coded-zero : (ws key : List ℕ) (x : ℕ) → Coded ws key x 0 0 0
coded-zero ws key x = record { most = omega arith; place = steps_before-zero ws; bits = refl }

-- a step is left
pub coded-left : (w0 w1 w2 w3 : ℕ) (key : List ℕ) (x c n g : ℕ) → Fit (w0 ∷ w1 ∷ w2 ∷ w3 ∷ [])
    → x ≤ total (w0 ∷ w1 ∷ w2 ∷ w3 ∷ []) → Coded (w0 ∷ w1 ∷ w2 ∷ w3 ∷ []) key x c n g → n < x → g < 64
coded-left w0 w1 w2 w3 key x c n g fit h inv l =
    steps_before-lt w0 w1 w2 w3 n g fit (omega arith) inv.place

module _ (ws key : List ℕ) (fit : Fit ws) (x c n g : ℕ) (inv : Coded ws key x c n g) (next : g < 64) where
  -- no step
  pub coded-skip : get_or ws (g % 4) 0 ≤ g / 4 → Coded ws key x c n (g + 1)
  coded-skip h = record { most = inv.most; place = steps_before-skip ws n g inv.place next h; bits = inv.bits }

  -- a step: its bit, behind those at hand
  module _ (step : g / 4 < get_or ws (g % 4) 0) (few : x ≤ 64) (left : n < x) where
    pair : StepPair ws n g
    pair = record { low = next; live = step; before = inv.place.before }

    bit : split_bit ws key n ≡ bit_of (get_or ws (g % 4) 0) (get_or key (g % 4) 0) (g / 4)
    bit =
        ap (split_bit ws key) (sym (step_number-pair ws n g pair))
        ∙ split_bit-step_number ws fit key (g / 4) (g % 4) (omega arith) step

    pub coded-step : (β : ℕ) → β ≡ bit_value (bit_of (get_or ws (g % 4) 0) (get_or key (g % 4) 0) (g / 4))
        → Coded ws key x (bit_or (c * 2 % 2 ^ 64) β) (n + 1) (g + 1)
    coded-step β e = record {
      most = omega arith;
      place = steps_before-step ws n g inv.place next step;
      bits = pushed;
    }
      where
        p : ℕ → Bool
        p = split_bit ws key

        small : c * 2 < 2 ^ 64
        small =
            let m : 2 ^ suc n ≤ 2 ^ 64 = pow_mono {j = 64} (omega arith) in
            omega (arith, inv.bits, code_lt n 0 (split_bit ws key), two-pow-succ n)

        value : β ≡ bit_value (p n)
        value = e ∙ ap bit_value (sym bit)

        pushed : bit_or (c * 2 % 2 ^ 64) β ≡ code (n + 1) 0 (split_bit ws key)
        pushed =
            let one : code 1 (0 + n) p ≡ bit_value (p n) = rw (zero-add n, pow-zero 2) (omega arith) in
            let low : β < 2 ^ 1 = rw value (bit_value-lt (p n)) in
            ap (λ y. bit_or y β) (mod-eq_of_lt small)
            ∙ or_shifted c 1 β low
            ∙ omega (arith, inv.bits, code-add n 1 0 p, value, one)

pub coded-end : (ws key : List ℕ) (x c n g : ℕ) → Coded ws key x c n g → x ≤ n → c ≡ code x 0 (split_bit ws key)
coded-end ws key x c n g inv h =
    let e : n ≡ x = omega (arith, inv.most) in
    inv.bits ∙ ap (λ m. code m 0 (split_bit ws key)) e

-- ---- beginnings

pub key_code-begins : (ws key : List ℕ) (x : ℕ) → x ≤ total ws
    → key_code ws key / 2 ^ (total ws - x) ≡ code x 0 (split_bit ws key)
unfolding key_code
key_code-begins ws key x h = code-div (total ws) x (split_bit ws key) h

-- a key begins as another one does exactly if they do not differ before step x
module _ (ws a b : List ℕ) (x : ℕ) (most : x ≤ total ws) where
  abbrev m : ℕ
  m = total ws - x

  leb-begins : leb x (first_step ws a b) ≡ eqb (key_code ws a / 2 ^ m) (key_code ws b / 2 ^ m)
  leb-begins =
      sym (same_bits-first_step ws a b x most)
      ∙ same_bits-code (split_bit ws a) (split_bit ws b) x 0
      ∙ (λ i. eqb (sym (key_code-begins ws a x most) i) (sym (key_code-begins ws b x most) i))

  pub begins-same : x ≤ first_step ws a b → key_code ws a / 2 ^ m ≡ key_code ws b / 2 ^ m
  begins-same h = eqb-true _ _ (sym leb-begins ∙ le-leb x (first_step ws a b) h)

  pub begins-other : first_step ws a b < x → key_code ws a / 2 ^ m ≡ key_code ws b / 2 ^ m → ⊥
  begins-other h = eqb-false _ _ (sym leb-begins ∙ lt-leb x (first_step ws a b) h)

-- ---- order

pub is_lt-compared : (ws a b : List ℕ) → is_lt (compared ws a b) ≡ ltb (key_code ws a) (key_code ws b)
unfolding compared key_code
is_lt-compared ws a b =
    go same first (same_bits-code (split_bit ws a) (split_bit ws b) (total ws) 0)
    (before-code (split_bit ws) (total ws) 0 a b)
  where
    first : Bool
    first = before (split_bit ws) (total ws) 0 a b

    same : Bool
    same = same_bits (split_bit ws a) (split_bit ws b) (total ws) 0

    go : (α β : Bool) → α ≡ eqb (key_code ws a) (key_code ws b) → β ≡ ltb (key_code ws a) (key_code ws b)
        → is_lt (cond α Equal (cond β Less Greater)) ≡ ltb (key_code ws a) (key_code ws b)
    go true β p q =
        let even : key_code ws a ≡ key_code ws b = eqb-true _ _ (sym p) in
        sym (le-ltb (key_code ws a) (key_code ws b) (omega arith))
    go false true p q = q
    go false false p q = q
