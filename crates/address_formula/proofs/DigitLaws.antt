-- Laws of addresses digit by digit: the formula as digits appended. Assumes nothing.
use Prim.Native.Nat.{ℕ, zero, suc, ◌+◌, ◌*◌, ◌%◌, ◌^◌, ◌≤◌, ◌<◌}
use mathlib.Core.Path.{◌≡◌, refl, sym, ap, ◌∙◌}
use mathlib.Core.Bool.{Bool, true, false, cond}
use mathlib.Core.List.{List, [], ◌∷◌}
use native.Mathlib.Omega.{arith}
use native.Mathlib.Nat.{le_trans, mul-le-mul_left, mod-eq_of_lt}
use lib.Dec.{eqb}
use lib.ListN.{get_or, length}
use lib.Pow.{pow_mono, pow_pos}
use borrow.Author.Tests.{eq-eqb, ne_eqb}
use Rattle.split.specs.Steps.{steps}
use Rattle.split.proofs.StepLaws.{depth_before}
use Rattle.split.proofs.DepthLaws.{depth_before-le, length-steps-le}
use Rattle.address.specs.Address.{formula, address}
use Rattle.address.specs.Vectors.{InBox}
use Rattle.address.proofs.SideLaws.{In-sides-all, sides_before}
use Rattle.address.proofs.DoublingLaws.{address-place}
use Rattle.address_formula.specs.Digits.{append_digit}
use Rattle.address_formula.specs.LatestPair.{latest_pair}
use Rattle.address_formula.proofs.LatestPairLaws.{address-latest_pair}

abbrev pub four : ℕ → ℕ → ℕ → ℕ → List ℕ
four a b c d = a ∷ b ∷ c ∷ d ∷ []

-- ---- one digit

pub append_digit-same : (a J i j z : ℕ) → j ≡ z → a ≡ append_digit a J i j z
unfolding append_digit
append_digit-same a J i j z e = rw (eq-eqb j z e)

pub append_digit-other : (a J i j z : ℕ) → (j ≡ z → ⊥) → append_digit a J i j z < 2 ^ 64
    → (a * J) % 2 ^ 64 + i ≡ append_digit a J i j z
unfolding append_digit
append_digit-other a J i j z e = rw (ne_eqb j z e) (λ h. ap (λ x. x + i) (mod-eq_of_lt (omega arith)))

append_digit-le : (a h i j z : ℕ) → a ≤ append_digit a (2 ^ h) i j z
unfolding append_digit
append_digit-le a h i j z = go (eqb j z)
  where
    go : (t : Bool) → a ≤ cond t a (a * 2 ^ h + i)
    go true = omega arith
    go false = omega (arith, mul-le-mul_left a (pow_pos h))

-- ---- all four

abbrev pub append_digits : (z a J0 J1 J2 J3 i0 i1 i2 i3 : ℕ) → ℕ
append_digits z a J0 J1 J2 J3 i0 i1 i2 i3 =
    append_digit (append_digit (append_digit (append_digit a J0 i0 0 z) J1 i1 1 z) J2 i2 2 z) J3 i3 3 z

-- the formula, digit by digit
pub append_digits-formula : (z J0 J1 J2 J3 i0 i1 i2 i3 : ℕ) → z < 4
    → append_digits z (get_or (four i0 i1 i2 i3) z 0) J0 J1 J2 J3 i0 i1 i2 i3
    ≡ formula z (four J0 J1 J2 J3) (four i0 i1 i2 i3)
unfolding append_digit formula
append_digits-formula zero J0 J1 J2 J3 i0 i1 i2 i3 h = omega arith
append_digits-formula (suc zero) J0 J1 J2 J3 i0 i1 i2 i3 h = omega arith
append_digits-formula (suc (suc zero)) J0 J1 J2 J3 i0 i1 i2 i3 h = omega arith
append_digits-formula (suc (suc (suc zero))) J0 J1 J2 J3 i0 i1 i2 i3 h = omega arith
append_digits-formula (suc (suc (suc (suc z)))) J0 J1 J2 J3 i0 i1 i2 i3 h = absurd (omega arith)

-- that each digit fits 64 bits, and that the last gives the address
pub record Appended (ws : List ℕ) (z h0 h1 h2 h3 i0 i1 i2 i3 a0 a1 a2 a3 : ℕ) : Type 0 where
  pub deep : (h0 ≤ 16) × (h1 ≤ 16) × (h2 ≤ 16) × (h3 ≤ 16)
  pub fits0 : append_digit a0 (2 ^ h0) i0 0 z < 2 ^ 64
  pub fits1 : append_digit a1 (2 ^ h1) i1 1 z < 2 ^ 64
  pub fits2 : append_digit a2 (2 ^ h2) i2 2 z < 2 ^ 64
  pub fits3 : append_digit a3 (2 ^ h3) i3 3 z < 2 ^ 64
  pub result : append_digit a3 (2 ^ h3) i3 3 z ≡ address ws (four i0 i1 i2 i3)

pub appended-digits : (ws : List ℕ) (i0 i1 i2 i3 g h0 h1 h2 h3 a0 a1 a2 a3 : ℕ) → InBox ws (four i0 i1 i2 i3)
    → latest_pair (four i0 i1 i2 i3) ≡ g + 1
    → h0 ≡ depth_before ws g 0 → h1 ≡ depth_before ws g 1 → h2 ≡ depth_before ws g 2 → h3 ≡ depth_before ws g 3
    → a0 ≡ get_or (four i0 i1 i2 i3) (g % 4) 0 → a1 ≡ append_digit a0 (2 ^ h0) i0 0 (g % 4)
    → a2 ≡ append_digit a1 (2 ^ h1) i1 1 (g % 4) → a3 ≡ append_digit a2 (2 ^ h2) i2 2 (g % 4)
    → Appended ws (g % 4) h0 h1 h2 h3 i0 i1 i2 i3 a0 a1 a2 a3
appended-digits ws i0 i1 i2 i3 g h0 h1 h2 h3 a0 a1 a2 a3 r m d0 d1 d2 d3 e0 e1 e2 e3 =
    let all = address-place ws r.fit (length (steps ws)) (omega arith) is (In-sides-all ws is refl r) in
    let top : address ws is < 2 ^ 64 = le_trans all.0 (pow_mono (length-steps-le ws)) in
    let l1 = append_digit-le a1 h1 i1 1 (g % 4) in
    let l2 = append_digit-le a2 h2 i2 2 (g % 4) in
    let l3 = append_digit-le a3 h3 i3 3 (g % 4) in
    record {
      deep = (deep 0 d0, deep 1 d1, deep 2 d2, deep 3 d3);
      fits0 = omega (arith, e1, e2, e3, l1, l2, l3, end, top);
      fits1 = omega (arith, e2, e3, l2, l3, end, top);
      fits2 = omega (arith, e3, l3, end, top);
      fits3 = omega (arith, end, top);
      result = end;
    }
  where
    is : List ℕ
    is = four i0 i1 i2 i3

    deep : (j : ℕ) {h : ℕ} → h ≡ depth_before ws g j → h ≤ 16
    deep j e = omega (arith, depth_before-le ws g j (r.fit j))

    same : formula (g % 4) (four (2 ^ h0) (2 ^ h1) (2 ^ h2) (2 ^ h3)) (four i0 i1 i2 i3)
        ≡ formula (g % 4) (sides_before ws g) (four i0 i1 i2 i3)
    same = rw (d0, d1, d2, d3)

    first : a1 ≡ append_digit (get_or (four i0 i1 i2 i3) (g % 4) 0) (2 ^ h0) i0 0 (g % 4)
    first = e1 ∙ ap (λ a. append_digit a (2 ^ h0) i0 0 (g % 4)) e0

    end : append_digit a3 (2 ^ h3) i3 3 (g % 4) ≡ address ws (four i0 i1 i2 i3)
    end =
        ap (λ a. append_digit a (2 ^ h3) i3 3 (g % 4))
        (e3 ∙ ap (λ a. append_digit a (2 ^ h2) i2 2 (g % 4)) (e2 ∙ ap (λ a. append_digit a (2 ^ h1) i1 1 (g % 4)) first))
        ∙ append_digits-formula (g % 4) (2 ^ h0) (2 ^ h1) (2 ^ h2) (2 ^ h3) i0 i1 i2 i3 (omega arith)
        ∙ same
        ∙ sym (address-latest_pair ws (four i0 i1 i2 i3) r g (m ∙ omega arith))
