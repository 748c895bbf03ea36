-- Laws of the index vector at an address: its digits taken off; what stands there in the doubling array.
-- Assumes nothing.
use Prim.Native.Nat.{ℕ, zero, suc, ◌+◌, ◌-◌, ◌*◌, ◌/◌, ◌%◌, ◌^◌, ◌≤◌, ◌<◌}
use mathlib.Core.Path.{◌≡◌, refl, sym, ap, ◌∙◌, subst}
use mathlib.Core.Bool.{Bool, true, false, cond}
use mathlib.Core.List.{List, [], ◌∷◌}
use native.Mathlib.Omega.{arith}
use native.Mathlib.Numerals.{add-one}
use native.Mathlib.Nat.{mod-lt, div-add-mod'}
use lib.Bits.{bit_and, and_mask}
use lib.Dec.{eqb}
use lib.ListN.{get_or, length}
use lib.Pow.{pow_pos}
use borrow.Author.Tests.{eq-eqb, ne_eqb}
use Rattle.lists.proofs.Shifts.{one_shifted}
use Rattle.shape.specs.Shape.{Fit, total}
use Rattle.split.specs.Steps.{steps_below, steps, step_number, attribute_depth}
use Rattle.split.proofs.StepLaws.{depth_before, length-steps}
use Rattle.split.proofs.DepthLaws.{attribute_depth-here}
use Rattle.address.specs.Doubling.{sides, doubling_array}
use Rattle.address.specs.Address.{formula}
use Rattle.address.specs.Vectors.{IndexAt}
use Rattle.address.proofs.SideLaws.{In-sides-all, sides_before, sides-step_number}
use Rattle.address.proofs.AppendLaws.{address-of-formula}
use Rattle.address.proofs.DoublingLaws.{address-zero, address-place}
use Rattle.address_formula.specs.Digits.{append_digit}
use Rattle.address_formula.proofs.DigitLaws.{four, append_digits-formula}
use Rattle.address_inverse.specs.Appended.{AppendedBy}
use Rattle.address_inverse.specs.Private.{drop_digit, digit_of}

-- ---- one digit

pub drop_digit-same : (a J j z : ℕ) → j ≡ z → a ≡ drop_digit a J j z
unfolding drop_digit
drop_digit-same a J j z e = rw (eq-eqb j z e)

pub drop_digit-other : (a J j z : ℕ) → (j ≡ z → ⊥) → a / J ≡ drop_digit a J j z
unfolding drop_digit
drop_digit-other a J j z e = rw (ne_eqb j z e)

pub digit_of-same : (x a J j z : ℕ) → j ≡ z → x ≡ digit_of x a J j z
unfolding digit_of
digit_of-same x a J j z e = rw (eq-eqb j z e)

pub digit_of-other : (x a h j z : ℕ) → (j ≡ z → ⊥) → h ≤ 16
    → bit_and a ((1 * 2 ^ h) % 2 ^ 64 - 1) ≡ digit_of x a (2 ^ h) j z
unfolding digit_of
digit_of-other x a h j z e l = rw (ne_eqb j z e, one_shifted h (omega arith)) (and_mask a h)

digit_of-lt : (x a J j z : ℕ) → (j ≡ z → ⊥) → 0 < J → digit_of x a J j z < J
unfolding digit_of
digit_of-lt x a J j z ne h = rw (ne_eqb j z ne) (mod-lt a h)

-- a digit that is taken off can be appended again
append_digit-drop_digit : (a J x j z : ℕ) → append_digit (drop_digit a J j z) J (digit_of x a J j z) j z ≡ a
unfolding append_digit drop_digit digit_of
append_digit-drop_digit a J x j z = go (eqb j z)
  where
    go : (t : Bool) → cond t (cond t a (a / J)) (cond t a (a / J) * J + cond t x (a % J)) ≡ a
    go true = refl
    go false = div-add-mod' a J

-- ---- read back

get_d-digit_of : (x d0 d1 d2 d3 J0 J1 J2 J3 z : ℕ) → z < 4
    → get_or (four (digit_of x d0 J0 0 z) (digit_of x d1 J1 1 z) (digit_of x d2 J2 2 z) (digit_of x d3 J3 3 z)) z 0 ≡ x
unfolding digit_of
get_d-digit_of x d0 d1 d2 d3 J0 J1 J2 J3 zero h = refl
get_d-digit_of x d0 d1 d2 d3 J0 J1 J2 J3 (suc zero) h = refl
get_d-digit_of x d0 d1 d2 d3 J0 J1 J2 J3 (suc (suc zero)) h = refl
get_d-digit_of x d0 d1 d2 d3 J0 J1 J2 J3 (suc (suc (suc zero))) h = refl
get_d-digit_of x d0 d1 d2 d3 J0 J1 J2 J3 (suc (suc (suc (suc z)))) h = absurd (omega arith)

module _ (ws : List ℕ) (a t g h0 h1 h2 h3 : ℕ) (by : AppendedBy ws a t g)
    (d0 : h0 ≡ depth_before ws g 0) (d1 : h1 ≡ depth_before ws g 1) (d2 : h2 ≡ depth_before ws g 2)
    (d3 : h3 ≡ depth_before ws g 3)
    (a3 a2 a1 a0 : ℕ) (e3 : a3 ≡ drop_digit a (2 ^ h3) 3 (g % 4)) (e2 : a2 ≡ drop_digit a3 (2 ^ h2) 2 (g % 4))
    (e1 : a1 ≡ drop_digit a2 (2 ^ h1) 1 (g % 4)) (e0 : a0 ≡ drop_digit a1 (2 ^ h0) 0 (g % 4))
    (i0 i1 i2 i3 : ℕ) (f0 : i0 ≡ digit_of a0 a1 (2 ^ h0) 0 (g % 4)) (f1 : i1 ≡ digit_of a0 a2 (2 ^ h1) 1 (g % 4))
    (f2 : i2 ≡ digit_of a0 a3 (2 ^ h2) 2 (g % 4)) (f3 : i3 ≡ digit_of a0 a (2 ^ h3) 3 (g % 4)) where
  pub index_at-digits : IndexAt ws a (i0 ∷ i1 ∷ i2 ∷ i3 ∷ [])
  unfolding step_number
  index_at-digits =
      let s = address-of-formula ws by.fit (g / 4) (g % 4) hz live number (four i0 i1 i2 i3) a refl others
      (ap (λ Js. formula (g % 4) Js (four i0 i1 i2 i3)) sides-same ∙ formula-same) by.from past in
      record { below = s.0; back = s.1 }
    where
      hz : g % 4 < 4
      hz = omega arith

      live : g / 4 < get_or ws (g % 4) 0
      live = by.pair.live

      place : 4 * (g / 4) + g % 4 ≡ g
      place = omega arith

      number : step_number ws (g / 4) (g % 4) ≡ t
      number = ap (λ x. length (steps_below ws x)) place ∙ by.pair.before

      past : a < 2 ^ suc t
      past = subst (λ u. a < 2 ^ u) (add-one t) by.past

      sides-same : sides ws t ≡ four (2 ^ h0) (2 ^ h1) (2 ^ h2) (2 ^ h3)
      sides-same =
          ap (sides ws) (sym number)
          ∙ sides-step_number ws (g / 4) (g % 4) hz live (by.fit (g % 4))
          ∙ ap (sides_before ws) place
          ∙ rw (d0, d1, d2, d3)

      front : get_or (four i0 i1 i2 i3) (g % 4) 0 ≡ a0
      front = rw (f0, f1, f2, f3) (get_d-digit_of a0 a1 a2 a3 a (2 ^ h0) (2 ^ h1) (2 ^ h2) (2 ^ h3) (g % 4) hz)

      put : (x y h i j : ℕ) → x ≡ drop_digit y (2 ^ h) j (g % 4) → i ≡ digit_of a0 y (2 ^ h) j (g % 4)
          → append_digit x (2 ^ h) i j (g % 4) ≡ y
      put x y h i j p q =
          ap (λ u. append_digit u (2 ^ h) i j (g % 4)) p
          ∙ ap (λ u. append_digit (drop_digit y (2 ^ h) j (g % 4)) (2 ^ h) u j (g % 4)) q
          ∙ append_digit-drop_digit y (2 ^ h) a0 j (g % 4)

      formula-same : formula (g % 4) (four (2 ^ h0) (2 ^ h1) (2 ^ h2) (2 ^ h3)) (four i0 i1 i2 i3) ≡ a
      formula-same =
          sym (append_digits-formula (g % 4) (2 ^ h0) (2 ^ h1) (2 ^ h2) (2 ^ h3) i0 i1 i2 i3 hz)
          ∙ ap (λ x. append_digit x (2 ^ h3) i3 3 (g % 4))
          (ap (λ x. append_digit x (2 ^ h2) i2 2 (g % 4))
          (ap (λ x. append_digit x (2 ^ h1) i1 1 (g % 4))
          (ap (λ x. append_digit x (2 ^ h0) i0 0 (g % 4)) front ∙ put a0 a1 h0 i0 0 e0 f0)
          ∙ put a1 a2 h1 i1 1 e1 f1)
          ∙ put a2 a3 h2 i2 2 e2 f2)
          ∙ put a3 a h3 i3 3 e3 f3

      low : (r y h i : ℕ) → r < 4 → (r ≡ g % 4 → ⊥) → h ≡ depth_before ws g r → i ≡ digit_of a0 y (2 ^ h) r (g % 4)
          → i < 2 ^ attribute_depth ws t r
      low r y h i l ne d q =
          let deep = attribute_depth-here ws by.fit (g / 4) (g % 4) hz live number r l in
          let e : h ≡ attribute_depth ws t r = d ∙ ap (λ u. depth_before ws u r) (sym place) ∙ sym deep in
          subst (λ u. i < 2 ^ u) e
          (subst (λ u. u < 2 ^ h) (sym q) (digit_of-lt a0 y (2 ^ h) r (g % 4) ne (pow_pos h)))

      others : (r : ℕ) → r < 4 → (r ≡ g % 4 → ⊥) → get_or (four i0 i1 i2 i3) r 0 < 2 ^ attribute_depth ws t r
      others zero l ne = low 0 a1 h0 i0 l ne d0 f0
      others (suc zero) l ne = low 1 a2 h1 i1 l ne d1 f1
      others (suc (suc zero)) l ne = low 2 a3 h2 i2 l ne d2 f2
      others (suc (suc (suc zero))) l ne = low 3 a h3 i3 l ne d3 f3
      others (suc (suc (suc (suc r)))) l ne = absurd (omega arith)

-- ---- the vector at an address

pub index_at-zero : (ws : List ℕ) → IndexAt ws 0 (0 ∷ 0 ∷ 0 ∷ 0 ∷ [])
index_at-zero ws = record { below = low; back = address-zero ws }
  where
    low : (r : ℕ) → r < 4 → get_or (0 ∷ 0 ∷ 0 ∷ 0 ∷ []) r 0 < 2 ^ get_or ws r 0
    low zero l = pow_pos _
    low (suc zero) l = pow_pos _
    low (suc (suc zero)) l = pow_pos _
    low (suc (suc (suc zero))) l = pow_pos _
    low (suc (suc (suc (suc r)))) l = absurd (omega arith)

-- it stands at that address in the doubling array
pub get_d-index_at : (w0 w1 w2 w3 a i0 i1 i2 i3 : ℕ) → Fit (w0 ∷ w1 ∷ w2 ∷ w3 ∷ [])
    → IndexAt (w0 ∷ w1 ∷ w2 ∷ w3 ∷ []) a (i0 ∷ i1 ∷ i2 ∷ i3 ∷ [])
    → get_or (doubling_array (w0 ∷ w1 ∷ w2 ∷ w3 ∷ []) (total (w0 ∷ w1 ∷ w2 ∷ w3 ∷ []))) a [] ≡ i0 ∷ i1 ∷ i2 ∷ i3 ∷ []
get_d-index_at w0 w1 w2 w3 a i0 i1 i2 i3 fit at =
    let ws = w0 ∷ w1 ∷ w2 ∷ w3 ∷ [] in
    let is = i0 ∷ i1 ∷ i2 ∷ i3 ∷ [] in
    let t = length (steps ws) in
    let b = In-sides-all ws is refl (record { fit = fit; below = at.below }) in
    ap (λ u. get_or (doubling_array ws u) a []) (sym (length-steps w0 w1 w2 w3 fit))
    ∙ ap (λ x. get_or (doubling_array ws t) x []) (sym at.back)
    ∙ (address-place ws fit t (omega arith) is b).1
