-- Laws of the doubling array: it has 2^t entries and keeps them; the formula's address of a vector of the box at t is
-- its position in the array, one to one and onto. Assumes nothing.
use Prim.Native.Nat.{ℕ, zero, suc, ◌+◌, ◌-◌, ◌^◌, ◌≤◌, ◌<◌}
use mathlib.Core.Path.{◌≡◌, refl, sym, ap, ◌∙◌, subst}
use mathlib.Core.List.{List, [], ◌∷◌}
use mathlib.Core.Logic.{◌⊎◌, inl, inr}
use native.Mathlib.Omega.{arith}
use lib.ListN.{get_or, length, length-append, get_or-append}
use lib.Seq.{get_or-append-add}
use Rattle.lists.proofs.Numbers.{lt-or-le}
use Rattle.shape.specs.Shape.{Fit}
use Rattle.split.specs.Steps.{steps, step, steps_of, attribute_depth}
use Rattle.split.proofs.StepLaws.{StepBelow}
use Rattle.split.proofs.DepthLaws.{step_of}
use Rattle.address.specs.Doubling.{In, done, also, without, sides, appended, doubling_array}
use Rattle.address.specs.Address.{created_by, latest_step, address_from, address}
use Rattle.address.proofs.SideLaws.{In-sides-mono}
use Rattle.address.proofs.AppendLaws.{appended_position, appended_position-lt, length-appended, get_d-appended}
use Rattle.address.proofs.AppendLaws.{address-new, formula-new, old-or-new, address-onto-appended}

-- the formula's address is a position of the array at t, and there the vector stands
abbrev pub Placed : List ℕ → ℕ → List ℕ → Type 0
Placed ws t is = (address ws is < 2 ^ t) × (get_or (doubling_array ws t) (address ws is) [] ≡ is)

-- a vector of the box at t has the address a
abbrev pub HasAddress : List ℕ → ℕ → ℕ → Type 0
HasAddress ws t a = (is : List ℕ) × (In (sides ws t) is) × (address ws is ≡ a)

-- ---- before the first step

pub address-zero : (ws : List ℕ) → address ws (0 ∷ 0 ∷ 0 ∷ 0 ∷ []) ≡ 0
unfolding address address_from latest_step created_by
address-zero ws = refl

zeros-of-In : (is : List ℕ) → In (1 ∷ 1 ∷ 1 ∷ 1 ∷ []) is → is ≡ 0 ∷ 0 ∷ 0 ∷ 0 ∷ []
zeros-of-In is (also {i = a} p (also {i = b} q (also {i = c} r (also {i = d} s done)))) =
    let ea : a ≡ 0 = omega arith in
    let eb : b ≡ 0 = omega arith in
    let ec : c ≡ 0 = omega arith in
    let ed : d ≡ 0 = omega arith in
    cc

pub zeros-of-In-sides : (ws is : List ℕ) → In (sides ws 0) is → is ≡ 0 ∷ 0 ∷ 0 ∷ 0 ∷ []
unfolding sides attribute_depth steps_of
zeros-of-In-sides ws is b = zeros-of-In is b

placed-zero : (ws is : List ℕ) → In (sides ws 0) is → Placed ws 0 is
unfolding doubling_array
placed-zero ws is b =
    let e = zeros-of-In-sides ws is b in
    let a : address ws is ≡ 0 = ap (address ws) e ∙ address-zero ws in
    (omega arith, ap (λ x. get_or (doubling_array ws 0) x []) a ∙ sym e)

has_address-zero : (ws : List ℕ) (a : ℕ) → a < 1 → HasAddress ws 0 a
unfolding sides attribute_depth steps_of
has_address-zero ws a l =
    let p : 0 < 1 = omega arith in
    (0 ∷ 0 ∷ 0 ∷ 0 ∷ [], also p (also p (also p (also p done))), address-zero ws ∙ omega arith)

-- ---- after t steps

module _ (ws : List ℕ) (fit : Fit ws) where
  pub length-doubling_array : (t : ℕ) → t ≤ length (steps ws) → length (doubling_array ws t) ≡ 2 ^ t
  unfolding doubling_array
  length-doubling_array zero h = refl
  length-doubling_array (suc t) h =
      let s = step_of ws t h in
      length-append (doubling_array ws t) (appended ws t (step ws t))
      ∙ omega (
        arith,
        length-appended ws fit s.0 s.1 s.2 s.3 s.4,
        length-doubling_array t (omega arith),
      )

  -- no earlier address moves
  pub doubling_array-stays : (t a : ℕ) → t < length (steps ws) → a < 2 ^ t
      → get_or (doubling_array ws (suc t)) a [] ≡ get_or (doubling_array ws t) a []
  unfolding doubling_array
  doubling_array-stays t a h l =
      get_or-append (doubling_array ws t) (appended ws t (step ws t)) [] a
      (subst (λ n. a < n) (sym (length-doubling_array t (omega arith))) l)

  placed-suc : (t : ℕ) → t < length (steps ws) → (is : List ℕ) → In (sides ws (suc t)) is
      → (In (sides ws t) is → Placed ws t is) → Placed ws (suc t) is
  unfolding doubling_array
  placed-suc t h is b ih = at (step_of ws t h)
    where
      at : StepBelow ws t 64 → Placed ws (suc t) is
      at (k, z, hz, hk, number, below) = go (old-or-new ws fit k z hz hk number is b)
        where
          go : (2 ^ k ≤ get_or is z 0) ⊎ (In (sides ws t) is) → Placed ws (suc t) is
          go (inr o) =
              let p = ih o in
              (omega (arith, p.0), doubling_array-stays t (address ws is) h p.0 ∙ p.1)
          go (inl n) =
              let p = appended_position k z (without z (sides ws t)) is in
              let e = address-new ws fit k z hz hk number is b n ∙ formula-new ws fit k z hz hk number is b n in
              let len = length-doubling_array t (omega arith) in (
                omega (arith, e, appended_position-lt ws fit k z hz hk number is b n),
                ap (λ a. get_or (doubling_array ws (suc t)) a []) (e ∙ ap (λ x. x + p) (sym len))
                    ∙ get_or-append-add (doubling_array ws t) (appended ws t (step ws t)) p []
                    ∙ get_d-appended ws fit k z hz hk number is b n,
              )

  -- the address of each vector of the box at t is its position in the array
  pub address-place : (t : ℕ) → t ≤ length (steps ws) → (is : List ℕ) → In (sides ws t) is → Placed ws t is
  address-place zero h is b = placed-zero ws is b
  address-place (suc t) h is b = placed-suc t h is b (address-place t (omega arith) is)

  -- and each position is the address of one
  pub address-onto : (t : ℕ) → t ≤ length (steps ws) → (a : ℕ) → a < 2 ^ t → HasAddress ws t a
  address-onto zero h a l = has_address-zero ws a l
  address-onto (suc t) h a l = go (step_of ws t h) (lt-or-le a (2 ^ t)) (address-onto t (omega arith) a)
    where
      go : StepBelow ws t 64 → (a < 2 ^ t) ⊎ (2 ^ t ≤ a) → (a < 2 ^ t → HasAddress ws t a) → HasAddress ws (suc t) a
      go s (inl m) ih =
          let r = ih m in
          (r.0, In-sides-mono ws t (suc t) (omega arith) r.1, r.2)
      go s (inr m) ih =
          let r = address-onto-appended ws fit s.0 s.1 s.2 s.3 s.4 (a - 2 ^ t) (omega arith) in
          (r.0, r.1, omega (arith, r.2))

  -- so what stands at a position has that position for its address
  pub address-get_d : (t : ℕ) → t ≤ length (steps ws) → (a : ℕ) → a < 2 ^ t
      → address ws (get_or (doubling_array ws t) a []) ≡ a
  address-get_d t h a l =
      let r = address-onto t h a l in
      let p = address-place t h r.0 r.1 in
      ap (address ws) (ap (λ x. get_or (doubling_array ws t) x []) (sym r.2) ∙ p.1) ∙ r.2

  pub address-one-to-one : (t : ℕ) → t ≤ length (steps ws) → (is js : List ℕ) → In (sides ws t) is → In (sides ws t) js
      → address ws is ≡ address ws js → is ≡ js
  address-one-to-one t h is js b c e =
      sym (address-place t h is b).1 ∙ ap (λ a. get_or (doubling_array ws t) a []) e ∙ (address-place t h js c).1
