-- Laws of pairs by their place: the latest step of an index vector from the latest pair of its indices' highest bits,
-- and the address from it. Assumes nothing.
use Prim.Native.Nat.{ℕ, suc, ◌+◌, ◌-◌, ◌*◌, ◌/◌, ◌%◌, ◌^◌, ◌≤◌, ◌<◌, min, max}
use mathlib.Core.Path.{◌≡◌, refl, sym, ap, ◌∙◌, subst}
use mathlib.Core.List.{List}
use mathlib.Core.Logic.{◌⊎◌, inl, inr}
use native.Mathlib.Omega.{arith}
use native.Mathlib.Numerals.{add-one}
use lib.Count.{count_leading_zeros, leading_of_zero}
use lib.ListN.{get_or}
use borrow.Author.Tests.{eq-eqb, ne_eqb}
use Rattle.lists.proofs.Shifts.{leading-bounds}
use Rattle.lists.proofs.Numbers.{lt-or-le, eq-or-ne, max-attained, max_bounds}
use Rattle.split.specs.Steps.{step_number}
use Rattle.split.proofs.StepLaws.{step-step_number, step_number-lt}
use Rattle.address.specs.Doubling.{sides}
use Rattle.address.specs.Address.{highest_bit, created_by, latest_step, formula, address_from, address}
use Rattle.address_formula.specs.LatestPair.{creating_pair, latest_pair}
use Rattle.address.specs.Vectors.{InBox}
use Rattle.address.proofs.LatestLaws.{highest_bit-is, highest_bit-lt, highest_bit-below, created_by-is, latest_step-is}
use Rattle.address.proofs.SideLaws.{sides_before, sides-step_number}

-- ---- one index

pub creating_pair-some : (i j s : ℕ) → (i ≡ 0 → ⊥) → highest_bit 64 i ≡ s → creating_pair i j ≡ 4 * s + j + 1
unfolding creating_pair
creating_pair-some i j s n e = rw (ne_eqb i 0 n, e)

pub creating_pair-none : (i j : ℕ) → i ≡ 0 → creating_pair i j ≡ 0
unfolding creating_pair
creating_pair-none i j e = rw (eq-eqb i 0 e)

creating_pair-le : (i j : ℕ) → j < 4 → creating_pair i j ≤ 256
creating_pair-le i j h = go (eq-or-ne i 0)
  where
    go : (i ≡ 0) ⊎ (i ≡ 0 → ⊥) → creating_pair i j ≤ 256
    go (inl e) = omega (arith, creating_pair-none i j e)
    go (inr e) = omega (arith, creating_pair-some i j _ e refl, highest_bit-lt 64 i (omega arith))

-- the pair from the leading zeros, of which 0 has 64
pub creating_pair-leading : (i j : ℕ) → j < 4 → i < 2 ^ 64 → creating_pair i j ≡ 256 - (4 * count_leading_zeros 64 i + 3 - j)
creating_pair-leading i j h f = go (eq-or-ne i 0)
  where
    go : (i ≡ 0) ⊎ (i ≡ 0 → ⊥) → creating_pair i j ≡ 256 - (4 * count_leading_zeros 64 i + 3 - j)
    go (inl e) =
        let z : count_leading_zeros 64 i ≡ 64 = ap (count_leading_zeros 64) e ∙ leading_of_zero 64 in
        omega (arith, z, creating_pair-none i j e)
    go (inr n) =
        let b = leading-bounds i n f in
        let e : highest_bit 64 i ≡ 63 - count_leading_zeros 64 i =
        highest_bit-is 64 (63 - count_leading_zeros 64 i) i (omega arith) b.1 (rw add-one at b.2) in
        omega (arith, b.0, creating_pair-some i j _ n e)

-- the index's attribute and highest bit, from its pair
pair-of-creating_pair : (i j k z : ℕ) → j < 4 → z < 4 → creating_pair i j ≡ suc (4 * k + z)
    → (j ≡ z) × (highest_bit 64 i ≡ k) × (0 < i)
pair-of-creating_pair i j k z hj hz e = go (eq-or-ne i 0)
  where
    go : (i ≡ 0) ⊎ (i ≡ 0 → ⊥) → (j ≡ z) × (highest_bit 64 i ≡ k) × (0 < i)
    go (inl o) = absurd (omega (arith, creating_pair-none i j o))
    go (inr ne) =
        let p : 4 * highest_bit 64 i + j + 1 ≡ suc (4 * k + z) = sym (creating_pair-some i j _ ne refl) ∙ e in
        (omega arith, omega arith, omega arith)

zero-of-creating_pair : (i j : ℕ) → creating_pair i j ≡ 0 → i ≡ 0
zero-of-creating_pair i j m = go (eq-or-ne i 0)
  where
    go : (i ≡ 0) ⊎ (i ≡ 0 → ⊥) → i ≡ 0
    go (inl e) = e
    go (inr e) = absurd (omega (arith, creating_pair-some i j _ e refl))

-- an earlier pair is an earlier step
created_by-le : (ws : List ℕ) (i j k z : ℕ) → j < 4 → z < 4 → creating_pair i j ≤ suc (4 * k + z)
    → i < 2 ^ get_or ws j 0 → get_or ws j 0 ≤ 16 → created_by ws j i ≤ suc (step_number ws k z)
unfolding created_by
created_by-le ws i j k z hj hz e b f = go (eq-or-ne i 0)
  where
    last : 0 < i → 4 * highest_bit 64 i + j ≤ 4 * k + z
        → (4 * highest_bit 64 i + j < 4 * k + z) ⊎ (4 * k + z ≤ 4 * highest_bit 64 i + j)
        → step_number ws (highest_bit 64 i) j ≤ step_number ws k z
    last p le (inl l) =
        let hk = highest_bit-below (get_or ws j 0) i p b f in
        omega (arith, step_number-lt ws (highest_bit 64 i) j hj hk k z l)
    last p le (inr l) =
        let s : highest_bit 64 i ≡ k = omega arith in
        let q : j ≡ z = omega arith in
        omega (arith, ap (λ x. step_number ws x j) s ∙ ap (step_number ws k) q)

    go : (i ≡ 0) ⊎ (i ≡ 0 → ⊥) → created_by ws j i ≤ suc (step_number ws k z)
    go (inl o) = rw (eq-eqb i 0 o) (omega arith)
    go (inr ne) =
        let p : 0 < i = omega arith in
        let le : 4 * highest_bit 64 i + j ≤ 4 * k + z = omega (arith, creating_pair-some i j _ ne refl) in
        omega (arith, created_by-is ws i j _ p refl, last p le (lt-or-le (4 * highest_bit 64 i + j) (4 * k + z)))

-- ---- the vector

max-less : (a b : ℕ) → max (256 - a) (256 - b) ≡ 256 - min a b
max-less a b = omega arith

-- from how many pairs are after each
pub latest_pair-after : (is : List ℕ) (n0 n1 n2 n3 : ℕ) → creating_pair (get_or is 0 0) 0 ≡ 256 - n0
    → creating_pair (get_or is 1 0) 1 ≡ 256 - n1 → creating_pair (get_or is 2 0) 2 ≡ 256 - n2
    → creating_pair (get_or is 3 0) 3 ≡ 256 - n3 → latest_pair is ≡ 256 - min n0 (min n1 (min n2 n3))
unfolding latest_pair
latest_pair-after is n0 n1 n2 n3 e0 e1 e2 e3 =
    rw (e0, e1, e2, e3, max-less n2 n3, max-less n1 (min n2 n3), max-less n0 (min n1 (min n2 n3)))

-- no index other than 0: address 0
pub address-latest_pair-zero : (ws is : List ℕ) → latest_pair is ≡ 0 → address ws is ≡ 0
unfolding latest_pair address address_from latest_step created_by
address-latest_pair-zero ws is e =
    let e0 : get_or is 0 0 ≡ 0 = zero-of-creating_pair (get_or is 0 0) 0 (omega arith) in
    let e1 : get_or is 1 0 ≡ 0 = zero-of-creating_pair (get_or is 1 0) 1 (omega arith) in
    let e2 : get_or is 2 0 ≡ 0 = zero-of-creating_pair (get_or is 2 0) 2 (omega arith) in
    let e3 : get_or is 3 0 ≡ 0 = zero-of-creating_pair (get_or is 3 0) 3 (omega arith) in
    rw (e0, e1, e2, e3)

-- the latest pair (k, z) is a step, and the latest
latest_step-latest_pair : (ws is : List ℕ) → InBox ws is → (k z : ℕ) → z < 4 → latest_pair is ≡ suc (4 * k + z)
    → (k < get_or ws z 0) × (latest_step ws is ≡ suc (step_number ws k z))
unfolding latest_pair
latest_step-latest_pair ws is b k z hz e =
    let f : ℕ → ℕ = λ r. creating_pair (get_or is r 0) r in
    let w = max-attained f (suc (4 * k + z)) e in
    let m = pair-of-creating_pair (get_or is w.0 0) w.0 k z w.1 hz w.2 in
    at (max_bounds f (suc (4 * k + z)) e)
    (subst (λ r. (highest_bit 64 (get_or is r 0) ≡ k) × (0 < get_or is r 0)) m.0 (m.1, m.2))
  where
    at : ((r : ℕ) → r < 4 → creating_pair (get_or is r 0) r ≤ suc (4 * k + z))
        → (highest_bit 64 (get_or is z 0) ≡ k) × (0 < get_or is z 0)
        → (k < get_or ws z 0) × (latest_step ws is ≡ suc (step_number ws k z))
    at le m =
        let bit = highest_bit-below (get_or ws z 0) (get_or is z 0) m.1 (b.below z hz) (b.fit z) in (
          subst (λ x. x < get_or ws z 0) m.0 bit,
          latest_step-is ws is (suc (step_number ws k z)) z hz
              (λ r h. created_by-le ws (get_or is r 0) r k z h hz (le r h) (b.below r h) (b.fit r))
              (created_by-is ws (get_or is z 0) z k m.1 m.0),
        )

-- its attribute and the depths before it give the formula
pub address-latest_pair : (ws is : List ℕ) → InBox ws is → (g : ℕ) → latest_pair is ≡ suc g
    → address ws is ≡ formula (g % 4) (sides_before ws g) is
unfolding address address_from
address-latest_pair ws is b g e = at (g / 4) (g % 4) (omega arith) (omega arith)
  where
    at : (k z : ℕ) → z < 4 → g ≡ 4 * k + z → address ws is ≡ formula z (sides_before ws g) is
    at k z hz place =
        let l = latest_step-latest_pair ws is b k z hz (e ∙ ap suc place) in
        ap (address_from ws is) l.1
        ∙ ap (λ s. formula s.attribute (sides ws (step_number ws k z)) is)
        (step-step_number ws k z hz l.0 (b.fit z))
        ∙ ap (λ Js. formula z Js is) (sides-step_number ws k z hz l.0 (b.fit z) ∙ ap (sides_before ws) (sym place))
