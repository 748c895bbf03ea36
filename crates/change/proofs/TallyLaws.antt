-- The tally after an insert: as it was where the record's leaf has room, and else that of the leaf divided n times, one
-- below the other. Assumes nothing.
use Prim.Native.Nat.{ℕ, zero, suc, ◌+◌, ◌-◌, ◌^◌, ◌≤◌, ◌<◌}
use mathlib.Core.Path.{◌≡◌, refl, sym, ap, ◌∙◌}
use mathlib.Core.Bool.{Bool, true, false, cond}
use mathlib.Core.List.{List, []}
use mathlib.Core.Logic.{◌⊎◌, inl, inr}
use native.Mathlib.Omega.{arith}
use native.Mathlib.Nat.{add-zero, zero-add}
use native.Mathlib.Numerals.{add-one}
use lib.Dec.{eqb}
use lib.ListN.{length, get_or, set, length-set}
use lib.Pow.{pow_pos}
use lib.Seq.{get_or-set_same, get_or-set_other, ext_get_or}
use borrow.Author.Tests.{eq-eqb, ne_eqb}
use Rattle.lists.proofs.Numbers.{eq-or-ne}
use Rattle.region.specs.Division.{Division, leaf, divided, tally, leaf_depth}
use Rattle.region.proofs.DivideLaws.{divided_at, divided_along}
use Rattle.region.proofs.CountLaws.{tally_below}
use Rattle.region.proofs.TallyLaws.{tally_below-leaf}
use Rattle.record.specs.Record.{Record}
use Rattle.store.specs.Sound.{tallies}
use Rattle.change.specs.Divided.{divided_once, divided_tally}

-- one at i if it is x
abbrev at : ℕ → ℕ → ℕ
at x i = cond (eqb i x) 1 0

at_same : (x i : ℕ) → i ≡ x → at x i ≡ 1
at_same x i e = rw (eq-eqb i x e)

at_other : (x i : ℕ) → (i ≡ x → ⊥) → at x i ≡ 0
at_other x i n = rw (ne_eqb i x n)

-- ---- the tally as a list

pub length-tallies : (D : Division Record) (x n : ℕ) → length (tallies D x n) ≡ n
length-tallies D x zero = refl
length-tallies D x (suc n) = ap suc (length-tallies D (suc x) n)

pub get_d-tallies : (D : Division Record) (x n i : ℕ) → i < n → get_or (tallies D x n) i 0 ≡ tally D (x + i)
get_d-tallies D x zero i l = absurd (omega arith)
get_d-tallies D x (suc n) zero l = ap (tally D) (sym (add-zero x))
get_d-tallies D x (suc n) (suc i) l =
    let e : suc x + i ≡ x + suc i = omega arith in
    get_d-tallies D (suc x) n i (omega arith) ∙ ap (tally D) e

-- a list with the numbers of the tally is the tally
pub tallies-of : (D : Division Record) (n : ℕ) (leaves : List ℕ) → length leaves ≡ n
    → ((i : ℕ) → i < n → get_or leaves i 0 ≡ tally D i) → leaves ≡ tallies D 0 n
tallies-of D n leaves e h =
    ext_get_or 0 leaves (tallies D 0 n) (e ∙ sym (length-tallies D 0 n))
    (λ i l. h i (omega arith) ∙ sym (get_d-tallies D 0 n i (omega arith) ∙ ap (tally D) (zero-add i)))

-- ---- bounds

-- the leaf that a string leads to is counted
pub tally-leaf_depth : {R : Type 0} (p : ℕ → Bool) (t : ℕ) (D : Division R) → 1 ≤ tally D (leaf_depth p t D)
tally-leaf_depth p t (leaf rs) = omega arith
tally-leaf_depth p t (divided l u) = by_bit (p t) (tally-leaf_depth p (suc t) l) (tally-leaf_depth p (suc t) u)
  where
    by_bit : (β : Bool) → 1 ≤ tally l (leaf_depth p (suc t) l) → 1 ≤ tally u (leaf_depth p (suc t) u)
        → 1 ≤ tally (divided l u) (suc (cond β (leaf_depth p (suc t) u) (leaf_depth p (suc t) l)))
    by_bit true h k = omega arith
    by_bit false h k = omega arith

-- there are 2^i strings of i bits
pub tally-le : {R : Type 0} (D : Division R) (i : ℕ) → tally D i ≤ 2 ^ i
tally-le (leaf rs) i = by-case (eqb i 0)
  where
    by-case : (β : Bool) → cond β 1 0 ≤ 2 ^ i
    by-case true = omega (arith, pow_pos i)
    by-case false = omega arith
tally-le (divided l u) zero = omega arith
tally-le (divided l u) (suc i) = omega (arith, tally-le l i, tally-le u i)

-- ---- divisions below a region of depth x

module _ {R : Type 0} where
  tally_below-divided : (x : ℕ) (l u : Division R) (i : ℕ)
      → tally_below x (divided l u) i ≡ tally_below (suc x) l i + tally_below (suc x) u i
  tally_below-divided zero l u zero = refl
  tally_below-divided zero l u (suc i) = refl
  tally_below-divided (suc x) l u zero = refl
  tally_below-divided (suc x) l u (suc i) = tally_below-divided x l u i

  tally_below-divided_at : (x : ℕ) (β : Bool) (E : Division R) (i : ℕ)
      → tally_below x (divided_at β E (leaf [])) i ≡ at (suc x) i + tally_below (suc x) E i
  tally_below-divided_at x true E i =
      tally_below-divided x (leaf []) E i ∙ ap (λ k. k + tally_below (suc x) E i) (tally_below-leaf {R = R} (suc x) [] i)
  tally_below-divided_at x false E i =
      omega (arith, tally_below-divided x E (leaf []) i, tally_below-leaf {R = R} (suc x) [] i)

-- ---- a leaf divided

module _ (x : ℕ) (leaves : List ℕ) (l : suc x < length leaves) where
  pub length-divided_once : length (divided_once x leaves) ≡ length leaves
  unfolding divided_once
  length-divided_once = simp length-set

  get_d-divided_once : 1 ≤ get_or leaves x 0 → (i : ℕ)
      → get_or (divided_once x leaves) i 0 + at x i ≡ get_or leaves i 0 + (at (suc x) i + at (suc x) i)
  unfolding divided_once
  get_d-divided_once h i = by-case (eq-or-ne i x) (eq-or-ne i (suc x))
    where
      less : List ℕ
      less = set leaves x (get_or leaves x 0 - 1)

      next : ℕ
      next = get_or less (x + 1) 0 + 2

      by-case : (i ≡ x) ⊎ (i ≡ x → ⊥) → (i ≡ suc x) ⊎ (i ≡ suc x → ⊥)
          → get_or (set less (x + 1) next) i 0 + at x i ≡ get_or leaves i 0 + (at (suc x) i + at (suc x) i)
      by-case (inl e) k =
          rw e
          (omega (
            arith,
            at_same x x refl,
            at_other (suc x) x (λ d. omega arith),
            get_or-set_other less (x + 1) x next 0 (λ d. omega arith),
            get_or-set_same leaves x (get_or leaves x 0 - 1) 0 (omega arith),
          ))
      by-case (inr n) (inl e) =
          rw e
          (omega (
            arith,
            at_same (suc x) (suc x) refl,
            at_other x (suc x) (λ d. omega arith),
            ap (λ j. get_or (set less j next) (suc x) 0) (add-one x),
            ap (λ j. get_or less j 0) (add-one x),
            get_or-set_same less (suc x) next 0 (omega (arith, length-set leaves x (get_or leaves x 0 - 1))),
            get_or-set_other leaves x (suc x) (get_or leaves x 0 - 1) 0 (λ d. omega arith),
          ))
      by-case (inr n) (inr k) =
          omega (
            arith,
            at_other x i n,
            at_other (suc x) i k,
            get_or-set_other less (x + 1) i next 0 (λ d. k (d ∙ add-one x)),
            get_or-set_other leaves x i (get_or leaves x 0 - 1) 0 n,
          )

pub length-divided_tally : (x n : ℕ) (leaves : List ℕ) → x + n < length leaves
    → length (divided_tally x n leaves) ≡ length leaves
unfolding divided_tally
length-divided_tally x zero leaves l = refl
length-divided_tally x (suc n) leaves l =
    let once = length-divided_once x leaves (omega arith) in
    length-divided_tally (suc x) n (divided_once x leaves) (omega arith) ∙ once

-- by the tally of the chain that the leaf gives way to
get_d-divided_tally : {R : Type 0} (p : ℕ → Bool) (ys zs : List R) (n t x : ℕ) (leaves : List ℕ)
    → suc (x + n) < length leaves → 1 ≤ get_or leaves x 0 → (i : ℕ)
    → get_or (divided_tally x (suc n) leaves) i 0 + at x i
    ≡ get_or leaves i 0 + tally_below x (divided_along n p t (divided (leaf ys) (leaf zs))) i
unfolding divided_tally
get_d-divided_tally p ys zs zero t x leaves l h i =
    omega (
      arith,
      get_d-divided_once x leaves (omega arith) h i,
      tally_below-divided x (leaf ys) (leaf zs) i,
      tally_below-leaf (suc x) ys i,
      tally_below-leaf (suc x) zs i,
    )
get_d-divided_tally {R} p ys zs (suc n) t x leaves l h i =
    let E : Division R = divided_along n p (suc t) (divided (leaf ys) (leaf zs)) in
    omega (
      arith,
      get_d-divided_once x leaves (omega arith) h i,
      tally_below-divided_at x (p t) E i,
      get_d-divided_tally p ys zs n (suc t) (suc x) (divided_once x leaves)
          (omega (arith, length-divided_once x leaves (omega arith)))
          (omega (
            arith,
            get_d-divided_once x leaves (omega arith) h (suc x),
            at_same (suc x) (suc x) refl,
            at_other x (suc x) (λ e. omega arith),
          ))
          i,
    )

-- ---- after an insert

-- the record's leaf, of depth x, gives way to its division E
abbrev pub TalliedBelow : {R : Type 0} → Division R → Division R → ℕ → Division R → Type 0
TalliedBelow D D' x E = (i : ℕ) → tally D' i + at x i ≡ tally D i + tally_below x E i

module _ (D D' : Division Record) (x n : ℕ) where
  pub tallies-same : (rs : List Record) → TalliedBelow D D' x (leaf rs) → tallies D 0 n ≡ tallies D' 0 n
  tallies-same rs h =
      tallies-of D' n (tallies D 0 n) (length-tallies D 0 n)
      (λ i l. get_d-tallies D 0 n i l ∙ ap (tally D) (zero-add i)
      ∙ (let e : tally D i ≡ tally D' i = omega (arith, h i, tally_below-leaf x rs i) in e))

  pub tallies-divided : (p : ℕ → Bool) (t k : ℕ) (ys zs : List Record)
      → TalliedBelow D D' x (divided_along k p t (divided (leaf ys) (leaf zs))) → suc (x + k) < n → 1 ≤ tally D x
      → divided_tally x (suc k) (tallies D 0 n) ≡ tallies D' 0 n
  tallies-divided p t k ys zs h l c =
      tallies-of D' n (divided_tally x (suc k) (tallies D 0 n))
      (length-divided_tally x (suc k) (tallies D 0 n) (omega (arith, length-tallies D 0 n)) ∙ length-tallies D 0 n)
      (λ i m. here i m)
    where
      read : (i : ℕ) → i < n → get_or (tallies D 0 n) i 0 ≡ tally D i
      read i m = get_d-tallies D 0 n i m ∙ ap (tally D) (zero-add i)

      here : (i : ℕ) → i < n → get_or (divided_tally x (suc k) (tallies D 0 n)) i 0 ≡ tally D' i
      here i m =
          omega (
            arith,
            h i,
            read i m,
            get_d-divided_tally p ys zs k t x (tallies D 0 n) (omega (arith, length-tallies D 0 n))
                (omega (arith, read x (omega arith))) i,
          )
