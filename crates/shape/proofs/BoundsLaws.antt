-- Laws of bounds: a test on each number below n; the lowest that passes one; ranges; shapes within their bounds.
-- Assumes nothing.
use Prim.Native.Nat.{ℕ, zero, suc, ◌≤◌, ◌<◌}
use mathlib.Core.Path.{◌≡◌, refl, sym, ap, subst, ◌∙◌}
use mathlib.Core.Logic.{◌⊎◌, inl, inr}
use mathlib.Core.Bool.{Bool, true, false, cond, ◌&&◌, and-false}
use native.Mathlib.Omega.{arith}
use lib.Dec.{leb}
use lib.ListN.{get_or}
use borrow.Author.Tests.{leb-true}
use Rattle.lists.proofs.Bools.{and_split}
use Rattle.lists.proofs.Numbers.{eq-or-ne}
use Rattle.shape.specs.Shape.{within, all_below, in_bounds, lowest_below}
use Rattle.shape.specs.declared.Shape.{Shape}

-- ---- a test on each number below n

module _ (test : ℕ → Bool) where
  pub all_below-suc : (n : ℕ) → all_below n test ≡ true → test n ≡ true → all_below (suc n) test ≡ true
  all_below-suc n e t = rw e t

  pub all_below-fails : (n j : ℕ) → j < n → test j ≡ false → all_below n test ≡ false
  all_below-fails zero j l t = absurd (omega arith)
  all_below-fails (suc n) j l t = go (eq-or-ne j n) (λ k. all_below-fails n j k t)
    where
      go : (j ≡ n) ⊎ (j ≡ n → ⊥) → (j < n → all_below n test ≡ false) → all_below (suc n) test ≡ false
      go (inl e) below = ap (λ b. all_below n test && b) (subst (λ i. test i ≡ false) e t) ∙ and-false (all_below n test)
      go (inr e) below = ap (λ b. b && test n) (below (omega arith))

  pub test-of-all_below : (n j : ℕ) → all_below n test ≡ true → j < n → test j ≡ true
  test-of-all_below zero j e l = absurd (omega arith)
  test-of-all_below (suc n) j e l = go (eq-or-ne j n) (λ k. test-of-all_below n j parts.0 k)
    where
      parts : (all_below n test ≡ true) × (test n ≡ true)
      parts = and_split (all_below n test) (test n) e

      go : (j ≡ n) ⊎ (j ≡ n → ⊥) → (j < n → test j ≡ true) → test j ≡ true
      go (inl q) below = subst (λ i. test i ≡ true) (sym q) parts.1
      go (inr q) below = below (omega arith)

pub all_below-true : (n : ℕ) (test : ℕ → Bool) → ((j : ℕ) → j < n → test j ≡ true) → all_below n test ≡ true
all_below-true zero test all = refl
all_below-true (suc n) test all = rw (all_below-true n test (λ j l. all j (omega arith)), all n (omega arith))

pub all_below-ext : (n : ℕ) (f g : ℕ → Bool) → ((j : ℕ) → j < n → f j ≡ g j) → all_below n f ≡ all_below n g
all_below-ext zero f g h = refl
all_below-ext (suc n) f g h = cc (all_below-ext n f g (λ j l. h j (omega arith)), h n (omega arith))

-- ---- the lowest number that passes a test

-- numbers below n fail it, and n does
pub below_suc : (test : ℕ → Bool) (n : ℕ) → ((i : ℕ) → i < n → test i ≡ false) → test n ≡ false
    → (i : ℕ) → i < suc n → test i ≡ false
below_suc test n below last i l = go (eq-or-ne i n)
  where
    go : (i ≡ n) ⊎ (i ≡ n → ⊥) → test i ≡ false
    go (inl e) = subst (λ k. test k ≡ false) (sym e) last
    go (inr e) = below i (omega arith)

pub lowest_below-found : (n : ℕ) (test : ℕ → Bool) (j : ℕ) → j < n → test j ≡ true
    → ((i : ℕ) → i < j → test i ≡ false) → lowest_below n test ≡ j
lowest_below-found zero test j l t below = absurd (omega arith)
lowest_below-found (suc n) test zero l t below = rw t
lowest_below-found (suc n) test (suc j) l t below =
    rw (below 0 (omega arith))
    (ap suc (lowest_below-found n (λ i. test (suc i)) j (omega arith) t (λ i k. below (suc i) (omega arith))))

pub lowest_below-none : (n : ℕ) (test : ℕ → Bool) → ((i : ℕ) → i < n → test i ≡ false) → lowest_below n test ≡ n
lowest_below-none zero test below = refl
lowest_below-none (suc n) test below =
    rw (below 0 (omega arith)) (ap suc (lowest_below-none n (λ i. test (suc i)) (λ i k. below (suc i) (omega arith))))

pub before-lowest_below : (n : ℕ) (test : ℕ → Bool) (i : ℕ) → i < lowest_below n test → test i ≡ false
before-lowest_below zero test i l = absurd (omega arith)
before-lowest_below (suc n) test i l = go (test 0) refl i l (before-lowest_below n (λ j. test (suc j)))
  where
    go : (β : Bool) → test 0 ≡ β → (i : ℕ) → i < cond β 0 (suc (lowest_below n (λ j. test (suc j))))
        → ((k : ℕ) → k < lowest_below n (λ j. test (suc j)) → test (suc k) ≡ false) → test i ≡ false
    go true e i l rest = absurd (omega arith)
    go false e zero l rest = e
    go false e (suc i) l rest = rest i (omega arith)

-- ---- ranges

pub within-le : (lo hi x : ℕ) → within lo hi x ≡ true → x ≤ hi
within-le lo hi x e = leb-true x hi (and_split (leb lo x) (leb x hi) e).1

-- ---- shapes, by case

module _ (s : Shape) where
  pub width-of-in_bounds : (j : ℕ) → in_bounds s ≡ true → j < s.attributes → within 1 16 (get_or s.widths j 0) ≡ true
  unfolding in_bounds
  width-of-in_bounds j e l =
      let test : ℕ → Bool = λ i. within 1 16 (get_or s.widths i 0) in
      let all = all_below s.attributes test in
      let rest = (and_split (within 1 4 s.attributes) (all && within 1 16 s.capacity) e).1 in
      test-of-all_below test s.attributes j (and_split all (within 1 16 s.capacity) rest).0 l

  pub attributes-le : in_bounds s ≡ true → s.attributes ≤ 4
  unfolding in_bounds
  attributes-le e = within-le 1 4 s.attributes (and_split (within 1 4 s.attributes) _ e).0
