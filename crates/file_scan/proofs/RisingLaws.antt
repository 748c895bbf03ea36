-- Laws of lists in split order: their parts, and a record that stands after all. Assumes nothing.
use Prim.Native.Nat.{ℕ}
use mathlib.Core.Path.{◌≡◌, refl, ap, ◌∙◌}
use mathlib.Core.Bool.{Bool, true, not}
use mathlib.Core.List.{List, [], ◌∷◌, ◌++◌}
use lib.ListN.{take, drop, take-append-drop}
use Rattle.lists.specs.Filter.{all}
use Rattle.lists.proofs.Bools.{and_split, and_both}
use Rattle.lists.proofs.FilterLaws.{all-imp, filter-all, filter_none}
use Rattle.region.specs.Sets.{before, sorted, absent, insert}
use Rattle.region.proofs.StringLaws.{same_bits-comm}
use Rattle.region.proofs.OrderLaws.{before-asym, same_bits-before}

-- ---- tests on all elements

module _ {A : Type 0} (f : A → Bool) where
  pub all-append-split : (xs ys : List A) → all f (xs ++ ys) ≡ true → (all f xs ≡ true) × (all f ys ≡ true)
  all-append-split [] ys e = (refl, e)
  all-append-split (x ∷ xs) ys e =
      let k = and_split (f x) (all f (xs ++ ys)) e in
      let l = all-append-split xs ys k.1 in
      (and_both (f x) (all f xs) k.0 l.0, l.1)

  pub all_take : (i : ℕ) (xs : List A) → all f xs ≡ true → all f (take i xs) ≡ true
  all_take i xs e =
      (all-append-split (take i xs) (drop i xs) (ap (all f) (take-append-drop i xs) ∙ e)).0

module _ {R : Type 0} (bit : R → ℕ → Bool) where
  -- ---- parts of a sorted list

  pub sorted-append-split : (n t : ℕ) (xs ys : List R) → sorted bit n t (xs ++ ys) ≡ true
      → (sorted bit n t xs ≡ true) × (sorted bit n t ys ≡ true) × (all (λ x. all (before bit n t x) ys) xs ≡ true)
  sorted-append-split n t [] ys e = (refl, e, refl)
  sorted-append-split n t (x ∷ xs) ys e =
      let k = and_split (all (before bit n t x) (xs ++ ys)) (sorted bit n t (xs ++ ys)) e in
      let l = all-append-split (before bit n t x) xs ys k.0 in
      let m = sorted-append-split n t xs ys k.1 in
      (and_both _ _ l.0 m.0, m.1, and_both _ _ l.1 m.2)

  pub sorted-take : (n t i : ℕ) (S : List R) → sorted bit n t S ≡ true → sorted bit n t (take i S) ≡ true
  sorted-take n t i S e =
      (sorted-append-split n t (take i S) (drop i S) (ap (sorted bit n t) (take-append-drop i S) ∙ e)).0

  -- r stands after all of T
  pub insert-last : (n t : ℕ) (r : R) (T : List R) → all (λ y. before bit n t y r) T ≡ true
      → insert bit n t r T ≡ T ++ (r ∷ [])
  insert-last n t r T e =
      rw (
        filter-all (λ y. before bit n t y r) (λ y. before bit n t y r) (λ y k. k) T e,
        filter_none (λ y. before bit n t y r) (λ y. before bit n t r y) (λ y k. before-asym bit n t y r k) T e,
      )

  pub absent-last : (n t : ℕ) (r : R) (T : List R) → all (λ y. before bit n t y r) T ≡ true
      → absent bit n t r T ≡ true
  absent-last n t r T e =
      all-imp _ _
      (λ y k. ap not (same_bits-comm (bit r) (bit y) n t ∙ same_bits-before bit n t y r k)) T e
