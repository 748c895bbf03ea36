-- Laws of a place in a list in split order, told from the elements beside it: the list with r inserted there, or
-- without the element there, is the set with r, or without r's key. Assumes nothing.
use Prim.Native.Nat.{ℕ, zero, suc, ◌≤◌, ◌<◌}
use mathlib.Core.Path.{◌≡◌, refl, sym, ap, ◌∙◌}
use mathlib.Core.Bool.{Bool, true, false, not, true≢false}
use mathlib.Core.List.{List, [], ◌∷◌}
use native.Mathlib.Omega.{arith}
use lib.ListN.{length, get_or}
use Rattle.lists.specs.Filter.{all}
use Rattle.lists.proofs.Bools.{and_split, and_both}
use Rattle.lists.proofs.FilterLaws.{all-imp, filter-all, filter_none}
use Rattle.region.specs.Strings.{same_bits}
use Rattle.region.specs.Sets.{before, sorted, with_prefix, absent, insert, remove}
use Rattle.region.proofs.StringLaws.{same_bits-comm, same_bits-join}
use Rattle.region.proofs.OrderLaws.{before-trans, before-asym, same_bits-before}
use Rattle.page.specs.Changes.{insert_at, remove_at}

pub all_get_d : {A : Type 0} (f : A → Bool) (xs : List A) (i : ℕ) (d : A) → all f xs ≡ true → i < length xs
    → f (get_or xs i d) ≡ true
all_get_d f [] i d e h = absurd (omega arith)
all_get_d f (x ∷ xs) zero d e h = (and_split (f x) (all f xs) e).0
all_get_d f (x ∷ xs) (suc i) d e h = all_get_d f xs i d (and_split (f x) (all f xs) e).1 (omega arith)

module _ {R : Type 0} (bit : R → ℕ → Bool) (n t : ℕ) (r d : R) where
  parts : (x : R) (xs : List R) → sorted bit n t (x ∷ xs) ≡ true
      → (all (before bit n t x) xs ≡ true) × (sorted bit n t xs ≡ true)
  parts x xs o = and_split (all (before bit n t x) xs) (sorted bit n t xs) o

  -- r stands behind the element just before place i, and before the element at it
  abbrev pub Between : List R → ℕ → Type 0
  Between l i =
      (i ≤ length l)
      × ((k : ℕ) → suc k ≡ i → before bit n t (get_or l k d) r ≡ true)
      × (i < length l → before bit n t r (get_or l i d) ≡ true)

  -- and so behind all before it
  first-before : (x : R) (xs : List R) (i : ℕ) → sorted bit n t (x ∷ xs) ≡ true → Between (x ∷ xs) (suc i)
      → before bit n t x r ≡ true
  first-before x xs zero o b = b.1 0 refl
  first-before x xs (suc i) o b =
      before-trans bit n t x (get_or xs i d) r
      (all_get_d (before bit n t x) xs i d (parts x xs o).0 (omega (arith, b.0))) (b.1 (suc i) refl)

  between-rest : (x : R) (xs : List R) (i : ℕ) → Between (x ∷ xs) (suc i) → Between xs i
  between-rest x xs i b = (omega (arith, b.0), (λ k e. b.1 (suc k) (ap suc e)), (λ l. b.2 (omega arith)))

  pub insert_at-between : (l : List R) (i : ℕ) → sorted bit n t l ≡ true → Between l i
      → insert_at i r l ≡ insert bit n t r l
  unfolding insert_at
  insert_at-between [] zero o b = refl
  insert_at-between [] (suc i) o b = absurd (omega (arith, b.0))
  insert_at-between (x ∷ xs) zero o b =
      let first = b.2 (omega arith) in
      let behind = (parts x xs o).0 in
      sym
      (rw (
        before-asym bit n t r x first,
        first,
        filter_none (before bit n t x) (λ y. before bit n t y r)
            (λ y k. before-asym bit n t r y (before-trans bit n t r x y first k)) xs behind,
        filter-all (before bit n t x) (λ y. before bit n t r y) (λ y k. before-trans bit n t r x y first k) xs behind,
      ))
  insert_at-between (x ∷ xs) (suc i) o b =
      let first = first-before x xs i o b in
      ap (λ l. x ∷ l) (insert_at-between xs i (parts x xs o).1 (between-rest x xs i b))
      ∙ sym (rw (first, before-asym bit n t x r first))

  -- no element has r's key
  pub absent-between : (l : List R) (i : ℕ) → sorted bit n t l ≡ true → Between l i → absent bit n t r l ≡ true
  absent-between [] i o b = refl
  absent-between (x ∷ xs) zero o b =
      let first = b.2 (omega arith) in
      and_both _ _ (ap not (same_bits-before bit n t r x first))
      (all-imp (before bit n t x) (λ y. not (same_bits (bit r) (bit y) n t))
      (λ y k. ap not (same_bits-before bit n t r y (before-trans bit n t r x y first k))) xs (parts x xs o).0)
  absent-between (x ∷ xs) (suc i) o b =
      and_both _ _
      (ap not (same_bits-comm (bit r) (bit x) n t ∙ same_bits-before bit n t x r (first-before x xs i o b)))
      (absent-between xs i (parts x xs o).1 (between-rest x xs i b))

  -- ---- an element with r's key

  -- of two elements in order only one has it
  only_one : (x y : R) → before bit n t x y ≡ true → same_bits (bit r) (bit x) n t ≡ true
      → same_bits (bit r) (bit y) n t ≡ false
  only_one x y b e = go (same_bits (bit r) (bit y) n t) refl
    where
      go : (β : Bool) → same_bits (bit r) (bit y) n t ≡ β → same_bits (bit r) (bit y) n t ≡ false
      go false f = f
      go true f =
          absurd
          (true≢false
          (sym
          (same_bits-join (bit x) (bit y) (bit r) n t (same_bits-comm (bit x) (bit r) n t ∙ e)
          (same_bits-comm (bit y) (bit r) n t ∙ f))
          ∙ same_bits-before bit n t x y b))

  not_first : (x y : R) → before bit n t x y ≡ true → same_bits (bit r) (bit y) n t ≡ true
      → same_bits (bit r) (bit x) n t ≡ false
  not_first x y b e = go (same_bits (bit r) (bit x) n t) refl
    where
      go : (β : Bool) → same_bits (bit r) (bit x) n t ≡ β → same_bits (bit r) (bit x) n t ≡ false
      go false f = f
      go true f = absurd (true≢false (sym e ∙ only_one x y b f))

  pub remove_at-same : (l : List R) (i : ℕ) → sorted bit n t l ≡ true → i < length l
      → same_bits (bit r) (bit (get_or l i d)) n t ≡ true → remove_at i l ≡ remove bit n t r l
  unfolding remove_at
  remove_at-same [] i o h e = absurd (omega arith)
  remove_at-same (x ∷ xs) zero o h e =
      sym
      (rw (
        e,
        filter-all (before bit n t x) (λ y. not (same_bits (bit r) (bit y) n t)) (λ y b. ap not (only_one x y b e)) xs
            (parts x xs o).0,
      ))
  remove_at-same (x ∷ xs) (suc i) o h e =
      let first = all_get_d (before bit n t x) xs i d (parts x xs o).0 (omega arith) in
      ap (λ l. x ∷ l) (remove_at-same xs i (parts x xs o).1 (omega arith) e)
      ∙ sym (rw (not_first x (get_or xs i d) first e))

  pub with_prefix-same : (l : List R) (i : ℕ) → sorted bit n t l ≡ true → i < length l
      → same_bits (bit r) (bit (get_or l i d)) n t ≡ true → with_prefix bit (bit r) n t l ≡ get_or l i d ∷ []
  with_prefix-same [] i o h e = absurd (omega arith)
  with_prefix-same (x ∷ xs) zero o h e =
      rw (
        e,
        filter_none (before bit n t x) (λ y. same_bits (bit r) (bit y) n t) (λ y b. only_one x y b e) xs
            (parts x xs o).0,
      )
  with_prefix-same (x ∷ xs) (suc i) o h e =
      let first = all_get_d (before bit n t x) xs i d (parts x xs o).0 (omega arith) in
      rw (not_first x (get_or xs i d) first e) (with_prefix-same xs i (parts x xs o).1 (omega arith) e)
