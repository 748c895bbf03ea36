-- Laws of lists by a test: filters of sums and of filters, filters that keep all or nothing, tests on all elements,
-- lengths. Assumes nothing.
use Prim.Native.Nat.{suc, ◌+◌, ◌≤◌, ◌<◌}
use mathlib.Core.Path.{◌≡◌, refl, sym, ap, ◌∙◌}
use mathlib.Core.Bool.{Bool, true, false, not, ◌&&◌, cond, and_comm, true≢false}
use mathlib.Core.List.{List, [], ◌∷◌, ◌++◌, map, append_assoc, append-nil}
use native.Mathlib.Omega.{arith}
use lib.ListN.{length}
use Rattle.lists.specs.Filter.{filter, all}
use Rattle.lists.proofs.Bools.{and_split, and_both, eq-of-iff}

module _ {A : Type 0} where
  -- ---- tests on all elements

  pub all_true : (xs : List A) → all (λ x. true) xs ≡ true
  all_true [] = refl
  all_true (x ∷ xs) = all_true xs

  pub all-imp : (f g : A → Bool) → ((x : A) → f x ≡ true → g x ≡ true) → (xs : List A) → all f xs ≡ true
      → all g xs ≡ true
  all-imp f g h [] e = refl
  all-imp f g h (x ∷ xs) e =
      let k = and_split (f x) (all f xs) e in
      and_both (g x) (all g xs) (h x k.0) (all-imp f g h xs k.1)

  pub all-and : (f g : A → Bool) (xs : List A) → all f xs ≡ true → all g xs ≡ true → all (λ x. f x && g x) xs ≡ true
  all-and f g [] e d = refl
  all-and f g (x ∷ xs) e d =
      let k = and_split (f x) (all f xs) e in
      let l = and_split (g x) (all g xs) d in
      and_both (f x && g x) (all (λ y. f y && g y) xs) (and_both (f x) (g x) k.0 l.0)
      (all-and f g xs k.1 l.1)

  pub all_append : (f : A → Bool) (xs ys : List A) → all f xs ≡ true → all f ys ≡ true → all f (xs ++ ys) ≡ true
  all_append f [] ys h k = k
  all_append f (x ∷ xs) ys h k =
      let l = and_split (f x) (all f xs) h in
      and_both (f x) (all f (xs ++ ys)) l.0 (all_append f xs ys l.1 k)

  all-cond : (g : A → Bool) (β : Bool) (x : A) (xs : List A) → (β ≡ true → g x ≡ true) → all g xs ≡ true
      → all g (cond β (x ∷ []) [] ++ xs) ≡ true
  all-cond g true x xs h k = and_both (g x) (all g xs) (h refl) k
  all-cond g false x xs h k = k

  -- what passes f, and the filter's test, passes g
  pub all_filter : (f h g : A → Bool) → ((x : A) → f x ≡ true → h x ≡ true → g x ≡ true) → (xs : List A)
      → all f xs ≡ true → all g (filter h xs) ≡ true
  all_filter f h g i [] e = refl
  all_filter f h g i (x ∷ xs) e =
      let k = and_split (f x) (all f xs) e in
      all-cond g (h x) x (filter h xs) (i x k.0) (all_filter f h g i xs k.1)

  pub all-filter-same : (f : A → Bool) (xs : List A) → all f (filter f xs) ≡ true
  all-filter-same f xs = all_filter (λ x. true) f f (λ x t e. e) xs (all_true xs)

  -- ---- filters

  pub filter-ext : (f g : A → Bool) → ((x : A) → f x ≡ g x) → (xs : List A) → filter f xs ≡ filter g xs
  filter-ext f g h [] = refl
  filter-ext f g h (x ∷ xs) = cc (h x, filter-ext f g h xs)

  -- two tests that are equal at every element that passes h
  pub filter-cong : (h f g : A → Bool) → ((x : A) → h x ≡ true → f x ≡ g x) → (xs : List A) → all h xs ≡ true
      → filter f xs ≡ filter g xs
  filter-cong h f g i [] e = refl
  filter-cong h f g i (x ∷ xs) e =
      let k = and_split (h x) (all h xs) e in rw (i x k.0, filter-cong h f g i xs k.1)

  pub filter-append : (f : A → Bool) (xs ys : List A) → filter f (xs ++ ys) ≡ filter f xs ++ filter f ys
  filter-append f [] ys = refl
  filter-append f (x ∷ xs) ys =
      ap (λ l. cond (f x) (x ∷ []) [] ++ l) (filter-append f xs ys)
      ∙ sym (append_assoc (cond (f x) (x ∷ []) []) (filter f xs) (filter f ys))

  filter-cond : (f : A → Bool) (β : Bool) (x : A) (xs : List A)
      → filter f (cond β (x ∷ []) [] ++ xs) ≡ cond (β && f x) (x ∷ []) [] ++ filter f xs
  filter-cond f true x xs = refl
  filter-cond f false x xs = refl

  -- two tests, one after the other
  pub filter-filter : (f g : A → Bool) (xs : List A) → filter g (filter f xs) ≡ filter (λ x. f x && g x) xs
  filter-filter f g [] = refl
  filter-filter f g (x ∷ xs) =
      filter-cond g (f x) x (filter f xs) ∙ ap (λ l. cond (f x && g x) (x ∷ []) [] ++ l) (filter-filter f g xs)

  -- two pairs of tests that pass together at the same elements
  pub filter-filter-swap : (f g f' g' : A → Bool) → ((x : A) → (f x && g x) ≡ (f' x && g' x)) → (xs : List A)
      → filter g (filter f xs) ≡ filter g' (filter f' xs)
  filter-filter-swap f g f' g' h xs = filter-filter f g xs ∙ filter-ext _ _ h xs ∙ sym (filter-filter f' g' xs)

  pub filter_comm : (f g : A → Bool) (xs : List A) → filter g (filter f xs) ≡ filter f (filter g xs)
  filter_comm f g xs = filter-filter-swap f g g f (λ x. and_comm (f x) (g x)) xs

  pub filter-true : (xs : List A) → filter (λ x. true) xs ≡ xs
  filter-true [] = refl
  filter-true (x ∷ xs) = ap (λ l. x ∷ l) (filter-true xs)

  pub filter-false : (xs : List A) → filter (λ x. false) xs ≡ []
  filter-false [] = refl
  filter-false (x ∷ xs) = filter-false xs

  -- what passes h passes f, or does not
  pub filter-all : (h f : A → Bool) → ((x : A) → h x ≡ true → f x ≡ true) → (xs : List A) → all h xs ≡ true
      → filter f xs ≡ xs
  filter-all h f i xs e = filter-cong h f (λ x. true) i xs e ∙ filter-true xs

  pub filter_none : (h f : A → Bool) → ((x : A) → h x ≡ true → f x ≡ false) → (xs : List A) → all h xs ≡ true
      → filter f xs ≡ []
  filter_none h f i xs e = filter-cong h f (λ x. false) i xs e ∙ filter-false xs

  -- a constant test and its negation
  pub filter-const : (β : Bool) (xs : List A) → filter (λ x. not β) xs ++ filter (λ x. β) xs ≡ xs
  filter-const true xs = cc (filter-false xs, filter-true xs)
  filter-const false xs = cc (filter-false xs, filter-true xs, append-nil xs)

  map-cond : {B : Type 0} (f : A → B) (β : Bool) (x : A) (xs : List A)
      → map f (cond β (x ∷ []) [] ++ xs) ≡ cond β (f x ∷ []) [] ++ map f xs
  map-cond f true x xs = refl
  map-cond f false x xs = refl

  pub filter_map : {B : Type 0} (f : B → Bool) (g : A → B) (xs : List A)
      → filter f (map g xs) ≡ map g (filter (λ x. f (g x)) xs)
  filter_map f g [] = refl
  filter_map f g (x ∷ xs) =
      ap (λ l. cond (f (g x)) (g x ∷ []) [] ++ l) (filter_map f g xs)
      ∙ sym (map-cond g (f (g x)) x (filter (λ y. f (g y)) xs))

  -- ---- lengths

  length-cond : (β : Bool) (x : A) (xs : List A) → length (cond β (x ∷ []) [] ++ xs) ≡ cond β 1 0 + length xs
  length-cond true x xs = omega arith
  length-cond false x xs = omega arith

pub cond-le-one : (β : Bool) → cond β 1 0 ≤ 1
cond-le-one true = omega arith
cond-le-one false = omega arith

cond-not : (α β : Bool) → β ≡ not α → cond α 1 0 + cond β 1 0 ≡ 1
cond-not true β e = rw e
cond-not false β e = rw e

module _ {A : Type 0} where
  pub length-filter-le : (f : A → Bool) (xs : List A) → length (filter f xs) ≤ length xs
  length-filter-le f [] = omega arith
  length-filter-le f (x ∷ xs) =
      omega (arith, length-cond (f x) x (filter f xs), length-filter-le f xs, cond-le-one (f x))

  -- an element that fails is left out
  pub length-filter-lt : (f : A → Bool) (xs : List A) → all f xs ≡ false → length (filter f xs) < length xs
  length-filter-lt f [] e = absurd (true≢false e)
  length-filter-lt f (x ∷ xs) e = by-test (f x) refl (length-filter-lt f xs)
    where
      by-test : (β : Bool) → f x ≡ β → (all f xs ≡ false → length (filter f xs) < length xs)
          → length (cond β (x ∷ []) [] ++ filter f xs) < suc (length xs)
      by-test true d ih = let k = ih (rw d at e) in omega arith
      by-test false d ih = omega (arith, length-filter-le f xs)

  -- a test that passes where another does
  pub filter-filter-imp : (f g : A → Bool) → ((x : A) → f x ≡ true → g x ≡ true) → (xs : List A)
      → filter f (filter g xs) ≡ filter f xs
  filter-filter-imp f g h xs =
      filter-filter g f xs
      ∙ filter-ext _ _
      (λ x. eq-of-iff (g x && f x) (f x) (λ e. (and_split (g x) (f x) e).1) (λ e. and_both (g x) (f x) (h x e) e)) xs

  pub length-filter-imp : (f g : A → Bool) → ((x : A) → f x ≡ true → g x ≡ true) → (xs : List A)
      → length (filter f xs) ≤ length (filter g xs)
  length-filter-imp f g h xs = rw (← filter-filter-imp f g h xs) (length-filter-le f (filter g xs))

  -- two tests, of which exactly one passes at each element that passes h
  pub length-filter-split : (h f g : A → Bool) → ((x : A) → h x ≡ true → g x ≡ not (f x)) → (xs : List A)
      → all h xs ≡ true → length (filter f xs) + length (filter g xs) ≡ length xs
  length-filter-split h f g i [] e = refl
  length-filter-split h f g i (x ∷ xs) e =
      let k = and_split (h x) (all h xs) e in
      omega (
        arith,
        length-cond (f x) x (filter f xs),
        length-cond (g x) x (filter g xs),
        length-filter-split h f g i xs k.1,
        cond-not (f x) (g x) (i x k.0),
      )
