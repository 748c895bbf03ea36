-- Laws of a list with one element more or less: mapped lists, lengths, and the two parts of a list that is cut, as a
-- page is divided that a new record falls into. Assumes nothing.
use Prim.Native.Nat.{ℕ, zero, suc, ◌-◌, ◌≤◌, ◌<◌}
use mathlib.Core.Path.{◌≡◌, refl, ap, ◌∙◌}
use mathlib.Core.List.{List, [], ◌∷◌, ◌++◌, map}
use native.Mathlib.Omega.{arith}
use lib.ListN.{length, take, drop, length-append, length-take, length-drop}
use Rattle.page.specs.Changes.{insert_at, remove_at}

-- ---- mapped lists

module _ {A B : Type 0} (f : A → B) where
  pub map-append : (xs ys : List A) → map f (xs ++ ys) ≡ map f xs ++ map f ys
  map-append [] ys = refl
  map-append (x ∷ xs) ys = ap (λ l. f x ∷ l) (map-append xs ys)

  pub map-take : (n : ℕ) (xs : List A) → map f (take n xs) ≡ take n (map f xs)
  map-take zero xs = refl
  map-take (suc n) [] = refl
  map-take (suc n) (x ∷ xs) = ap (λ l. f x ∷ l) (map-take n xs)

  pub map-drop : (n : ℕ) (xs : List A) → map f (drop n xs) ≡ drop n (map f xs)
  map-drop zero xs = refl
  map-drop (suc n) [] = refl
  map-drop (suc n) (x ∷ xs) = map-drop n xs

  pub map-insert_at : (i : ℕ) (x : A) (xs : List A) → map f (insert_at i x xs) ≡ insert_at i (f x) (map f xs)
  unfolding insert_at
  map-insert_at i x xs =
      map-append (take i xs) (x ∷ drop i xs)
      ∙ ap (λ l. l ++ (f x ∷ map f (drop i xs))) (map-take i xs)
      ∙ ap (λ l. take i (map f xs) ++ (f x ∷ l)) (map-drop i xs)

  pub map-remove_at : (i : ℕ) (xs : List A) → map f (remove_at i xs) ≡ remove_at i (map f xs)
  unfolding remove_at
  map-remove_at i xs =
      map-append (take i xs) (drop (suc i) xs)
      ∙ ap (λ l. l ++ map f (drop (suc i) xs)) (map-take i xs)
      ∙ ap (λ l. take i (map f xs) ++ l) (map-drop (suc i) xs)

module _ {A : Type 0} where
  -- ---- lengths

  pub length-insert_at : (i : ℕ) (x : A) (xs : List A) → length (insert_at i x xs) ≡ suc (length xs)
  unfolding insert_at
  length-insert_at i x xs =
      length-append (take i xs) (x ∷ drop i xs) ∙ omega (arith, length-take i xs, length-drop i xs)

  pub length-remove_at : (i : ℕ) (xs : List A) → i < length xs → suc (length (remove_at i xs)) ≡ length xs
  unfolding remove_at
  length-remove_at i xs h =
      ap suc (length-append (take i xs) (drop (suc i) xs)) ∙ omega (arith, length-take i xs, length-drop (suc i) xs)

  -- ---- cut in two: the element falls into the first part, or into the second

  pub take-insert_at-low : (i m : ℕ) (x : A) (xs : List A) → i ≤ m → m ≤ length xs
      → take (suc m) (insert_at i x xs) ≡ insert_at i x (take m xs)
  unfolding insert_at
  take-insert_at-low zero m x xs h l = refl
  take-insert_at-low (suc i) zero x xs h l = absurd (omega arith)
  take-insert_at-low (suc i) (suc m) x [] h l = absurd (omega arith)
  take-insert_at-low (suc i) (suc m) x (y ∷ xs) h l =
      ap (λ ys. y ∷ ys) (take-insert_at-low i m x xs (omega arith) (omega arith))

  pub drop-insert_at-low : (i m : ℕ) (x : A) (xs : List A) → i ≤ m → m ≤ length xs
      → drop (suc m) (insert_at i x xs) ≡ drop m xs
  unfolding insert_at
  drop-insert_at-low zero m x xs h l = refl
  drop-insert_at-low (suc i) zero x xs h l = absurd (omega arith)
  drop-insert_at-low (suc i) (suc m) x [] h l = absurd (omega arith)
  drop-insert_at-low (suc i) (suc m) x (y ∷ xs) h l = drop-insert_at-low i m x xs (omega arith) (omega arith)

  pub take-insert_at-high : (i m : ℕ) (x : A) (xs : List A) → m ≤ i → i ≤ length xs
      → take m (insert_at i x xs) ≡ take m xs
  unfolding insert_at
  take-insert_at-high i zero x xs h l = refl
  take-insert_at-high zero (suc m) x xs h l = absurd (omega arith)
  take-insert_at-high (suc i) (suc m) x [] h l = absurd (omega arith)
  take-insert_at-high (suc i) (suc m) x (y ∷ xs) h l =
      ap (λ ys. y ∷ ys) (take-insert_at-high i m x xs (omega arith) (omega arith))

  pub drop-insert_at-high : (i m : ℕ) (x : A) (xs : List A) → m ≤ i → i ≤ length xs
      → drop m (insert_at i x xs) ≡ insert_at (i - m) x (drop m xs)
  unfolding insert_at
  drop-insert_at-high i zero x xs h l =
      let e : i ≡ i - 0 = omega arith in
      ap (λ k. take k xs ++ (x ∷ drop k xs)) e
  drop-insert_at-high zero (suc m) x xs h l = absurd (omega arith)
  drop-insert_at-high (suc i) (suc m) x [] h l = absurd (omega arith)
  drop-insert_at-high (suc i) (suc m) x (y ∷ xs) h l =
      let e : i - m ≡ suc i - suc m = omega arith in
      drop-insert_at-high i m x xs (omega arith) (omega arith)
      ∙ ap (λ k. take k (drop m xs) ++ (x ∷ drop k (drop m xs))) e
