-- Laws of members: what holds of all, sums, mapped and filtered lists, lists without repeats, numbers below a bound.
-- Assumes nothing.
use Prim.Native.Nat.{ℕ, zero, suc, ◌+◌, ◌≤◌, ◌<◌}
use mathlib.Core.Path.{◌≡◌, refl, sym, ap, ◌∙◌}
use mathlib.Core.Bool.{Bool, true, false, cond}
use mathlib.Core.List.{List, [], ◌∷◌, ◌++◌, map}
use mathlib.Core.Logic.{◌⊎◌, inl, inr}
use native.Mathlib.Omega.{arith}
use native.Mathlib.Nat.{zero-add}
use lib.ListN.{length}
use Rattle.lists.specs.Filter.{filter}
use Rattle.lists.specs.Members.{Member, All, NoRepeat}
use Rattle.lists.proofs.Numbers.{eq-or-ne}

module _ {A : Type 0} where
  -- ---- what holds of all

  pub All-imp : (P Q : A → Type 0) → ((x : A) → P x → Q x) → (xs : List A) → All P xs → All Q xs
  All-imp P Q f [] h = tt
  All-imp P Q f (x ∷ xs) h = (f x h.0, All-imp P Q f xs h.1)

  pub All-both : (P Q X : A → Type 0) → ((x : A) → P x → Q x → X x) → (xs : List A) → All P xs → All Q xs → All X xs
  All-both P Q X f [] h k = tt
  All-both P Q X f (x ∷ xs) h k = (f x h.0 k.0, All-both P Q X f xs h.1 k.1)

  pub All-append : (P : A → Type 0) (xs ys : List A) → All P xs → All P ys → All P (xs ++ ys)
  All-append P [] ys h k = k
  All-append P (x ∷ xs) ys h k = (h.0, All-append P xs ys h.1 k)

  pub All-member : (P : A → Type 0) (xs : List A) → All P xs → (x : A) → Member x xs → P x
  All-member P [] h x m = absurd m
  All-member P (y ∷ ys) h x (inl e) = rw e h.0
  All-member P (y ∷ ys) h x (inr m) = All-member P ys h.1 x m

  pub All-of-member : (P : A → Type 0) (xs : List A) → ((x : A) → Member x xs → P x) → All P xs
  All-of-member P [] f = tt
  All-of-member P (x ∷ xs) f = (f x (inl refl), All-of-member P xs (λ y m. f y (inr m)))

  -- ---- sums

  pub Member-append-right : (x : A) (xs ys : List A) → Member x ys → Member x (xs ++ ys)
  Member-append-right x [] ys m = m
  Member-append-right x (y ∷ xs) ys m = inr (Member-append-right x xs ys m)

  pub NoRepeat-append : (xs ys : List A) → NoRepeat xs → NoRepeat ys → All (λ x. All (λ y. x ≡ y → ⊥) ys) xs
      → NoRepeat (xs ++ ys)
  NoRepeat-append [] ys h k c = k
  NoRepeat-append (x ∷ xs) ys h k c =
      (All-append (λ y. x ≡ y → ⊥) xs ys h.0 c.0, NoRepeat-append xs ys h.1 k c.1)

  -- ---- lengths

  -- the list without one of its members
  drop_member : (x : A) (xs : List A) → Member x xs → List A
  drop_member x [] m = absurd m
  drop_member x (y ∷ ys) (inl e) = ys
  drop_member x (y ∷ ys) (inr m) = y ∷ drop_member x ys m

  length-drop_member : (x : A) (xs : List A) (m : Member x xs) → suc (length (drop_member x xs m)) ≡ length xs
  unfolding drop_member
  length-drop_member x [] m = absurd m
  length-drop_member x (y ∷ ys) (inl e) = refl
  length-drop_member x (y ∷ ys) (inr m) = ap suc (length-drop_member x ys m)

  Member-drop_member : (x z : A) (xs : List A) (m : Member x xs) → (x ≡ z → ⊥) → Member z xs
      → Member z (drop_member x xs m)
  unfolding drop_member
  Member-drop_member x z [] m n h = absurd m
  Member-drop_member x z (y ∷ ys) (inl e) n (inl d) = absurd (n (e ∙ sym d))
  Member-drop_member x z (y ∷ ys) (inl e) n (inr h) = h
  Member-drop_member x z (y ∷ ys) (inr m) n (inl d) = inl d
  Member-drop_member x z (y ∷ ys) (inr m) n (inr h) = inr (Member-drop_member x z ys m n h)

  -- a list without repeats is no longer than one that has all its members
  pub length-le-members : (xs ys : List A) → NoRepeat xs → All (λ x. Member x ys) xs → length xs ≤ length ys
  length-le-members [] ys h k = omega arith
  length-le-members (x ∷ xs) ys h k =
      let rest = drop_member x ys k.0 in
      let among : All (λ y. Member y rest) xs =
      All-both (λ y. x ≡ y → ⊥) (λ y. Member y ys) (λ y. Member y rest)
      (λ y n m. Member-drop_member x y ys k.0 n m) xs h.0 k.1 in
      omega (arith, length-drop_member x ys k.0, length-le-members xs rest h.1 among)

-- ---- mapped and filtered lists

module _ {A B : Type 0} where
  pub All-map : (P : B → Type 0) (f : A → B) (xs : List A) → All (λ x. P (f x)) xs → All P (map f xs)
  All-map P f [] h = tt
  All-map P f (x ∷ xs) h = (h.0, All-map P f xs h.1)

  pub Member-map : (f : A → B) (x : A) (xs : List A) → Member x xs → Member (f x) (map f xs)
  Member-map f x [] m = absurd m
  Member-map f x (y ∷ ys) (inl e) = inl (ap f e)
  Member-map f x (y ∷ ys) (inr m) = inr (Member-map f x ys m)

module _ {A : Type 0} where
  pub All-filter : (P : A → Type 0) (h : A → Bool) (xs : List A) → All P xs
      → All (λ x. P x × (h x ≡ true)) (filter h xs)
  All-filter P h [] k = tt
  All-filter P h (x ∷ xs) k = put (h x) refl (All-filter P h xs k.1)
    where
      put : (β : Bool) → h x ≡ β → All (λ y. P y × (h y ≡ true)) (filter h xs)
          → All (λ y. P y × (h y ≡ true)) (cond β (x ∷ []) [] ++ filter h xs)
      put true e ih = ((k.0, e), ih)
      put false e ih = ih

  pub Member-filter : (h : A → Bool) (x : A) (xs : List A) → Member x xs → h x ≡ true → Member x (filter h xs)
  Member-filter h x [] m e = absurd m
  Member-filter h x (y ∷ ys) (inl d) e = rw (← d, e) (inl refl)
  Member-filter h x (y ∷ ys) (inr m) e =
      Member-append-right x (cond (h y) (y ∷ []) []) (filter h ys) (Member-filter h x ys m e)

  pub Member-of-filter : (h : A → Bool) (x : A) (xs : List A) → Member x (filter h xs) → Member x xs × (h x ≡ true)
  Member-of-filter h x xs m =
      All-member (λ y. Member y xs × (h y ≡ true)) (filter h xs)
      (All-filter (λ y. Member y xs) h xs (All-of-member (λ y. Member y xs) xs (λ y k. k))) x m

  module _ {B : Type 0} where
    pub NoRepeat-map-filter : (f : A → B) (h : A → Bool) (xs : List A) → NoRepeat (map f xs)
        → NoRepeat (map f (filter h xs))
    NoRepeat-map-filter f h [] k = tt
    NoRepeat-map-filter f h (x ∷ xs) k = put (h x) (NoRepeat-map-filter f h xs k.1)
      where
        others : All (λ z. f x ≡ z → ⊥) (map f (filter h xs))
        others =
            All-map (λ z. f x ≡ z → ⊥) f (filter h xs)
            (All-of-member (λ y. f x ≡ f y → ⊥) (filter h xs)
            (λ y m. All-member (λ z. f x ≡ z → ⊥) (map f xs) k.0 (f y)
            (Member-map f y xs (Member-of-filter h y xs m).0)))

        put : (β : Bool) → NoRepeat (map f (filter h xs)) → NoRepeat (map f (cond β (x ∷ []) [] ++ filter h xs))
        put true ih = (others, ih)
        put false ih = ih

    -- where equal values of f come of equal values of g
    pub NoRepeat-map : {C : Type 0} (f : A → B) (g : A → C) (xs : List A)
        → ((x y : A) → Member x xs → Member y xs → f x ≡ f y → g x ≡ g y) → NoRepeat (map g xs) → NoRepeat (map f xs)
    NoRepeat-map f g [] h k = tt
    NoRepeat-map f g (x ∷ xs) h k = (
      All-map (λ z. f x ≡ z → ⊥) f xs
          (All-of-member (λ y. f x ≡ f y → ⊥) xs (λ y m e. differ y m (h x y (inl refl) (inr m) e))),
      NoRepeat-map f g xs (λ y z m n e. h y z (inr m) (inr n) e) k.1,
    )
      where
        differ : (y : A) → Member y xs → g x ≡ g y → ⊥
        differ y m = All-member (λ z. g x ≡ z → ⊥) (map g xs) k.0 (g y) (Member-map g y xs m)

-- ---- numbers below a bound

-- n numbers, from k on
abbrev numbers_from : ℕ → ℕ → List ℕ
numbers_from k zero = []
numbers_from k (suc n) = k ∷ numbers_from (suc k) n

length-numbers_from : (k n : ℕ) → length (numbers_from k n) ≡ n
length-numbers_from k zero = refl
length-numbers_from k (suc n) = ap suc (length-numbers_from (suc k) n)

numbers_from-above : (k n j : ℕ) → j < k → All (λ y. j ≡ y → ⊥) (numbers_from k n)
numbers_from-above k zero j h = tt
numbers_from-above k (suc n) j h = (λ e. omega arith, numbers_from-above (suc k) n j (omega arith))

NoRepeat-numbers_from : (k n : ℕ) → NoRepeat (numbers_from k n)
NoRepeat-numbers_from k zero = tt
NoRepeat-numbers_from k (suc n) = (numbers_from-above (suc k) n k (omega arith), NoRepeat-numbers_from (suc k) n)

Member-numbers_from : (k n g : ℕ) → k ≤ g → g < k + n → Member g (numbers_from k n)
Member-numbers_from k zero g h l = absurd (omega arith)
Member-numbers_from k (suc n) g h l = by-case (eq-or-ne g k) (λ m. Member-numbers_from (suc k) n g m (omega arith))
  where
    by-case : (g ≡ k) ⊎ (g ≡ k → ⊥) → (suc k ≤ g → Member g (numbers_from (suc k) n)) → Member g (numbers_from k (suc n))
    by-case (inl e) ih = inl e
    by-case (inr e) ih = inr (ih (omega arith))

All-numbers_from : (P : ℕ → Type 0) (k n : ℕ) → ((g : ℕ) → k ≤ g → g < k + n → P g) → All P (numbers_from k n)
All-numbers_from P k zero f = tt
All-numbers_from P k (suc n) f =
    (f k (omega arith) (omega arith), All-numbers_from P (suc k) n (λ g h l. f g (omega arith) (omega arith)))

-- numbers below n, each once, are at most n; if all are there, at least n
pub length-le-below : (n : ℕ) (xs : List ℕ) → NoRepeat xs → All (λ x. x < n) xs → length xs ≤ n
length-le-below n xs h k =
    let among : All (λ x. Member x (numbers_from 0 n)) xs =
    All-imp (λ x. x < n) (λ x. Member x (numbers_from 0 n))
    (λ x l. Member-numbers_from 0 n x (omega arith) (omega (arith, zero-add n))) xs k in
    omega (arith, length-numbers_from 0 n, length-le-members xs (numbers_from 0 n) h among)

pub le-length-below : (n : ℕ) (xs : List ℕ) → ((x : ℕ) → x < n → Member x xs) → n ≤ length xs
le-length-below n xs h =
    let among : All (λ x. Member x xs) (numbers_from 0 n) =
    All-numbers_from (λ x. Member x xs) 0 n (λ g k l. h g (omega (arith, zero-add n))) in
    omega (arith, length-numbers_from 0 n, length-le-members (numbers_from 0 n) xs (NoRepeat-numbers_from 0 n) among)
