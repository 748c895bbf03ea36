-- Laws of lists: the element of a mapped list, lists put together from those of each element. Assumes nothing.
use Prim.Native.Nat.{ℕ, zero, suc, ◌<◌}
use mathlib.Core.Path.{◌≡◌, refl, sym, ap, ◌∙◌}
use mathlib.Core.List.{List, [], ◌∷◌, ◌++◌, map, flat_map, append_assoc}
use native.Mathlib.Omega.{arith}
use lib.ListN.{get_or, length}

pub get_d_map : {A B : Type 0} (f : A → B) (l : List A) (p : ℕ) (a : A) (b : B) → p < length l
    → get_or (map f l) p b ≡ f (get_or l p a)
get_d_map f [] p a b h = absurd (omega arith)
get_d_map f (x ∷ l) zero a b h = refl
get_d_map f (x ∷ l) (suc p) a b h = get_d_map f l p a b (omega arith)

module _ {A B : Type 0} where
  pub flat_map-append : (f : A → List B) (xs ys : List A) → flat_map f (xs ++ ys) ≡ flat_map f xs ++ flat_map f ys
  unfolding flat_map
  flat_map-append f [] ys = refl
  flat_map-append f (x ∷ xs) ys =
      ap (λ l. f x ++ l) (flat_map-append f xs ys) ∙ sym (append_assoc (f x) (flat_map f xs) (flat_map f ys))

  pub flat_map-ext : (f g : A → List B) → ((x : A) → f x ≡ g x) → (xs : List A) → flat_map f xs ≡ flat_map g xs
  unfolding flat_map
  flat_map-ext f g h [] = refl
  flat_map-ext f g h (x ∷ xs) = cc (h x, flat_map-ext f g h xs)
