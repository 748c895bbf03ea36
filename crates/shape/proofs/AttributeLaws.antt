-- Laws of lists with one thing for each of the four attributes, and of intervals as numbers. Assumes nothing.
use Prim.Native.Nat.{ℕ, zero, suc, ◌^◌, ◌<◌}
use mathlib.Core.Path.{◌≡◌, refl}
use mathlib.Core.Bool.{Bool, true, false, ◌&&◌}
use mathlib.Core.List.{List, [], ◌∷◌}
use mathlib.Core.Option.{none, some}
use native.Mathlib.Omega.{arith}
use lib.Dec.{ltb}
use lib.ListN.{length, get_or}
use Rattle.shape.specs.Shape.{width_of, widths_of, all_below, index_fits}
use Rattle.shape.specs.Key.{per_attribute, wanted_value, wanted_values}
use Rattle.shape.specs.Range.{interval_if}
use Rattle.shape.specs.declared.Shape.{Shape}
use Rattle.shape.specs.declared.Query.{Query}
use Rattle.shape.specs.declared.Wanted.TheVariants.{Free}

pub get_d-per_attribute : {A : Type 0} (f : ℕ → A) (d : A) (j : ℕ) → j < 4 → get_or (per_attribute f) j d ≡ f j
get_d-per_attribute f d zero l = refl
get_d-per_attribute f d (suc zero) l = refl
get_d-per_attribute f d (suc (suc zero)) l = refl
get_d-per_attribute f d (suc (suc (suc zero))) l = refl
get_d-per_attribute f d (suc (suc (suc (suc j)))) l = absurd (omega arith)

-- what a query says of an attribute
pub get_d-wanted_values : (q : Query) (j : ℕ) → j < 4
    → get_or (wanted_values q) j none ≡ wanted_value (get_or q.attributes j (record { wanted = Free })).wanted
unfolding wanted_values
get_d-wanted_values q j h =
    get_d-per_attribute (λ i. wanted_value (get_or q.attributes i (record { wanted = Free })).wanted) none j h

-- of a list of four
pub per_attribute-get_d : {A : Type 0} (d : A) (l : List A) → length l ≡ 4 → per_attribute (λ j. get_or l j d) ≡ l
per_attribute-get_d d [] e = absurd (omega arith)
per_attribute-get_d d (v ∷ []) e = absurd (omega arith)
per_attribute-get_d d (v ∷ w ∷ []) e = absurd (omega arith)
per_attribute-get_d d (v ∷ w ∷ x ∷ []) e = absurd (omega arith)
per_attribute-get_d d (v ∷ w ∷ x ∷ y ∷ []) e = refl
per_attribute-get_d d (v ∷ w ∷ x ∷ y ∷ z ∷ l) e = absurd (omega arith)

pub get_d-widths_of : (s : Shape) (j : ℕ) → j < 4 → get_or (widths_of s) j 0 ≡ width_of s j
unfolding widths_of
get_d-widths_of s j l = get_d-per_attribute (width_of s) 0 j l

-- four numbers within four widths, one test for each
pub index_fits-four : (w f : ℕ → ℕ)
    → index_fits (per_attribute w) (per_attribute f) ≡ all_below 4 (λ j. ltb (f j) (2 ^ w j))
index_fits-four w f = regroup (test 0) (test 1) (test 2) (test 3)
  where
    test : ℕ → Bool
    test j = ltb (f j) (2 ^ w j)

    regroup : (a b c d : Bool) → (a && (b && (c && (d && true)))) ≡ (((a && b) && c) && d)
    regroup false b c d = refl
    regroup true false c d = refl
    regroup true true false d = refl
    regroup true true true true = refl
    regroup true true true false = refl

-- an interval that is given
pub interval_if-given : (given low high : ℕ) → (given ≡ 0 → ⊥)
    → some (record { low = low; high = high }) ≡ interval_if given low high
interval_if-given zero low high h = absurd (h refl)
interval_if-given (suc n) low high h = refl
