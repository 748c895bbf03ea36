-- A field, byte by byte, is its item. Assumes nothing.
use Prim.Native.Nat.{ℕ, ◌+◌, ◌-◌, ◌*◌, ◌≤◌, ◌<◌}
use mathlib.Core.Path.{◌≡◌, refl, sym, ◌∙◌, subst}
use mathlib.Core.Bool.{Bool, true, false, ◌&&◌, cond}
use mathlib.Core.List.{List, [], ◌∷◌}
use mathlib.Core.Option.{Option, none, some}
use native.Mathlib.Omega.{arith}
use native.Mathlib.Nat.{zero-add}
use lib.Dec.{eqb, leb, ltb}
use borrow.Author.Tests.{lt-ltb, le-ltb, ltb-true, ltb-false, ne_eqb, eqb-true, eqb-false, leb-true}
use Rattle.lists.specs.Filter.{all}
use Rattle.lists.proofs.Bools.{and_split}
use Rattle.stock_line.specs.declared.Field.{Field}
use Rattle.stock_line.specs.declared.Field.TheVariants.{Empty, Number, Any, Wrong}
use Rattle.stock_line.specs.Line.{is_digit, value_from, number_in, is_star, item_in}
use Rattle.stock_line.specs.LineBytes.{first_of, digit_with, field_with}

-- bytes one after the other behind a field
abbrev pub field_from : Field → List ℕ → Field
field_from field [] = field
field_from field (c ∷ cs) = field_from (field_with field c) cs

-- ---- behind a number

field_from-wrong : (cs : List ℕ) → field_from Wrong cs ≡ Wrong
field_from-wrong [] = refl
field_from-wrong (c ∷ cs) = field_from-wrong cs

value_from-le : (v : ℕ) (cs : List ℕ) → v ≤ value_from v cs
value_from-le v [] = omega arith
value_from-le v (c ∷ cs) = omega (arith, value_from-le (v * 10 + (c - 48)) cs)

-- digits behind a number: their value, or none of 2^32 or more
unfoldable number_from : ℕ → List ℕ → Field
number_from v cs = cond (all is_digit cs && ltb (value_from v cs) 4294967296) (Number (value_from v cs)) Wrong

and-false : {A : Type 0} (β : Bool) (x y : A) → cond (β && false) x y ≡ y
and-false true x y = refl
and-false false x y = refl

field_from-number : (v : ℕ) (cs : List ℕ) → v < 4294967296 → field_from (Number v) cs ≡ number_from v cs
unfolding digit_with number_from
field_from-number v [] l = rw (lt-ltb v _ l)
field_from-number v (c ∷ cs) l = by-digit (is_digit c) (λ m. field_from-number (v * 10 + (c - 48)) cs m)
  where
    next : ℕ
    next = v * 10 + (c - 48)

    by_size : (β : Bool) → ltb next 4294967296 ≡ β
        → (next < 4294967296 → field_from (Number next) cs ≡ number_from next cs)
        → field_from (cond β (Number next) Wrong) cs ≡ number_from next cs
    by_size true e k = k (ltb-true _ _ e)
    by_size false e k =
        field_from-wrong cs
        ∙ sym (rw (le-ltb (value_from next cs) 4294967296
        (omega (arith, value_from-le next cs, ltb-false next 4294967296 e)))
        (and-false (all is_digit cs) (Number (value_from next cs)) Wrong))

    by-digit : (β : Bool) → (next < 4294967296 → field_from (Number next) cs ≡ number_from next cs)
        → field_from (cond β (cond (ltb next 4294967296) (Number next) Wrong) Wrong) cs
        ≡ cond ((β && all is_digit cs) && ltb (value_from next cs) 4294967296) (Number (value_from next cs)) Wrong
    by-digit true k = by_size (ltb next 4294967296) refl k
    by-digit false k = field_from-wrong cs

-- ---- a whole field

-- fields of items, and those of another form
pub data FieldFor : Option (Option ℕ) → Field → Type 0 where
  for-star : FieldFor (some none) Any
  for-number : {v : ℕ} → FieldFor (some (some v)) (Number v)
  for-empty : FieldFor none Empty
  for-wrong : FieldFor none Wrong

field_for-number : (c : ℕ) (cs : List ℕ) → is_digit c ≡ true
    → FieldFor (number_in (c ∷ cs)) (number_from (c - 48) cs)
unfolding number_in number_from
field_for-number c cs e =
    rw (zero-add (c - 48), e) (by-test (all is_digit cs && ltb (value_from (c - 48) cs) 4294967296))
  where
    by-test : (β : Bool)
        → FieldFor (cond β (some (some (value_from (c - 48) cs))) none) (cond β (Number (value_from (c - 48) cs)) Wrong)
    by-test true = for-number
    by-test false = for-wrong

is_star-no : (c : ℕ) (cs : List ℕ) → (c ≡ 42 → ⊥) → is_star (c ∷ cs) ≡ false
is_star-no c [] n = ne_eqb c 42 n
is_star-no c (d ∷ cs) n = refl

-- the field that a field's bytes lead to
pub field_for-bytes : (f : List ℕ) → FieldFor (item_in f) (field_from Empty f)
unfolding item_in first_of number_in is_digit
field_for-bytes [] = for-empty
field_for-bytes (c ∷ cs) = by-star (eqb c 42) refl
  where
    star : (cs : List ℕ) → FieldFor (item_in (42 ∷ cs)) (field_from Any cs)
    star [] = for-star
    star (d ∷ cs) = rw (field_from-wrong cs) for-wrong

    by-digit : (β : Bool) → is_digit c ≡ β → FieldFor (number_in (c ∷ cs)) (field_from (cond β (Number (c - 48)) Wrong) cs)
    by-digit true e =
        rw (field_from-number (c - 48) cs (omega (arith, leb-true c 57 (and_split (leb 48 c) (leb c 57) e).1)))
        (field_for-number c cs e)
    by-digit false e = rw (e, field_from-wrong cs) for-wrong

    by-star : (β : Bool) → eqb c 42 ≡ β
        → FieldFor (item_in (c ∷ cs)) (field_from (cond β Any (cond (is_digit c) (Number (c - 48)) Wrong)) cs)
    by-star true e =
        subst (λ d. FieldFor (item_in (d ∷ cs)) (field_from Any cs)) (sym (eqb-true c 42 e)) (star cs)
    by-star false e = rw (is_star-no c cs (eqb-false c 42 e)) (by-digit (is_digit c) refl)
