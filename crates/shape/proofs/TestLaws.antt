-- Laws of tests, which answer with the first condition that holds, and of the numbers of refusals. Assumes nothing.
use Prim.Native.Nat.{ℕ, suc}
use mathlib.Core.Path.{◌≡◌, refl, sym, ap, ◌∙◌}
use mathlib.Core.Bool.{Bool, true, false, cond}
use mathlib.Core.List.{List, [], ◌∷◌, ◌++◌}
use mathlib.Core.Option.{Option, none, some}
use Rattle.shape.specs.Refusal.{Condition, Answer, accepted, refused, refused_with, refused_by, number_told, carried_beside}
use Rattle.shape.specs.Refusal.{first_number, answered_by, RefusedFirst}
use Rattle.shape.specs.Refusal.{refusal_number, refusal_value, depth_beside, attribute_beside, told}
use Rattle.shape.specs.declared.refusal.Refusal.{Refusal}
use Rattle.shape.specs.declared.refusal.Refusal.TheVariants as why
use Rattle.shape.specs.Shape.{shape_conditions, shape_number}
use Rattle.shape.specs.declared.Shape.{Shape}
use Rattle.shape.proofs.RefusalLaws.{accepted-answered_by, refused_by-refuses}
use Rattle.shape.proofs.ShapeLaws.{shape_number-first}

-- ---- a refusal as numbers

pub number-told : (A : Type 0) (r : Refusal) → number_told {A = A} (told r) ≡ refusal_number r
number-told A why.Shape = refl
number-told A why.Memory = refl
number-told A why.Value = refl
number-told A why.Stored = refl
number-told A (why.Absent x) = refl
number-told A why.Depth = refl
number-told A why.Pages = refl
number-told A why.Attribute = refl
number-told A why.Unsound = refl
number-told A why.Interval = refl
number-told A why.Payload = refl
number-told A why.File = refl
number-told A why.Content = refl
number-told A (why.Width x) = refl
number-told A why.Capacity = refl

pub depth-told : (A : Type 0) (r : Refusal) → carried_beside {A = A} 5 (told r) ≡ depth_beside r
depth-told A why.Shape = refl
depth-told A why.Memory = refl
depth-told A why.Value = refl
depth-told A why.Stored = refl
depth-told A (why.Absent x) = refl
depth-told A why.Depth = refl
depth-told A why.Pages = refl
depth-told A why.Attribute = refl
depth-told A why.Unsound = refl
depth-told A why.Interval = refl
depth-told A why.Payload = refl
depth-told A why.File = refl
depth-told A why.Content = refl
depth-told A (why.Width x) = refl
depth-told A why.Capacity = refl

pub attribute-told : (A : Type 0) (r : Refusal) → carried_beside {A = A} 14 (told r) ≡ attribute_beside r
attribute-told A why.Shape = refl
attribute-told A why.Memory = refl
attribute-told A why.Value = refl
attribute-told A why.Stored = refl
attribute-told A (why.Absent x) = refl
attribute-told A why.Depth = refl
attribute-told A why.Pages = refl
attribute-told A why.Attribute = refl
attribute-told A why.Unsound = refl
attribute-told A why.Interval = refl
attribute-told A why.Payload = refl
attribute-told A why.File = refl
attribute-told A why.Content = refl
attribute-told A (why.Width x) = refl
attribute-told A why.Capacity = refl

-- it is not 0
number-suc : (r : Refusal) → (n : ℕ) × (refusal_number r ≡ suc n)
number-suc why.Shape = (0, refl)
number-suc why.Memory = (1, refl)
number-suc why.Value = (2, refl)
number-suc why.Stored = (3, refl)
number-suc (why.Absent x) = (4, refl)
number-suc why.Depth = (5, refl)
number-suc why.Pages = (6, refl)
number-suc why.Attribute = (7, refl)
number-suc why.Unsound = (8, refl)
number-suc why.Interval = (9, refl)
number-suc why.Payload = (10, refl)
number-suc why.File = (11, refl)
number-suc why.Content = (12, refl)
number-suc (why.Width x) = (13, refl)
number-suc why.Capacity = (14, refl)

-- ---- what a refusal says of an answer it says of one with other values

-- the answer of an accepted call with another value
abbrev with_value : {A B : Type 0} → B → Answer A → Answer B
with_value y (accepted x) = accepted y
with_value y (refused n) = refused n
with_value y (refused_with n x) = refused_with n x

with_value-by : (A : Type 0) {B : Type 0} (y : B) (n : ℕ) (o : Option ℕ)
    → with_value {A = A} y (refused_by n o) ≡ refused_by n o
with_value-by A y n none = refl
with_value-by A y n (some x) = refl

-- the refusal by one condition
told-by : {A B : Type 0} (y : B) (r : Refusal) (n : ℕ) (o : Option ℕ) → told {A = A} r ≡ refused_by n o
    → told {A = B} r ≡ refused_by n o
told-by {A} {B} y r n o e =
    sym (with_value-by A y (refusal_number r) (refusal_value r)) ∙ ap (with_value y) e ∙ with_value-by A y n o

number-by : (A : Type 0) (n : ℕ) (o : Option ℕ) → number_told {A = A} (refused_by n o) ≡ n
number-by A n none = refl
number-by A n (some x) = refl

-- ---- a test that is refused

module _ {A : Type 0} (x : A) (r : Refusal) where
  -- so is each call with these conditions, and with more behind them
  pub told-append : {B : Type 0} (cs ds : List Condition) (y : B) → told r ≡ answered_by cs x
      → told r ≡ answered_by (cs ++ ds) y
  unfolding answered_by
  told-append [] ds y e = refused_by-refuses x (refusal_number r) (refusal_value r) (sym e)
  told-append {B} (c ∷ cs) ds y e = go c.holds e (told-append cs ds y)
    where
      go : (β : Bool) → told r ≡ cond β (refused_by c.number c.carries) (answered_by cs x)
          → (told r ≡ answered_by cs x → told r ≡ answered_by (cs ++ ds) y)
          → told r ≡ cond β (refused_by c.number c.carries) (answered_by (cs ++ ds) y)
      go true d rest = told-by {A = A} {B = B} y r c.number c.carries d
      go false d rest = rest d

  pub told-answered_by : {B : Type 0} (cs : List Condition) (y : B) → told r ≡ answered_by cs x
      → told r ≡ answered_by cs y
  unfolding answered_by
  told-answered_by [] y e = refused_by-refuses x (refusal_number r) (refusal_value r) (sym e)
  told-answered_by {B} (c ∷ cs) y e = go c.holds e (told-answered_by cs y)
    where
      go : (β : Bool) → told r ≡ cond β (refused_by c.number c.carries) (answered_by cs x)
          → (told r ≡ answered_by cs x → told r ≡ answered_by cs y)
          → told r ≡ cond β (refused_by c.number c.carries) (answered_by cs y)
      go true d rest = told-by {A = A} {B = B} y r c.number c.carries d
      go false d rest = rest d

  pub told-first : {B : Type 0} (cs : List Condition) → told r ≡ answered_by cs x → RefusedFirst {A = B} cs (told r)
  told-first cs e n d y = told-answered_by cs y e

  -- the first condition that holds has its number
  pub told-number : (cs : List Condition) → told r ≡ answered_by cs x → first_number cs ≡ refusal_number r
  unfolding answered_by first_number
  told-number [] e = refused_by-refuses x (refusal_number r) (refusal_value r) (sym e)
  told-number (c ∷ cs) e = go c.holds e (told-number cs)
    where
      go : (β : Bool) → told r ≡ cond β (refused_by c.number c.carries) (answered_by cs x)
          → (told r ≡ answered_by cs x → first_number cs ≡ refusal_number r)
          → cond β c.number (first_number cs) ≡ refusal_number r
      go true d rest =
          sym (number-by A c.number c.carries) ∙ ap number_told (sym d) ∙ number-told A r
      go false d rest = rest d

  pub told-suc : (cs : List Condition) → told r ≡ answered_by cs x → (n : ℕ) × (first_number cs ≡ suc n)
  told-suc cs e = let k = number-suc r in (k.0, told-number cs e ∙ k.1)

  -- so is each call with the same conditions before others for which it holds
  pub told-behind : {B : Type 0} (cs ds es : List Condition) (y : B)
      → (told r ≡ answered_by ds x → told r ≡ answered_by es y) → told r ≡ answered_by (cs ++ ds) x
      → told r ≡ answered_by (cs ++ es) y
  unfolding answered_by
  told-behind [] ds es y f e = f e
  told-behind {B} (c ∷ cs) ds es y f e = go c.holds e (told-behind cs ds es y f)
    where
      go : (β : Bool) → told r ≡ cond β (refused_by c.number c.carries) (answered_by (cs ++ ds) x)
          → (told r ≡ answered_by (cs ++ ds) x → told r ≡ answered_by (cs ++ es) y)
          → told r ≡ cond β (refused_by c.number c.carries) (answered_by (cs ++ es) y)
      go true d rest = told-by {A = A} {B = B} y r c.number c.carries d
      go false d rest = rest d

-- ---- a test that is passed

-- a shape that passes is within its bounds
pub passed-shape : {A : Type 0} (x y : A) (s : Shape) → accepted x ≡ answered_by (shape_conditions s) y
    → shape_number s ≡ 0
passed-shape x y s e = shape_number-first s (accepted-answered_by x y (shape_conditions s) e)

-- it leaves the answer to the conditions behind
pub passed-append : {A B : Type 0} (x : A) (cs ds : List Condition) (y : B) → accepted x ≡ answered_by cs x
    → answered_by (cs ++ ds) y ≡ answered_by ds y
unfolding answered_by
passed-append x [] ds y e = refl
passed-append {A} {B} x (c ∷ cs) ds y e = go c.holds e (passed-append x cs ds y)
  where
    go : (β : Bool) → accepted x ≡ cond β (refused_by c.number c.carries) (answered_by cs x)
        → (accepted x ≡ answered_by cs x → answered_by (cs ++ ds) y ≡ answered_by ds y)
        → cond β (refused_by c.number c.carries) (answered_by (cs ++ ds) y) ≡ answered_by ds y
    go true d rest = refused_by-refuses x c.number c.carries d
    go false d rest = rest d

-- so do the first of its conditions, and those behind them are passed too
pub passed-behind : {A B : Type 0} (x : A) (cs ds es : List Condition) (y : B) → accepted x ≡ answered_by (cs ++ ds) x
    → (accepted x ≡ answered_by ds x) × (answered_by (cs ++ es) y ≡ answered_by es y)
unfolding answered_by
passed-behind x [] ds es y e = (e, refl)
passed-behind {A} {B} x (c ∷ cs) ds es y e = go c.holds e (passed-behind x cs ds es y)
  where
    go : (β : Bool) → accepted x ≡ cond β (refused_by c.number c.carries) (answered_by (cs ++ ds) x)
        → (accepted x ≡ answered_by (cs ++ ds) x
        → (accepted x ≡ answered_by ds x) × (answered_by (cs ++ es) y ≡ answered_by es y))
        → (accepted x ≡ answered_by ds x)
        × (cond β (refused_by c.number c.carries) (answered_by (cs ++ es) y) ≡ answered_by es y)
    go true d rest = refused_by-refuses x c.number c.carries d
    go false d rest = rest d
