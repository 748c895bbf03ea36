-- Laws of refusals: the first number and the answer of a call that is given a shape. Assumes nothing.
use Prim.Native.Nat.{ℕ, suc}
use mathlib.Core.Path.{◌≡◌, refl, sym, ap, subst, ◌∙◌}
use mathlib.Core.Bool.{Bool, true, false, not, cond, false≢true}
use mathlib.Core.List.{List, [], ◌∷◌, ◌++◌}
use mathlib.Core.Logic.{⊎_elim}
use mathlib.Core.Option.{Option, none, some}
use native.Mathlib.Omega.{arith}
use lib.Dec.{eqb}
use borrow.Author.Tests.{ne_eqb}
use Rattle.lists.proofs.Numbers.{eq-or-ne}
use Rattle.shape.specs.Refusal.{Condition, Answer, accepted, refused, refused_with, refusal, refused_by}
use Rattle.shape.specs.Refusal.{first_number, answered_by, RefusedFirst}
use Rattle.shape.specs.Shape.{count_fits, widths_fit, capacity_fits, lowest_bad, shape_conditions, shape_number}
use Rattle.shape.specs.Amiss.{refused_for}
use Rattle.shape.specs.declared.Shape.{Shape}
use Rattle.shape.proofs.ShapeLaws.{shape-parts}

-- ---- the number

three-some : (a b c : Bool) (n : ℕ) → (◌≡◌ {A = ℕ} (cond (not a) 1 (cond (not b) 14 (cond (not c) 15 0))) 0 → ⊥)
    → cond (not a) 1 (cond (not b) 14 (cond (not c) 15 n)) ≡ cond (not a) 1 (cond (not b) 14 (cond (not c) 15 0))
three-some false b c n h = refl
three-some true false c n h = refl
three-some true true false n h = refl
three-some true true true n h = absurd (h refl)

module _ (s : Shape) (ds : List Condition) where
  -- a shape within its bounds leaves the number to the conditions that follow
  pub first_number-shape : shape_number s ≡ 0 → first_number (shape_conditions s ++ ds) ≡ first_number ds
  unfolding shape_conditions first_number
  first_number-shape n = let parts = shape-parts s n in rw (parts.0, parts.1, parts.2)

  pub first_number-shape-out : (shape_number s ≡ 0 → ⊥) → first_number (shape_conditions s ++ ds) ≡ shape_number s
  unfolding shape_number shape_conditions first_number
  first_number-shape-out n = three-some (count_fits s) (widths_fit s) (capacity_fits s) (first_number ds) n

-- ---- answers

-- an accepted answer is no refused one
pub accepted-refused : {A C : Type 0} (x : A) (n : ℕ) → accepted x ≡ refused n → C
accepted-refused x n e = let z : false ≡ true = cc in absurd (false≢true z)

pub refused_by-refuses : {A C : Type 0} (x : A) (n : ℕ) (o : Option ℕ) → accepted x ≡ refused_by n o → C
refused_by-refuses x n none e = accepted-refused x n e
refused_by-refuses x n (some y) e = let z : false ≡ true = cc in absurd (false≢true z)

-- where a call is accepted no condition holds
pub accepted-answered_by : {A : Type 0} (x y : A) (cs : List Condition) → accepted x ≡ answered_by cs y
    → first_number cs ≡ 0
unfolding answered_by first_number
accepted-answered_by x y [] e = refl
accepted-answered_by x y (c ∷ cs) e = go c.holds e (accepted-answered_by x y cs)
  where
    go : (β : Bool) → accepted x ≡ cond β (refused_by c.number c.carries) (answered_by cs y)
        → (accepted x ≡ answered_by cs y → first_number cs ≡ 0) → cond β c.number (first_number cs) ≡ 0
    go true d rest = refused_by-refuses x c.number c.carries d
    go false d rest = rest d

-- ---- 14 names its attribute, and no other number carries a value

module _ (s : Shape) where
  pub refused_for-width : {A : Type 0} (n : ℕ) → n ≡ 14 → refused_for {A = A} s n ≡ refused_with 14 (lowest_bad s)
  refused_for-width n e = rw e

  pub refused_for-other : {A : Type 0} (n : ℕ) → (n ≡ 14 → ⊥) → refused_for {A = A} s n ≡ refused n
  refused_for-other n e = rw (ne_eqb n 14 e)

  -- what holds of both holds of the refusal with any number
  pub refused_for-case : {A : Type 0} (P : Answer A → Type 0) (n : ℕ)
      → (n ≡ 14 → P (refused_with 14 (lowest_bad s))) → ((n ≡ 14 → ⊥) → P (refused n)) → P (refused_for s n)
  refused_for-case P n width other =
      ⊎_elim (λ e. subst P (sym (refused_for-width n e)) (width e)) (λ e. subst P (sym (refused_for-other n e)) (other e))
      (eq-or-ne n 14)

  -- so of each condition of a list
  abbrev pub Named : List Condition → Type 0
  Named [] = Unit {0}
  Named (c ∷ cs) = (c.carries ≡ cond (eqb c.number 14) (some (lowest_bad s)) none) × Named cs

  pub named-append : (cs ds : List Condition) → Named cs → Named ds → Named (cs ++ ds)
  named-append [] ds one other = other
  named-append (c ∷ cs) ds one other = (one.0, named-append cs ds one.1 other)

  pub named-shape : Named (shape_conditions s)
  unfolding shape_conditions
  named-shape = (refl, (refl, (refl, tt)))

  -- the answer by the number of the first that holds
  pub answered_by-named : {A : Type 0} (x : A) (cs : List Condition) → Named cs → (n : ℕ) → first_number cs ≡ suc n
      → answered_by cs x ≡ refused_for s (suc n)
  unfolding answered_by first_number
  answered_by-named x [] named n e = absurd (omega arith)
  answered_by-named {A} x (c ∷ cs) named n e = go c.holds e (answered_by-named x cs named.1 n)
    where
      go : (β : Bool) → cond β c.number (first_number cs) ≡ suc n
          → (first_number cs ≡ suc n → answered_by cs x ≡ refused_for s (suc n))
          → cond β (refused_by c.number c.carries) (answered_by cs x) ≡ refused_for s (suc n)
      go true d rest = ap (refused_by c.number) named.0 ∙ ap (refused_for {A = A} s) d
      go false d rest = rest d

module _ {A : Type 0} (s : Shape) (cs : List Condition) where
  -- no condition holds
  pub refused_first-none : first_number cs ≡ 0 → (answer : Answer A) → RefusedFirst cs answer
  refused_first-none e answer n d x = let z : suc n ≡ 0 = sym d ∙ e in absurd (omega arith)

  module _ (named : Named s cs) (n : ℕ) (e : first_number cs ≡ suc n) where
    -- one holds, and the answer has its number
    pub refused_first-for : RefusedFirst {A = A} cs (refused_for s (suc n))
    refused_first-for k d x = sym (answered_by-named s x cs named n e)

    -- .. and the other way round, whatever an accepted call would return
    pub for-refused_first : (answer : Answer A) (x : A) → RefusedFirst cs answer → answer ≡ refused_for s (suc n)
    for-refused_first answer x first = first n e x ∙ answered_by-named s x cs named n e

-- ---- what a call answers that is given a shape

module _ {A : Type 0} (s : Shape) (x : A) where
  -- a shape within its bounds leaves the answer to the conditions that follow
  pub answered_by-shape : (ds : List Condition) → shape_number s ≡ 0
      → answered_by (shape_conditions s ++ ds) x ≡ answered_by ds x
  unfolding shape_conditions answered_by
  answered_by-shape ds n = let parts = shape-parts s n in rw (parts.0, parts.1, parts.2)

  -- the first condition behind it holds
  pub answered_by-first : (m : ℕ) (holds : Bool) (ds : List Condition) → shape_number s ≡ 0 → holds ≡ true
      → refused (suc m) ≡ answered_by (shape_conditions s ++ (refusal (suc m) holds ∷ ds)) x
  unfolding answered_by
  answered_by-first m holds ds e h =
      sym
      (answered_by-shape (refusal (suc m) holds ∷ ds) e
      ∙ ap (λ b. cond b (refused (suc m)) (answered_by ds x)) h)

  -- it does not
  pub answered_by-behind : (m : ℕ) (holds : Bool) (ds : List Condition) → shape_number s ≡ 0 → holds ≡ false
      → answered_by (shape_conditions s ++ (refusal (suc m) holds ∷ ds)) x ≡ answered_by ds x
  unfolding answered_by
  answered_by-behind m holds ds e h =
      answered_by-shape (refusal (suc m) holds ∷ ds) e
      ∙ ap (λ b. cond b (refused (suc m)) (answered_by ds x)) h
