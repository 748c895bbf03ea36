-- Laws of the first condition that holds. Assumes nothing.
use Prim.Native.Nat.{ℕ, suc}
use mathlib.Core.Path.{◌≡◌, refl}
use mathlib.Core.Bool.{Bool, true, false, not, cond}
use mathlib.Core.List.{List, [], ◌∷◌, ◌++◌}
use native.Mathlib.Omega.{arith}
use lib.Dec.{eqb}
use borrow.Author.Tests.{eqb-false, not-true}
use Rattle.lists.specs.Filter.{all}
use Rattle.lists.proofs.Bools.{and_split}
use Rattle.shape.specs.Refusal.{Condition, accepted, refusal, first_number, answered_by}
use Rattle.shape.specs.Shape.{shape_conditions}
use Rattle.shape.specs.declared.Shape.{Shape}

-- no number: the first condition does not hold, nor do those that follow
pub first_number-zero : (m : ℕ) (holds : Bool) (cs : List Condition) → first_number (refusal (suc m) holds ∷ cs) ≡ 0
    → (holds ≡ false) × (first_number cs ≡ 0)
unfolding first_number
first_number-zero m true cs e = absurd (omega arith)
first_number-zero m false cs e = (refl, e)

-- ---- conditions before others

-- no number is 0
abbrev pub numbered : List Condition → Bool
numbered cs = all (λ c. not (eqb c.number 0)) cs

pub numbered-shape : (s : Shape) → numbered (shape_conditions s) ≡ true
unfolding shape_conditions
numbered-shape s = refl

module _ (k : ℕ) (some : not (eqb k 0) ≡ true) where
  first-none : (β : Bool) (m : ℕ) → cond β k m ≡ 0 → (β ≡ false) × (m ≡ 0)
  first-none true m e = absurd (eqb-false k 0 (not-true (eqb k 0) some) e)
  first-none false m e = (refl, e)

first-met : (β : Bool) (k m m' n : ℕ) → cond β k m ≡ suc n → (m ≡ suc n → m' ≡ suc n) → cond β k m' ≡ suc n
first-met true k m m' n e h = e
first-met false k m m' n e h = h e

-- the number of one that holds is that of all
pub first_number-first : (cs ds : List Condition) (n : ℕ) → first_number cs ≡ suc n → first_number (cs ++ ds) ≡ suc n
unfolding first_number
first_number-first [] ds n e = absurd (omega arith)
first_number-first (c ∷ cs) ds n e =
    first-met c.holds c.number (first_number cs) (first_number (cs ++ ds)) n e (first_number-first cs ds n)

-- if none holds, the others decide
pub first_number-rest : (cs ds : List Condition) → numbered cs ≡ true → first_number cs ≡ 0
    → first_number (cs ++ ds) ≡ first_number ds
unfolding first_number
first_number-rest [] ds some e = refl
first_number-rest (c ∷ cs) ds some e =
    let k = and_split (not (eqb c.number 0)) (numbered cs) some in
    let none = first-none c.number k.0 c.holds (first_number cs) e in
    rw none.0 (first_number-rest cs ds k.1 none.1)

-- none of all holds
pub first_number-none : (cs ds : List Condition) → numbered cs ≡ true → first_number (cs ++ ds) ≡ 0
    → (first_number cs ≡ 0) × (first_number ds ≡ 0)
unfolding first_number
first_number-none [] ds some e = (refl, e)
first_number-none (c ∷ cs) ds some e =
    let k = and_split (not (eqb c.number 0)) (numbered cs) some in
    let none = first-none c.number k.0 c.holds (first_number (cs ++ ds)) e in
    let both = first_number-none cs ds k.1 none.1 in
    (rw none.0 both.0, both.1)

-- ---- answers

-- if none holds, the call is accepted
pub answered_by-accepted : {A : Type 0} (x : A) (cs : List Condition) → numbered cs ≡ true → first_number cs ≡ 0
    → answered_by cs x ≡ accepted x
unfolding first_number answered_by
answered_by-accepted x [] some e = refl
answered_by-accepted x (c ∷ cs) some e =
    let k = and_split (not (eqb c.number 0)) (numbered cs) some in
    let none = first-none c.number k.0 c.holds (first_number cs) e in
    rw none.0 (answered_by-accepted x cs k.1 none.1)
