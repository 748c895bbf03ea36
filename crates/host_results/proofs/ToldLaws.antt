-- Laws of an answer as numbers: its number is that of the first condition that holds; what goes with another number is
-- 0; number and attribute tell the answer of a call that makes a store. Assumes nothing.
use Prim.Native.Nat.{ℕ, zero, suc}
use mathlib.Core.Path.{◌≡◌, refl, sym, ap, subst, ◌∙◌}
use mathlib.Core.Bool.{Bool, true, false, cond}
use mathlib.Core.List.{List, [], ◌∷◌}
use mathlib.Core.Option.{Option, none, some}
use native.Mathlib.Omega.{arith}
use lib.Dec.{eqb}
use borrow.Author.Tests.{eqb-true, ne_eqb}
use Rattle.shape.specs.Refusal.{Condition, Answer, accepted, refused, refused_with, refused_by, first_number, answered_by}
use Rattle.shape.specs.Refusal.{number_told, carried_beside}
use Rattle.shape.specs.declared.Shape.{Shape}
use Rattle.shape.proofs.RefusalLaws.{refused_for-case, Named, answered_by-named}
use Rattle.host_results.specs.Result.{numbered_answer, Reports}
use Rattle.host_results.proofs.ResultLaws.{numbered_answer-refused}

-- ---- the number

number_told-refused_by : (A : Type 0) (n : ℕ) (o : Option ℕ) → number_told (refused_by {A = A} n o) ≡ n
number_told-refused_by A n none = refl
number_told-refused_by A n (some x) = refl

module _ {A : Type 0} where
  pub number_told-answered_by : (x : A) (cs : List Condition) → number_told (answered_by cs x) ≡ first_number cs
  unfolding answered_by first_number
  number_told-answered_by x [] = refl
  number_told-answered_by x (c ∷ cs) = go c.holds (number_told-answered_by x cs)
    where
      go : (β : Bool) → number_told (answered_by cs x) ≡ first_number cs
          → number_told (cond β (refused_by c.number c.carries) (answered_by cs x))
          ≡ cond β c.number (first_number cs)
      go true rest = number_told-refused_by A c.number c.carries
      go false rest = rest

  pub number_told-numbered_answer : (n attribute : ℕ) (x : A) → number_told (numbered_answer n attribute x) ≡ n
  number_told-numbered_answer zero attribute x = refl
  number_told-numbered_answer (suc n) attribute x = go (eqb n 13) refl
    where
      go : (β : Bool) → eqb n 13 ≡ β
          → number_told {A = A} (cond β (refused_with 14 attribute) (refused (suc n))) ≡ suc n
      go true e = ap suc (sym (eqb-true n 13 e))
      go false e = refl

  -- ---- what goes with it

  pub carried_beside-other : (k : ℕ) (answer : Answer A) → (number_told answer ≡ k → ⊥) → carried_beside k answer ≡ 0
  carried_beside-other k (accepted x) other = refl
  carried_beside-other k (refused n) other = refl
  carried_beside-other k (refused_with n x) other = rw (ne_eqb n k other)

-- ---- a call that makes a store

-- number and attribute tell the answer
abbrev MadeTold : Answer (Unit {0}) → Type 0
MadeTold answer = numbered_answer (number_told answer) (carried_beside 14 answer) tt ≡ answer

module _ (s : Shape) (cs : List Condition) (named : Named s cs)
    (done : first_number cs ≡ 0 → answered_by {A = Unit {0}} cs tt ≡ accepted tt) where
  answered_by-told : MadeTold (answered_by cs tt)
  answered_by-told = go (first_number cs) refl
    where
      go : (n : ℕ) → first_number cs ≡ n → MadeTold (answered_by cs tt)
      go zero e = subst MadeTold (sym (done e)) refl
      go (suc n) e =
          subst MadeTold (sym (answered_by-named s tt cs named n e))
          (refused_for-case s MadeTold (suc n) (λ w. refl) (numbered_answer-refused (suc n) 0 tt (λ z. omega arith)))

  pub reports-told : (answer : Answer (Unit {0})) (number attribute : ℕ) → answer ≡ answered_by cs tt
      → (number ≡ number_told answer) × (attribute ≡ carried_beside 14 answer)
      → Reports {A = Unit {0}} number attribute tt tt (answered_by cs tt)
  reports-told answer number attribute e same =
      record {
        answer-as = rw (same.0, same.1, e) answered_by-told;
        zeros-if-refused = λ n f. refl;
        attribute-if-other = λ other.
            same.1 ∙ carried_beside-other 14 answer (λ f. other (same.0 ∙ f));
      }
