-- Laws of the early refusals: 14 names its attribute, no other number carries a value; none is 5, the number that
-- carries a depth. Assumes nothing.
use Prim.Native.Nat.{ℕ, suc}
use mathlib.Core.Path.{◌≡◌, refl}
use mathlib.Core.Bool.{Bool, true, false, not, cond}
use mathlib.Core.List.{List, [], ◌∷◌, ◌++◌}
use mathlib.Core.Option.{Option}
use native.Mathlib.Omega.{arith}
use lib.Dec.{eqb}
use borrow.Author.Tests.{eqb-false, not-true}
use Rattle.lists.specs.Filter.{all}
use Rattle.lists.proofs.Bools.{and_split}
use Rattle.shape.specs.Refusal.{Condition, accepted, first_number, answered_by}
use Rattle.shape.specs.Range.{Interval}
use Rattle.shape.specs.Shape.{shape_conditions}
use Rattle.shape.proofs.RefusalLaws.{Named, named-append, named-shape}
use Rattle.shape.specs.declared.Shape.{Shape}
use Rattle.record.specs.declared.Content.{Content}
use Rattle.model.proofs.ConditionLaws.{numbered, answered_by-accepted}
use Rattle.store.specs.Store.{Store, Memory, lent_conditions}
use Rattle.store.specs.Fresh.{fresh_refusals, fresh_number}
use Rattle.store.specs.Promises.{key_refusals, key_number, insert_refusals, insert_number, query_refusals}
use Rattle.store.specs.Promises.{range_refusals}

first-other : (n k m : ℕ) (holds : Bool) → (k ≡ n → ⊥) → (m ≡ n → ⊥) → cond holds k m ≡ n → ⊥
first-other n k m true head rest = head
first-other n k m false head rest = rest

-- a number that no condition has is not that of the first
pub first_number-other : (n : ℕ) (cs : List Condition) → all (λ c. not (eqb c.number (suc n))) cs ≡ true
    → first_number cs ≡ suc n → ⊥
unfolding first_number
first_number-other n [] other = λ e. omega arith
first_number-other n (c ∷ cs) other =
    let k = and_split (not (eqb c.number (suc n))) (all (λ c. not (eqb c.number (suc n))) cs) other in
    first-other (suc n) c.number (first_number cs) c.holds
    (eqb-false c.number (suc n) (not-true (eqb c.number (suc n)) k.0)) (first_number-other n cs k.1)

pub key_number-not-five : (s : Store) (values : List ℕ) → key_number s values ≡ 5 → ⊥
unfolding key_refusals lent_conditions shape_conditions
key_number-not-five s values = first_number-other 4 _ refl

pub insert_number-not-five : (s : Store) (values : List ℕ) (content : Content) → insert_number s values content ≡ 5 → ⊥
unfolding insert_refusals lent_conditions shape_conditions
insert_number-not-five s values content = first_number-other 4 _ refl

-- ---- 14 names its attribute, and no other early number carries a value

module _ (s : Store) where
  pub named-lent : Named s.state.shape (lent_conditions s)
  unfolding lent_conditions
  named-lent =
      let shape = s.state.shape in
      named-append shape (shape_conditions shape) _ (named-shape shape) (refl, tt)

  named-behind : (cs : List Condition) → Named s.state.shape cs → Named s.state.shape (lent_conditions s ++ cs)
  named-behind cs = named-append s.state.shape (lent_conditions s) cs named-lent

  pub named-key : (values : List ℕ) → Named s.state.shape (key_refusals s values)
  unfolding key_refusals
  named-key values = named-behind _ (refl, tt)

  pub named-insert : (values : List ℕ) (content : Content) → Named s.state.shape (insert_refusals s values content)
  unfolding insert_refusals key_refusals
  named-insert values content = named-append s.state.shape (key_refusals s values) _ (named-key values) (refl, tt)

  pub named-query : (q : List (Option ℕ)) → Named s.state.shape (query_refusals s q)
  unfolding query_refusals
  named-query q = named-behind _ (refl, (refl, tt))

  pub named-range : (r : List (Option Interval)) → Named s.state.shape (range_refusals s r)
  unfolding range_refusals
  named-range r = named-behind _ (refl, (refl, (refl, tt)))

-- ---- Fresh's: the same, and a call that none refuses is accepted

module _ (s : Shape) (m : Memory) where
  pub named-fresh : Named s (fresh_refusals s m)
  unfolding fresh_refusals
  named-fresh = named-append s (shape_conditions s) _ (named-shape s) (refl, tt)

  numbered-fresh : numbered (fresh_refusals s m) ≡ true
  unfolding fresh_refusals shape_conditions
  numbered-fresh = refl

  pub answered_by-fresh : fresh_number s m ≡ 0 → answered_by {A = Unit {0}} (fresh_refusals s m) tt ≡ accepted tt
  answered_by-fresh = answered_by-accepted tt (fresh_refusals s m) numbered-fresh
