-- What the model answers: the number alone for an insert, a query and a range; for a delete and a lookup 3, or 5 with
-- the depth of the leaf in which the absent key falls. Assumes nothing.
use Prim.Native.Nat.{ℕ, zero, suc}
use mathlib.Core.Path.{◌≡◌, refl}
use mathlib.Core.Bool.{Bool, true, false, not, cond, false≢true}
use mathlib.Core.List.{List, [], ◌∷◌}
use mathlib.Core.Option.{Option, none, some}
use lib.Dec.{eqb}
use Rattle.lists.specs.Filter.{all, non_empty}
use Rattle.lists.proofs.Bools.{and_split}
use Rattle.shape.specs.Refusal.{Condition, Answer, accepted, refused, refused_with, answered, first_number, refused_by}
use Rattle.shape.specs.Refusal.{answered_by}
use Rattle.shape.specs.Key.{key_fits, encodings}
use Rattle.shape.specs.Range.{Interval}
use Rattle.record.specs.declared.Content.{Content}
use Rattle.record.specs.Record.{Record}
use Rattle.model.specs.Sets.{stored, key_depth}
use Rattle.model.specs.Model.{Fixed, insert_call, query_call, range_call, Reply}
use Rattle.model.specs.Model.{stored_conditions, conditions_for, number_for, reply_to, outcome}
use Rattle.model.proofs.ConditionLaws.{numbered}

-- ---- conditions that carry nothing

abbrev is_none : Option ℕ → Bool
is_none none = true
is_none (some x) = false

abbrev pub carry_none : List Condition → Bool
carry_none cs = all (λ c. is_none c.carries) cs

module _ {A : Type 0} (x : A) where
  refused_by-none : (n : ℕ) (o : Option ℕ) → not (eqb n 0) ≡ true → is_none o ≡ true → refused_by n o ≡ answered n x
  refused_by-none n (some y) e h = absurd (false≢true h)
  refused_by-none zero none e h = absurd (false≢true e)
  refused_by-none (suc n) none e h = refl

  by-case : (β : Bool) (one other : Answer A) (m n : ℕ) → one ≡ answered m x → other ≡ answered n x
      → cond β one other ≡ answered (cond β m n) x
  by-case true one other m n d d' = d
  by-case false one other m n d d' = d'

  -- they answer with the number alone
  pub answered_by-none : (cs : List Condition) → numbered cs ≡ true → carry_none cs ≡ true
      → answered_by cs x ≡ answered (first_number cs) x
  unfolding answered_by first_number
  answered_by-none [] e h = refl
  answered_by-none (c ∷ cs) e h =
      let k = and_split (not (eqb c.number 0)) (numbered cs) e in
      let l = and_split (is_none c.carries) (carry_none cs) h in
      by-case c.holds (refused_by c.number c.carries) (answered_by cs x) c.number (first_number cs)
      (refused_by-none c.number c.carries k.0 l.0) (answered_by-none cs k.1 l.1)

module _ (f : Fixed) (S : List Record) where
  -- ---- "no other number carries a depth"

  pub answer-insert : (values : List ℕ) (content : Content)
      → (outcome f S (insert_call values content)).answer
      ≡ answered (number_for f S (insert_call values content)) (reply_to f S (insert_call values content))
  unfolding outcome number_for
  answer-insert values content = answered_by-none _ (conditions_for f S (insert_call values content)) refl refl

  pub answer-query : (q : List (Option ℕ)) (out : List ℕ)
      → (outcome f S (query_call q out)).answer
      ≡ answered (number_for f S (query_call q out)) (reply_to f S (query_call q out))
  unfolding outcome number_for
  answer-query q out = answered_by-none _ (conditions_for f S (query_call q out)) refl refl

  pub answer-range : (r : List (Option Interval)) (out : List ℕ)
      → (outcome f S (range_call r out)).answer
      ≡ answered (number_for f S (range_call r out)) (reply_to f S (range_call r out))
  unfolding outcome number_for
  answer-range r out = answered_by-none _ (conditions_for f S (range_call r out)) refl refl

  -- ---- a delete and a lookup

  module _ (values : List ℕ) (reply : Reply) where
    pub answer-unfit : key_fits f.shape values ≡ false → answered_by (stored_conditions f S values) reply ≡ refused 3
    unfolding answered_by
    answer-unfit e = rw e

    pub answer-absent : key_fits f.shape values ≡ true
        → non_empty (stored (encodings f.shape values) S) ≡ false
        → answered_by (stored_conditions f S values) reply
        ≡ refused_with 5 (key_depth f.shape (encodings f.shape values) S)
    unfolding answered_by
    answer-absent e k = rw (e, k)

    pub answer-stored : key_fits f.shape values ≡ true
        → non_empty (stored (encodings f.shape values) S) ≡ true
        → answered_by (stored_conditions f S values) reply ≡ accepted reply
    unfolding answered_by
    answer-stored e k = rw (e, k)
