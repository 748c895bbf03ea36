-- Inserts on a set of records of a shape, in the words of document 02, request 2. Assumes nothing.
use Rattle.std.specs.Prelude.{ℕ, ◌≡◌, Bool, true, false, not, List, eqb}
use Rattle.lists.specs.Filter.{all}
use Rattle.shape.specs.Refusal.{refused}
use Rattle.shape.specs.Key.{key_fits}
use Rattle.record.specs.declared.Content.{Content}
use Rattle.record.specs.Record.{Record}
use Rattle.model.specs.Model.{Fixed, Call, insert_call, outcome, next, last_set}
use Rattle.model.specs.Add.{add_answer, add_next}

-- a payload other than 0
abbrev pub has_payload : Record → Bool
has_payload r = not (eqb r.content.payload 0)

-- no record has a payload of 0
abbrev pub without_zero : List Record → Bool
without_zero S = all has_payload S

-- what holds of every insert, whatever the set
pub record SetInserts (f : Fixed) (S : List Record) : Type 0 where
  -- "after 3": a value out of bounds is told first, whatever the payload
  pub three-before-eleven : (values : List ℕ) (content : Content) → key_fits f.shape values ≡ false
      → (outcome f S (insert_call values content)).answer ≡ refused 3
  -- "and before 4": 11 "even when its key is stored already", and where 6 or 7 would be due
  pub zero-eleven : (values : List ℕ) (content : Content) → key_fits f.shape values ≡ true → content.payload ≡ 0
      → ((outcome f S (insert_call values content)).answer ≡ refused 11) × (next f S (insert_call values content) ≡ S)
  -- any other payload is added
  pub other-added : (values : List ℕ) (content : Content) → (content.payload ≡ 0 → ⊥)
      → ((outcome f S (insert_call values content)).answer ≡ add_answer f S values content)
      × (next f S (insert_call values content) ≡ add_next f S values content)
  -- no call makes a payload of 0 stored
  pub stays-without-zero : (calls : List Call) → without_zero S ≡ true → without_zero (last_set f S calls) ≡ true
