-- A record added whatever its payload: what an insert does once 11 is judged. So that a store may get records with
-- payload 0 that it held before (document 02, request 5: "A stored payload of 0 loads."). Assumes nothing.
use Rattle.std.specs.Prelude.{ℕ, List, ◌++◌}
use Rattle.shape.specs.Refusal.{Answer, answered, first_number}
use Rattle.record.specs.declared.Content.{Content}
use Rattle.record.specs.Record.{Record}
use Rattle.model.specs.Sets.{with_record}
use Rattle.model.specs.Model.{Fixed, Reply, changed, record_for, depth_in, key_conditions, add_conditions}
use Rattle.model.specs.Model.{if_accepted}

module _ (f : Fixed) (S : List Record) (values : List ℕ) (content : Content) where
  -- 3, 4, 6, 7
  unfoldable pub add_number : ℕ
  add_number =
      first_number (key_conditions f.shape values ++ add_conditions f S (record_for f.shape values content))

  -- "the record joins S"
  abbrev pub add_set : List Record
  add_set = with_record f.shape (record_for f.shape values content) S

  -- "the depth of the key's leaf afterwards"
  abbrev pub add_answer : Answer Reply
  add_answer = answered add_number (changed (depth_in f values add_set))

  -- "S stays" where it is refused
  abbrev pub add_next : List Record
  add_next = if_accepted add_number add_set S
