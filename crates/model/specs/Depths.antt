-- Depths on a set of records of a shape, in the words of document 02, request 6. Assumes nothing.
use Rattle.std.specs.Prelude.{ℕ, ◌≤◌, ◌≡◌, true, false, List, ◌↔◌}
use Rattle.lists.specs.Filter.{non_empty}
use Rattle.shape.specs.Refusal.{accepted, refused_with}
use Rattle.shape.specs.Shape.{widths_of}
use Rattle.shape.specs.Key.{key_fits, encodings}
use Rattle.split.specs.Bits.{split_bit}
use Rattle.region.specs.Division.{greatest_depth}
use Rattle.region.specs.Leaves.{LeafInWords}
use Rattle.record.specs.declared.Content.{Content}
use Rattle.record.specs.Record.{Record, record_bit}
use Rattle.model.specs.Sets.{stored, division_of, key_depth}
use Rattle.model.specs.Model.{Fixed, Call, insert_call, delete_call, lookup_call, Reply, changed, found, depth_in}
use Rattle.model.specs.Model.{outcome, next}

-- what holds of depths on every set of records of a shape within its bounds
pub record SetDepths (f : Fixed) (S : List Record) : Type 0 where
  -- "how deep a key lies", "the leaf's depth": of the leaf that the key's split bits begin with, and of no other
  pub of-leaf : (key : List ℕ) (x : ℕ)
      → LeafInWords (record_bit f.shape) f.shape.capacity S (split_bit (widths_of f.shape) key) x
      ↔ (key_depth f.shape key S ≡ x)
  -- "T is the greatest leaf depth" (document 01)
  pub within : (key : List ℕ) → key_depth f.shape key S ≤ greatest_depth (division_of f.shape S)
  -- "lookup, insert and delete pass it on": every accepted one
  pub lookup-depth : (values : List ℕ) (reply : Reply) → (outcome f S (lookup_call values)).answer ≡ accepted reply
      → (content : Content) × (reply ≡ found content 1 (depth_in f values S))
  -- "For insert and delete it is the depth of the key's leaf afterwards."
  pub afterwards-insert : (values : List ℕ) (content : Content) (reply : Reply)
      → (outcome f S (insert_call values content)).answer ≡ accepted reply
      → reply ≡ changed (depth_in f values (next f S (insert_call values content)))
  pub afterwards-delete : (values : List ℕ) (reply : Reply) → (outcome f S (delete_call values)).answer ≡ accepted reply
      → reply ≡ changed (depth_in f values (next f S (delete_call values)))
  -- "In lookup and delete, number 5 carries the depth of the present leaf that the absent key's split bits begin with",
  -- the leaf empty or not
  pub lookup_absent : (values : List ℕ) → key_fits f.shape values ≡ true
      → non_empty (stored (encodings f.shape values) S) ≡ false
      → (outcome f S (lookup_call values)).answer ≡ refused_with 5 (depth_in f values S)
  pub delete-absent : (values : List ℕ) → key_fits f.shape values ≡ true
      → non_empty (stored (encodings f.shape values) S) ≡ false
      → (outcome f S (delete_call values)).answer ≡ refused_with 5 (depth_in f values S)
  -- "no other number carries a depth", whatever the call
  pub only-five : (c : Call) (n x : ℕ) → (outcome f S c).answer ≡ refused_with n x → n ≡ 5
