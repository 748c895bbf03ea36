-- The plain model of demand 3 (document 01, "The plain model of demand 3"; document 02, requests 1, 2 and 6): calls,
-- their refusals, answers and the set after them. It takes nothing from a state, words, pages or answers. Assumes
-- nothing.
use Rattle.std.specs.Prelude.{ℕ, zero, suc, ◌*◌, ◌/◌, min, not, List, [], ◌∷◌, ◌++◌, leb, ltb, eqb, length, take, drop}
use Rattle.std.proofs.Math.Option.{Option}
use Rattle.lists.specs.Filter.{filter, non_empty}
use Rattle.shape.specs.Refusal.{Condition, Answer, answered_by, refusal, refusal_with, first_number}
use Rattle.shape.specs.Key.{key_fits, encodings, names_unused, query_fits}
use Rattle.shape.specs.Range.{Interval, range_fits, range_rises}
use Rattle.shape.specs.declared.Shape.{Shape}
use Rattle.region.specs.Division.{non_empty_leaves}
use Rattle.record.specs.declared.Content.{Content}
use Rattle.record.specs.Record.{Record, matches}
use Rattle.record.specs.Bytes.{record_size, records_bytes}
use Rattle.range_box.specs.Box.{box_of, in_box}
use Rattle.model.specs.Sets.{stored, with_record, without_key, sharing, division_of, key_depth, reads_of, range_reads_of}

-- "The plain model is given that Fresh's shape and slice lengths, which set P and L": what stays fixed afterwards
pub record Fixed : Type 0 where
  pub shape : Shape
  pub page_limit : ℕ
  pub depth_limit : ℕ

-- ---- calls and answers

-- "what the call is given besides the state and the store's slices"
pub data Call : Type 0 where
  insert_call : List ℕ → Content → Call
  delete_call : List ℕ → Call
  lookup_call : List ℕ → Call
  -- a query and its output as it came
  query_call : List (Option ℕ) → List ℕ → Call
  -- a range and its output as it came
  range_call : List (Option Interval) → List ℕ → Call

-- what an accepted call returns
pub data Reply : Type 0 where
  -- the depth of the key's leaf afterwards
  changed : ℕ → Reply
  -- content, pages read, and the depth of the key's leaf
  found : Content → ℕ → ℕ → Reply
  -- written, total, reads
  listed : ℕ → ℕ → ℕ → Reply

-- the answer to a call, and its output as it is left ([] for a call that has none)
pub record Outcome : Type 0 where
  pub answer : Answer Reply
  pub output : List ℕ

-- the record of a key with its content
abbrev pub record_for : Shape → List ℕ → Content → Record
record_for s values content = record { key = encodings s values; content = content }

-- the depth of the leaf that a call's key falls in, in a set
abbrev pub depth_in : Fixed → List ℕ → List Record → ℕ
depth_in f values S = key_depth f.shape (encodings f.shape values) S

-- ---- refusals, in the table's order; 1, 14, 15 and 2 are judged by what is lent, and 9 is left out

-- 3 "value .. of 2^w_j or more .. unused key .. value not 0"
abbrev pub key_conditions : Shape → List ℕ → List Condition
key_conditions s values = refusal 3 (not (key_fits s values)) ∷ []

-- 8 "query names attribute d or above", 3
abbrev pub query_conditions : Shape → List (Option ℕ) → List Condition
query_conditions s q = refusal 8 (names_unused s q) ∷ refusal 3 (not (query_fits s q)) ∷ []

-- 8, 3, and 10 "low above high in some attribute, checked after 3"
abbrev pub range_conditions : Shape → List (Option Interval) → List Condition
range_conditions s r =
    refusal 8 (names_unused s r) ∷ refusal 3 (not (range_fits s r)) ∷ refusal 10 (not (range_rises s r)) ∷ []

-- 11 "payload 0 on insert, after 3 and before 4"
abbrev pub payload_conditions : Content → List Condition
payload_conditions content = refusal 11 (eqb content.payload 0) ∷ []

module _ (f : Fixed) (S : List Record) where
  -- 6 "b stored keys share their first L split bits with it", 7 "the new set has more than P non-empty leaves"
  abbrev pub room_conditions : Record → List Condition
  room_conditions r =
      refusal 6 (leb f.shape.capacity (length (sharing f.shape f.depth_limit r S)))
      ∷ refusal 7 (ltb f.page_limit (non_empty_leaves (division_of f.shape (with_record f.shape r S))))
      ∷ []

  -- 4 "key stored already", 6, 7
  abbrev pub add_conditions : Record → List Condition
  add_conditions r = refusal 4 (non_empty (stored r.key S)) ∷ room_conditions r

  -- 3, 11, 4, 6, 7
  abbrev pub insert_conditions : List ℕ → Content → List Condition
  insert_conditions values content =
      key_conditions f.shape values ++ payload_conditions content
      ++ add_conditions (record_for f.shape values content)

  -- 5 "key absent": it "carries the depth of the present leaf that the absent key's split bits begin with; no other
  -- number carries a depth"
  abbrev pub absent_condition : List ℕ → Condition
  absent_condition values =
      refusal_with 5 (not (non_empty (stored (encodings f.shape values) S))) (depth_in f values S)

  -- 3, 5
  abbrev pub stored_conditions : List ℕ → List Condition
  stored_conditions values = key_conditions f.shape values ++ absent_condition values ∷ []

  abbrev pub conditions_for : Call → List Condition
  conditions_for (insert_call values content) = insert_conditions values content
  conditions_for (delete_call values) = stored_conditions values
  conditions_for (lookup_call values) = stored_conditions values
  conditions_for (query_call q out) = query_conditions f.shape q
  conditions_for (range_call r out) = range_conditions f.shape r

  -- "the first condition for refusal that holds .. gives the number"; 0 for an accepted call
  unfoldable pub number_for : Call → ℕ
  number_for c = first_number (conditions_for c)

-- ---- accepted calls

-- the content of the first of some records: "the key's payload in S"
abbrev pub content_of : List Record → Content
content_of [] = record { payload = 0 }
content_of (r ∷ rs) = r.content

-- records listed into an output
module _ (rs : List Record) (out : List ℕ) where
  -- "written is the smaller of total and the whole records that fit the output"
  abbrev pub written_for : ℕ
  written_for = min (length rs) (length out / record_size)

  -- "The output begins with that many of them, the first in split order, and its other bytes are as they came."
  abbrev pub output_for : Shape → List ℕ
  output_for s = records_bytes s (take written_for rs) ++ drop (record_size * written_for) out

module _ (f : Fixed) (S : List Record) where
  -- "Total is the number of matching records of S"
  abbrev pub matching : List (Option ℕ) → List Record
  matching q = filter (matches f.shape q) S

  abbrev pub written_of : List (Option ℕ) → List ℕ → ℕ
  written_of q out = written_for (matching q) out

  unfoldable pub output_of : List (Option ℕ) → List ℕ → List ℕ
  output_of q out = output_for (matching q) out f.shape

  -- "Total counts the stored records inside the box"
  abbrev pub inside : List (Option Interval) → List Record
  inside r = filter (λ x. in_box (box_of f.shape r) x.key) S

  -- "Insert: the record joins S. Delete: the key's record leaves S." "S stays."
  unfoldable pub set_after : Call → List Record
  set_after (insert_call values content) = with_record f.shape (record_for f.shape values content) S
  set_after (delete_call values) = without_key (encodings f.shape values) S
  set_after (lookup_call values) = S
  set_after (query_call q out) = S
  set_after (range_call r out) = S

  -- "Lookup: the key's payload in S and 1 page read", "Query: .. written .. Total .. Reads". "For insert and delete
  -- it is the depth of the key's leaf afterwards."
  unfoldable pub reply_to : Call → Reply
  reply_to (insert_call values content) = changed (depth_in f values (set_after (insert_call values content)))
  reply_to (delete_call values) = changed (depth_in f values (set_after (delete_call values)))
  reply_to (lookup_call values) =
      found (content_of (stored (encodings f.shape values) S)) 1 (depth_in f values S)
  reply_to (query_call q out) = listed (written_of q out) (length (matching q)) (reads_of f.shape q S)
  reply_to (range_call r out) = listed (written_for (inside r) out) (length (inside r)) (range_reads_of f.shape r S)

  unfoldable pub output_after : Call → List ℕ
  output_after (insert_call values content) = []
  output_after (delete_call values) = []
  output_after (lookup_call values) = []
  output_after (query_call q out) = output_of q out
  output_after (range_call r out) = output_for (inside r) out f.shape

-- a call's output as it came
abbrev pub output_before : Call → List ℕ
output_before (insert_call values content) = []
output_before (delete_call values) = []
output_before (lookup_call values) = []
output_before (query_call q out) = out
output_before (range_call r out) = out

-- ---- one call

-- "If none holds, the call is accepted."
abbrev pub if_accepted : {A : Type 0} → ℕ → A → A → A
if_accepted zero x y = x
if_accepted (suc n) x y = y

unfoldable pub outcome : Fixed → List Record → Call → Outcome
outcome f S c = record {
  answer = answered_by (conditions_for f S c) (reply_to f S c);
  output = if_accepted (number_for f S c) (output_after f S c) (output_before c);
}

-- the set after a call; "S stays" where it is refused
unfoldable pub next : Fixed → List Record → Call → List Record
next f S c = if_accepted (number_for f S c) (set_after f S c) S

-- ---- a list of calls, "call by call"

unfoldable pub run : Fixed → List Record → List Call → List Outcome
run f S [] = []
run f S (c ∷ cs) = outcome f S c ∷ run f (next f S c) cs

-- the set after them
abbrev pub last_set : Fixed → List Record → List Call → List Record
last_set f S [] = S
last_set f S (c ∷ cs) = last_set f (next f S c) cs
