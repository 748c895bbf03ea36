-- Wrong programs of document 01's review, steps 3 and 4, against demand 3's own statement: `History` leaves no run from
-- a fresh store that has their outcomes, whatever the outcomes of the calls before. Assumes nothing.
use Prim.Native.Nat.{ℕ, min, ◌/◌}
use mathlib.Core.Path.{◌≡◌, refl, ap, ◌∙◌}
use mathlib.Core.Bool.{true}
use mathlib.Core.List.{List, [], ◌∷◌, ◌++◌}
use native.Mathlib.Omega.{arith}
use lib.ListN.{length, get_or}
use Rattle.shape.specs.Refusal.{Answer, accepted, refused, is_refused, first_number, answered_by}
use Rattle.shape.specs.Shape.{widths_of}
use Rattle.shape.specs.Key.{marked, value_fits, encode, key_fits, encodings, names_unused, query_fits}
use Rattle.split.specs.Steps.{steps_below, steps, step, step_number, steps_of, attribute_depth}
use Rattle.split.specs.Bits.{split_bit}
use Rattle.record.specs.declared.Content.{Content}
use Rattle.record.specs.Record.{matches}
use Rattle.record.specs.Bytes.{record_size}
use Rattle.model.specs.Limits.{logarithm, page_limit_of, depth_limit_of, fresh_shape, fixed_by}
use Rattle.model.specs.Model.{Fixed, Call, insert_call, lookup_call, query_call, Reply, found, listed, Outcome}
use Rattle.model.specs.Model.{number_for, reply_to, set_after, outcome, next, run}
use Rattle.model.specs.Add.{add_number, add_next}
use Rattle.model.specs.Sets.{division_of, key_depth, query_bits, reads_of}
use Rattle.model.proofs.InsertLaws.{next-insert-other}
use Rattle.store.specs.Store.{Store}
use Rattle.store.specs.Fresh.{FreshPromise}
use Rattle.history.specs.History.{Run, History}
use Rattle.table.specs.Table.{two_two, key, four_inserts}
use Rattle.refutation.specs.Stores.{ones, all_free, given_second}
use Rattle.refutation.proofs.ChangeLaws.{refusal-not-accepted, listed-total, listed-reads}

-- ---- what the model answers

-- the answer to call i of a list
abbrev pub answer_at : ℕ → List Outcome → Answer Reply
answer_at i os = (get_or os i (record { answer = refused 0; output = [] })).answer

-- on the store that a Fresh of 8 words and 3 pages left
abbrev pub fixed : Fixed
fixed = fixed_by two_two (length ones.words) (length ones.bytes)

abbrev pub model_answer : List Call → ℕ → Answer Reply
model_answer calls i = answer_at i (run fixed [] calls)

-- of a lookup and a query after the insert of one record
record AfterFirst (content : Content) (out : List ℕ) : Type 0 where
  found_first : model_answer (insert_call (key 0 0) content ∷ lookup_call (key 0 0) ∷ []) 1 ≡ accepted (found content 1 0)
  listed-first : model_answer (insert_call (key 0 0) content ∷ query_call all_free out ∷ []) 1
      ≡ accepted (listed (min 1 (length out / record_size)) 1 1)

after_first : (content : Content) → (content.payload ≡ 0 → ⊥) → (out : List ℕ) → AfterFirst content out
unfolding
    first_number answered_by widths_of key_fits encodings names_unused query_fits value_fits encode
    steps_below steps step step_number steps_of attribute_depth split_bit matches
    logarithm page_limit_of depth_limit_of fresh_shape fixed_by
    add_number number_for reply_to outcome run division_of key_depth query_bits reads_of marked
after_first content some out =
    record { found_first = second (lookup_call (key 0 0)); listed-first = second (query_call all_free out) }
  where
    second : (c : Call)
        → model_answer (insert_call (key 0 0) content ∷ c ∷ []) 1
        ≡ (outcome fixed (add_next fixed [] (key 0 0) content) c).answer
    second c = ap (λ S. (outcome fixed S c).answer) (next-insert-other fixed [] (key 0 0) content some)

-- and after the table's four
record AfterFour (out : List ℕ) : Type 0 where
  found-third : model_answer (four_inserts ++ lookup_call (key 3 1) ∷ []) 4
      ≡ accepted (found (record { payload = 12 }) 1 3)
  listed-four : model_answer (four_inserts ++ query_call (given_second 1) out ∷ []) 4
      ≡ accepted (listed (min 2 (length out / record_size)) 2 3)

after-four : (out : List ℕ) → AfterFour out
unfolding
    first_number answered_by widths_of key_fits encodings names_unused query_fits value_fits encode
    steps_below steps step step_number steps_of attribute_depth split_bit matches
    logarithm page_limit_of depth_limit_of fresh_shape fixed_by
    number_for reply_to set_after outcome next run division_of key_depth query_bits reads_of marked
after-four out = record { found-third = refl; listed-four = refl }

-- ---- runs that there are not

module _ (demand : History) (fresh after : Store) (p : FreshPromise two_two ones (accepted tt) fresh) where
  pub as-model : {calls : List Call} {outcomes : List Outcome} (i : ℕ) → Run fresh calls outcomes after
      → answer_at i outcomes ≡ model_answer calls i
  as-model i r = ap (answer_at i) (demand two_two ones fresh p _ _ after r).0

  module _ (o : Outcome) (output : List ℕ) where
    -- "an insert that accepts and stores nothing" (review, 3): the key that was inserted is absent
    pub stores-nothing : (content : Content) → (content.payload ≡ 0 → ⊥) → (answer : Answer Reply)
        → is_refused answer ≡ true → Run fresh (insert_call (key 0 0) content ∷ lookup_call (key 0 0) ∷ [])
        (o ∷ record { answer = answer; output = output } ∷ []) after → ⊥
    stores-nothing content some answer refusal r =
        refusal-not-accepted _ answer refusal (as-model 1 r ∙ (after_first content some []).found_first)

    -- "a query that returns an empty list each time" (review, 3)
    pub empty-list : (content : Content) → (content.payload ≡ 0 → ⊥) → (out : List ℕ) (written n : ℕ)
        → Run fresh (insert_call (key 0 0) content ∷ query_call all_free out ∷ [])
        (o ∷ record { answer = accepted (listed written 0 n); output = output } ∷ []) after → ⊥
    empty-list content some out written n r =
        let same : ◌≡◌ {A = ℕ} 0 1 = listed-total (as-model 1 r ∙ (after_first content some out).listed-first) in
        omega (arith, same)

  module _ (a b c d : Outcome) (output : List ℕ) where
    -- "one that divides correctly the first time and later only sets T" (review, 3): after the fourth insert the cell
    -- of (3,1) has no page
    pub only-sets-depth : (answer : Answer Reply) → is_refused answer ≡ true
        → Run fresh (four_inserts ++ lookup_call (key 3 1) ∷ [])
        (a ∷ b ∷ c ∷ d ∷ record { answer = answer; output = output } ∷ []) after → ⊥
    only-sets-depth answer refusal r =
        refusal-not-accepted _ answer refusal (as-model 4 r ∙ (after-four []).found-third)

    module _ (out : List ℕ) (written total n : ℕ)
        (r : Run fresh (four_inserts ++ query_call (given_second 1) out ∷ [])
        (a ∷ b ∷ c ∷ d ∷ record { answer = accepted (listed written total n); output = output } ∷ []) after) where
      reads_three : n ≡ 3
      reads_three = listed-reads (as-model 4 r ∙ (after-four out).listed-four)

      -- "a query whose reads are the bound, or 1" (review, 4): the bound is 4
      pub reads-bound : n ≡ 4 → ⊥
      reads-bound e = omega (arith, e, reads_three)

      pub reads-one : n ≡ 1 → ⊥
      reads-one e = omega (arith, e, reads_three)
