-- What the model answers on the small stores and how it divides the sets after, computed from the definitions.
-- Assumes nothing.
use Prim.Native.Nat.{ℕ, min, ◌/◌}
use mathlib.Core.Path.{◌≡◌, refl, ap}
use mathlib.Core.Bool.{Bool, true, false}
use mathlib.Core.List.{List, [], ◌∷◌, ◌++◌}
use lib.ListN.{length, get_or, replicate}
use Rattle.shape.specs.Refusal.{accepted, refused, refused_with, first_number, answered_by}
use Rattle.shape.specs.Shape.{shape_conditions, widths_of}
use Rattle.shape.specs.Key.{marked, value_fits, encode, key_fits, encodings, names_unused, query_fits}
use Rattle.split.specs.Steps.{steps_below, steps, step, step_number, steps_of, attribute_depth}
use Rattle.split.specs.Bits.{split_bit}
use Rattle.address.specs.Address.{highest_bit, created_by, latest_step, formula, address_from, address}
use Rattle.address.specs.Doubling.{sides}
use Rattle.cell.specs.Cell.{sum_bits, cell, cell_address}
use Rattle.region.specs.Strings.{empty_string, list_bit}
use Rattle.region.specs.Division.{leaf, divided}
use Rattle.record.specs.declared.Content.{Content}
use Rattle.record.specs.Record.{Record, matches}
use Rattle.record.specs.Bytes.{record_size, record_bytes}
use Rattle.model.specs.Model.{insert_call, delete_call, lookup_call, query_call, changed, found, listed, number_for, reply_to}
use Rattle.model.specs.Model.{set_after, output_of, output_after, outcome, next}
use Rattle.model.specs.Add.{add_number, add_answer, add_next}
use Rattle.model.specs.Sets.{division_of, key_depth, query_bits, reads_of, given_depths, reads_bound}
use Rattle.model.proofs.InsertLaws.{outcome-insert-other, next-insert-other}
use Rattle.store.specs.Store.{Store, fixed_of, word_at, lent_conditions}
use Rattle.store.specs.Promises.{key_refusals, key_number}
use Rattle.table.specs.Table.{two_two, key}
use Rattle.refutation.specs.Stores.{all_free, given_first, given_second, outcome_on, leaves_after, record_at, no_record}
use Rattle.refutation.specs.Stores.{one_record, set_of_one, two_records, set_of_two, three_records, set_of_three}
use Rattle.refutation.specs.Stores.{four_records, set_of_four}

-- ---- the leaves before

pub first_leaf : division_of two_two set_of_one ≡ leaf set_of_one
unfolding widths_of division_of
first_leaf = refl

pub leaf-of-two : division_of two_two set_of_two ≡ leaf set_of_two
unfolding widths_of division_of
leaf-of-two = refl

pub leaves-of-three : division_of two_two set_of_three ≡ divided (leaf set_of_one) (leaf set_of_two)
unfolding widths_of steps_below steps step split_bit division_of
leaves-of-three = refl

-- ---- calls

-- keys that no early number refuses
pub record Fitting : Type 0 where
  pub first : key_number no_record (key 0 0) ≡ 0
  pub first-again : key_number one_record (key 0 0) ≡ 0
  pub second : key_number one_record (key 0 1) ≡ 0
  pub third : key_number two_records (key 2 1) ≡ 0
  pub fourth : key_number (three_records 3) (key 2 1) ≡ 0
  pub fourth-full : key_number (three_records 2) (key 2 1) ≡ 0

pub fitting : Fitting
unfolding first_number shape_conditions key_fits record_bytes lent_conditions key_refusals value_fits encode marked
fitting =
    record {
      first = refl;
      first-again = refl;
      second = refl;
      third = refl;
      fourth = refl;
      fourth-full = refl;
    }

-- inserts of any payload but 0
pub record Inserts (content : Content) : Type 0 where
  -- (0,0) where there is no record
  pub first-answer : (outcome_on no_record [] (insert_call (key 0 0) content)).answer ≡ accepted (changed 0)
  pub first-leaves : leaves_after no_record [] (insert_call (key 0 0) content)
      ≡ leaf (record { key = key 0 0; content = content } ∷ [])
  -- (0,1) beside (0,0)
  pub second-leaves : leaves_after one_record set_of_one (insert_call (key 0 1) content)
      ≡ leaf (record_at 0 0 10 ∷ record { key = key 0 1; content = content } ∷ [])
  -- (2,1) beside (2,0) and (3,1), and beside (0,0) too
  pub third-leaves : leaves_after two_records set_of_two (insert_call (key 2 1) content)
      ≡ divided (leaf [])
      (divided
      (divided (leaf (record_at 2 0 11 ∷ record { key = key 2 1; content = content } ∷ []))
      (leaf (record_at 3 1 12 ∷ [])))
      (leaf []))
  pub fourth-leaves : leaves_after (three_records 3) set_of_three (insert_call (key 2 1) content)
      ≡ divided (leaf (record_at 0 0 10 ∷ []))
      (divided
      (divided (leaf (record_at 2 0 11 ∷ record { key = key 2 1; content = content } ∷ []))
      (leaf (record_at 3 1 12 ∷ [])))
      (leaf []))
  -- with two pages
  pub fourth-refused : (outcome_on (three_records 2) set_of_three (insert_call (key 2 1) content)).answer ≡ refused 7

pub inserts : (content : Content) → (content.payload ≡ 0 → ⊥) → Inserts content
unfolding
    first_number widths_of key_fits encodings steps_below steps step split_bit add_number division_of key_depth value_fits encode
    marked
inserts content some =
    record {
      first-answer = answer no_record [] (key 0 0);
      first-leaves = leaves no_record [] (key 0 0);
      second-leaves = leaves one_record set_of_one (key 0 1);
      third-leaves = leaves two_records set_of_two (key 2 1);
      fourth-leaves = leaves (three_records 3) set_of_three (key 2 1);
      fourth-refused = answer (three_records 2) set_of_three (key 2 1);
    }
  where
    answer : (store : Store) (S : List Record) (values : List ℕ)
        → (outcome_on store S (insert_call values content)).answer ≡ add_answer (fixed_of store.state) S values content
    answer store S values = outcome-insert-other (fixed_of store.state) S values content some

    leaves : (store : Store) (S : List Record) (values : List ℕ)
        → leaves_after store S (insert_call values content)
        ≡ division_of store.state.shape (add_next (fixed_of store.state) S values content)
    leaves store S values =
        ap (division_of store.state.shape) (next-insert-other (fixed_of store.state) S values content some)

pub record Deletes : Type 0 where
  -- of (0,0), where there is no other record
  pub only-answer : (outcome_on one_record set_of_one (delete_call (key 0 0))).answer ≡ accepted (changed 0)
  pub only-leaves : leaves_after one_record set_of_one (delete_call (key 0 0)) ≡ leaf []
  -- of (2,0) beside (3,1)
  pub rest-leaves : leaves_after two_records set_of_two (delete_call (key 2 0)) ≡ leaf (record_at 3 1 12 ∷ [])
  -- where there is none
  pub absent-answer : (outcome_on no_record [] (delete_call (key 0 0))).answer ≡ refused_with 5 0
  -- of (2,1), of (0,0), among four
  pub joined-leaves : leaves_after four_records set_of_four (delete_call (key 2 1)) ≡ divided (leaf set_of_one) (leaf set_of_two)
  pub emptied-leaves : leaves_after four_records set_of_four (delete_call (key 0 0))
      ≡ divided (leaf [])
      (divided (divided (leaf (record_at 2 0 11 ∷ record_at 2 1 13 ∷ [])) (leaf (record_at 3 1 12 ∷ []))) (leaf []))

pub deletes : Deletes
unfolding
    first_number answered_by shape_conditions widths_of key_fits encodings names_unused query_fits value_fits encode
    steps_below steps step step_number steps_of attribute_depth split_bit matches record_bytes
    number_for reply_to set_after output_of output_after outcome next division_of key_depth query_bits reads_of marked
deletes =
    record {
      only-answer = refl;
      only-leaves = refl;
      rest-leaves = refl;
      absent-answer = refl;
      joined-leaves = refl;
      emptied-leaves = refl;
    }

pub record Reads (out : List ℕ) : Type 0 where
  -- lookup of (0,0) and of (1,1), where (0,0) is stored
  pub found-answer : (outcome_on one_record set_of_one (lookup_call (key 0 0))).answer
      ≡ accepted (found (record { payload = 10 }) 1 0)
  pub absent-answer : (outcome_on one_record set_of_one (lookup_call (key 1 1))).answer ≡ refused_with 5 0
  -- queries
  pub none-listed : (outcome_on no_record [] (query_call all_free out)).answer
      ≡ accepted (listed (min 0 (length out / record_size)) 0 0)
  pub first-listed : (outcome_on one_record set_of_one (query_call all_free out)).answer
      ≡ accepted (listed (min 1 (length out / record_size)) 1 1)
  pub one-side-listed : (outcome_on (three_records 2) set_of_three (query_call (given_first 0) out)).answer
      ≡ accepted (listed (min 1 (length out / record_size)) 1 1)
  pub some-listed : (outcome_on four_records set_of_four (query_call (given_second 1) out)).answer
      ≡ accepted (listed (min 2 (length out / record_size)) 2 3)
  pub all_listed : (outcome_on four_records set_of_four (query_call all_free out)).answer
      ≡ accepted (listed (min 4 (length out / record_size)) 4 3)
  -- what is written where one record fits
  pub first-written : (outcome_on one_record set_of_one (query_call all_free (replicate 12 0))).output
      ≡ record_bytes two_two (record_at 0 0 10)
  pub first-written-of-two : (outcome_on one_record set_of_one (query_call all_free (replicate 24 1))).output
      ≡ record_bytes two_two (record_at 0 0 10) ++ replicate 12 1
  pub first-of-four-written : (outcome_on four_records set_of_four (query_call all_free (replicate 12 0))).output
      ≡ record_bytes two_two (record_at 0 0 10)
  -- the bound where attribute 1 is given
  pub some-bound : reads_bound two_two (given_second 1) set_of_four ≡ 4

pub reads : (out : List ℕ) → Reads out
unfolding
    first_number answered_by shape_conditions widths_of key_fits encodings names_unused query_fits value_fits encode
    steps_below steps step step_number steps_of attribute_depth split_bit matches record_bytes
    number_for reply_to set_after output_of output_after outcome next division_of key_depth query_bits reads_of given_depths
    reads_bound marked
reads out =
    record {
      found-answer = refl;
      absent-answer = refl;
      none-listed = refl;
      first-listed = refl;
      one-side-listed = refl;
      some-listed = refl;
      all_listed = refl;
      first-written = refl;
      first-written-of-two = refl;
      first-of-four-written = refl;
      some-bound = refl;
    }

-- ---- cells: the words that strings lead to

pub record Cells (words : List ℕ) : Type 0 where
  -- T = 0
  pub root : (p : ℕ → Bool) → word_at two_two 0 words p ≡ get_or words 0 0
  -- T = 3, index vectors (0,0), (0,1), (2,0), (3,0)
  pub at-0 : word_at two_two 3 words empty_string ≡ get_or words 0 0
  pub at-2 : word_at two_two 3 words (list_bit (false ∷ true ∷ false ∷ [])) ≡ get_or words 2 0
  pub at-4 : word_at two_two 3 words (list_bit (false ∷ false ∷ true ∷ [])) ≡ get_or words 4 0
  pub at-6 : word_at two_two 3 words (list_bit (true ∷ false ∷ true ∷ [])) ≡ get_or words 6 0

pub cells : (words : List ℕ) → Cells words
unfolding
    widths_of steps_below steps step step_number steps_of attribute_depth
    highest_bit created_by latest_step formula address_from address sides sum_bits cell cell_address
cells words =
    record {
      root = λ p. refl;
      at-0 = refl;
      at-2 = refl;
      at-4 = refl;
      at-6 = refl;
    }
