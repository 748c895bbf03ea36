-- What the model tells of depths on the proof table's stores and in a list of calls, and the depths of words, by
-- computing. Assumes nothing.
use Prim.Native.Nat.{ℕ}
use mathlib.Core.Path.{◌≡◌, refl}
use mathlib.Core.List.{List, [], ◌∷◌, ◌++◌}
use lib.ListN.{get_or}
use Rattle.shape.specs.Refusal.{accepted, refused_with, first_number, answered_by}
use Rattle.shape.specs.Shape.{shape_conditions, widths_of}
use Rattle.shape.specs.Key.{marked, value_fits, encode, key_fits, encodings}
use Rattle.split.specs.Steps.{steps_below, steps, step, step_number, steps_of, attribute_depth}
use Rattle.split.specs.Bits.{split_bit}
use Rattle.address.specs.Address.{highest_bit, created_by, latest_step, formula, address_from, address}
use Rattle.address.specs.Doubling.{sides}
use Rattle.cell.specs.Cell.{sum_bits, cell, cell_address}
use Rattle.record.specs.declared.Content.{Content}
use Rattle.record.specs.Bytes.{record_bytes}
use Rattle.model.specs.Limits.{logarithm, page_limit_of, depth_limit_of, fresh_shape, fixed_by}
use Rattle.model.specs.Model.{delete_call, lookup_call, changed, found, number_for, set_after, reply_to, outcome, next, run}
use Rattle.model.specs.Add.{add_number, add_answer}
use Rattle.model.specs.Sets.{division_of, key_depth}
use Rattle.store.specs.Store.{fixed_of, word_at, lent_conditions}
use Rattle.store.specs.Promises.{key_refusals, key_number, depth_at}
use Rattle.table.specs.Table.{two_two, key, four_inserts}
use Rattle.refutation.specs.Stores.{three_records, set_of_three, four_records, set_of_four, zeroed_word, outcome_on}
use Rattle.refutation.proofs.HistoryRefuted.{model_answer}
use Rattle.refutation.proofs.ContainedComputed.{key_string}

-- ---- on the table's stores

pub record ToldOfAdds (content : Content) : Type 0 where
  -- (2,1) divides the leaf 1 of three records into 100, 101 and 11; (1,1) goes into the leaf 0 of four
  pub divided : add_answer (fixed_of (three_records 3).state) set_of_three (key 2 1) content ≡ accepted (changed 3)
  pub beside : add_answer (fixed_of four_records.state) set_of_four (key 1 1) content ≡ accepted (changed 1)
  pub beside-fits : key_number four_records (key 1 1) ≡ 0

pub record ToldOfFour : Type 0 where
  -- 100 and 101 are joined, then 10 and 11; the leaf 0 is emptied
  pub joined : (outcome_on four_records set_of_four (delete_call (key 2 1))).answer ≡ accepted (changed 1)
  pub emptied : (outcome_on four_records set_of_four (delete_call (key 0 0))).answer ≡ accepted (changed 1)
  -- words 3 and 7, of the empty leaf 11
  pub deleted-at-3 : (outcome_on four_records set_of_four (delete_call (key 2 2))).answer ≡ refused_with 5 2
  pub deleted-at-7 : (outcome_on four_records set_of_four (delete_call (key 3 2))).answer ≡ refused_with 5 2
  pub looked-at-3 : (outcome_on four_records set_of_four (lookup_call (key 2 2))).answer ≡ refused_with 5 2
  pub looked-at-7 : (outcome_on four_records set_of_four (lookup_call (key 3 2))).answer ≡ refused_with 5 2
  -- the leaf 0, with (0,0) and without (1,1)
  pub found_first : (outcome_on four_records set_of_four (lookup_call (key 0 0))).answer
      ≡ accepted (found (record { payload = 10 }) 1 1)
  pub absent_beside : (outcome_on four_records set_of_four (lookup_call (key 1 1))).answer ≡ refused_with 5 1

pub adds-told : (content : Content) → ToldOfAdds content
unfolding
    first_number shape_conditions widths_of key_fits encodings value_fits encode marked
    steps_below steps step step_number steps_of attribute_depth split_bit record_bytes
    add_number division_of key_depth lent_conditions key_refusals
adds-told content = record { divided = refl; beside = refl; beside-fits = refl }

pub told-four : ToldOfFour
unfolding
    answered_by widths_of key_fits encodings value_fits encode marked
    steps_below steps step step_number steps_of attribute_depth split_bit set_after reply_to outcome division_of key_depth
told-four =
    record {
      joined = refl;
      emptied = refl;
      deleted-at-3 = refl;
      deleted-at-7 = refl;
      looked-at-3 = refl;
      looked-at-7 = refl;
      found_first = refl;
      absent_beside = refl;
    }

-- ---- in a list of calls

pub record ToldInRun : Type 0 where
  -- of the fourth insert, and of a lookup after it
  pub fourth : model_answer four_inserts 3 ≡ accepted (changed 3)
  pub absent : model_answer (four_inserts ++ lookup_call (key 2 2) ∷ []) 4 ≡ refused_with 5 2

pub told-in-run : ToldInRun
unfolding
    first_number answered_by widths_of key_fits encodings value_fits encode marked
    steps_below steps step step_number steps_of attribute_depth split_bit
    logarithm page_limit_of depth_limit_of fresh_shape fixed_by
    number_for set_after reply_to outcome next run division_of key_depth
told-in-run = record { fourth = refl; absent = refl }

-- ---- words

pub record DepthCells (words : List ℕ) : Type 0 where
  -- the cell of (0,1) at T = 3, and the word of (2,2)
  pub at-0 : word_at two_two 3 words (key_string (key 0 1)) ≡ get_or words 0 0
  pub zeroed : depth_at zeroed_word (key 2 2) ≡ 0

pub depth-cells : (words : List ℕ) → DepthCells words
unfolding
    widths_of encodings encode marked steps_below steps step step_number steps_of attribute_depth split_bit
    highest_bit created_by latest_step formula address_from address sides sum_bits cell cell_address
depth-cells words = record { at-0 = refl; zeroed = refl }
