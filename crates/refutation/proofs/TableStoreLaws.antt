-- The store of the proof table's entries (a) and (b), by computing. Assumes nothing.
use mathlib.Core.Path.{◌≡◌, refl}
use mathlib.Core.List.{[]}
use Rattle.shape.specs.Refusal.{first_number}
use Rattle.shape.specs.Shape.{widths_of}
use Rattle.shape.specs.Key.{marked, value_fits, encode, key_fits, encodings}
use Rattle.split.specs.Steps.{steps_below, steps, step, step_number, steps_of, attribute_depth}
use Rattle.split.specs.Bits.{split_bit}
use Rattle.address.specs.Address.{highest_bit, created_by, latest_step, formula, address_from, address}
use Rattle.address.specs.Doubling.{sides}
use Rattle.cell.specs.Cell.{sum_bits, cell, cell_address}
use Rattle.model.specs.Limits.{logarithm, page_limit_of, depth_limit_of, fresh_shape, fixed_by}
use Rattle.model.specs.Model.{number_for, set_after, next, last_set}
use Rattle.model.specs.Sets.{division_of}
use Rattle.table.specs.Table.{four_inserts, fixed_amply, division_after, directory_words}
use Rattle.refutation.specs.Stores.{four_records, set_of_four}
use Rattle.refutation.specs.TableStore.{TableStore}
use Rattle.refutation.proofs.FourLeavesSound.{four_records-sound}

last_set-four : last_set fixed_amply [] four_inserts ≡ set_of_four
unfolding
    first_number widths_of key_fits encodings steps_below steps step split_bit value_fits encode
    logarithm page_limit_of depth_limit_of fresh_shape fixed_by number_for set_after next division_of marked
last_set-four = refl

directory_words-four : four_records.memory.words ≡ directory_words (division_after four_inserts)
unfolding
    first_number widths_of key_fits encodings steps_below steps step step_number steps_of attribute_depth split_bit
    value_fits encode
    highest_bit created_by latest_step formula address_from address sides sum_bits cell cell_address
    logarithm page_limit_of depth_limit_of fresh_shape fixed_by number_for set_after next division_of marked
directory_words-four = refl

pub table-store : TableStore
table-store = record { set = last_set-four; sound = four_records-sound; words = directory_words-four }
