-- The proof table holds, by computing each entry from the definitions. Assumes nothing.
use mathlib.Core.Path.{refl}
use mathlib.Core.List.{flatten}
use Rattle.shape.specs.Refusal.{first_number, answered_by}
use Rattle.shape.specs.Shape.{shape_conditions, widths_of}
use Rattle.shape.specs.Key.{marked, value_fits, encode, decode, key_fits, encodings, names_unused, query_fits}
use Rattle.split.specs.Steps.{steps_below, steps, step, step_number, steps_of, attribute_depth}
use Rattle.split.specs.Bits.{split_bit}
use Rattle.address.specs.Address.{highest_bit, created_by, latest_step, formula, address_from, address}
use Rattle.address_calls.specs.Answers.{address_refusals, address_answer, index_refusals, index_answer}
use Rattle.address.specs.Doubling.{layers, box, sides, appended, doubling_array}
use Rattle.cell.specs.Cell.{sum_bits, cell, cell_address}
use Rattle.record.specs.Record.{matches}
use Rattle.record.specs.Bytes.{record_bytes}
use Rattle.model.specs.Limits.{logarithm, page_limit_of, depth_limit_of, fresh_shape, fixed_by}
use Rattle.model.specs.Model.{number_for, reply_to, set_after, output_of, output_after, outcome, next, run}
use Rattle.model.specs.Sets.{division_of, query_bits, reads_of, given_depths, reads_bound}
use Rattle.table.specs.Table.{TableHolds}

pub table-holds : TableHolds
unfolding
    first_number answered_by shape_conditions widths_of
    marked value_fits encode decode key_fits encodings names_unused query_fits
    steps_below steps step step_number steps_of attribute_depth split_bit
    highest_bit created_by latest_step formula address_from address address_refusals address_answer index_refusals index_answer
    layers box sides appended doubling_array sum_bits cell cell_address matches record_bytes flatten
    logarithm page_limit_of depth_limit_of fresh_shape fixed_by
    number_for reply_to set_after output_of output_after outcome next run
    division_of query_bits reads_of given_depths reads_bound
table-holds = (refl, refl)
