-- `file_parts::is_plain` meets its contract: by the laws of plain files. Assumes nothing.
use Rattle.std.proofs.Common.{arith, rules, tests, drop, ◌∙◌}
use borrow.Rule.Slice.PartAt.{part_to_end}
use Rattle.std.proofs.lemmas.Grind.{common_steps}
use Rattle.std.proofs.lemmas.Iterator.{YieldsList-from_slice}
use Rattle.std.proofs.lemmas.Iterator.Search.{all_from_yields_List}
use Rattle.file_parts.proofs.PlainLaws.{is_zero, is_plain-last, plain-bound, is_plain-rest}
use Rattle.file_parts.proofs.is_plain.Goals as goal

pub slice_bounds-unused-count : goal.slice_bounds-unused-count
slice_bounds-unused-count c = omega (arith, plain-bound c.args.file.now _ c.shape_in-shape.ensures c.requires.1)

pub slice_bounds-unused-start : goal.slice_bounds-unused-start
slice_bounds-unused-start c = omega (arith, plain-bound c.args.file.now _ c.shape_in-shape.ensures c.requires.1)

pub overflow_shr-result : goal.overflow_shr-result
overflow_shr-result c = omega (arith, plain-bound c.args.file.now _ c.shape_in-shape.ensures c.requires.1)

pub returns-then-byte_before-ne0 : goal.returns-then-byte_before-ne0
returns-then-byte_before-ne0 c = grind (arith, is_plain-last)

pub returns-then-all : goal.returns-then-all
returns-then-all c =
    let shape = c.shape_in-shape.result in
    let rest = is_plain-rest c.args.file.now shape c.shape_in-shape.ensures c.requires.1 (omega arith) in
    let zero =
    all_from_yields_List is_zero _ _ c.all.result c.all.ensures.ran
    (YieldsList-from_slice (drop shape.attributes shape.widths)
    (c.iter.ensures.rest ∙ part_to_end shape.widths shape.attributes)) (λ x b q k. search (rules, tests)) in
    grind (arith, common_steps)

pub returns-else-all : goal.returns-else-all
returns-else-all c =
    let shape = c.shape_in-shape.result in
    let rest = is_plain-rest c.args.file.now shape c.shape_in-shape.ensures c.requires.1 (omega arith) in
    let zero =
    all_from_yields_List is_zero _ _ c.all.result c.all.ensures.ran
    (YieldsList-from_slice (drop shape.attributes shape.widths)
    (c.iter.ensures.rest ∙ part_to_end shape.widths shape.attributes)) (λ x b q k. search (rules, tests)) in
    grind (arith, common_steps)
