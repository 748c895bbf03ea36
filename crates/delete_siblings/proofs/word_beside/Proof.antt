-- `delete_siblings::word_beside` meets its contract: the widths are those of the shape, the place is that of the step.
-- Assumes nothing.
use Rattle.shape.specs.Shape.{width_list}
use Rattle.record.specs.Packed.{unpacked_key}
use borrow.Author.Rules.{rules}
use Rattle.delete_siblings.proofs.WordLaws.{step-asked, step_within, at_sibling}
use Rattle.delete_siblings.proofs.word_beside.Statement.{statement}
use Rattle.delete_siblings.proofs.word_beside.Tie as tie

widths-of-requires : tie.Need-widths_of-widths-requires
widths-of-requires c κs = search rules

step-place-requires : tie.Need-step_place-g-requires
step-place-requires c κs =
    let w = c.widths_of-widths in
    step-asked c.args.state (width_list w.result) w.ensures c.args.z c.requires.1 _ c.requires.0

cast-sibling-word : tie.Need-overflow_cast-state
cast-sibling-word c = search rules

sibling-word-requires : tie.Need-sibling_word-requires
sibling-word-requires c κs =
    let place = c.step_place-g in
    let w = c.widths_of-widths in (
      step_within c.args.state (width_list w.result) w.ensures c.args.z c.requires.1 _ c.requires.0
          place.result place.ensures,
      c.requires.0.room,
    )

returns : tie.Need-returns
returns c =
    let place = c.step_place-g in
    let w = c.widths_of-widths in
    at_sibling c.args.state (width_list w.result) w.ensures c.args.z c.requires.1
    (unpacked_key c.args.key) c.args.dir.now place.result _ place.ensures c.sibling_word.ensures

pub word_beside_spec : {M : Type 1} → statement M
word_beside_spec =
    tie.close
    (tie.spec widths-of-requires step-place-requires cast-sibling-word sibling-word-requires returns)
