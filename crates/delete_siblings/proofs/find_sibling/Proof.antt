-- `delete_siblings::find_sibling` meets its contract: word and key are those of the place of the step. Assumes nothing.
use mathlib.Core.Path.{sym, subst}
use Rattle.shape.specs.Shape.{width_list}
use Rattle.record.specs.Packed.{unpacked_key}
use borrow.Author.Rules.{rules}
use Rattle.delete_siblings.specs.Siblings.{SiblingKey}
use Rattle.delete_siblings.proofs.KeyLaws.{sibling_key}
use Rattle.delete_siblings.proofs.WordLaws.{step-asked, step_within, at_sibling}
use Rattle.delete_siblings.proofs.find_sibling.Statement.{statement}
use Rattle.delete_siblings.proofs.find_sibling.Tie as tie

widths-of-requires : tie.Need-widths_of-widths-requires
widths-of-requires c κs = search rules

step-place-requires : tie.Need-step_place-g-requires
step-place-requires c κs =
    let w = c.widths_of-widths in
    step-asked c.args.state (width_list w.result) w.ensures c.args.z c.requires.below _ c.requires.lent

cast-sibling-word : tie.Need-overflow_cast-state
cast-sibling-word c = search rules

sibling-word-requires : tie.Need-sibling_word-word-requires
sibling-word-requires c κs =
    let place = c.step_place-g in
    let w = c.widths_of-widths in (
      step_within c.args.state (width_list w.result) w.ensures c.args.z c.requires.below _ c.requires.lent
          place.result place.ensures,
      c.requires.lent.room,
    )

flipped-requires : tie.Need-flipped-requires
flipped-requires c κs =
    let place = c.step_place-g in
    let w = c.widths_of-widths in (
      (step-asked c.args.state (width_list w.result) w.ensures c.args.z c.requires.below _
          c.requires.lent).0,
      place.ensures.live,
    )

returns : tie.Need-returns
returns c =
    let place = c.step_place-g in
    let w = c.widths_of-widths in
    let a = c.args in
    record {
      word =
          at_sibling a.state (width_list w.result) w.ensures a.z c.requires.below (unpacked_key a.key)
          a.dir.now place.result _ place.ensures c.sibling_word-word.ensures;
      beside =
          subst (SiblingKey a.state.shape a.key a.z) (sym c.flipped.ensures)
          (sibling_key a.state.shape c.requires.lent.shape a.key c.requires.fits (width_list w.result)
          w.ensures a.z place.result place.ensures);
    }

pub find_sibling_spec : {M : Type 1} → statement M
find_sibling_spec =
    tie.close
    (tie.spec
    widths-of-requires
    step-place-requires
    cast-sibling-word
    sibling-word-requires
    flipped-requires
    returns)
