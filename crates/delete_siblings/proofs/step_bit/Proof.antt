-- `delete_siblings::step_bit` meets its contract: the pair found is that of the step. Assumes nothing.
use Prim.Native.Nat.{◌/◌, ◌%◌}
use mathlib.Core.Path.{sym, ap, ◌∙◌}
use native.Mathlib.Omega.{arith}
use lib.ListN.{get_or}
use Rattle.shape.specs.Shape.{width_list, total}
use Rattle.split.specs.Bits.{bit_of, split_bit}
use Rattle.record.specs.Packed.{unpacked_key}
use Rattle.record.proofs.PackedLaws.{get_d-unpacked_key}
use Rattle.directory_sibling.proofs.BitLaws.{split_bit-place}
use Rattle.shape.proofs.ShapeLaws.{widths-fit}
use borrow.Author.Rules.{rules}
use Rattle.delete_siblings.proofs.step_bit.Statement.{statement}
use Rattle.delete_siblings.proofs.step_bit.Tie as tie

widths-of-requires : tie.Need-widths_of-widths-requires
widths-of-requires c κs = search rules

step-place-requires : tie.Need-step_place-pair-requires
step-place-requires c κs =
    let w = c.widths_of-widths in (
      widths-fit c.args.shape (width_list w.result) c.requires.0 w.ensures,
      omega (arith, ap total w.ensures, c.requires.1),
    )

pair-bit-requires : tie.Need-pair_bit-requires
pair-bit-requires c κs =
    let w = c.widths_of-widths in
    let place = c.step_place-pair.ensures in
    (widths-fit c.args.shape (width_list w.result) c.requires.0 w.ensures, place.low, place.live)

returns : tie.Need-returns
returns c =
    let key = c.args.key in
    let w = c.widths_of-widths in
    let ws = width_list w.result in
    let place = c.step_place-pair in
    let g = place.result in
    let fit = widths-fit c.args.shape ws c.requires.0 w.ensures in
    c.pair_bit.ensures
    ∙ ap (λ v. bit_of (get_or ws (g % 4) 0) v (g / 4)) (sym (get_d-unpacked_key key (g % 4) (omega arith)))
    ∙ sym (split_bit-place ws (unpacked_key key) g fit place.ensures.live)
    ∙ ap (split_bit ws (unpacked_key key)) place.ensures.before
    ∙ ap (λ v. split_bit v (unpacked_key key) c.args.step) w.ensures

pub step_bit_spec : {M : Type 1} → statement M
step_bit_spec =
    tie.close
    (tie.spec widths-of-requires step-place-requires pair-bit-requires returns)
