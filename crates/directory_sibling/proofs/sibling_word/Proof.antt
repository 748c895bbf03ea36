-- `directory_sibling::sibling_word` meets its contract: the cell is that of the sibling's bits and zeros, below 2^t, so
-- within the words. Assumes nothing.
use Prim.Native.Nat.{ℕ, suc, ◌≤◌, ◌<◌, ◌^◌}
use mathlib.Core.Path.{sym, ap, ◌∙◌, subst}
use mathlib.Core.Bool.{Bool}
use mathlib.Core.List.{List}
use native.Mathlib.Omega.{arith}
use lib.ListN.{get_or, length}
use Rattle.shape.specs.Shape.{width_list}
use Rattle.split.specs.Steps.{steps, steps_below}
use Rattle.split.specs.Bits.{split_bit}
use Rattle.split.proofs.StepLaws.{length-steps}
use Rattle.cell.proofs.AgreeLaws.{cut, agree-cut, agree-sym}
use Rattle.directory.proofs.RegionLaws.{own-lt}
use Rattle.region.specs.Strings.{sibling}
use Rattle.record.specs.Packed.{unpacked_key}
use Rattle.directory_sibling.proofs.CellLaws.{cell_address-cut-deeper}
use Rattle.directory_sibling.proofs.sibling_word.Statement.{statement}
use Rattle.directory_sibling.proofs.sibling_word.Tie as tie

abbrev ws : tie.Start → List ℕ
ws s = width_list s.args.widths

-- the number of the step
abbrev number : tie.Start → ℕ
number s = length (steps_below (ws s) s.args.g)

-- the sibling's string
abbrev other : tie.Start → ℕ → Bool
other s = sibling (split_bit (ws s) (unpacked_key s.args.key)) (number s)

deep : (s : tie.Start) → s.args.t ≤ length (steps (ws s))
deep s =
    let w = s.args.widths in
    omega (arith, s.requires.0.deep, length-steps w.w0 w.w1 w.w2 w.w3 s.requires.0.fit)

below : (c : tie.After-sibling_cell-cell) → c.sibling_cell-cell.result < 2 ^ c.args.t
below c =
    subst (λ a. a < 2 ^ c.args.t) (sym c.sibling_cell-cell.ensures)
    (own-lt (ws c.before.before) c.requires.0.fit (suc (number c.before.before)) c.args.t c.requires.0.below (deep c.before.before) (other c.before.before))

sibling-cell-requires : tie.Need-sibling_cell-cell-requires
sibling-cell-requires c κs =
    let asked = c.requires.0 in
    (asked.fit, asked.step.low, asked.step.live)

mul-result : tie.Need-offset_bounds-dir-cell
mul-result c = record { fits = omega (arith, below c) }

shared-slice-read-result : tie.Need-bounds-dir-cell
shared-slice-read-result c = omega (arith, below c.before)

returns : tie.Need-returns
returns c =
    let x = suc (number c.before.before.before) in
    let there = cell_address-cut-deeper (ws c.before.before.before) c.requires.0.fit x c.args.t c.requires.0.below (deep c.before.before.before) (other c.before.before.before) in (
      cut x (other c.before.before.before),
      agree-sym x (cut x (other c.before.before.before)) (other c.before.before.before) (agree-cut x (other c.before.before.before)),
      ap (λ a. get_or c.args.dir.now a 0) (c.sibling_cell-cell.ensures ∙ sym there),
    )

pub sibling_word_spec : {M : Type 1} → statement M
sibling_word_spec =
    tie.close (tie.spec sibling-cell-requires mul-result shared-slice-read-result returns)
