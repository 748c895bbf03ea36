-- `leaf_word::key_word` meets its contract: a cell lies below 2^t, so within the words. Assumes nothing.
use Prim.Native.Nat.{◌^◌, ◌<◌}
use mathlib.Core.Path.{ap}
use native.Mathlib.Omega.{arith}
use lib.ListN.{get_or}
use borrow.Author.Rules.{rules}
use Rattle.shape.specs.Shape.{width_list}
use Rattle.split.specs.Bits.{split_bit}
use Rattle.cell.proofs.CellLaws.{cell_laws}
use Rattle.record.specs.Packed.{unpacked_key}
use Rattle.leaf_word.proofs.key_word.Statement.{statement}
use Rattle.leaf_word.proofs.key_word.Tie as tie

below : (c : tie.After-find_cell-cell) → c.find_cell-cell.result < 2 ^ c.args.t
below c =
    let w = c.args.widths in
    rw c.find_cell-cell.ensures
    ((cell_laws w.w0 w.w1 w.w2 w.w3 c.requires.fit).address-lt c.args.t c.requires.deep
    (split_bit (width_list w) (unpacked_key c.args.key)))

find-cell-requires : tie.Need-find_cell-cell-requires
find-cell-requires c κs = (c.requires.fit, c.requires.deep)

mul-word : tie.Need-offset_bounds-dir-cell
mul-word c = record { fits = omega (arith, below c, c.requires.lent) }

shared-slice-read-word : tie.Need-bounds-dir-cell
shared-slice-read-word c = omega (arith, below c.before, c.requires.lent)

depth-of-requires : tie.Need-depth_of-requires
depth-of-requires c κs = search rules

returns : tie.Need-returns
returns c =
    let a = c.args in
    (ap (λ i. get_or a.dir.now i 0) c.find_cell-cell.ensures, c.depth_of.ensures.0)

pub key_word_spec : {M : Type 1} → statement M
key_word_spec =
    tie.close (tie.spec find-cell-requires mul-word shared-slice-read-word depth-of-requires returns)
