-- `directory_tests::regions::cells_hold` meets its contract: the region's own cell, then the others. Assumes nothing.
use Prim.Native.Nat.{ℕ, ◌≤◌, ◌<◌, ◌^◌}
use mathlib.Core.Path.{◌≡◌, sym, ap, ◌∙◌, subst}
use mathlib.Core.List.{List}
use native.Mathlib.Omega.{arith}
use lib.ListN.{length, get_or}
use lib.Pow.{pow_mono}
use borrow.Author.Rules.{rules}
use Rattle.shape.specs.Shape.{width_list}
use Rattle.split.specs.Steps.{steps}
use Rattle.address.specs.Address.{address}
use Rattle.address_formula.specs.Index.{index_list}
use Rattle.address.specs.Vectors.{InBox}
use Rattle.cell.specs.Cell.{cell_address}
use Rattle.cell.proofs.HalfLaws.{in_box-cell}
use Rattle.directory.proofs.RegionLaws.{fits-steps, own-lt}
use Rattle.directory_tests.proofs.HeldLaws.{cells_told-own, cells_told-blocks}
use Rattle.directory_tests.proofs.regions.cells_hold.Statement.{statement}
use Rattle.directory_tests.proofs.regions.cells_hold.Tie as tie

abbrev ws : tie.Start → List ℕ
ws s = width_list s.args.widths

deep : (s : tie.Start) → s.args.t ≤ length (steps (ws s))
deep s = let w = s.args.widths in fits-steps w.w0 w.w1 w.w2 w.w3 _ _ s.requires.fits

low : (c : tie.After-locate-own) → c.locate-own.result < 2 ^ c.args.t
unfolding cell_address
low c =
    let own : cell_address (ws c.before.before) c.args.x c.requires.string.0 ≡ c.locate-own.result =
    ap (address (ws c.before.before)) c.requires.string.1 ∙ sym c.locate-own.ensures in
    subst (λ a. a < 2 ^ c.args.t) own
    (own-lt (ws c.before.before) c.requires.fits.fit c.args.x c.args.t c.requires.within (deep c.before.before) c.requires.string.0)

-- the word at the region's own address
at : (c : tie.After-locate-own) →
    get_or c.args.dir.now (address (ws c.before.before) (index_list c.args.index)) 0
    ≡ get_or c.args.dir.now c.locate-own.result 0
at c = ap (λ a. get_or c.args.dir.now a 0) (sym c.locate-own.ensures)

locate-requires : tie.Need-locate-own-requires
locate-requires c κs =
    subst (InBox (ws c.before)) c.requires.string.1 (in_box-cell (ws c.before) c.requires.fits.fit c.args.x c.requires.string.0)

mul-if1 : tie.Need-offset_bounds-dir-own
mul-if1 c =
    let top : 2 ^ c.args.t ≤ 2 ^ 12 = pow_mono c.requires.fits.short in
    record { fits = omega (arith, low c) }

shared-slice-read-if1 : tie.Need-bounds-dir-own
shared-slice-read-if1 c = omega (arith, low c.before, c.requires.fits.room)

returns : tie.Need-returns-then-dir-own
returns c =
    cells_told-own (ws c.before.before.before.before) c.requires.fits.fit _ _ c.requires.within (deep c.before.before.before.before) _ _ _ (λ e. c.if-dir-own.true (sym (at c.before.before) ∙ e))

blocks-hold-requires : tie.Need-blocks_hold-requires
blocks-hold-requires c κs = search rules

returns-2 : tie.Need-returns
returns-2 c =
    cells_told-blocks (ws c.before.before.before.before.before) c.requires.fits.fit _ _ c.requires.within (deep c.before.before.before.before.before) _ _ _ _ (at c.before.before.before ∙ c.if-dir-own.false)
    c.blocks_hold.ensures

pub cells_hold_spec : {M : Type 1} → statement M
cells_hold_spec =
    tie.close
    (tie.spec
    locate-requires
    mul-if1
    shared-slice-read-if1
    returns
    blocks-hold-requires
    returns-2)
