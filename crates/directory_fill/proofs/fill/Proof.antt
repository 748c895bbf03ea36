-- `directory_fill::fill` meets its contract: the region's own cell is that of the key's first x split bits, and the
-- blocks are the rest. Assumes nothing.
use Prim.Native.Nat.{ℕ, ◌≤◌, ◌<◌, ◌^◌}
use mathlib.Core.Path.{◌≡◌, sym, ap, ◌∙◌, subst}
use mathlib.Core.Bool.{Bool}
use mathlib.Core.List.{List}
use native.Mathlib.Omega.{arith}
use lib.ListN.{length, length-set}
use lib.Pow.{pow_mono}
use Rattle.shape.specs.Shape.{width_list}
use Rattle.split.specs.Steps.{steps}
use Rattle.split.specs.Bits.{split_bit}
use Rattle.address.specs.Address.{address}
use Rattle.address_formula.specs.Index.{index_list}
use Rattle.address.specs.Vectors.{InBox}
use Rattle.cell.specs.Cell.{cell, cell_address}
use Rattle.directory.specs.Directory.{DirectoryFits}
use Rattle.cell.proofs.HalfLaws.{in_box-cell}
use Rattle.directory.proofs.RegionLaws.{fits-steps, own-lt, filled-region}
use borrow.Author.Rules.{rules}
use Rattle.directory_fill.proofs.fill.Statement.{statement}
use Rattle.directory_fill.proofs.fill.Tie as tie

abbrev ws : tie.Start → List ℕ
ws s = width_list s.args.widths

abbrev string : tie.Start → ℕ → Bool
string s = split_bit (ws s) s.args.key

deep : (s : tie.Start) → s.args.t ≤ length (steps (ws s))
deep s = let w = s.args.widths in fits-steps w.w0 w.w1 w.w2 w.w3 _ _ s.requires.0

-- the vector is the cell of the key's first x bits
named : (c : tie.After-cell_before-index) →
    cell (ws c.before.before.before) c.args.x (string c.before.before.before) ≡ index_list c.cell_before-index.result
named c =
    ap (λ n. cell (ws c.before.before.before) n (string c.before.before.before)) (sym c.place_of-start.ensures.before) ∙ sym c.cell_before-index.ensures

-- and its address that cell's
own_is : (c : tie.After-locate-own) →
    c.locate-own.result ≡ cell_address (ws c.before.before.before.before) c.args.x (string c.before.before.before.before)
unfolding cell_address
own_is c = c.locate-own.ensures ∙ ap (address (ws c.before.before.before.before)) (sym (named c.before))

low : (c : tie.After-locate-own) → c.locate-own.result < 2 ^ c.args.t
low c =
    subst (λ a. a < 2 ^ c.args.t) (sym (own_is c))
    (own-lt (ws c.before.before.before.before) c.requires.0.fit c.args.x c.args.t c.requires.1 (deep c.before.before.before.before) (string c.before.before.before.before))

place-of-requires : tie.Need-place_of-start-requires
place-of-requires c κs = search rules

cell-before-requires : tie.Need-cell_before-index-requires
cell-before-requires c κs = search rules

locate-requires : tie.Need-locate-own-requires
locate-requires c κs =
    subst (InBox (ws c.before.before.before)) (named c) (in_box-cell (ws c.before.before.before) c.requires.0.fit c.args.x (string c.before.before.before))

mul-dir : tie.Need-offset_bounds-dir-own
mul-dir c =
    let top : 2 ^ c.args.t ≤ 2 ^ 12 = pow_mono c.requires.0.short in
    record { fits = omega (arith, low c) }

slice-write-dir : tie.Need-bounds-dir-own
slice-write-dir c = omega (arith, low c, c.requires.0.room)

fill-blocks-requires : tie.Need-fill_blocks-requires
fill-blocks-requires c κs =
    let stored = length-set c.args.dir.now c.locate-own.result c.args.word in
    record {
      string = (string c.before.before.before.before.before, named c.before.before);
      place = c.place_of-start.ensures;
      within = c.requires.1;
      fits = subst (DirectoryFits (ws c.before.before.before.before.before) c.args.t) (sym stored) c.requires.0;
    }

same_length : tie.Need-shape_of-dir
same_length c =
    c.fill_blocks.auto.dir
    ∙ length-set c.args.dir.now c.locate-own.result c.args.word

returns : tie.Need-returns
returns c =
    filled-region (ws c.before.before.before.before.before.before.before.before) c.requires.0.fit _ _ c.requires.1 (deep c.before.before.before.before.before.before.before.before) (string c.before.before.before.before.before.before.before.before) _ _ _ _ (own_is c.before.before.before.before) c.requires.0.room
    (c.fill_blocks.ensures (string c.before.before.before.before.before.before.before.before) (named c.before.before.before.before.before))

pub fill_spec : {M : Type 1} → statement M
fill_spec =
    tie.close
    (tie.spec
    place-of-requires
    cell-before-requires
    locate-requires
    mul-dir
    slice-write-dir
    fill-blocks-requires
    same_length
    returns)
