-- `directory_tests::regions::region_holds` meets its contract: the vector is the cell of the key's first x split bits.
-- Assumes nothing.
use Prim.Native.Nat.{ℕ}
use mathlib.Core.Path.{◌≡◌, sym, ap, ◌∙◌}
use mathlib.Core.Bool.{Bool}
use mathlib.Core.List.{List}
use borrow.Author.Rules.{rules}
use Rattle.shape.specs.Shape.{width_list}
use Rattle.split.specs.Bits.{split_bit}
use Rattle.address_formula.specs.Index.{index_list}
use Rattle.cell.specs.Cell.{cell}
use Rattle.directory_tests.proofs.regions.region_holds.Statement.{statement}
use Rattle.directory_tests.proofs.regions.region_holds.Tie as tie

abbrev ws : tie.Start → List ℕ
ws s = width_list s.args.widths

abbrev string : tie.Start → ℕ → Bool
string s = split_bit (ws s) s.args.key

named : (c : tie.After-cell_before-index) →
    cell (ws c.before.before.before) c.args.x (string c.before.before.before) ≡ index_list c.cell_before-index.result
named c =
    ap (λ n. cell (ws c.before.before.before) n (string c.before.before.before)) (sym c.place_of-start.ensures.before) ∙ sym c.cell_before-index.ensures

place-of-requires : tie.Need-place_of-start-requires
place-of-requires c κs = search rules

cell-before-requires : tie.Need-cell_before-index-requires
cell-before-requires c κs = search rules

cells-hold-requires : tie.Need-cells_hold-requires
cells-hold-requires c κs =
    record {
      string = (string c.before.before.before, named c);
      place = c.place_of-start.ensures;
      within = c.requires.1;
      fits = c.requires.0;
    }

returns : tie.Need-returns
returns c = c.cells_hold.ensures (string c.before.before.before.before) (named c.before)

pub region_holds_spec : {M : Type 1} → statement M
region_holds_spec = tie.close (tie.spec place-of-requires cell-before-requires cells-hold-requires returns)
