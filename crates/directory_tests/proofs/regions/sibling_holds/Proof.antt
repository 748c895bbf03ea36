-- `directory_tests::regions::sibling_holds` meets its contract: the key's bit says which law of the sibling's index
-- vector applies. Assumes nothing.
use Prim.Native.Nat.{ℕ, ◌+◌, ◌/◌, ◌%◌, ◌^◌, ◌<◌}
use mathlib.Core.Path.{◌≡◌, sym, ap, ◌∙◌, subst}
use mathlib.Core.Bool.{Bool}
use mathlib.Core.List.{List}
use native.Mathlib.Omega.{arith}
use native.Mathlib.Numerals.{add-one}
use lib.ListN.{get_or}
use borrow.Author.Rules.{rules}
use Rattle.shape.specs.Shape.{width_list}
use Rattle.split.specs.Bits.{split_bit}
use Rattle.address_formula.specs.Index.{index_list}
use Rattle.cell.specs.Cell.{cell}
use Rattle.address_bits.specs.Bits.{bit_set}
use Rattle.pairs.proofs.PlaceLaws.{steps_before-pair}
use Rattle.directory.proofs.CellLaws.{get_d-cell-lt}
use Rattle.region.specs.Strings.{sibling}
use Rattle.directory_sibling.proofs.CellLaws.{cell-sibling-zero, cell-sibling-one}
use Rattle.directory_tests.specs.Intact.{RegionTold}
use Rattle.directory_tests.proofs.regions.sibling_holds.Statement.{statement}
use Rattle.directory_tests.proofs.regions.sibling_holds.Tie as tie

abbrev ws : tie.Start → List ℕ
ws s = width_list s.args.widths

abbrev string : tie.Start → ℕ → Bool
string s = split_bit (ws s) s.args.key

-- the sibling's string
abbrev other : tie.Start → ℕ → Bool
other s = sibling (string s) s.args.z

abbrev start : tie.After-cell_before-index → tie.Start
start c = c.before.before.before

-- the vector is the cell of the key's first z bits
named : (c : tie.After-cell_before-index) → let s = start c in
    cell (ws s) s.args.z (string s) ≡ index_list c.cell_before-index.result
named c =
    let s = start c in
    ap (λ n. cell (ws s) n (string s)) (sym c.step_place-g.ensures.before) ∙ sym c.cell_before-index.ensures

-- the bit is that of step z
bit_is : (c : tie.After-bit_at) → let s = start c.before in string s s.args.z ≡ c.bit_at.result
bit_is c =
    let s = start c.before in
    ap (string s) (sym c.step_place-g.ensures.before) ∙ sym c.bit_at.ensures

-- with bit 1 the sibling's vector is that one
zero-half : (c : tie.Then-bit_at) → let s = start c.before.before in
    cell (ws s) (s.args.z + 1) (other s) ≡ index_list c.cell_before-index.result
zero-half c =
    let s = start c.before.before in
    ap (λ n. cell (ws s) n (other s)) (add-one s.args.z)
    ∙ cell-sibling-zero (ws s) s.requires.0.fit _ _ c.step_place-g.ensures (string s)
    (bit_is c.before ∙ c.if-bit_at.true)
    ∙ named c.before.before

-- with bit 0 it has the step's bit set
one-half : (c : tie.After-with_bit-other) → let s = start c.before.before.before in
    cell (ws s) (s.args.z + 1) (other s) ≡ index_list c.with_bit-other.result
one-half c =
    let s = start c.before.before.before in
    let g = c.step_place-g.result in
    ap (λ n. cell (ws s) n (other s)) (add-one s.args.z)
    ∙ cell-sibling-one (ws s) s.requires.0.fit _ g c.step_place-g.ensures (string s)
    (bit_is c.before.before ∙ c.if-bit_at.false)
    ∙ ap (bit_set g) (named c.before.before.before)
    ∙ sym c.with_bit-other.ensures

step-place-requires : tie.Need-step_place-g-requires
step-place-requires c κs =
    (c.requires.0.fit, omega (arith, c.requires.0.deep, c.requires.1))

cell-before-requires : tie.Need-cell_before-index-requires
cell-before-requires c κs = search rules

bit-at-requires : tie.Need-bit_at-requires
bit-at-requires c κs = search rules

add-cells-hold : tie.Need-overflow_add-g
add-cells-hold c = record { fits = omega (arith, c.step_place-g.ensures.low) }

add-cells-hold-2 : tie.Need-overflow_add-z
add-cells-hold-2 c =
    let s = start c.before.before in
    record { fits = omega (arith, s.requires.0.short, s.requires.1) }

cells-hold-requires : tie.Need-cells_hold-requires
cells-hold-requires c κs =
    let s = start c.before.before in
    record {
      string = (other s, zero-half c);
      place = steps_before-pair (ws s) _ _ c.step_place-g.ensures;
      within = omega (arith, s.requires.1);
      fits = s.requires.0;
    }

returns : tie.Need-returns-then-bit_at
returns c =
    let s = start c.before.before.before in
    subst (λ n. RegionTold (ws s) s.args.t n (other s) s.args.word s.args.dir.now c.cells_hold.result)
    (add-one s.args.z) (c.cells_hold.ensures (other s) (zero-half c.before))

with-bit-requires : tie.Need-with_bit-other-requires
with-bit-requires c κs =
    let s = start c.before.before in
    let g = c.step_place-g.result in
    let pair = c.step_place-g.ensures in (
      pair.low,
      subst (λ v. get_or v (g % 4) 0 < 2 ^ (g / 4)) (named c.before.before) (get_d-cell-lt (ws s) s.requires.0.fit _ g pair (string s)),
    )

add-cells-hold-3 : tie.Need-overflow_add-g-2
add-cells-hold-3 c =
    record { fits = omega (arith, c.step_place-g.ensures.low) }

add-cells-hold-4 : tie.Need-overflow_add-z-2
add-cells-hold-4 c =
    let s = start c.before.before.before in
    record { fits = omega (arith, s.requires.0.short, s.requires.1) }

cells-hold-requires-2 : tie.Need-cells_hold-requires-2
cells-hold-requires-2 c κs =
    let s = start c.before.before.before in
    record {
      string = (other s, one-half c);
      place = steps_before-pair (ws s) _ _ c.step_place-g.ensures;
      within = omega (arith, s.requires.1);
      fits = s.requires.0;
    }

returns-2 : tie.Need-returns
returns-2 c =
    let s = start c.before.before.before.before in
    subst (λ n. RegionTold (ws s) s.args.t n (other s) s.args.word s.args.dir.now c.cells_hold-2.result)
    (add-one s.args.z) (c.cells_hold-2.ensures (other s) (one-half c.before))

pub sibling_holds_spec : {M : Type 1} → statement M
sibling_holds_spec =
    tie.close
    (tie.spec
    step-place-requires
    cell-before-requires
    bit-at-requires
    add-cells-hold
    add-cells-hold-2
    cells-hold-requires
    returns
    with-bit-requires
    add-cells-hold-3
    add-cells-hold-4
    cells-hold-requires-2
    returns-2)
