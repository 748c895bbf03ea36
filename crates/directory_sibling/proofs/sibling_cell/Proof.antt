-- `directory_sibling::sibling_cell` meets its contract: the key's bit says which law of the sibling's index vector
-- applies. Assumes nothing.
use Prim.Native.Nat.{ℕ, suc, ◌/◌, ◌%◌, ◌^◌, ◌<◌}
use mathlib.Core.Path.{◌≡◌, refl, sym, ap, ◌∙◌, subst}
use mathlib.Core.Bool.{Bool}
use mathlib.Core.List.{List}
use native.Mathlib.Omega.{arith}
use lib.ListN.{get_or, length}
use Rattle.shape.specs.Shape.{width_list}
use Rattle.split.specs.Steps.{steps_below}
use Rattle.split.specs.Bits.{bit_of, split_bit}
use Rattle.address.specs.Address.{address}
use Rattle.address_formula.specs.Index.{index_list}
use Rattle.pairs.specs.Pairs.{StepPair}
use Rattle.address.specs.Vectors.{InBox}
use Rattle.cell.specs.Cell.{cell, cell_address}
use Rattle.address_bits.specs.Bits.{bit_set}
use Rattle.cell.proofs.HalfLaws.{in_box-cell}
use Rattle.directory.proofs.CellLaws.{get_d-cell-lt}
use Rattle.region.specs.Strings.{sibling}
use Rattle.record.specs.Packed.{unpacked_key}
use Rattle.record.proofs.PackedLaws.{get_d-unpacked_key}
use Rattle.directory_sibling.proofs.BitLaws.{split_bit-place}
use Rattle.directory_sibling.proofs.CellLaws.{cell-sibling-zero, cell-sibling-one}
use borrow.Author.Rules.{rules}
use Rattle.directory_sibling.proofs.sibling_cell.Statement.{statement}
use Rattle.directory_sibling.proofs.sibling_cell.Tie as tie

abbrev ws : tie.Start → List ℕ
ws s = width_list s.args.widths

abbrev string : tie.Start → ℕ → Bool
string s = split_bit (ws s) (unpacked_key s.args.key)

abbrev start : tie.After-cell_at-index → tie.Start
start c = c.before

-- the number of the step
abbrev number : tie.Start → ℕ
number s = length (steps_below (ws s) s.args.g)

step : (s : tie.Start) → StepPair (ws s) (number s) s.args.g
step s = record { low = s.requires.1; live = s.requires.2; before = refl }

-- the vector is the cell of the key's bits before the step
named : (c : tie.After-cell_at-index) → let s = start c in
    cell (ws s) (number s) (string s) ≡ index_list c.cell_at-index.result
named c = sym c.cell_at-index.ensures

-- the bit is that of the step
bit_is : (c : tie.After-pair_bit) → let s = start c.before in string s (number s) ≡ c.pair_bit.result
bit_is c =
    let s = start c.before in
    let g = s.args.g in
    split_bit-place (ws s) (unpacked_key s.args.key) g s.requires.0 s.requires.2
    ∙ ap (λ v. bit_of (get_or (ws s) (g % 4) 0) v (g / 4)) (get_d-unpacked_key s.args.key (g % 4) (omega arith))
    ∙ sym c.pair_bit.ensures

-- with bit 1 the sibling's vector is that one
zero-half : (c : tie.Then-pair_bit) → let s = start c.before.before in
    cell (ws s) (suc (number s)) (sibling (string s) (number s)) ≡ index_list c.cell_at-index.result
zero-half c =
    let s = start c.before.before in
    cell-sibling-zero (ws s) s.requires.0 _ _ (step s) (string s)
    (bit_is c.before ∙ c.if-pair_bit.true)
    ∙ named c.before.before

-- with bit 0 it has the step's bit set
one-half : (c : tie.After-with_bit) → let s = start c.before.before.before in
    cell (ws s) (suc (number s)) (sibling (string s) (number s)) ≡ index_list c.with_bit.result
one-half c =
    let s = start c.before.before.before in
    let g = s.args.g in
    cell-sibling-one (ws s) s.requires.0 _ g (step s) (string s)
    (bit_is c.before.before ∙ c.if-pair_bit.false)
    ∙ ap (bit_set g) (named c.before.before.before)
    ∙ sym c.with_bit.ensures

cell-at-requires : tie.Need-cell_at-index-requires
cell-at-requires c κs = search rules

pair-bit-requires : tie.Need-pair_bit-requires
pair-bit-requires c κs = search rules

locate-requires : tie.Need-locate-requires
locate-requires c κs =
    let s = start c.before.before in
    subst (InBox (ws s)) (named c.before.before) (in_box-cell (ws s) s.requires.0 (number s) (string s))

returns : tie.Need-returns-then-pair_bit
unfolding cell_address
returns c =
    c.locate.ensures ∙ ap (address (ws (start c.before.before.before))) (sym (zero-half c.before))

with-bit-requires : tie.Need-with_bit-requires
with-bit-requires c κs =
    let s = start c.before.before in
    let g = s.args.g in (
      s.requires.1,
      subst (λ v. get_or v (g % 4) 0 < 2 ^ (g / 4)) (named c.before.before) (get_d-cell-lt (ws s) s.requires.0 _ g (step s) (string s)),
    )

locate-requires-2 : tie.Need-locate-requires-2
locate-requires-2 c κs =
    let s = start c.before.before.before in
    subst (InBox (ws s)) (one-half c)
    (in_box-cell (ws s) s.requires.0 (suc (number s)) (sibling (string s) (number s)))

returns-2 : tie.Need-returns
unfolding cell_address
returns-2 c =
    c.locate-2.ensures ∙ ap (address (ws (start c.before.before.before.before))) (sym (one-half c.before))

pub sibling_cell_spec : {M : Type 1} → statement M
sibling_cell_spec =
    tie.close
    (tie.spec
    cell-at-requires
    pair-bit-requires
    locate-requires
    returns
    with-bit-requires
    locate-requires-2
    returns-2)
