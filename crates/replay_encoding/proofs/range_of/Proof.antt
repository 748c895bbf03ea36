-- `replay_encoding::range_of` meets its contract, attribute by attribute. Assumes nothing.
use mathlib.Core.List.{[], ◌∷◌}
use Rattle.shape.specs.Range.{range_intervals, intervals_of}
use borrow.Author.Rules.{rules}
use Rattle.replay_encoding.proofs.range_of.Statement.{statement}
use Rattle.replay_encoding.proofs.range_of.Tie as tie

array-read-range-attribute-of : tie.Need-bounds-given-0
array-read-range-attribute-of c = search rules

array-read-range-attribute-of-2 : tie.Need-bounds-lows-0
array-read-range-attribute-of-2 c = search rules

array-read-range-attribute-of-3 : tie.Need-bounds-highs-0
array-read-range-attribute-of-3 c = search rules

range-attribute-of-requires : tie.Need-range_attribute_of-requires
range-attribute-of-requires c κs = search rules

array-read-range-attribute-of-4 : tie.Need-bounds-given-1
array-read-range-attribute-of-4 c = search rules

array-read-range-attribute-of-5 : tie.Need-bounds-lows-1
array-read-range-attribute-of-5 c = search rules

array-read-range-attribute-of-6 : tie.Need-bounds-highs-1
array-read-range-attribute-of-6 c = search rules

range-attribute-of-requires-2 : tie.Need-range_attribute_of-requires-2
range-attribute-of-requires-2 c κs = search rules

array-read-range-attribute-of-7 : tie.Need-bounds-given-2
array-read-range-attribute-of-7 c = search rules

array-read-range-attribute-of-8 : tie.Need-bounds-lows-2
array-read-range-attribute-of-8 c = search rules

array-read-range-attribute-of-9 : tie.Need-bounds-highs-2
array-read-range-attribute-of-9 c = search rules

range-attribute-of-requires-3 : tie.Need-range_attribute_of-requires-3
range-attribute-of-requires-3 c κs = search rules

array-read-range-attribute-of-10 : tie.Need-bounds-given-3
array-read-range-attribute-of-10 c = search rules

array-read-range-attribute-of-11 : tie.Need-bounds-lows-3
array-read-range-attribute-of-11 c = search rules

array-read-range-attribute-of-12 : tie.Need-bounds-highs-3
array-read-range-attribute-of-12 c = search rules

range-attribute-of-requires-4 : tie.Need-range_attribute_of-requires-4
range-attribute-of-requires-4 c κs = search rules

returns : tie.Need-returns
unfolding range_intervals intervals_of
returns c =
    let e0 = c.range_attribute_of.ensures in
    let e1 = c.range_attribute_of-2.ensures in
    let e2 = c.range_attribute_of-3.ensures in
    let e3 = c.range_attribute_of-4.ensures in
    λ k. e0 k ∷ e1 k ∷ e2 k ∷ e3 k ∷ []

pub range_of_spec : {M : Type 1} → statement M
range_of_spec =
    tie.close
    (tie.spec
    array-read-range-attribute-of
    array-read-range-attribute-of-2
    array-read-range-attribute-of-3
    range-attribute-of-requires
    array-read-range-attribute-of-4
    array-read-range-attribute-of-5
    array-read-range-attribute-of-6
    range-attribute-of-requires-2
    array-read-range-attribute-of-7
    array-read-range-attribute-of-8
    array-read-range-attribute-of-9
    range-attribute-of-requires-3
    array-read-range-attribute-of-10
    array-read-range-attribute-of-11
    array-read-range-attribute-of-12
    range-attribute-of-requires-4
    returns)
