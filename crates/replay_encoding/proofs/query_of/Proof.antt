-- `replay_encoding::query_of` meets its contract, attribute by attribute. Assumes nothing.
use mathlib.Core.List.{[], ◌∷◌}
use Rattle.shape.specs.Key.{wanted_values}
use Rattle.replay_encoding.specs.Encoding.{wanted_in}
use borrow.Author.Rules.{rules}
use Rattle.replay_encoding.proofs.query_of.Statement.{statement}
use Rattle.replay_encoding.proofs.query_of.Tie as tie

array-read-attribute-of : tie.Need-bounds-given-0
array-read-attribute-of c = search rules

array-read-attribute-of-2 : tie.Need-bounds-values-0
array-read-attribute-of-2 c = search rules

attribute-of-requires : tie.Need-attribute_of-requires
attribute-of-requires c κs = search rules

array-read-attribute-of-3 : tie.Need-bounds-given-1
array-read-attribute-of-3 c = search rules

array-read-attribute-of-4 : tie.Need-bounds-values-1
array-read-attribute-of-4 c = search rules

attribute-of-requires-2 : tie.Need-attribute_of-requires-2
attribute-of-requires-2 c κs = search rules

array-read-attribute-of-5 : tie.Need-bounds-given-2
array-read-attribute-of-5 c = search rules

array-read-attribute-of-6 : tie.Need-bounds-values-2
array-read-attribute-of-6 c = search rules

attribute-of-requires-3 : tie.Need-attribute_of-requires-3
attribute-of-requires-3 c κs = search rules

array-read-attribute-of-7 : tie.Need-bounds-given-3
array-read-attribute-of-7 c = search rules

array-read-attribute-of-8 : tie.Need-bounds-values-3
array-read-attribute-of-8 c = search rules

attribute-of-requires-4 : tie.Need-attribute_of-requires-4
attribute-of-requires-4 c κs = search rules

returns : tie.Need-returns
unfolding wanted_values wanted_in
returns c =
    let e0 = c.attribute_of.ensures in
    let e1 = c.attribute_of-2.ensures in
    let e2 = c.attribute_of-3.ensures in
    let e3 = c.attribute_of-4.ensures in
    λ k. e0 k ∷ e1 k ∷ e2 k ∷ e3 k ∷ []

pub query_of_spec : {M : Type 1} → statement M
query_of_spec =
    tie.close
    (tie.spec
    array-read-attribute-of
    array-read-attribute-of-2
    attribute-of-requires
    array-read-attribute-of-3
    array-read-attribute-of-4
    attribute-of-requires-2
    array-read-attribute-of-5
    array-read-attribute-of-6
    attribute-of-requires-3
    array-read-attribute-of-7
    array-read-attribute-of-8
    attribute-of-requires-4
    returns)
