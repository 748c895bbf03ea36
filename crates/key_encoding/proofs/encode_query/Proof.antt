-- `key_encoding::encode_query` meets its contract: without marks a value is its encoding; else attribute by attribute.
-- Assumes nothing.
use Rattle.std.proofs.Common.{[], ◌∷◌, sym, refl, rules}
use Rattle.shape.specs.Key.{wanted_values, encoded_wanted}
use Rattle.shape.proofs.UnmarkedLaws.{encoded_wanted-none}
use Rattle.key_encoding.proofs.encode_query.Statement.{statement}
use Rattle.key_encoding.proofs.encode_query.Tie as tie

returns : tie.Need-returns-then-shape-eq0
unfolding wanted_values
returns c =
    sym (encoded_wanted-none c.args.shape c.if-shape-eq0.true (wanted_values c.args.query) refl)

encode-wanted-requires : tie.Need-encode_wanted-a0-requires
encode-wanted-requires c κs = search rules

encode-wanted-requires-2 : tie.Need-encode_wanted-a1-requires
encode-wanted-requires-2 c κs = search rules

encode-wanted-requires-3 : tie.Need-encode_wanted-a2-requires
encode-wanted-requires-3 c κs = search rules

encode-wanted-requires-4 : tie.Need-encode_wanted-a3-requires
encode-wanted-requires-4 c κs = search rules

returns-2 : tie.Need-returns
unfolding wanted_values encoded_wanted
returns-2 c =
    let e0 = c.encode_wanted-a0.ensures in
    let e1 = c.encode_wanted-a1.ensures in
    let e2 = c.encode_wanted-a2.ensures in
    let e3 = c.encode_wanted-a3.ensures in
    λ i. e0 i ∷ e1 i ∷ e2 i ∷ e3 i ∷ []

pub encode_query_spec : {M : Type 1} → statement M
encode_query_spec =
    tie.close
    (tie.spec
    returns
    encode-wanted-requires
    encode-wanted-requires-2
    encode-wanted-requires-3
    encode-wanted-requires-4
    returns-2)
