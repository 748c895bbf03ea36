-- `key_encoding::encode_key` meets its contract: without marks a value is its encoding, and a key has four; else value
-- by value. Assumes nothing.
use Rattle.std.proofs.Common.{◌≡◌, length, sym, rules}
use Rattle.shape.proofs.UnmarkedLaws.{encodings-none}
use Rattle.key_encoding.proofs.CodeLaws.{encodings-listed}
use Rattle.key_encoding.proofs.encode_key.Statement.{statement}
use Rattle.key_encoding.proofs.encode_key.Tie as tie

-- the array of a key's values has four: what owning the key tells
four : (c : tie.Start) → length c.args.key.values ≡ 4
four c = c.well_formed.1.0.1.1.0.1.0.1

returns : tie.Need-returns-then-shape-eq0
returns c =
    sym (encodings-none c.args.shape c.if-shape-eq0.true c.args.key.values (four c.before.before))

array-read-encode-value : tie.Need-bounds-values-0
array-read-encode-value c = search rules

encode-value-requires : tie.Need-encode_value-e0-requires
encode-value-requires c κs = search rules

array-read-encode-value-2 : tie.Need-bounds-values-1
array-read-encode-value-2 c = search rules

encode-value-requires-2 : tie.Need-encode_value-e1-requires
encode-value-requires-2 c κs = search rules

array-read-encode-value-3 : tie.Need-bounds-values-2
array-read-encode-value-3 c = search rules

encode-value-requires-3 : tie.Need-encode_value-e2-requires
encode-value-requires-3 c κs = search rules

array-read-encode-value-4 : tie.Need-bounds-values-3
array-read-encode-value-4 c = search rules

encode-value-requires-4 : tie.Need-encode_value-e3-requires
encode-value-requires-4 c κs = search rules

returns-2 : tie.Need-returns
returns-2 c =
    encodings-listed c.args.shape _ _ _ _ c.args.key.values
    c.encode_value-e0.ensures c.encode_value-e1.ensures
    c.encode_value-e2.ensures c.encode_value-e3.ensures

pub encode_key_spec : {M : Type 1} → statement M
encode_key_spec =
    tie.close
    (tie.spec
    returns
    array-read-encode-value
    encode-value-requires
    array-read-encode-value-2
    encode-value-requires-2
    array-read-encode-value-3
    encode-value-requires-3
    array-read-encode-value-4
    encode-value-requires-4
    returns-2)
