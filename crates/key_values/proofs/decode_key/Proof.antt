-- `key_values::decode_key` meets its contract: without marks an encoding is the value; else an encoding less its bias,
-- value by value. Assumes nothing.
use Rattle.std.proofs.Common.{◌∙◌, rules}
use Rattle.key_values.proofs.ValueLaws.{values-none, values_listed}
use Rattle.key_values.proofs.decode_key.Statement.{statement}
use Rattle.key_values.proofs.decode_key.Tie as tie

unpack-key-requires : tie.Need-unpack_key-requires
unpack-key-requires c κs = search rules

returns : tie.Need-returns-then-shape-eq0
returns c =
    c.unpack_key.ensures ∙ values-none c.args.shape c.requires c.if-shape-eq0.true c.args.key

bias-key-requires : tie.Need-bias_key-bias-requires
bias-key-requires c κs = search rules

value-less-requires : tie.Need-value_less-v0-requires
value-less-requires c κs = search rules

value-less-requires-2 : tie.Need-value_less-v1-requires
value-less-requires-2 c κs = search rules

value-less-requires-3 : tie.Need-value_less-v2-requires
value-less-requires-3 c κs = search rules

value-less-requires-4 : tie.Need-value_less-v3-requires
value-less-requires-4 c κs = search rules

returns-2 : tie.Need-returns
returns-2 c =
    values_listed c.args.shape c.requires c.args.key _ c.bias_key-bias.ensures _ _ _ _
    c.value_less-v0.ensures c.value_less-v1.ensures c.value_less-v2.ensures
    c.value_less-v3.ensures

pub decode_key_spec : {M : Type 1} → statement M
decode_key_spec =
    tie.close
    (tie.spec
    unpack-key-requires
    returns
    bias-key-requires
    value-less-requires
    value-less-requires-2
    value-less-requires-3
    value-less-requires-4
    returns-2)
