-- `key_encoding::bias_key` meets its contract: none is added without marks, and the four biases have 16 bits each.
-- Assumes nothing.
use Rattle.std.proofs.Common.{ap, ◌∙◌, rules}
use Rattle.record.specs.Packed.{packed_key}
use Rattle.record.specs.Lanes.{bias_key}
use Rattle.key_encoding.proofs.CodeLaws.{bias_key-none, biases-listed, biases-listed-lt}
use Rattle.key_encoding.proofs.bias_key.Statement.{statement}
use Rattle.key_encoding.proofs.bias_key.Tie as tie

returns : tie.Need-returns-then-shape-eq0
returns c = bias_key-none c.args.shape c.if-shape-eq0.true

bias-of-requires : tie.Need-bias_of-b0-requires
bias-of-requires c κs = search rules

bias-of-requires-2 : tie.Need-bias_of-b1-requires
bias-of-requires-2 c κs = search rules

bias-of-requires-3 : tie.Need-bias_of-b2-requires
bias-of-requires-3 c κs = search rules

bias-of-requires-4 : tie.Need-bias_of-b3-requires
bias-of-requires-4 c κs = search rules

pack-key-requires : tie.Need-pack_key-requires
pack-key-requires c κs =
    biases-listed-lt c.args.shape _ _ _ _ c.requires
    (biases-listed c.args.shape _ _ _ _ c.bias_of-b0.ensures c.bias_of-b1.ensures
    c.bias_of-b2.ensures c.bias_of-b3.ensures)

returns-2 : tie.Need-returns
unfolding bias_key
returns-2 c =
    c.pack_key.ensures
    ∙ ap packed_key
    (biases-listed c.args.shape _ _ _ _ c.bias_of-b0.ensures
    c.bias_of-b1.ensures c.bias_of-b2.ensures c.bias_of-b3.ensures)

pub bias_key_spec : {M : Type 1} → statement M
bias_key_spec =
    tie.close
    (tie.spec
    returns
    bias-of-requires
    bias-of-requires-2
    bias-of-requires-3
    bias-of-requires-4
    pack-key-requires
    returns-2)
