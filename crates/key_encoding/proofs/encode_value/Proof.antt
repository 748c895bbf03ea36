-- `key_encoding::encode_value` meets its contract: a bias of 0 changes nothing. Assumes nothing.
use Rattle.std.proofs.Common.{◌+◌, ◌%◌, ◌^◌, ap, ◌∙◌, rules}
use Rattle.key_encoding.proofs.CodeLaws.{encode-sum}
use Rattle.key_encoding.proofs.encode_value.Statement.{statement}
use Rattle.key_encoding.proofs.encode_value.Tie as tie

bias-of-requires : tie.Need-bias_of-requires
bias-of-requires c κs = search rules

wrapping-add-u32-requires : tie.Need-wrapping_add_u32-requires
wrapping-add-u32-requires c κs = search rules

returns : tie.Need-returns
returns c =
    c.wrapping_add_u32.ensures
    ∙ ap (λ b. (c.args.value + b) % 2 ^ 32) c.bias_of.ensures
    ∙ encode-sum c.args.shape c.args.j c.args.value c.ranges.value.fits

pub encode_value_spec : {M : Type 1} → statement M
encode_value_spec = tie.close (tie.spec bias-of-requires wrapping-add-u32-requires returns)
