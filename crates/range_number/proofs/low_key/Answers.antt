use Rattle.std.proofs.Common.{sym, ap, subst, ◌∙◌, arith}
use Rattle.shape.specs.Key.{encoded_wanted}
use Rattle.record.specs.Packed.{packed_key}
use Rattle.page_matches.specs.Pattern.{GivenSixteenBits}
use Rattle.range_number.specs.Ends.{values_or, low_key}
use Rattle.range_number.proofs.low_key.Goals as goal

pub key_or-requires : goal.key_or-requires
key_or-requires c =
    let given = c.encode_query.ensures ∙ ap (encoded_wanted c.args.shape) c.low_ends.ensures in
    (subst (λ q. GivenSixteenBits q) (sym given) c.requires.1, omega arith)

pub returns : goal.returns
unfolding low_key
returns c =
    let given = c.encode_query.ensures ∙ ap (encoded_wanted c.args.shape) c.low_ends.ensures in
    c.key_or.ensures ∙ ap (λ q. packed_key (values_or 0 q)) given
