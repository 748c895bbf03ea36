-- Values of 16 bits, packed.
use Rattle.std.proofs.Common.{[], ◌∷◌, sym, ap, subst, ◌∙◌}
use Rattle.shape.specs.Key.{wanted_values}
use Rattle.record.specs.Packed.{packed_key, SixteenBits}
use Rattle.range_number.proofs.EndLaws.{values_or-lt}
use Rattle.range_number.proofs.key_or.Goals as goal

pub pack_key-requires : goal.pack_key-requires
unfolding wanted_values
pack_key-requires c =
    let d0 = c.value_or-v0.ensures in
    let d1 = c.value_or-v1.ensures in
    let d2 = c.value_or-v2.ensures in
    let d3 = c.value_or-v3.ensures in
    subst SixteenBits (sym (λ i. d0 i ∷ d1 i ∷ d2 i ∷ d3 i ∷ []))
    (values_or-lt c.args.free (wanted_values c.args.query) c.requires.1 c.requires.0)

pub returns : goal.returns
unfolding wanted_values
returns c =
    let d0 = c.value_or-v0.ensures in
    let d1 = c.value_or-v1.ensures in
    let d2 = c.value_or-v2.ensures in
    let d3 = c.value_or-v3.ensures in
    c.pack_key.ensures ∙ ap packed_key (λ i. d0 i ∷ d1 i ∷ d2 i ∷ d3 i ∷ [])
