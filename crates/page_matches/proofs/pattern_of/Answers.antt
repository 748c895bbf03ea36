use Rattle.std.proofs.Common.{[], ◌∷◌, sym, ap, subst, ◌∙◌}
use Rattle.shape.specs.Key.{wanted_values}
use Rattle.record.specs.Packed.{packed_key, SixteenBits}
use Rattle.page_matches.specs.Pattern.{pattern_of}
use Rattle.page_matches.proofs.PatternLaws.{masks_of-lt, fields_wanted-lt}
use Rattle.page_matches.proofs.pattern_of.Goals as goal

pub pack_key-requires : goal.pack_key-requires
pack_key-requires c =
    let e0 = c.mask_at-m0.ensures in
    let e1 = c.mask_at-m1.ensures in
    let e2 = c.mask_at-m2.ensures in
    let e3 = c.mask_at-m3.ensures in
    subst SixteenBits (sym (λ i. e0 i ∷ e1 i ∷ e2 i ∷ e3 i ∷ [])) (masks_of-lt (wanted_values c.args.query))

pub pack_key-requires-2 : goal.pack_key-requires-2
pack_key-requires-2 c =
    let d0 = c.bits_at-v0.ensures in
    let d1 = c.bits_at-v1.ensures in
    let d2 = c.bits_at-v2.ensures in
    let d3 = c.bits_at-v3.ensures in
    subst SixteenBits (sym (λ i. d0 i ∷ d1 i ∷ d2 i ∷ d3 i ∷ [])) (fields_wanted-lt (wanted_values c.args.query))

pub returns : goal.returns
unfolding pattern_of
returns c =
    let d0 = c.bits_at-v0.ensures in
    let d1 = c.bits_at-v1.ensures in
    let d2 = c.bits_at-v2.ensures in
    let d3 = c.bits_at-v3.ensures in
    let e0 = c.mask_at-m0.ensures in
    let e1 = c.mask_at-m1.ensures in
    let e2 = c.mask_at-m2.ensures in
    let e3 = c.mask_at-m3.ensures in
    let mask = c.pack_key.ensures ∙ ap packed_key (λ i. e0 i ∷ e1 i ∷ e2 i ∷ e3 i ∷ []) in
    let value = c.pack_key-2.ensures ∙ ap packed_key (λ i. d0 i ∷ d1 i ∷ d2 i ∷ d3 i ∷ []) in
    λ i. record { mask = mask i; value = value i }
