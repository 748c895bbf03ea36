-- Free attributes count as 0.
use Rattle.std.proofs.Common.{[], ◌∷◌, ap, ◌∙◌}
use Rattle.shape.specs.Shape.{width_list, widths_of, index_fits}
use Rattle.shape.specs.Key.{wanted_values}
use Rattle.shape.proofs.ShapeLaws.{widths-fit}
use Rattle.page_matches.specs.Pattern.{bits_of}
use Rattle.query_number.proofs.EarlyLaws.{index_fits-query}
use Rattle.query_number.proofs.query_fits.Goals as goal

pub index_fits-requires : goal.index_fits-requires
index_fits-requires c = widths-fit c.args.shape (width_list c.widths_of.result) c.requires c.widths_of.ensures

pub returns : goal.returns
unfolding wanted_values
returns c =
    let a = c.args in
    c.index_fits.ensures
    ∙ (λ i. index_fits (c.widths_of.ensures i)
    (c.value_or-i0.ensures i ∷ c.value_or-i1.ensures i ∷ c.value_or-i2.ensures i ∷ c.value_or-i3.ensures i ∷ []))
    ∙ ap (λ q. index_fits (widths_of a.shape) (bits_of q)) c.encode_query-encoded.ensures
    ∙ index_fits-query a.shape (wanted_values a.query)
