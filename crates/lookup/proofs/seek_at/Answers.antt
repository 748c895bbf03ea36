-- A page that is not the leaf's is 9, and what is lent of another is the page.
use Rattle.std.proofs.Common.{◌≡◌, sym, ap, ◌∙◌, length, arith}
use Rattle.record.specs.Lanes.{lane_difference, fields_key}
use Rattle.page.specs.Page.{page_at}
use Rattle.page.proofs.PartLaws.{mid_of-page, length-page_at}
use Rattle.page_matches.specs.KeyPlace.{key_place}
use Rattle.page_ends.proofs.FairLaws.{fair-of-count, some-positive, none-positive}
use Rattle.lookup.specs.Private.{place_answer, count_answer}
use Rattle.lookup.proofs.CaseLaws.{count_answer-none, count_answer-some}
use Rattle.lookup.proofs.seek_at.Goals as goal

pub returns-in_default : goal.returns-in_default
returns-in_default c =
    let a = c.args in
    count_answer-none a.depth (page_at a.shape.capacity a.pages.now a.g) _ (fields_key a.shape a.key)
    (sym (none-positive _ c.in_default.ensures))

pub seek_in_page-requires : goal.seek_in_page-requires
seek_in_page-requires c =
    let a = c.args in
    let b = a.shape.capacity in
    let k = some-positive c.in-Some.n _ c.in-Some.ensures in
    let few = (fair-of-count _ _ _ c.in-Some.n k.0 k.1).few in
    let part = mid_of-page b a.g _ _ a.pages.now c.page_start-start.ensures c.page_size.ensures in
    let whole = ap length part ∙ length-page_at b a.g a.pages.now c.requires.lent.whole in
    (omega (arith, few, c.requires.lent.capacity-le), omega (arith, few, whole))

pub returns : goal.returns
returns c =
    let a = c.args in
    let n = c.in-Some.n in
    let k = some-positive n _ c.in-Some.ensures in
    let b = a.shape.capacity in
    let page = page_at b a.pages.now a.g in
    let sought : c.to_fields-fields.result ≡ fields_key a.shape a.key =
    c.to_fields-fields.ensures ∙ ap (lane_difference a.key) c.bias_key.ensures in
    c.seek_in_page.ensures
    ∙ ap (λ part. place_answer a.depth part n (key_place c.to_fields-fields.result part n 0))
    (mid_of-page b a.g _ _ a.pages.now c.page_start-start.ensures c.page_size.ensures)
    ∙ ap (λ h. place_answer a.depth page n (key_place h page n 0)) sought
    ∙ count_answer-some a.depth page n (fields_key a.shape a.key) k.1
    ∙ ap (λ m. count_answer a.depth m page (fields_key a.shape a.key)) k.0
