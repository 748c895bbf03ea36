-- `query_records::put_matched_page` meets its contract: the part lent is the matched page. Assumes nothing.
use Prim.Native.Nat.{◌+◌, ◌-◌}
use mathlib.Core.Path.{◌≡◌, ap, ◌∙◌}
use native.Mathlib.Omega.{arith}
use lib.ListN.{length}
use borrow.Rule.Slice.PartMut.{mid_of}
use Rattle.page.specs.Page.{page_at}
use Rattle.page.proofs.PartLaws.{mid_of-page}
use Rattle.page_matches.specs.Mask.{picked_by}
use Rattle.page_matches.specs.Output.{emit}
use Rattle.query_records.specs.Records.{matched_page, matched_mask}
use Rattle.query_records.proofs.MatchedLaws.{length-matched_fields-le, matched_mask-lt-slots}
use borrow.Author.Rules.{rules}
use Rattle.query_records.proofs.put_matched_page.Statement.{statement}
use Rattle.query_records.proofs.put_matched_page.Tie as tie

-- the part is the matched page
part : (c : tie.After-page_size)
    → let a = c.args in
    let start = c.page_start-start.result in
    mid_of start (start + c.page_size.result - start) a.pages.now
    ≡ page_at a.capacity a.pages.now (matched_page a.matched)
part c =
    let a = c.args in
    mid_of-page a.capacity (matched_page a.matched) _ _ a.pages.now c.page_start-start.ensures
    c.page_size.ensures

cast-page-start : tie.Need-overflow_cast-matched
cast-page-start c = search rules

page-start-requires : tie.Need-page_start-start-requires
page-start-requires c κs = search rules

page-size-requires : tie.Need-page_size-requires
page-size-requires c κs = search rules

add-end : tie.Need-overflow_add-end
add-end c = search rules

sub-put-picked : tie.Need-slice_bounds-put_picked-count
sub-put-picked c = search rules

part-put-picked-start : tie.Need-slice_bounds-put_picked-start
part-put-picked-start c = search rules

part-put-picked-end : tie.Need-slice_bounds-put_picked-end
part-put-picked-end c = search rules

cast-put-picked : tie.Need-overflow_cast-matched-2
cast-put-picked c = search rules

put-picked-requires : tie.Need-put_picked-requires
put-picked-requires c κs =
    let a = c.args in
    let few = length-matched_fields-le a.capacity a.pages.now a.matched c.requires.capacity c.requires.page in
    let below = matched_mask-lt-slots a.capacity a.pages.now a.matched c.requires.page in
    rw (part c.before.before) (below, omega (arith, few, c.requires.before))

same_length : tie.Need-shape_of-out
same_length c = search rules

returns : tie.Need-returns
returns c =
    let put = c.put_picked.ensures in
    let a = c.args in
    let mask = matched_mask a.matched in (
      put.0 ∙ ap (λ l. a.total + length (picked_by mask l)) (part c.before.before.before.before.before),
      put.1 ∙ ap (λ l. emit a.out.now a.total (picked_by mask l)) (part c.before.before.before.before.before),
    )

pub put_matched_page_spec : {M : Type 1} → statement M
put_matched_page_spec =
    tie.close
    (tie.spec
    cast-page-start
    page-start-requires
    page-size-requires
    add-end
    sub-put-picked
    part-put-picked-start
    part-put-picked-end
    cast-put-picked
    put-picked-requires
    same_length
    returns)
