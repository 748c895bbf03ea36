-- `query_records::match_at` meets its contract: the part lent is the page. Assumes nothing.
use Prim.Native.Nat.{◌+◌, ◌-◌, ◌^◌, ◌<◌}
use mathlib.Core.Path.{◌≡◌, ap, ◌∙◌}
use native.Mathlib.Nat.{lt_of_lt_of_le}
use native.Mathlib.Omega.{arith}
use lib.Pow.{pow_mono}
use borrow.Rule.Slice.PartMut.{mid_of}
use Rattle.page.specs.Page.{count_of, page_at}
use Rattle.page.proofs.PartLaws.{mid_of-page}
use Rattle.page_matches.specs.Pattern.{passes}
use Rattle.page_matches.specs.Mask.{match_mask}
use Rattle.page_matches.proofs.MaskLaws.{match_mask-lt}
use Rattle.query_records.specs.Records.{page_mask}
use Rattle.query_records.proofs.MatchedLaws.{records-lent}
use borrow.Author.Rules.{rules}
use Rattle.query_records.proofs.match_at.Statement.{statement}
use Rattle.query_records.proofs.match_at.Tie as tie

-- the part is the page
part : (c : tie.After-page_size)
    → let a = c.args in
    let start = c.page_start-start.result in
    mid_of start (start + c.page_size.result - start) a.pages.now ≡ page_at a.capacity a.pages.now a.g
part c =
    let a = c.args in
    mid_of-page a.capacity a.g _ _ a.pages.now c.page_start-start.ensures c.page_size.ensures

page-start-requires : tie.Need-page_start-start-requires
page-start-requires c κs = search rules

page-size-requires : tie.Need-page_size-requires
page-size-requires c κs = search rules

add-end : tie.Need-overflow_add-end
add-end c = search rules

sub-count : tie.Need-slice_bounds-count-count
sub-count c = search rules

part-count-start : tie.Need-slice_bounds-count-start
part-count-start c = search rules

part-count-end : tie.Need-slice_bounds-count-end
part-count-end c = search rules

count-requires : tie.Need-count-n-requires
count-requires c κs = search rules

sub-match-mask : tie.Need-slice_bounds-match_mask-count
sub-match-mask c = search rules

part-match-mask-start : tie.Need-slice_bounds-match_mask-start
part-match-mask-start c = search rules

part-match-mask-end : tie.Need-slice_bounds-match_mask-end
part-match-mask-end c = search rules

match-mask-requires : tie.Need-match_mask-requires
match-mask-requires c κs =
    let a = c.args in
    let n = c.count-n.ensures.0 ∙ ap count_of (part c.before.before.before) in
    let lent = records-lent a.capacity a.pages.now a.g c.requires.1 in
    rw (part c.before.before.before, n) (omega (arith, c.requires.0, c.requires.1.counted), lent)

-- the mask is that of the page, below 2 ^ b
masked : (c : tie.After-match_mask)
    → let a = c.args in
    let mask = c.match_mask.result in
    (mask ≡ page_mask (passes a.pattern) (page_at a.capacity a.pages.now a.g)) × (mask < 2 ^ a.capacity)
masked c =
    let a = c.args in
    let page = page_at a.capacity a.pages.now a.g in
    let n = c.count-n.ensures.0 ∙ ap count_of (part c.before.before.before.before) in
    let same : c.match_mask.result ≡ page_mask (passes a.pattern) page =
    c.match_mask.ensures ∙ (λ i. match_mask (passes a.pattern) (part c.before.before.before.before i) (n i) 0) in
    let below = lt_of_lt_of_le (match_mask-lt (passes a.pattern) page (count_of page) 0)
    (pow_mono {i = count_of page} {j = a.capacity} c.requires.1.counted) in
    (same, rw same below)

cast-result : tie.Need-overflow_cast-result
cast-result c =
    let most = pow_mono {i = c.args.capacity} {j = 32} (omega (arith, c.requires.0)) in
    record { fits = lt_of_lt_of_le (masked c).1 most }

returns : tie.Need-returns
returns c = masked c

pub match_at_spec : {M : Type 1} → statement M
match_at_spec =
    tie.close
    (tie.spec
    page-start-requires
    page-size-requires
    add-end
    sub-count
    part-count-start
    part-count-end
    count-requires
    sub-match-mask
    part-match-mask-start
    part-match-mask-end
    match-mask-requires
    cast-result
    returns)
