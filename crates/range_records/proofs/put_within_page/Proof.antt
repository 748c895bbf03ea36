-- `range_records::put_within_page` meets its contract: the part lent is the page. Assumes nothing.
use Prim.Native.Nat.{◌+◌, ◌-◌, ◌^◌, ◌<◌}
use mathlib.Core.Path.{◌≡◌, sym, ap, ◌∙◌}
use native.Mathlib.Omega.{arith}
use lib.ListN.{length}
use borrow.Rule.Slice.PartMut.{mid_of}
use Rattle.lists.proofs.Shifts.{one_shifted}
use Rattle.page.specs.Fields.{fields_from}
use Rattle.page.specs.Page.{count_of, page_at}
use Rattle.page.proofs.FieldLaws.{length-fields_from}
use Rattle.page.proofs.PartLaws.{mid_of-page}
use Rattle.page_matches.specs.Within.{lies_in}
use Rattle.page_matches.specs.Mask.{match_mask, picked_by}
use Rattle.page_matches.specs.Output.{emit}
use Rattle.page_matches.proofs.MaskLaws.{one-le-bit, hits-full}
use Rattle.query_records.specs.Records.{page_hits, page_mask}
use Rattle.query_records.proofs.MatchedLaws.{records-lent, length-page_hits-le, picked_by-mask, mask-lt-slots}
use borrow.Author.Rules.{rules}
use Rattle.range_records.proofs.put_within_page.Statement.{statement}
use Rattle.range_records.proofs.put_within_page.Tie as tie

-- the part is the page
part : (c : tie.After-page_size)
    → let a = c.args in
    let start = c.page_start-start.result in
    mid_of start (start + c.page_size.result - start) a.pages.now ≡ page_at a.capacity a.pages.now a.g
part c =
    let a = c.args in
    mid_of-page a.capacity a.g _ _ a.pages.now c.page_start-start.ensures c.page_size.ensures

page-start-requires : tie.Need-page_start-start-requires
page-start-requires c κs = search rules

page-size-requires : tie.Need-page_size-requires
page-size-requires c κs = search rules

add-end : tie.Need-overflow_add-end
add-end c = search rules

sub-count : tie.Need-slice_bounds-count-count
sub-count c = search rules

part-count-start : tie.Need-slice_bounds-count-start
part-count-start c = search rules

part-count-end : tie.Need-slice_bounds-count-end
part-count-end c = search rules

count-requires : tie.Need-count-n-requires
count-requires c κs = search rules

sub-within-mask : tie.Need-slice_bounds-within_mask-count
sub-within-mask c = search rules

part-within-mask-start : tie.Need-slice_bounds-within_mask-start
part-within-mask-start c = search rules

part-within-mask-end : tie.Need-slice_bounds-within_mask-end
part-within-mask-end c = search rules

-- its count
counted : (c : tie.After-count-n)
    →
    let a = c.args in
    c.count-n.result ≡ count_of (page_at a.capacity a.pages.now a.g)
counted c = c.count-n.ensures.0 ∙ ap count_of (part c.before.before)

few : (c : tie.After-count-n) → c.count-n.result < 64
few c =
    omega (arith, counted c, c.requires.capacity, c.requires.page.counted)

within-mask-requires : tie.Need-within_mask-mask-requires
within-mask-requires c κs =
    let a = c.args in
    let lent = records-lent a.capacity a.pages.now a.g c.requires.page in
    rw (part c.before.before.before, counted c.before) (omega (arith, c.requires.capacity, c.requires.page.counted), lent)

shl-if1 : tie.Need-overflow_shl-n
shl-if1 c = few c.before.before

sub-if1 : tie.Need-overflow_sub-n
sub-if1 c = one-le-bit _ (few c.before.before)

-- the mask is that of the page
masked : (c : tie.After-within_mask-mask)
    → let a = c.args in
    c.within_mask-mask.result ≡ page_mask (lies_in a.bias a.low a.high) (page_at a.capacity a.pages.now a.g)
masked c =
    let a = c.args in
    c.within_mask-mask.ensures
    ∙ (λ i. match_mask (lies_in a.bias a.low a.high) (part c.before.before.before.before i) (counted c.before.before i) 0)

-- it picks the records that lie between
picks : (c : tie.After-within_mask-mask)
    → let a = c.args in
    let page = page_at a.capacity a.pages.now a.g in
    picked_by c.within_mask-mask.result page ≡ page_hits (lies_in a.bias a.low a.high) page
picks c =
    let a = c.args in
    picked_by-mask a.capacity a.pages.now (lies_in a.bias a.low a.high) a.g _ c.requires.page (masked c)

-- ---- all of them

-- a mask of all records: they are all that lie between
all-between : (c : tie.Then-mask-n)
    →
    let a = c.args in
    let page = page_at a.capacity a.pages.now a.g in
    fields_from c.count-n.result 2 page ≡ page_hits (lies_in a.bias a.low a.high) page
all-between c =
    let a = c.args in
    let page = page_at a.capacity a.pages.now a.g in
    let lent = records-lent a.capacity a.pages.now a.g c.requires.page in
    let full : page_mask (lies_in a.bias a.low a.high) page ≡ 2 ^ count_of page - 1 =
    sym (masked c.before) ∙ c.if-mask-n.true ∙ ap (λ x. x - 1) (one_shifted _ (few c.before.before.before))
    ∙ ap (λ n. 2 ^ n - 1) (counted c.before.before.before) in
    ap (λ n. fields_from n 2 page) (counted c.before.before.before)
    ∙ sym (hits-full (lies_in a.bias a.low a.high) page (count_of page) lent full)

sub-put-all : tie.Need-slice_bounds-put_all-count
sub-put-all c = search rules

part-put-all-start : tie.Need-slice_bounds-put_all-start
part-put-all-start c = search rules

part-put-all-end : tie.Need-slice_bounds-put_all-end
part-put-all-end c = search rules

put-all-requires : tie.Need-put_all-requires
put-all-requires c κs =
    let a = c.args in
    let lent = records-lent a.capacity a.pages.now a.g c.requires.page in
    rw (part c.before.before.before.before.before.before.before, counted c.before.before.before.before.before) (lent, omega (arith, c.requires.capacity, c.requires.page.counted, c.requires.before))

same_length : tie.Need-shape_of-out-then-mask-n
same_length c = search rules

returns : tie.Need-returns-then-mask-n
returns c =
    let put = c.put_all.ensures in
    let a = c.args in
    let n = c.count-n.result in
    let found = ap (fields_from n 2) (part c.before.before.before.before.before.before.before.before.before.before) ∙ all-between c.before.before.before.before.before in (
      put.0 ∙ ap (λ k. a.total + k) (sym (length-fields_from n 2 _) ∙ ap length (all-between c.before.before.before.before.before)),
      put.1 ∙ ap (emit a.out.now a.total) found,
    )

-- ---- some of them

sub-put-picked : tie.Need-slice_bounds-put_picked-count
sub-put-picked c = search rules

part-put-picked-start : tie.Need-slice_bounds-put_picked-start
part-put-picked-start c = search rules

part-put-picked-end : tie.Need-slice_bounds-put_picked-end
part-put-picked-end c = search rules

put-picked-requires : tie.Need-put_picked-requires
put-picked-requires c κs =
    let a = c.args in
    let test = lies_in a.bias a.low a.high in
    let below = mask-lt-slots a.capacity a.pages.now test a.g _ c.requires.page (masked c.before.before.before) in
    let few = length-page_hits-le a.capacity a.pages.now test a.g c.requires.capacity c.requires.page in
    rw (part c.before.before.before.before.before.before.before) (below, omega (arith, ap length (picks c.before.before.before), few, c.requires.before))

same-length-2 : tie.Need-shape_of-out
same-length-2 c = search rules

returns-2 : tie.Need-returns
returns-2 c =
    let put = c.put_picked.ensures in
    let a = c.args in
    let found = ap (picked_by c.within_mask-mask.result) (part c.before.before.before.before.before.before.before.before.before.before) ∙ picks c.before.before.before.before.before.before in (
      put.0 ∙ ap (λ l. a.total + length l) found,
      put.1 ∙ ap (emit a.out.now a.total) found,
    )

pub put_within_page_spec : {M : Type 1} → statement M
put_within_page_spec =
    tie.close
    (tie.spec
    page-start-requires
    page-size-requires
    add-end
    sub-count
    part-count-start
    part-count-end
    count-requires
    sub-within-mask
    part-within-mask-start
    part-within-mask-end
    within-mask-requires
    shl-if1
    sub-if1
    sub-put-all
    part-put-all-start
    part-put-all-end
    put-all-requires
    same_length
    returns
    sub-put-picked
    part-put-picked-start
    part-put-picked-end
    put-picked-requires
    same-length-2
    returns-2)
