-- `query_records::put_at` meets its contract: the part lent is the page. Assumes nothing.
use Prim.Native.Nat.{◌+◌, ◌-◌}
use mathlib.Core.Path.{◌≡◌, sym, ap, ◌∙◌}
use native.Mathlib.Omega.{arith}
use borrow.Rule.Slice.PartMut.{mid_of}
use Rattle.page.specs.Page.{count_of, page_at}
use Rattle.page.specs.Fields.{fields_from}
use Rattle.page.proofs.FieldLaws.{length-fields_from}
use Rattle.page.proofs.PartLaws.{mid_of-page}
use Rattle.page_matches.specs.Output.{emit}
use Rattle.query_records.proofs.MatchedLaws.{records-lent}
use borrow.Author.Rules.{rules}
use Rattle.query_records.proofs.put_at.Statement.{statement}
use Rattle.query_records.proofs.put_at.Tie as tie

-- the part is the page
part : (c : tie.After-page_size)
    → let a = c.args in
    let start = c.page_start-start.result in
    mid_of start (start + c.page_size.result - start) a.pages.now ≡ page_at a.capacity a.pages.now a.g
part c =
    let a = c.args in
    mid_of-page a.capacity a.g _ _ a.pages.now c.page_start-start.ensures c.page_size.ensures

page-start-requires : tie.Need-page_start-start-requires
page-start-requires c κs = search rules

page-size-requires : tie.Need-page_size-requires
page-size-requires c κs = search rules

add-end : tie.Need-overflow_add-end
add-end c = search rules

sub-count : tie.Need-slice_bounds-count-count
sub-count c = search rules

part-count-start : tie.Need-slice_bounds-count-start
part-count-start c = search rules

part-count-end : tie.Need-slice_bounds-count-end
part-count-end c = search rules

count-requires : tie.Need-count-n-requires
count-requires c κs = search rules

sub-put-all : tie.Need-slice_bounds-put_all-count
sub-put-all c = search rules

part-put-all-start : tie.Need-slice_bounds-put_all-start
part-put-all-start c = search rules

part-put-all-end : tie.Need-slice_bounds-put_all-end
part-put-all-end c = search rules

put-all-requires : tie.Need-put_all-requires
put-all-requires c κs =
    let a = c.args in
    let n = c.count-n.ensures.0 ∙ ap count_of (part c.before.before.before.before) in
    let lent = records-lent a.capacity a.pages.now a.g c.requires.page in
    rw (part c.before.before.before.before, n) (lent, omega (arith, c.requires.capacity, c.requires.page.counted, c.requires.before))

same_length : tie.Need-shape_of-out
same_length c = search rules

returns : tie.Need-returns
returns c =
    let put = c.put_all.ensures in
    let a = c.args in
    let page = page_at a.capacity a.pages.now a.g in
    let n = c.count-n.ensures.0 ∙ ap count_of (part c.before.before.before.before.before.before.before) in (
      put.0 ∙ ap (λ k. a.total + k) (n ∙ sym (length-fields_from (count_of page) 2 page)),
      put.1 ∙ (λ i. emit a.out.now a.total (fields_from (n i) 2 (part c.before.before.before.before.before.before.before i))),
    )

pub put_at_spec : {M : Type 1} → statement M
put_at_spec =
    tie.close
    (tie.spec
    page-start-requires
    page-size-requires
    add-end
    sub-count
    part-count-start
    part-count-end
    count-requires
    sub-put-all
    part-put-all-start
    part-put-all-end
    put-all-requires
    same_length
    returns)
