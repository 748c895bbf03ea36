-- `range_records::put_within`: a page more. Assumes nothing.
use Rattle.std.proofs.lemmas.Grind.{common_steps}
use native.Mathlib.Omega.{arith}
use Rattle.page_matches.specs.Within.{lies_in}
use Rattle.query_records.specs.Records.{list_hits}
use Rattle.query_records.proofs.ListLaws.{emitted_to-none, emitted_to-next}
use Rattle.query_records.proofs.MatchedLaws.{length-page_hits-le}
use Rattle.range_records.proofs.put_within.Goals as goal

pub loop-g-init : goal.loop-g-init
loop-g-init c = emitted_to-none _ c.args.list.now _

pub loop-g-preserved : goal.loop-g-preserved
loop-g-preserved c =
    let a = c.args in
    let l = c.loop-g in
    let put = c.put_within_page-total in
    emitted_to-next _ a.list.now a.out.now l.g-index l.total l.out l.invariant (omega arith)
    (length-page_hits-le a.capacity a.pages.now (lies_in a.bias a.low a.high) _ c.requires.capacity
    (c.requires.each l.g-index (omega arith))) _ put.ensures.value _ put.ensures.out_after put.auto.out

pub returns-clause-value : goal.returns-clause-value
unfolding list_hits
returns-clause-value c = grind (arith, common_steps)

pub returns-clause-out_after : goal.returns-clause-out_after
unfolding list_hits
returns-clause-out_after c = grind (arith, common_steps)
