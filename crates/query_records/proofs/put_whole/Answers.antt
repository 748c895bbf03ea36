-- `query_records::put_whole`: a page more. Assumes nothing.
use native.Mathlib.Omega.{arith}
use Rattle.query_records.specs.Records.{page_fields}
use Rattle.query_records.proofs.ListLaws.{emitted_to-none, emitted_to-next}
use Rattle.query_records.proofs.MatchedLaws.{length-page_fields-le}
use Rattle.query_records.proofs.put_whole.Goals as goal

pub loop-g-init : goal.loop-g-init
loop-g-init c = emitted_to-none _ c.args.list.now _

pub loop-g-preserved : goal.loop-g-preserved
loop-g-preserved c =
    let a = c.args in
    let l = c.loop-g in
    let put = c.put_at-total in
    emitted_to-next (page_fields a.capacity a.pages.now) a.list.now a.out.now l.g-index l.total l.out l.invariant
    (omega arith)
    (length-page_fields-le a.capacity a.pages.now _ c.requires.capacity (c.requires.each l.g-index (omega arith))) _
    put.ensures.value _ put.ensures.out_after put.auto.out
