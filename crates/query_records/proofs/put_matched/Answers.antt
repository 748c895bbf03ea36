-- `query_records::put_matched`: a matched page more. Assumes nothing.
use native.Mathlib.Omega.{arith}
use Rattle.query_records.specs.Records.{matched_fields}
use Rattle.query_records.proofs.ListLaws.{emitted_to-none, emitted_to-next}
use Rattle.query_records.proofs.MatchedLaws.{length-matched_fields-le}
use Rattle.query_records.proofs.put_matched.Goals as goal

pub loop-matched-init : goal.loop-matched-init
loop-matched-init c = emitted_to-none _ c.args.list.now _

pub loop-matched-preserved : goal.loop-matched-preserved
loop-matched-preserved c =
    let a = c.args in
    let l = c.loop-matched in
    let put = c.put_matched_page-total in
    emitted_to-next (matched_fields a.capacity a.pages.now) a.list.now a.out.now l.matched-index l.total l.out l.invariant
    (omega arith)
    (length-matched_fields-le a.capacity a.pages.now _ c.requires.capacity (c.requires.each l.matched-index (omega arith))) _
    put.ensures.value _ put.ensures.out_after put.auto.out
