-- `query_records::count_records`: a page more. Assumes nothing.
use Rattle.std.proofs.Common.{◌+◌, ap}
use native.Mathlib.Omega.{arith}
use Rattle.query_records.specs.Records.{page_fields}
use Rattle.query_records.proofs.ListLaws.{counted_to-none, counted_to-next}
use Rattle.query_records.proofs.MatchedLaws.{length-page_fields-le}
use Rattle.query_records.proofs.count_records.Goals as goal

pub loop-g-init : goal.loop-g-init
loop-g-init c = counted_to-none _ c.args.list.now

pub loop-g-preserved : goal.loop-g-preserved
loop-g-preserved c =
    let a = c.args in
    let l = c.loop-g in
    counted_to-next (page_fields a.capacity a.pages.now) a.list.now l.g-index l.total l.invariant (omega arith)
    (length-page_fields-le a.capacity a.pages.now _ c.requires.capacity (c.requires.each l.g-index (omega arith))) _
    (ap (λ k. l.total + k) c.count_at-total.ensures.0)
