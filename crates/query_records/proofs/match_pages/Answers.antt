-- `query_records::match_pages`: a page more. Assumes nothing.
use native.Mathlib.Omega.{arith}
use Rattle.page_matches.specs.Pattern.{passes}
use Rattle.query_records.proofs.MatchedLaws.{matched_to-none, matched_to-next}
use Rattle.query_records.proofs.match_pages.Goals as goal

pub loop-i-init : goal.loop-i-init
loop-i-init c = matched_to-none _ _ _ _

pub loop-i-preserved : goal.loop-i-preserved
loop-i-preserved c =
    let a = c.args in
    let l = c.loop-i in
    matched_to-next a.capacity a.pages.now (passes a.pattern) a.list.now l.i l.m l.list l.invariant (omega arith)
    (c.requires.each l.i (omega arith)) _ c.match_at-mask.ensures.0 c.match_at-mask.ensures.1
