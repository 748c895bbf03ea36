-- The matched pages so far are those of the pages so far. Assumes nothing.
use Rattle.page_matches.specs.Pattern.{passes}
use Rattle.query_records.proofs.MatchedLaws.{MatchedTo}
use Rattle.query_records.proofs.match_pages.Given as goal

abbrev pub invariant-loop-i : goal.invariant-loop-i
invariant-loop-i l = MatchedTo l.capacity l.pages (passes l.pattern) l.initial.list l.i l.list l.m
