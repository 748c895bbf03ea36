-- What is counted and written so far is that of the matched pages so far. Assumes nothing.
use Rattle.query_records.specs.Records.{matched_fields}
use Rattle.query_records.proofs.ListLaws.{EmittedTo}
use Rattle.query_records.proofs.put_matched.Given as goal

abbrev pub invariant-loop-matched : goal.invariant-loop-matched
invariant-loop-matched l =
    EmittedTo (matched_fields l.capacity l.pages) l.list l.initial.out l.matched-index l.out l.total
