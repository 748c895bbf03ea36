-- What is counted so far is that of the pages so far. Assumes nothing.
use Rattle.query_records.specs.Records.{page_fields}
use Rattle.query_records.proofs.ListLaws.{CountedTo}
use Rattle.query_records.proofs.count_records.Given as goal

abbrev pub invariant-loop-g : goal.invariant-loop-g
invariant-loop-g l = CountedTo (page_fields l.capacity l.pages) l.list l.g-index l.total
