-- What is counted and written so far is that of the pages so far. Assumes nothing.
use Rattle.query_records.specs.Records.{page_fields}
use Rattle.query_records.proofs.ListLaws.{EmittedTo}
use Rattle.query_records.proofs.put_whole.Given as goal

abbrev pub invariant-loop-g : goal.invariant-loop-g
invariant-loop-g l = EmittedTo (page_fields l.capacity l.pages) l.list l.initial.out l.g-index l.out l.total
