-- What is counted and written so far is that of the pages so far. Assumes nothing.
use Rattle.page.specs.Page.{page_at}
use Rattle.page_matches.specs.Within.{lies_in}
use Rattle.query_records.specs.Records.{page_hits}
use Rattle.query_records.proofs.ListLaws.{EmittedTo}
use Rattle.range_records.proofs.put_within.Given as goal

abbrev pub invariant-loop-g : goal.invariant-loop-g
invariant-loop-g l =
    EmittedTo (λ g. page_hits (lies_in l.bias l.low l.high) (page_at l.capacity l.pages g)) l.list l.initial.out l.g-index
    l.out l.total
