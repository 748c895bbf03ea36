-- The store so far has the first i records.
use Rattle.store.specs.Store.{store}
use Rattle.load.specs.Private.{Joined}
use Rattle.load.proofs.add_records.Given as goal

abbrev pub invariant-loop-i : goal.invariant-loop-i
invariant-loop-i l =
    Joined (store l.initial.current l.initial.dir l.initial.pages) l.i l.file (store l.current l.dir l.pages)
