-- What `load` promises, over the words; in no memory where they are too few.
use Rattle.host_changes.proofs.LoadLaws.{short-not-done, short-settled, long-settled}
use Rattle.host_changes.proofs.load_in_words.Goals as goal

pub returns-then-state-ge-STATE_SIZE : goal.returns-then-state-ge-STATE_SIZE
returns-then-state-ge-STATE_SIZE c =
    let a = c.args in
    let settled = c.settle.ensures in
    long-settled a.file.now a.state.now a.dir.now a.pages.now c.if-state-ge-STATE_SIZE.true _ _ _ _
    c.load-loaded.ensures _ _ _ settled.number_value settled.settled

pub settle-requires-2 : goal.settle-requires-2
settle-requires-2 c =
    let a = c.args in
    λ done. absurd
    (short-not-done a.file.now a.state.now a.dir.now a.pages.now c.if-state-ge-STATE_SIZE.false _ _ _ _
    c.load-refused.ensures done)

pub returns : goal.returns
returns c =
    let a = c.args in
    let settled = c.settle-2.ensures in
    short-settled a.file.now a.state.now a.dir.now a.pages.now c.if-state-ge-STATE_SIZE.false _ _ _ _
    c.load-refused.ensures _ _ _ settled.number_value settled.settled
