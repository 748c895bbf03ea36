-- 1 << t is 2^t, and a cell's own address is below it. Assumes nothing.
use Rattle.std.proofs.Common.{arith, rules}
use Rattle.lists.proofs.Shifts.{one_shifted}
use Rattle.pairs.proofs.PlaceLaws.{step_pair-lt}
use Rattle.directory.proofs.DoublingLaws.{doubled_to-none, doubled_to-suc, doubled_to-end, upper_half-lt}
use Rattle.directory_double.proofs.double.Goals as goal

pub loop-a-init : goal.loop-a-init
loop-a-init c =
    let deep = step_pair-lt _ c.args.t _ c.step_place-g.ensures c.requires.fit in
    rw (one_shifted c.args.t (omega arith)) (doubled_to-none _ c.requires.fit c.args.t deep c.args.dir.now)

pub offset_bounds-dir-whole : goal.offset_bounds-dir-whole
offset_bounds-dir-whole c =
    let deep = step_pair-lt _ c.args.t _ c.step_place-g.ensures c.requires.fit in
    let low = upper_half-lt _ c.requires.fit c.args.t deep _ _ c.whole_of-whole.ensures in
    search rules

pub bounds-dir-whole : goal.bounds-dir-whole
bounds-dir-whole c =
    let deep = step_pair-lt _ c.args.t _ c.step_place-g.ensures c.requires.fit in
    let low = upper_half-lt _ c.requires.fit c.args.t deep _ _ c.whole_of-whole.ensures in
    omega arith

pub loop-a-preserved : goal.loop-a-preserved
loop-a-preserved c =
    let deep = step_pair-lt _ c.args.t _ c.step_place-g.ensures c.requires.fit in
    doubled_to-suc _ c.requires.fit c.args.t deep _ _ _ c.loop-a.invariant _ c.requires.room
    (omega (arith, one_shifted c.args.t)) c.whole_of-whole.ensures

pub returns : goal.returns
returns c =
    let deep = step_pair-lt _ c.args.t _ c.step_place-g.ensures c.requires.fit in
    doubled_to-end _ c.requires.fit c.args.t deep _ _ _ c.loop-a.invariant (omega (arith, one_shifted c.args.t))
