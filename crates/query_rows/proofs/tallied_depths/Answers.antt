-- `query_rows::tallied_depths`: a depth more. Assumes nothing.
use Rattle.std.proofs.Common.{◌≡◌, [], drop, ap, sym}
use native.Mathlib.Omega.{arith}
use lib.ListN.{drop_of_length-le}
use Rattle.query_rows.specs.Rows.{tallied_depths}
use Rattle.query_rows.proofs.DepthLaws.{tallied_depths-before}
use Rattle.query_rows.proofs.tallied_depths.Goals as goal

pub loop-x-init : goal.loop-x-init
unfolding tallied_depths
loop-x-init c =
    let end : drop 13 c.args.tally.leaves ≡ [] =
    drop_of_length-le c.args.tally.leaves {i = 13} (omega arith) in
    sym (ap tallied_depths end)

pub loop-x-preserved : goal.loop-x-preserved
loop-x-preserved c =
    tallied_depths-before c.args.tally.leaves c.loop-x.x c.loop-x.depths (omega arith) (omega arith) (omega arith)
    c.loop-x.invariant
