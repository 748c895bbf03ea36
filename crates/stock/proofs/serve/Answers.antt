-- `stock::serve` meets its contract: at first nothing is read. Assumes nothing.
use Rattle.std.proofs.Common.{arith}
use Rattle.stock_line.specs.LineBytes.{start}
use Rattle.stock.proofs.serve.Goals as goal

pub loop-init : goal.loop-init
unfolding start
loop-init g c = (rw c.start-progress.ensures.0 (omega arith), c.requires.0, c.requires.1)
