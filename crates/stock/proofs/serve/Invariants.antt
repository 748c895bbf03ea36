-- What is lent keeps its length. Assumes nothing.
use Rattle.std.proofs.Common.{length, ◌≤◌}
use Rattle.stock_replies.specs.Replies.{reply_size}
use Rattle.stock.specs.Lends.{Lends}
use Rattle.stock.proofs.serve.Given as goal

abbrev pub invariant-loop : goal.invariant-loop
invariant-loop g l =
    (l.progress.reading.fields ≤ 7) × Lends l.dir l.pages l.out × (reply_size ≤ length l.text)
