-- Each run reads a byte at least, since the text has room when it begins. Assumes nothing.
use Rattle.std.proofs.Common.{length, ◌-◌, ◌≤◌, ◌≡◌}
use Rattle.stock_replies.specs.Replies.{reply_size}
use Rattle.stock.specs.Lends.{Lends}
use Rattle.stock.proofs.answer.Given as goal

abbrev pub invariant-loop-at : goal.invariant-loop-at
invariant-loop-at g l =
    (l.at ≤ length l.piece) × (l.here.reading.fields ≤ 7) × Lends l.dir l.pages l.out
    × (reply_size ≤ length l.text)

abbrev pub decreases-loop-at : goal.decreases-loop-at
decreases-loop-at g l = length l.piece - l.at
