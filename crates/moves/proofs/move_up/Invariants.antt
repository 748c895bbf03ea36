-- All but the first `left` bytes are moved.
use Rattle.std.proofs.Common.{◌≡◌, ◌+◌, ◌-◌, drop}
use Rattle.std.proofs.Math.Seq.{paste}
use Rattle.moves.proofs.move_up.Given as goal

abbrev pub invariant-loop-left : goal.invariant-loop-left
invariant-loop-left l = l.bytes ≡ paste l.initial.bytes (l.to + l.left) (drop (l.from + l.left) l.initial.bytes) (l.n - l.left)
