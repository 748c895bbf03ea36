-- The divisions down to depth y are done, and the counts past it are as they were.
use Rattle.std.proofs.Common.{◌≡◌, ◌+◌, ◌-◌, ◌<◌, get_or, ℕ}
use Rattle.change.specs.Divided.{divided_tally}
use Rattle.tally.proofs.divide.Given as goal

abbrev pub invariant-loop-y : goal.invariant-loop-y
invariant-loop-y l =
    (divided_tally l.y (l.x + l.n - l.y) l.divided.leaves ≡ divided_tally l.x l.n l.fn.tally.leaves)
    × ((z : ℕ) → l.y < z → get_or l.divided.leaves z 0 ≡ get_or l.fn.tally.leaves z 0)
