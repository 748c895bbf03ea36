-- The search so far is the search from page p on.
use Rattle.std.proofs.Common.{◌≡◌, ◌-◌, ◌≤◌, max}
use Rattle.pages.specs.Pages.{first_free}
use Rattle.pages.proofs.free_from.Given as goal

abbrev pub invariant-loop-p : goal.invariant-loop-p
invariant-loop-p l =
    (l.p ≤ max l.n l.start)
    × (first_free l.capacity l.pages (l.n - l.start) l.start ≡ first_free l.capacity l.pages (l.n - l.p) l.p)
