-- The place so far is that among the records from i on.
use Rattle.std.proofs.Common.{◌≡◌, ◌-◌}
use Rattle.page_matches.specs.KeyPlace.{key_place}
use Rattle.page_matches.proofs.find_among.Given as goal

abbrev pub invariant-loop-i : goal.invariant-loop-i
invariant-loop-i l = l.place ≡ key_place l.key l.page (l.k - l.i) l.i
