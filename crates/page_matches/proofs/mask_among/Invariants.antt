-- The mask so far is that of the records from i on, cut to 64 bits.
use Rattle.std.proofs.Common.{◌≡◌, ◌-◌, ◌%◌, ◌^◌, ℕ, Bool, List}
use Rattle.page_matches.specs.Mask.{AnswersAs, match_mask}
use Rattle.page_matches.proofs.mask_among.Given as goal

abbrev pub invariant-loop-i : goal.invariant-loop-i
invariant-loop-i g l =
    (passed : List ℕ → Bool) → AnswersAs (goal.F-post g l.test) passed
    → l.mask ≡ match_mask passed l.page (l.k - l.i) l.i % 2 ^ 64
