-- The attributes below j are allowed.
use Rattle.std.proofs.Common.{◌≡◌, ◌||◌, not, true, ltb, get_or}
use Rattle.std.proofs.Math.Option.{none}
use Rattle.shape.specs.Shape.{all_below}
use Rattle.shape.specs.Key.{wanted_values, is_given}
use Rattle.query_number.proofs.names_unused.Given as goal

abbrev pub invariant-loop-j : goal.invariant-loop-j
invariant-loop-j l =
    all_below l.j
    (λ i. ltb i l.fn.shape.attributes || not (is_given (get_or (wanted_values l.fn.query) i none))) ≡ true
