-- Which tallies a sound store can have. Assumes nothing.
use Rattle.std.specs.Prelude.{ℕ, ◌^◌, Bool, List, leb, get_or}
use Rattle.shape.specs.Shape.{all_below}

-- at each depth x from 0 to 12 at most 2^x leaves, as many as there are strings of x bits
unfoldable pub tally_holds : List ℕ → Bool
tally_holds leaves = all_below 13 (λ x. leb (get_or leaves x 0) (2 ^ x))
