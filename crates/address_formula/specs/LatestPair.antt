-- The latest pair of an index vector, by the place 4k + j of pairs (k, j). Assumes nothing.
use Rattle.std.specs.Prelude.{ℕ, ◌+◌, ◌*◌, max, cond, List, eqb, get_or}
use Rattle.address.specs.Address.{highest_bit}

-- one more than the place of the pair of an index's highest bit, and 0 for index 0
unfoldable pub creating_pair : ℕ → ℕ → ℕ
creating_pair i j = cond (eqb i 0) 0 (4 * highest_bit 64 i + j + 1)

-- the latest of the four indices' pairs
unfoldable pub latest_pair : List ℕ → ℕ
latest_pair is =
    max (creating_pair (get_or is 0 0) 0)
    (max (creating_pair (get_or is 1 0) 1) (max (creating_pair (get_or is 2 0) 2) (creating_pair (get_or is 3 0) 3)))
