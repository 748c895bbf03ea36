-- Index vectors with the bit of one pair set or cleared, by the pair's place g. Assumes nothing.
use Rattle.std.specs.Prelude.{ℕ, ◌+◌, ◌-◌, ◌/◌, ◌%◌, ◌^◌, List, get_or, set}

-- the vector with the bit of the pair at place g set, and cleared
abbrev pub bit_set : ℕ → List ℕ → List ℕ
bit_set g is = set is (g % 4) (get_or is (g % 4) 0 + 2 ^ (g / 4))

abbrev pub bit_cleared : ℕ → List ℕ → List ℕ
bit_cleared g is = set is (g % 4) (get_or is (g % 4) 0 - 2 ^ (g / 4))
