-- Bits of an encoding and split bits of a key (document 01, "Shape and split steps"). Assumes nothing.
use Rattle.std.specs.Prelude.{ℕ, suc, ◌-◌, ◌/◌, ◌%◌, ◌^◌, Bool, List, eqb, get_or}
use Rattle.split.specs.Steps.{step}

-- "Bit 0 of an encoding is its most significant of w_j bits, bit 1 the next": bit 0 of 2 in two bits is 1
abbrev pub bit_of : ℕ → ℕ → ℕ → Bool
bit_of w v k = eqb (v / 2 ^ (w - suc k) % 2) 1

-- "The split bits of a key are its bits in this order." The key is given by its four encodings; a string of
-- split bits is a function of the step's number, of which so many bits count.
unfoldable pub split_bit : List ℕ → List ℕ → ℕ → Bool
split_bit ws key t = bit_of (get_or ws (step ws t).attribute 0) (get_or key (step ws t).attribute 0) (step ws t).bit
