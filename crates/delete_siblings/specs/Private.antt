-- A packed key with one split bit changed. Assumes nothing.
use Rattle.std.specs.Prelude.{ℕ, suc, ◌+◌, ◌-◌, ◌*◌, ◌/◌, ◌%◌, ◌^◌, List, get_or}
use Rattle.std.specs.Int.Bits.{bit_xor}

-- the other bit at the pair at place g, which is bit g / 4 of attribute g mod 4
abbrev pub flipped_key : List ℕ → ℕ → ℕ → ℕ
flipped_key ws g key = bit_xor key (2 ^ (16 * (g % 4) + (get_or ws (g % 4) 0 - suc (g / 4))))
