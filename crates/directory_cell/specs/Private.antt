-- What only the contract of a private function cites. Assumes nothing.
use Rattle.std.specs.Prelude.{ℕ, ◌+◌, ◌*◌, ◌/◌, ◌%◌}

-- four bits in reverse order: 3 (0011) gives 12 (1100)
abbrev pub reversed_bits : ℕ → ℕ
reversed_bits n = n % 2 * 8 + n / 2 % 2 * 4 + n / 4 % 2 * 2 + n / 8 % 2
