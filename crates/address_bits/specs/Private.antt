-- What only the contract of a private function cites. Assumes nothing.
use Rattle.std.specs.Prelude.{ℕ, cond, eqb}

-- x for attribute z, 0 for the others
unfoldable pub only_at : ℕ → ℕ → ℕ → ℕ
only_at x j z = cond (eqb j z) x 0
