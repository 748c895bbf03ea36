-- Addresses digit by digit: J is the number 2^h_j of attribute j, z the attribute of the latest step. Assumes nothing.
use Rattle.std.specs.Prelude.{ℕ, ◌+◌, ◌*◌, cond, eqb}

-- one digit more, that of attribute j; index z stands in front already
unfoldable pub append_digit : ℕ → ℕ → ℕ → ℕ → ℕ → ℕ
append_digit a J i j z = cond (eqb j z) a (a * J + i)
