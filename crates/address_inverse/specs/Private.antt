-- What only the contracts of private functions cite: digits of an address, where J is the number 2^h_j of attribute j,
-- z the attribute of the latest step. Assumes nothing.
use Rattle.std.specs.Prelude.{ℕ, ◌/◌, ◌%◌, cond, eqb}

-- the digit of attribute j taken off
unfoldable pub drop_digit : ℕ → ℕ → ℕ → ℕ → ℕ
drop_digit a J j z = cond (eqb j z) a (a / J)

-- that digit; for attribute z, what stands in front
unfoldable pub digit_of : ℕ → ℕ → ℕ → ℕ → ℕ → ℕ
digit_of x a J j z = cond (eqb j z) x (a % J)
