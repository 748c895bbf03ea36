-- The address of an index vector by the formula (document 01, "Address map"). Assumes nothing.
use Rattle.std.specs.Prelude.{ℕ, zero, suc, ◌+◌, ◌*◌, ◌^◌, max, cond, List, [], ◌∷◌, leb, eqb, get_or}
use Rattle.split.specs.Steps.{step, step_number}
use Rattle.address.specs.Doubling.{without, sides}

-- "s_j, where 2^s_j is the highest power of two in i_j": the greatest s below n with 2^s at most i, for i above 0
unfoldable pub highest_bit : ℕ → ℕ → ℕ
highest_bit zero i = 0
highest_bit (suc n) i = cond (leb (2 ^ n) i) n (highest_bit n i)

-- "for each non-zero i_j take the step of bit s_j": one more than its number, and 0 for i_j = 0
unfoldable pub created_by : List ℕ → ℕ → ℕ → ℕ
created_by ws j i = cond (eqb i 0) 0 (suc (step_number ws (highest_bit 64 i) j))

-- one more than the number of the latest of these steps, and 0 for the zero vector
unfoldable pub latest_step : List ℕ → List ℕ → ℕ
latest_step ws is =
    max (created_by ws 0 (get_or is 0 0))
    (max (created_by ws 1 (get_or is 1 0)) (max (created_by ws 2 (get_or is 2 0)) (created_by ws 3 (get_or is 3 0))))

abbrev pub product : List ℕ → ℕ
product [] = 1
product (J ∷ Js) = J * product Js

-- the sum over j of i_j times the product of those J_r with r > j
abbrev pub rank : List ℕ → List ℕ → ℕ
rank [] is = 0
rank (J ∷ Js) [] = 0
rank (J ∷ Js) (i ∷ is) = i * product Js + rank Js is

-- "i_z times the product of all J_j with j ≠ z, plus the sum over j ≠ z of i_j times the product of those J_r with
-- r > j and r ≠ z"
unfoldable pub formula : ℕ → List ℕ → List ℕ → ℕ
formula z Js is = get_or is z 0 * product (without z Js) + rank (without z Js) (without z is)

-- "Let z be the attribute whose step is latest, and J_j the number 2^h_j just before that step": by latest_step's number
unfoldable pub address_from : List ℕ → List ℕ → ℕ → ℕ
address_from ws is zero = 0
address_from ws is (suc t) = formula (step ws t).attribute (sides ws t) is

-- the address of an index vector: with widths 2, 2 that of (3,1) is 7
unfoldable pub address : List ℕ → List ℕ → ℕ
address ws is = address_from ws is (latest_step ws is)
