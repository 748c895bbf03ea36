-- Cells (document 01, "Lent memory"): the index vector of a string of split bits. A string is a function of the step's
-- number, of which so many bits count: a key's split bits, a region's, a cell's are one kind of thing. Assumes nothing.
use Rattle.std.specs.Prelude.{ℕ, zero, suc, ◌+◌, ◌*◌, ◌^◌, ◌<◌, ◌≡◌, Bool, List, [], ◌∷◌}
use Rattle.split.specs.Steps.{bit_value, step_number, attribute_depth}
use Rattle.address.specs.Address.{address}

-- "sums β_k × 2^k over k < h": β = 1, 0, 1 gives 5
unfoldable pub sum_bits : (ℕ → Bool) → ℕ → ℕ
sum_bits β zero = 0
sum_bits β (suc h) = sum_bits β h + bit_value (β h) * 2 ^ h

-- "β_k being bit k of attribute j": in a string, the bit at the step (k, j)
abbrev pub attribute_bit : List ℕ → (ℕ → Bool) → ℕ → ℕ → Bool
attribute_bit ws p j k = p (step_number ws k j)

-- "A cell's index i_j sums β_k × 2^k over k < h_j": the cell of the first t bits of a string
unfoldable pub cell : List ℕ → ℕ → (ℕ → Bool) → List ℕ
cell ws t p =
    sum_bits (attribute_bit ws p 0) (attribute_depth ws t 0)
    ∷ sum_bits (attribute_bit ws p 1) (attribute_depth ws t 1)
    ∷ sum_bits (attribute_bit ws p 2) (attribute_depth ws t 2)
    ∷ sum_bits (attribute_bit ws p 3) (attribute_depth ws t 3)
    ∷ []

-- where the cell stands in the directory
unfoldable pub cell_address : List ℕ → ℕ → (ℕ → Bool) → ℕ
cell_address ws t p = address ws (cell ws t p)

-- the first t bits of two strings agree
abbrev pub Agree : ℕ → (ℕ → Bool) → (ℕ → Bool) → Type 0
Agree t p q = (s : ℕ) → s < t → p s ≡ q s
