-- Split steps and depths (document 01, "Shape and split steps"), over the widths of the four attributes.
-- Assumes nothing.
use Rattle.std.specs.Prelude.{ℕ, zero, suc, ◌+◌, ◌*◌, ◌/◌, ◌%◌, Bool, true, false, cond, List, [], ◌∷◌, ◌++◌, ltb, eqb, get_or, take, length}

-- "the pairs (bit k, attribute j)"
pub record Step : Type 0 where
  pub bit : ℕ
  pub attribute : ℕ

-- "ordered by k, then by j": pair 0 is (0, 0), pair 3 is (0, 3), pair 4 is (1, 0)
abbrev pub pair : ℕ → Step
pair g = record { bit = g / 4; attribute = g % 4 }

-- the pairs "with k < w_j" among the first g
unfoldable pub steps_below : List ℕ → ℕ → List Step
steps_below ws zero = []
steps_below ws (suc g) = steps_below ws g ++ cond (ltb (g / 4) (get_or ws (g % 4) 0)) (pair g ∷ []) []

-- "Split steps": a width is at most 16, so that each stands among the first 64 pairs
unfoldable pub steps : List ℕ → List Step
steps ws = steps_below ws 64

-- "They are numbered from 0 to W−1": the step with number t
unfoldable pub step : List ℕ → ℕ → Step
step ws t = get_or (steps ws) t (pair 0)

-- the number of the step (k, j): how many stand before it
unfoldable pub step_number : List ℕ → ℕ → ℕ → ℕ
step_number ws k j = length (steps_below ws (4 * k + j))

-- 1 for true, 0 for false
abbrev pub bit_value : Bool → ℕ
bit_value true = 1
bit_value false = 0

-- how many of these steps are of attribute j
unfoldable pub steps_of : ℕ → List Step → ℕ
steps_of j [] = 0
steps_of j (s ∷ ss) = bit_value (eqb s.attribute j) + steps_of j ss

-- "After T steps, attribute j has depth h_j: the number of its steps below T."
unfoldable pub attribute_depth : List ℕ → ℕ → ℕ → ℕ
attribute_depth ws t j = steps_of j (take t (steps ws))
