-- Pairs (bit k, attribute j) by their place g = 4k + j among all pairs, the order of the split steps (document 01,
-- "Shape and split steps"). Assumes nothing.
use Rattle.std.specs.Prelude.{ℕ, ◌+◌, ◌-◌, ◌/◌, ◌%◌, ◌≤◌, ◌<◌, ◌≡◌, Bool, List, get_or, length}
use Rattle.split.specs.Steps.{steps_below}
use Rattle.split.specs.Bits.{bit_of}

-- "the pairs (bit k, attribute j) with k < w_j": the pair at place g is a split step
abbrev pub IsStep : List ℕ → ℕ → Type 0
IsStep ws g = g / 4 < get_or ws (g % 4) 0

-- how many bits of attribute j have a place before g
abbrev pub bits_before : ℕ → ℕ → ℕ
bits_before g j = (g + 3 - j) / 4

-- bit k of attribute j of a key, which is given by its four encodings
abbrev pub pair_bit : List ℕ → List ℕ → ℕ → Bool
pair_bit ws key g = bit_of (get_or ws (g % 4) 0) (get_or key (g % 4) 0) (g / 4)

-- t steps are before place g
pub record StepsBefore (ws : List ℕ) (t g : ℕ) : Type 0 where
  pub low : g ≤ 64
  pub before : length (steps_below ws g) ≡ t

-- the pair at place g is the step with number t
pub record StepPair (ws : List ℕ) (t g : ℕ) : Type 0 where
  pub low : g < 64
  pub live : IsStep ws g
  pub before : length (steps_below ws g) ≡ t
