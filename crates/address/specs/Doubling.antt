-- The doubling array (document 01, "Address map"): the index vectors by their addresses, built step by step.
-- Assumes nothing.
use Rattle.std.specs.Prelude.{ℕ, zero, suc, ◌^◌, ◌<◌, List, [], ◌∷◌, ◌++◌, map}
use Rattle.split.specs.Steps.{Step, step, attribute_depth}

-- ---- boxes

-- n layers on the vectors of B: each with lo in front, then each with lo + 1, ..
unfoldable pub layers : ℕ → ℕ → List (List ℕ) → List (List ℕ)
layers lo zero B = []
layers lo (suc n) B = map (λ v. lo ∷ v) B ++ layers (suc lo) n B

-- all vectors with each index below its extent, ordered from the first index on, "the last fastest"
unfoldable pub box : List ℕ → List (List ℕ)
box [] = [] ∷ []
box (J ∷ Js) = layers 0 J (box Js)

-- a vector of the box: as many indices as extents, each below its extent
pub data In : List ℕ → List ℕ → Type 0 where
  done : In [] []
  also : {J i : ℕ} {Js is : List ℕ} → i < J → In Js is → In (J ∷ Js) (i ∷ is)

-- the numbers but that of attribute z
abbrev pub without : ℕ → List ℕ → List ℕ
without z [] = []
without zero (x ∷ xs) = xs
without (suc z) (x ∷ xs) = x ∷ without z xs

-- x put among them as that of attribute z
abbrev pub put_among : ℕ → ℕ → List ℕ → List ℕ
put_among zero x xs = x ∷ xs
put_among (suc z) x [] = x ∷ []
put_among (suc z) x (y ∷ ys) = y ∷ put_among z x ys

-- a vector whose first number is that of attribute z
abbrev pub move_first : ℕ → List ℕ → List ℕ
move_first z [] = []
move_first z (x ∷ xs) = put_among z x xs

-- ---- the array

-- the numbers 2^h_j after t steps
unfoldable pub sides : List ℕ → ℕ → List ℕ
sides ws t =
    2 ^ attribute_depth ws t 0
    ∷ 2 ^ attribute_depth ws t 1
    ∷ 2 ^ attribute_depth ws t 2
    ∷ 2 ^ attribute_depth ws t 3
    ∷ []

-- "step t appends 2^t addresses, holding the vectors whose new bit is set, ordered by i_z, then by the other indices
-- from attribute 0, the last fastest": with s = (k, z), i_z runs from 2^k to 2^(k+1) − 1
unfoldable pub appended : List ℕ → ℕ → Step → List (List ℕ)
appended ws t s =
    map (move_first s.attribute) (layers (2 ^ s.bit) (2 ^ s.bit) (box (without s.attribute (sides ws t))))

-- "size 1 with the zero vector at 0": the array after t steps; widths 1, 1 give (0,0), (1,0), (0,1), (1,1)
unfoldable pub doubling_array : List ℕ → ℕ → List (List ℕ)
doubling_array ws zero = (0 ∷ 0 ∷ 0 ∷ 0 ∷ []) ∷ []
doubling_array ws (suc t) = doubling_array ws t ++ appended ws t (step ws t)
