-- Shapes and their widths (document 01, "Shape and split steps"; document 02, request 7). Assumes nothing.
use Rattle.std.specs.Prelude.{ℕ, zero, suc, ◌+◌, ◌^◌, ◌≤◌, Bool, true, cond, not, ◌&&◌, List, [], ◌∷◌, leb, ltb, get_or}
use Rattle.shape.specs.Refusal.{Condition, refusal, refusal_with, first_number}
use Rattle.shape.specs.declared.Shape.{Shape}
use Rattle.shape.specs.declared.Widths.{Widths}

-- ---- bounds

-- from lo to hi, both included
abbrev pub within : ℕ → ℕ → ℕ → Bool
within lo hi x = leb lo x && leb x hi

-- each number below n passes a test
abbrev pub all_below : ℕ → (ℕ → Bool) → Bool
all_below zero test = true
all_below (suc n) test = all_below n test && test n

-- "the attribute count d (1–4)"
abbrev pub count_fits : Shape → Bool
count_fits s = within 1 4 s.attributes

-- "a width w_j in bits .. (1–16)"
abbrev pub width_fits : Shape → ℕ → Bool
width_fits s j = within 1 16 (get_or s.widths j 0)

-- "for each attribute j (.. j from 0 to d−1)"
abbrev pub widths_fit : Shape → Bool
widths_fit s = all_below s.attributes (λ j. width_fits s j)

-- "a page capacity b (1–16 records)"
abbrev pub capacity_fits : Shape → Bool
capacity_fits s = within 1 16 s.capacity

-- "A shape is: the attribute count d .., a width .., and a page capacity b"
unfoldable pub in_bounds : Shape → Bool
in_bounds s = count_fits s && (widths_fit s && capacity_fits s)

-- ---- what is amiss

-- the lowest number below n that passes a test; n if none does
abbrev pub lowest_below : ℕ → (ℕ → Bool) → ℕ
lowest_below zero test = 0
lowest_below (suc n) test = cond (test 0) 0 (suc (lowest_below n (λ j. test (suc j))))

-- attribute j is one of the shape, and has "a width outside 1–16"
abbrev pub bad_width : Shape → ℕ → Bool
bad_width s j = ltb j s.attributes && not (width_fits s j)

-- "A bad width names its attribute, the lowest where there are several.": of the four that a shape may have
unfoldable pub lowest_bad : Shape → ℕ
lowest_bad s = lowest_below 4 (bad_width s)

-- "Number 1 remains for the attribute count"; "14, a width outside 1–16, after 1; then 15, capacity outside 1–16; both
-- before 2": the first rows of the table, for every call that is given a shape
unfoldable pub shape_conditions : Shape → List Condition
shape_conditions s =
    refusal 1 (not (count_fits s))
    ∷ refusal_with 14 (not (widths_fit s)) (lowest_bad s)
    ∷ refusal 15 (not (capacity_fits s))
    ∷ []

-- 0 for a shape within its bounds
unfoldable pub shape_number : Shape → ℕ
shape_number s = first_number (shape_conditions s)

-- ---- widths

-- "Widths past d are ignored": they count as 0. An attribute of width 0 has no bits and the value 0 alone.
abbrev pub width_of : Shape → ℕ → ℕ
width_of s j = cond (ltb j s.attributes) (get_or s.widths j 0) 0

-- the widths of the four attributes: d = 2 with widths 5, 7, 9, 9 has 5, 7, 0, 0
unfoldable pub widths_of : Shape → List ℕ
widths_of s = width_of s 0 ∷ width_of s 1 ∷ width_of s 2 ∷ width_of s 3 ∷ []

-- "W is the sum of the widths."
abbrev pub total : List ℕ → ℕ
total [] = 0
total (w ∷ ws) = w + total ws

-- the widths as the code hands them on
abbrev pub width_list : Widths → List ℕ
width_list w = w.w0 ∷ w.w1 ∷ w.w2 ∷ w.w3 ∷ []

-- widths of at most 16 bits, as those of a shape within its bounds
abbrev pub Fit : List ℕ → Type 0
Fit ws = (j : ℕ) → get_or ws j 0 ≤ 16

-- ---- values

-- "value or index of 2^w_j or more .. unused key or index value not 0" is not so: 2 ^ 0 is 1, so an unused one is 0
abbrev pub index_fits : List ℕ → List ℕ → Bool
index_fits [] is = true
index_fits (w ∷ ws) [] = true
index_fits (w ∷ ws) (i ∷ is) = ltb i (2 ^ w) && index_fits ws is
