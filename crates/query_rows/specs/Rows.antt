-- The table that a walk uses: a row for each depth, the numbers that stay the same in a walk, and how many pages the
-- rows let a walk note. Assumes nothing.
use Rattle.std.specs.Prelude.{ℕ, zero, suc, ◌+◌, ◌*◌, ◌-◌, ◌/◌, ◌%◌, ◌^◌, ◌≤◌, ◌<◌, min, ◌≡◌, Bool, true, false, cond, List, [], ◌∷◌, eqb, leb, ltb, get_or, set, drop}
use Rattle.std.proofs.Math.Option.{Option, none}
use Rattle.shape.specs.Shape.{in_bounds, widths_of, total}
use Rattle.shape.specs.declared.Shape.{Shape}
use Rattle.split.specs.Steps.{step, attribute_depth, bit_value}
use Rattle.region.specs.Query.{QueryBit, free, given}
use Rattle.record.specs.Lanes.{bias_key}
use Rattle.page_ends.specs.Ends.{fixed_bits}
use Rattle.model.specs.Sets.{query_bit_of}
use Rattle.store.specs.declared.State.{State}
use Rattle.query_rows.specs.declared.Row.{Row}
use Rattle.std.proofs.lemmas.List.Edits.{sets}

-- the depths of the four attributes after t steps
abbrev pub attribute_depths : List ℕ → ℕ → List ℕ
attribute_depths ws t =
    attribute_depth ws t 0 ∷ attribute_depth ws t 1 ∷ attribute_depth ws t 2 ∷ attribute_depth ws t 3 ∷ []

-- how far index j is shifted in the address of a cell that a step of attribute z appended, before which the depths are
-- hs: "the product of all J_j with j ≠ z" for z, "the product of those J_r with r > j and r ≠ z" for another
unfoldable pub shift_of : ℕ → List ℕ → ℕ → ℕ
shift_of z hs j = cond (eqb j z) (total (set hs z 0)) (total (drop (suc j) (set hs z 0)))

-- the depth of attribute j of w bits just before the pair at place g; 0 for the attribute of the pair
abbrev pub other_depth : ℕ → ℕ → ℕ → ℕ
other_depth w g j = cond (eqb j (g % 4)) 0 (min w ((g + 3 - j) / 4))

-- what a query says of a bit, as a number
abbrev pub wanted_number : QueryBit → ℕ
wanted_number free = 2
wanted_number (given false) = 0
wanted_number (given true) = 1

-- what a query says of split step t, by the widths and its values' encodings
abbrev pub wanted_at : List ℕ → List (Option ℕ) → ℕ → QueryBit
wanted_at ws wanted t =
    query_bit_of (get_or ws (step ws t).attribute 0) (step ws t).bit (get_or wanted (step ws t).attribute none)

-- the bit that a step sets in a packed key
abbrev pub value_bit : List ℕ → ℕ → ℕ
value_bit ws t =
    2 ^ (16 * (step ws t).attribute + (get_or ws (step ws t).attribute 0 - suc (step ws t).bit))

-- what two indices of 16 bits in one number are multiplied by, so that in bits 16 to 31 stands the first shifted by s
-- plus the second shifted by r: for s = 2, r = 0 the number 3 + 2^16 × 1 gives 13
abbrev pub multiplier : ℕ → ℕ → ℕ
multiplier s r = 2 ^ 16 * 2 ^ s + 2 ^ r

-- five numbers for a step: the multipliers of the indices 0 and 1 and of 2 and 3, the bit that it sets in a vector of
-- 16-bit lanes, what the query wants, and the bit that it sets in a packed key
unfoldable pub step_row : List ℕ → (ℕ → QueryBit) → ℕ → List ℕ
step_row ws q t =
    let z = (step ws t).attribute in
    multiplier (shift_of z (attribute_depths ws t) 0) (shift_of z (attribute_depths ws t) 1)
    ∷ multiplier (shift_of z (attribute_depths ws t) 2) (shift_of z (attribute_depths ws t) 3)
    ∷ 2 ^ (16 * z + (step ws t).bit)
    ∷ wanted_number (q t)
    ∷ value_bit ws t
    ∷ []

-- a row as a list
abbrev pub row_list : Row → List ℕ
row_list r = r.low ∷ r.high ∷ r.bit ∷ r.wanted ∷ r.value ∷ []

-- ---- the table

-- of the row of depth x: the bit in a vector, what the query wants, the bit in a packed key, and the fixed bits
abbrev pub bit_in : List ℕ → ℕ → ℕ
bit_in rows x = get_or rows (x * 6 + 2) 0

abbrev pub wanted_bit_in : List ℕ → ℕ → ℕ
wanted_bit_in rows x = get_or rows (x * 6 + 3) 0

abbrev pub value_in : List ℕ → ℕ → ℕ
value_in rows x = get_or rows (x * 6 + 4) 0

abbrev pub fixed_in : List ℕ → ℕ → ℕ
fixed_in rows x = get_or rows (x * 6 + 5) 0

-- rows of six numbers: those of the steps below t, and the bits of a packed key that are fixed at each depth up to t
pub record Rows (ws : List ℕ) (q : ℕ → QueryBit) (t : ℕ) (rows : List ℕ) : Type 0 where
  pub row : (x i : ℕ) → x < t → i < 5 → get_or rows (x * 6 + i) 0 ≡ get_or (step_row ws q x) i 0
  pub fixed : (x : ℕ) → x ≤ t → fixed_in rows x ≡ fixed_bits ws x

-- what the rows of t steps ask of a shape and of a table of this length
pub record RowsAsked (s : Shape) (t room : ℕ) : Type 0 where
  pub shape : in_bounds s ≡ true
  pub deep : t ≤ 12
  pub bits : t ≤ total (widths_of s)
  pub table-lent : 83 ≤ room

-- ---- the numbers behind the rows

-- P, b and T
abbrev pub pages_in : List ℕ → ℕ
pages_in rows = get_or rows 78 0

abbrev pub capacity_in : List ℕ → ℕ
capacity_in rows = get_or rows 79 0

abbrev pub deepest_in : List ℕ → ℕ
deepest_in rows = get_or rows 80 0

-- the depths that have a leaf in the tally
abbrev pub tallied_in : List ℕ → ℕ
tallied_in rows = get_or rows 81 0

-- what is added to packed fields
abbrev pub bias_in : List ℕ → ℕ
bias_in rows = get_or rows 82 0

-- a bit for each number of a list, the first lowest: 1 where it is not 0
unfoldable pub tallied_depths : List ℕ → ℕ
tallied_depths [] = 0
tallied_depths (n ∷ ns) = bit_value (leb 1 n) + 2 * tallied_depths ns

-- depth x is among those in one number
unfoldable pub has_depth : ℕ → ℕ → Bool
has_depth depths x = eqb (depths / 2 ^ x % 2) 1

-- P, b, T, the depths in the tally and the shape's bias put there
unfoldable pub limited : State → List ℕ → List ℕ
limited st rows =
    sets rows 78
    (st.limits.pages
    ∷ st.shape.capacity
    ∷ st.deepest
    ∷ tallied_depths st.tally.leaves
    ∷ bias_key st.shape
    ∷ [])

-- the table of a state and a query
pub record Table (st : State) (q : ℕ → QueryBit) (rows : List ℕ) : Type 0 where
  pub rows_of : Rows (widths_of st.shape) q st.deepest rows
  pub pages : pages_in rows ≡ st.limits.pages
  pub capacity : capacity_in rows ≡ st.shape.capacity
  pub depth-of : deepest_in rows ≡ st.deepest
  pub depths : tallied_in rows ≡ tallied_depths st.tally.leaves
  pub bias : bias_in rows ≡ bias_key st.shape

-- ---- how many pages

-- the most pages that a walk by these rows notes from a region of depth x on, with f steps left: both sides of a step
-- count where the query is free
unfoldable pub most_pages : List ℕ → ℕ → ℕ → ℕ
most_pages rows zero x = 1
most_pages rows (suc f) x = most_pages rows f (x + 1) * cond (ltb 1 (wanted_bit_in rows x)) 2 1
