-- The scan of records in split order, each of which joins those before it: 6 and 7 by the first split steps in which
-- neighbours differ, none further apart than b places (document 02, request 5: "6 and 7 at the first record that meets
-- them"). Assumes nothing.
use Rattle.std.specs.Prelude.{ℕ, zero, suc, ◌+◌, ◌-◌, Bool, ◌&&◌, ◌||◌, cond, List, [], ◌∷◌, leb, ltb, eqb}
use Rattle.shape.specs.Refusal.{Condition, refusal}
use Rattle.record.specs.Packed.{unpacked_key}
use Rattle.key_order.specs.Order.{first_step}
use Rattle.file.specs.File.{encodings_at}

-- the first split step in which records i and j of a file differ, by the widths and the bias that a shape adds to its
-- values; W where they do not
abbrev pub file_step : List ℕ → ℕ → List ℕ → ℕ → ℕ → ℕ
file_step ws bias file i j = first_step ws (unpacked_key (encodings_at bias file i)) (unpacked_key (encodings_at bias file j))

-- record i starts one non-empty leaf more: it is the first; or it lies outside the leaf of depth x that record i − 1
-- lies in, as they differ at step `near`; or that leaf is divided, as it is full: record i − b, which differs from
-- record i − 1 at step `far`, lies in it too
abbrev pub starts_by : ℕ → ℕ → ℕ → ℕ → ℕ → Bool
starts_by b i x near far = eqb i 0 || (ltb near x || (leb b i && leb x far))

-- `step i j` is the first split step in which records i and j differ; a leaf has b records at most
module _ (step : ℕ → ℕ → ℕ) (b : ℕ) where
  -- the depth of record i's leaf among the first i + 1: b + 1 of them do not share one
  abbrev pub depth_at : ℕ → ℕ
  depth_at i = cond (ltb i b) 0 (suc (step (i - b) i))

  -- record i starts one more than the i before it have
  abbrev pub starts_leaf : ℕ → Bool
  starts_leaf i = starts_by b i (depth_at (i - 1)) (step (i - 1) i) (step (i - b) (i - 1))

  -- the non-empty leaves of the first i + 1, from those of the first i
  abbrev pub leaves_with : ℕ → ℕ → ℕ
  leaves_with i c = c + cond (starts_leaf i) 1 0

  -- 6 and 7 of the n records from i on, the first i having c non-empty leaves, at a depth limit and a page limit
  abbrev pub scan_conditions : ℕ → ℕ → ℕ → ℕ → ℕ → List Condition
  scan_conditions L P zero i c = []
  scan_conditions L P (suc n) i c =
      refusal 6 (ltb L (depth_at i)) ∷ refusal 7 (ltb P (leaves_with i c)) ∷ scan_conditions L P n (suc i) (leaves_with i c)
