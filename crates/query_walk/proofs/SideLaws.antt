-- Laws of the two sides of a region that a turn hands down by rows: they are those of its string with one bit more, for
-- whatever is seen of a depth, a vector, a corner and a word. Assumes nothing.
use Prim.Native.Nat.{ℕ, suc, ◌+◌, ◌*◌, ◌≤◌, ◌<◌}
use mathlib.Core.Path.{◌≡◌, sym, ap, ◌∙◌}
use mathlib.Core.Bool.{Bool, true, false}
use mathlib.Core.List.{List}
use native.Mathlib.Omega.{arith}
use native.Mathlib.Numerals.{add-one}
use lib.ListN.{get_or, length}
use Rattle.shape.specs.Shape.{Fit}
use Rattle.split.specs.Steps.{steps}
use Rattle.address.specs.Address.{address}
use Rattle.cell.specs.Cell.{cell, cell_address}
use Rattle.cell.proofs.HalfLaws.{cell-lower}
use Rattle.region.specs.Strings.{with_bit}
use Rattle.region.specs.Query.{QueryBit}
use Rattle.region.proofs.StringLaws.{with_bit-same}
use Rattle.query_rows.specs.Rows.{value_bit, step_row, bit_in, value_in, Rows}
use Rattle.query_rows.specs.Vectors.{packed, row_address}
use Rattle.query_rows.proofs.VectorLaws.{packed-upper, row_address-cell}
use Rattle.query_seen.specs.Seen.{Seen}

module _ (ws : List ℕ) (fit : Fit ws) (x : ℕ) (step-lt : x < length (steps ws)) (p : ℕ → Bool) (words : List ℕ) where
  abbrev word_over : ℕ → (ℕ → Bool) → ℕ
  word_over y r = get_or words (cell_address ws y r) 0

  -- the 0-side has the region's vector and word
  pub by-lower : (by : ℕ → ℕ → ℕ → Seen)
      → by (x + 1) (packed (cell ws x p)) (word_over x p)
      ≡ by (suc x) (packed (cell ws (suc x) (with_bit p x false))) (word_over (suc x) (with_bit p x false))
  unfolding cell_address
  by-lower by =
      ap (λ y. by y (packed (cell ws x p)) (word_over x p)) (add-one x)
      ∙ ap (λ v. by (suc x) (packed v) (get_or words (address ws v) 0)) (sym (cell-lower ws fit x step-lt p))

  module _ (by : ℕ → ℕ → ℕ → ℕ → Seen) (q : ℕ → QueryBit) (T : ℕ) (rows : List ℕ) (table : Rows ws q T rows)
      (inner : x < T) (twelve : T ≤ 12) (k : ℕ) where
    abbrev upper_vector : ℕ
    upper_vector = packed (cell ws (suc x) (with_bit p x true))

    vector : packed (cell ws x p) + bit_in rows x ≡ upper_vector
    unfolding step_row
    vector =
        ap (λ y. packed (cell ws x p) + y) (table.row x 2 inner (omega arith))
        ∙ sym (packed-upper ws fit x step-lt p)

    value : value_in rows x ≡ value_bit ws x
    unfolding step_row
    value = table.row x 4 inner (omega arith)

    -- the 1-side of depth y with this vector and the bit b in its corner
    abbrev upper_by : ℕ → ℕ → ℕ → Seen
    upper_by y v b = by y v (k + b) (get_or words (row_address rows (x * 6) v) 0)

    -- the 1-side's vector, corner and address are by the row
    pub by-upper : upper_by (x + 1) (packed (cell ws x p) + bit_in rows x) (value_in rows x)
        ≡ by (suc x) upper_vector (k + value_bit ws x) (word_over (suc x) (with_bit p x true))
    by-upper =
        ap (λ y. upper_by y (packed (cell ws x p) + bit_in rows x) (value_in rows x)) (add-one x)
        ∙ ap (λ v. upper_by (suc x) v (value_in rows x)) vector
        ∙ ap (upper_by (suc x) upper_vector) value
        ∙ ap (λ a. by (suc x) upper_vector (k + value_bit ws x) (get_or words a 0))
        (row_address-cell ws fit x step-lt (with_bit p x true) q T rows table inner twelve (with_bit-same p x true))
