-- Laws of the whole table: all rows are there, and behind them what stays the same in a walk. Assumes nothing.
use Prim.Native.Nat.{ℕ, zero, suc, ◌+◌, ◌*◌, ◌≤◌, ◌<◌}
use mathlib.Core.Path.{◌≡◌, refl, sym, ap, ◌∙◌, subst}
use mathlib.Core.Bool.{true, cond}
use mathlib.Core.List.{List, [], ◌∷◌}
use mathlib.Core.Option.{Option, none}
use native.Mathlib.Omega.{arith}
use lib.Dec.{ltb}
use lib.ListN.{get_or, length}
use Rattle.shape.specs.Shape.{Fit, in_bounds, shape_number, widths_of, total}
use Rattle.shape.specs.Key.{per_attribute, encode_wanted, encoded_wanted}
use Rattle.shape.specs.declared.Shape.{Shape}
use Rattle.shape.proofs.AttributeLaws.{get_d-per_attribute}
use Rattle.shape.proofs.ShapeLaws.{shape_number-true, widths_of-fit}
use Rattle.split.specs.Steps.{step, steps}
use Rattle.split.proofs.StepLaws.{length-steps}
use Rattle.split.proofs.DepthLaws.{step_of, step-here}
use Rattle.region.specs.Query.{QueryBit, free}
use Rattle.record.proofs.KeyLaws.{length-steps-widths_of}
use Rattle.model.specs.Sets.{query_bit_of, query_bits}
use Rattle.record.specs.Lanes.{bias_key}
use Rattle.store.specs.declared.State.{State}
use Rattle.query_rows.specs.Private.{RowsFilled}
use Rattle.query_rows.specs.Rows.{wanted_at, step_row, Rows, tallied_depths, limited, Table, most_pages}
use Rattle.query_rows.proofs.LaneLaws.{four_numbers}
use Rattle.query_rows.proofs.StoreRunLaws.{get_d_sets_before, get_d_sets}

-- all rows
pub rows-filled : (ws : List ℕ) (q : ℕ → QueryBit) (t g x : ℕ) (rows : List ℕ) → RowsFilled ws q t g x rows → t ≤ x
    → Rows ws q t rows
rows-filled ws q t g x rows inv h = record {
  row = λ y i a b. inv.row y i (omega arith) b;
  fixed = λ y a. inv.fixed y (omega arith);
}

-- the rows of a query's encodings are the query's
module _ (s : Shape) (good : shape_number s ≡ 0) (wanted : List (Option ℕ)) where
  wanted_at-encoded : (t : ℕ) → t < total (widths_of s)
      → wanted_at (widths_of s) (encoded_wanted s wanted) t ≡ query_bits s wanted t
  unfolding query_bits encoded_wanted
  wanted_at-encoded t l =
      let ws = widths_of s in
      let st = step_of ws t (rw (length-steps-widths_of s good) l) in
      let j : ℕ = (step ws t).attribute in
      let below : j < 4 = rw (step-here ws (widths_of-fit s good) st.0 st.1 st.2 st.3 st.4) st.2 in
      ap (query_bit_of (get_or ws j 0) (step ws t).bit)
      (get_d-per_attribute (λ i. encode_wanted s i (get_or wanted i none)) none j below)

  pub rows-encoded : (t : ℕ) (rows : List ℕ) → t ≤ total (widths_of s)
      → Rows (widths_of s) (wanted_at (widths_of s) (encoded_wanted s wanted)) t rows
      → Rows (widths_of s) (query_bits s wanted) t rows
  unfolding step_row
  rows-encoded t rows h r = record {
    row = λ y i a b. r.row y i a b ∙ ap (λ q. get_or (row-with y q) i 0) (wanted_at-encoded y (omega arith));
    fixed = r.fixed;
  }
    where
      row-with : ℕ → QueryBit → List ℕ
      row-with y q = step_row (widths_of s) (λ t. q) y

-- the rows of a query that gives nothing are free in every step
module _ (ws : List ℕ) where
  abbrev nothing : List (Option ℕ)
  nothing = per_attribute (λ j. none)

  get_d-none : (j : ℕ) → get_or nothing j none ≡ none
  get_d-none zero = refl
  get_d-none (suc zero) = refl
  get_d-none (suc (suc zero)) = refl
  get_d-none (suc (suc (suc zero))) = refl
  get_d-none (suc (suc (suc (suc j)))) = refl

  pub rows-free : (t : ℕ) (rows : List ℕ) → Rows ws (wanted_at ws nothing) t rows → Rows ws (λ x. free) t rows
  unfolding step_row
  rows-free t rows r = record {
    row = λ y i a b. r.row y i a b ∙ ap (λ o. get_or (row-with y o) i 0) (get_d-none (step ws y).attribute);
    fixed = r.fixed;
  }
    where
      row-with : ℕ → Option ℕ → List ℕ
      row-with y o = step_row ws (λ t. query_bit_of (get_or ws (step ws y).attribute 0) (step ws y).bit o) y

-- and behind them P, b, T, the depths in the tally and the shape's bias
module _ (st : State) (rows : List ℕ) (deep : st.deepest ≤ 12) where
  -- what is put there
  abbrev more : List ℕ
  more = st.limits.pages ∷ st.shape.capacity ∷ st.deepest ∷ tallied_depths st.tally.leaves
      ∷ bias_key st.shape ∷ []

  -- the rows stay
  limited-row : (i : ℕ) → i < 78 → get_or (limited st rows) i 0 ≡ get_or rows i 0
  unfolding limited
  limited-row i h = get_d_sets_before rows 78 more i h

  pub Table-limited : (q : ℕ → QueryBit) → Rows (widths_of st.shape) q st.deepest rows → 83 ≤ length rows
      → Table st q (limited st rows)
  unfolding limited
  Table-limited q r lent =
      record {
        rows_of = record {
          row = λ x i l h. get_d_sets_before rows 78 more (x * 6 + i) (omega arith) ∙ r.row x i l h;
          fixed = λ x l. get_d_sets_before rows 78 more (x * 6 + 5) (omega arith) ∙ r.fixed x l;
        };
        pages = get_d_sets rows 78 more 0 (omega arith) (omega arith);
        capacity = get_d_sets rows 78 more 1 (omega arith) (omega arith);
        depth-of = get_d_sets rows 78 more 2 (omega arith) (omega arith);
        depths = get_d_sets rows 78 more 3 (omega arith) (omega arith);
        bias = get_d_sets rows 78 more 4 (omega arith) (omega arith);
      }

  most_pages-rows : (f x : ℕ) → x + f ≤ 12 → most_pages (limited st rows) f x ≡ most_pages rows f x
  unfolding most_pages
  most_pages-rows zero x h = refl
  most_pages-rows (suc f) x h =
      λ i. most_pages-rows f (x + 1) (omega arith) i
      * cond (ltb 1 (limited-row (x * 6 + 3) (omega arith) i)) 2 1

  pub most_pages-limited : most_pages (limited st rows) st.deepest 0 ≡ most_pages rows st.deepest 0
  most_pages-limited = most_pages-rows st.deepest 0 (omega arith)

-- ---- a shape within its bounds

-- its widths fit, and it has the steps
pub fit-steps : (s : Shape) (w0 w1 w2 w3 t : ℕ) → in_bounds s ≡ true → four_numbers w0 w1 w2 w3 ≡ widths_of s
    → t ≤ total (widths_of s) → (Fit (four_numbers w0 w1 w2 w3)) × (t ≤ length (steps (four_numbers w0 w1 w2 w3)))
fit-steps s w0 w1 w2 w3 t b e h =
    let fit : Fit (four_numbers w0 w1 w2 w3) = subst Fit (sym e) (widths_of-fit s (shape_number-true s b)) in
    (fit, omega (arith, length-steps w0 w1 w2 w3 fit, ap total e))
