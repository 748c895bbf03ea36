-- The range call's walk by rows sees what a walk over strings sees whose test of regions agrees with that of corners.
-- Assumes nothing.
use Prim.Native.Nat.{ℕ, zero, suc, ◌+◌, ◌*◌, ◌≤◌, ◌<◌}
use mathlib.Core.Path.{◌≡◌, ap, ◌∙◌}
use mathlib.Core.Bool.{Bool, true, false, cond}
use mathlib.Core.List.{List}
use native.Mathlib.Omega.{arith}
use lib.ListN.{get_or, length}
use Rattle.shape.specs.Shape.{Fit}
use Rattle.split.specs.Steps.{steps}
use Rattle.cell.specs.Cell.{cell, cell_address}
use Rattle.region.specs.Strings.{with_bit}
use Rattle.region.specs.Query.{QueryBit}
use Rattle.query_rows.specs.Corners.{Corner}
use Rattle.query_rows.specs.Rows.{value_bit, bit_in, value_in, Rows}
use Rattle.query_rows.specs.Vectors.{packed, row_address}
use Rattle.query_rows.proofs.CornerLaws.{Corner-lower, Corner-upper}
use Rattle.query_seen.specs.Seen.{Seen, nothing, damaged, after, met, seen}
use Rattle.query_walk.proofs.SideLaws.{by-lower, by-upper}
use Rattle.range_walk.specs.Private.{seen_meeting}

module _ (ws : List ℕ) (fit : Fit ws) (q : ℕ → QueryBit) (T : ℕ) (bits : T ≤ length (steps ws)) (twelve : T ≤ 12)
    (rows : List ℕ) (table : Rows ws q T rows) (words : List ℕ) (leaf : ℕ → (ℕ → Bool) → ℕ → Seen)
    (leaf_by : ℕ → ℕ → ℕ → Seen)
    -- both see a leaf alike
    (alike : (x : ℕ) (p : ℕ → Bool) (k w : ℕ) → x ≤ T → Corner ws x p k → leaf_by x k w ≡ leaf x p w)
    -- and enter the same regions
    (enter : ℕ → (ℕ → Bool) → Bool) (enters : ℕ → ℕ → Bool)
    (same : (x : ℕ) (p : ℕ → Bool) (k : ℕ) → x ≤ T → Corner ws x p k → enters x k ≡ enter x p) where
  abbrev word_over : ℕ → (ℕ → Bool) → ℕ
  word_over x p = get_or words (cell_address ws x p) 0

  abbrev over : ℕ → (ℕ → Bool) → ℕ → Seen
  over = seen word_over leaf enter T

  pub seen_meeting-seen : (f x : ℕ) (p : ℕ → Bool) (k : ℕ) → x + f ≡ T → Corner ws x p k
      → seen_meeting rows words leaf_by enters T f x (packed (cell ws x p)) k (word_over x p) ≡ over f p x
  unfolding seen_meeting seen
  seen_meeting-seen zero x p k e c =
      ap (λ s. met T x (word_over x p) s damaged) (alike x p k (word_over x p) (omega arith) c)
  seen_meeting-seen (suc f) x p k e c =
      λ i. met T x (word_over x p) (alike x p k (word_over x p) (omega arith) c i)
      (after (lower (seen_meeting-seen f (suc x) (with_bit p x false) k (omega arith) lower-corner) i)
      (upper (seen_meeting-seen f (suc x) (with_bit p x true) (k + value_bit ws x) (omega arith) upper-corner) i))
    where
      inner : x < T
      inner = omega arith

      step-lt : x < length (steps ws)
      step-lt = omega arith

      lower-corner : Corner ws (suc x) (with_bit p x false) k
      lower-corner = Corner-lower ws fit x step-lt p k c

      upper-corner : Corner ws (suc x) (with_bit p x true) (k + value_bit ws x)
      upper-corner = Corner-upper ws fit x step-lt p k c

      by : ℕ → ℕ → ℕ → ℕ → Seen
      by = seen_meeting rows words leaf_by enters T f

      -- the side of depth y with this vector, corner and word, if it is entered
      side : ℕ → ℕ → ℕ → ℕ → Seen
      side y v corner w = cond (enters y corner) (by y v corner w) nothing

      lower : by (suc x) (packed (cell ws (suc x) (with_bit p x false))) k (word_over (suc x) (with_bit p x false))
          ≡ over f (with_bit p x false) (suc x)
          → side (x + 1) (packed (cell ws x p)) k (word_over x p)
          ≡ cond (enter (suc x) (with_bit p x false)) (over f (with_bit p x false) (suc x)) nothing
      lower below =
          by-lower ws fit x step-lt p words (λ y v w. side y v k w)
          ∙ (λ i. cond (same (suc x) (with_bit p x false) k inner lower-corner i) (below i) nothing)

      upper : by (suc x) (packed (cell ws (suc x) (with_bit p x true))) (k + value_bit ws x)
          (word_over (suc x) (with_bit p x true))
          ≡ over f (with_bit p x true) (suc x)
          → side (x + 1) (packed (cell ws x p) + bit_in rows x) (k + value_in rows x)
          (get_or words (row_address rows (x * 6) (packed (cell ws x p) + bit_in rows x)) 0)
          ≡ cond (enter (suc x) (with_bit p x true)) (over f (with_bit p x true) (suc x)) nothing
      upper below =
          by-upper ws fit x step-lt p words side q T rows table inner twelve k
          ∙ (λ i. cond (same (suc x) (with_bit p x true) (k + value_bit ws x) inner upper-corner i) (below i) nothing)
