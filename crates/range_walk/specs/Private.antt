-- The range call's walk by rows: what it sees below a region. Assumes nothing.
use Rattle.std.specs.Prelude.{ℕ, zero, suc, ◌+◌, ◌*◌, Bool, cond, List, get_or}
use Rattle.query_rows.specs.Rows.{bit_in, value_in, fixed_in}
use Rattle.query_rows.specs.Vectors.{row_address}
use Rattle.query_seen.specs.Seen.{Seen, nothing, damaged, after, met}
use Rattle.range_walk.specs.Meeting.{corner_meets}

-- the test of a depth and a corner by the table
abbrev pub meets_by_row : List ℕ → ℕ → ℕ → ℕ → ℕ → Bool
meets_by_row rows low high x corner = corner_meets (fixed_in rows x) low high corner

-- `enters` tests a depth and a corner
module _ (rows words : List ℕ) (leaf : ℕ → ℕ → ℕ → Seen) (enters : ℕ → ℕ → Bool) (T : ℕ) where
  -- from the region of depth x with this vector and corner, whose word is handed down
  unfoldable pub seen_meeting : ℕ → ℕ → ℕ → ℕ → ℕ → Seen
  seen_meeting zero x v corner word = met T x word (leaf x corner word) damaged
  seen_meeting (suc f) x v corner word =
      met T x word (leaf x corner word)
      (after (cond (enters (x + 1) corner) (seen_meeting f (x + 1) v corner word) nothing)
      (cond (enters (x + 1) (corner + value_in rows x))
      (seen_meeting f (x + 1) (v + bit_in rows x) (corner + value_in rows x)
      (get_or words (row_address rows (x * 6) (v + bit_in rows x)) 0))
      nothing))
