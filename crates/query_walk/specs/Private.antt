-- The query's walk by rows: what it sees below a region, and what the test of a page asks. Assumes nothing.
use Rattle.std.specs.Prelude.{ℕ, zero, suc, ◌+◌, ◌*◌, ◌≤◌, ◌<◌, cond, List, eqb, get_or}
use Rattle.query_rows.specs.Rows.{bit_in, wanted_bit_in, value_in, pages_in, capacity_in}
use Rattle.query_rows.specs.Vectors.{row_address}
use Rattle.query_seen.specs.Seen.{Seen, damaged, after, met}
use Rattle.query_walk.specs.Turns.{PagesWithin}

-- what the test of page g at depth x asks
pub record PageAsked (rows : List ℕ) (bytes g x : ℕ) : Type 0 where
  pub deep : x ≤ 12
  pub lent : PagesWithin bytes (pages_in rows) (capacity_in rows)
  pub named : g < pages_in rows

-- the sides that a number lets in: 0, 1, or both
unfoldable pub wanted_sides : ℕ → Seen → Seen → Seen
wanted_sides wanted s u = cond (eqb wanted 0) s (cond (eqb wanted 1) u (after s u))

-- of two numbers of the sides that of the side which a given bit leads to
abbrev pub given_side : ℕ → ℕ → ℕ → ℕ
given_side wanted lower upper = cond (eqb wanted 0) lower upper

module _ (rows words : List ℕ) (leaf : ℕ → ℕ → ℕ → Seen) (T : ℕ) where
  -- from the region of depth x with this vector and corner, whose word is handed down
  unfoldable pub seen_by : ℕ → ℕ → ℕ → ℕ → ℕ → Seen
  seen_by zero x v corner word = met T x word (leaf x corner word) damaged
  seen_by (suc f) x v corner word =
      met T x word (leaf x corner word)
      (wanted_sides (wanted_bit_in rows x) (seen_by f (x + 1) v corner word)
      (seen_by f (x + 1) (v + bit_in rows x) (corner + value_in rows x)
      (get_or words (row_address rows (x * 6) (v + bit_in rows x)) 0)))
