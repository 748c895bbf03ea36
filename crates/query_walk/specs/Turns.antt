-- A turn of a walk by rows: what it sees of a leaf, what it asks and writes. Assumes nothing.
use Rattle.std.specs.Prelude.{ℕ, ◌+◌, ◌*◌, ◌-◌, ◌^◌, ◌≤◌, ◌<◌, ◌≡◌, Bool, cond, ◌&&◌, List, length}
use Rattle.shape.specs.Shape.{Fit, within}
use Rattle.split.specs.Steps.{steps}
use Rattle.cell.specs.Cell.{cell}
use Rattle.region.specs.Query.{QueryBit}
use Rattle.page.specs.Page.{count_of, page_size, page_at}
use Rattle.page_ends.specs.Ends.{ends_agree}
use Rattle.std.proofs.lemmas.List.Edits.{sets}
use Rattle.query_rows.specs.Corners.{Corner}
use Rattle.query_rows.specs.Rows.{fixed_in, Rows}
use Rattle.query_rows.specs.Rows.{pages_in, capacity_in, deepest_in, tallied_in, bias_in, has_depth, most_pages}
use Rattle.query_rows.specs.Vectors.{packed}
use Rattle.query_seen.specs.Seen.{Seen, noted}

-- ---- a leaf

-- a page of a leaf by one of its keys, packed, and the mask of the bits that it fixes
unfoldable pub fair_by : ℕ → ℕ → ℕ → ℕ → List ℕ → Bool
fair_by b bias mask key page = within 1 b (count_of page) && ends_agree bias mask key page (count_of page)

-- page g can be that of the leaf of depth x with this corner
abbrev pub page_fair : List ℕ → List ℕ → ℕ → ℕ → ℕ → Bool
page_fair rows bytes x key g =
    fair_by (capacity_in rows) (bias_in rows) (fixed_in rows x) key (page_at (capacity_in rows) bytes g)

-- the word of a leaf of depth x, by one of its keys
abbrev pub leaf_by : List ℕ → List ℕ → ℕ → ℕ → ℕ → Seen
leaf_by rows bytes x key word =
    noted (pages_in rows) (has_depth (tallied_in rows) x) (page_fair rows bytes x key) word

-- P pages of capacity b lie within the bytes
pub record PagesWithin (bytes P b : ℕ) : Type 0 where
  pub most-pages : P ≤ 4096
  pub capacity : b ≤ 16
  pub pages-lent : P * page_size b ≤ bytes

-- what a leaf of depth x asks, to be noted at place n of a list with this room
pub record NoteAsked (rows : List ℕ) (bytes room x n : ℕ) : Type 0 where
  pub deep : x ≤ 12
  pub few : n < 4096
  pub place : n < room
  pub lent : PagesWithin bytes (pages_in rows) (capacity_in rows)

-- ---- a region

-- a part of the walk noted what it saw from place n on, and returned the next place, or 65535
pub record Wrote (list : List ℕ) (n : ℕ) (s : Seen) (r : ℕ) (later : List ℕ) : Type 0 where
  pub next : r ≡ cond s.sound (n + length s.pages) 65535
  pub lines : later ≡ sets list n s.pages

-- what a turn asks: the rows are those of some widths and query, vector and corner are those of some string of x bits,
-- and the list has room for what is left
pub record Turn (rows words : List ℕ) (bytes room v corner x n : ℕ) : Type 0 where
  pub lent : PagesWithin bytes (pages_in rows) (capacity_in rows)
  pub depth-twelve : deepest_in rows ≤ 12
  pub words-lent : 2 ^ deepest_in rows ≤ length words
  pub widths : List ℕ
  pub query : ℕ → QueryBit
  pub string : ℕ → Bool
  pub fit : Fit widths
  pub bits : deepest_in rows ≤ length (steps widths)
  pub table : Rows widths query (deepest_in rows) rows
  pub vector : v ≡ packed (cell widths x string)
  pub cornered : Corner widths x string corner
  pub deep : x ≤ deepest_in rows
  pub count : n + 2 ^ (deepest_in rows - x) ≤ 4096
  pub left : n + most_pages rows (deepest_in rows - x) x ≤ room
