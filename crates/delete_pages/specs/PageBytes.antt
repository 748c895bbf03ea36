-- The lent pages in a delete: what its steps need of them, and what they leave, a page without one record, and joined
-- with that of its sibling. Assumes nothing.
use Rattle.std.specs.Prelude.{ℕ, ◌+◌, ◌-◌, ◌≤◌, ◌<◌, ◌≡◌, Bool, cond, List}
use Rattle.page.specs.Page.{page_at}
use Rattle.page.specs.Changes.{removed_page}
use Rattle.pages.specs.Pages.{PageLent, with_page, carried_pages}
use Rattle.delete_plan.specs.declared.Stored.{Stored}
use Rattle.delete_plan.specs.declared.Join.{Join}

-- ---- bounds

-- the page of the key's leaf, and the place of its record there
pub record RecordLent (b : ℕ) (r : Stored) (bytes : List ℕ) : Type 0 where
  pub page : PageLent b r.page bytes
  pub place-lt : r.place < r.count
  pub few : r.count ≤ b

-- and the page of its sibling: both fit one page without the record
pub record PairLent (b : ℕ) (r : Stored) (j : Join) (bytes : List ℕ) : Type 0 where
  pub own : RecordLent b r bytes
  pub page : PageLent b j.other bytes
  pub fit : r.count - 1 + j.count ≤ b

-- ---- what is left

-- page g, which has n records, without record i
unfoldable pub removed_bytes : ℕ → ℕ → ℕ → ℕ → List ℕ → List ℕ
removed_bytes b g i n bytes = with_page b g (removed_page i n (page_at b bytes g)) bytes

-- the leaf of page g has bit β where it parts from its sibling, which has page h: the page of the half with bit 0 is
-- kept, the other freed
abbrev pub kept_page : Bool → ℕ → ℕ → ℕ
kept_page β g h = cond β h g

abbrev pub freed_page : Bool → ℕ → ℕ → ℕ
freed_page β g h = cond β g h

-- then the records of the half with bit 1 are put behind those of the half with bit 0; page h has k
unfoldable pub joined_bytes : Bool → ℕ → ℕ → ℕ → ℕ → ℕ → ℕ → List ℕ → List ℕ
joined_bytes β b g i n h k bytes =
    let removed = removed_bytes b g i n bytes in
    cond β (carried_pages b g 0 (n - 1) h k removed) (carried_pages b h 0 k g (n - 1) removed)

-- the record of a found key is removed and the rest joined with the sibling's, in page r
pub record RecordsJoined (b : ℕ) (f : Stored) (j : Join) (bytes bytes' : List ℕ) (r : ℕ) : Type 0 where
  pub kept : r ≡ kept_page j.bit f.page j.other
  pub bytes-are : bytes' ≡ joined_bytes j.bit b f.page f.place f.count j.other j.count bytes
