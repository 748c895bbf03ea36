-- What the walk tells of a page and of two sides. Assumes nothing.
use Rattle.std.specs.Prelude.{ℕ, ◌+◌, ◌^◌, max, ◌≤◌, ◌<◌, cond, List, ltb, Option, Some, None}
use Rattle.page.specs.Page.{count_of}
use Rattle.check_page.specs.PageTest.{page_passes}
use Rattle.check_seen.specs.declared.Seen.{Seen}

-- a leaf with a page of so many bytes
unfoldable pub page_seen : List ℕ → ℕ → ℕ → ℕ → ℕ → List ℕ → Option Seen
page_seen ws b x s bias page =
    cond (page_passes ws b x s bias page) (Some (record { records = count_of page; pages = 1; depth = 0 })) None

-- the sums over a region's sides
abbrev pub sums_of : Seen → Seen → Seen
sums_of l u =
    record { records = l.records + u.records; pages = l.pages + u.pages; depth = 1 + max l.depth u.depth }

-- a region from its sides
unfoldable pub joined_seen : ℕ → Seen → Seen → Option Seen
joined_seen b l u = cond (ltb b (l.records + u.records)) (Some (sums_of l u)) None

-- the sums fit
pub record JoinFits (l u : Seen) : Type 0 where
  pub records : l.records + u.records < 2 ^ 32
  pub pages : l.pages + u.pages < 2 ^ 32
  pub lower-depth : l.depth ≤ 12
  pub upper-depth : u.depth ≤ 12
