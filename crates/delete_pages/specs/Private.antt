-- The pages of two leaves that are joined, without a record removed. Assumes nothing.
use Rattle.std.specs.Prelude.{ℕ, ◌+◌, ◌≤◌, ◌≡◌, Bool, cond, List}
use Rattle.pages.specs.Pages.{PageLent, carried_pages}

-- the n records of page g and the k of page h in one page, those with bit 1 behind the others; `bit` is that of the
-- records of g
unfoldable pub joined_pages : ℕ → ℕ → ℕ → ℕ → ℕ → Bool → List ℕ → List ℕ
joined_pages b g n h k bit bytes = cond bit (carried_pages b g 0 n h k bytes) (carried_pages b h 0 k g n bytes)

-- two pages are lent, and their records fit one
pub record BothLent (b g n h k : ℕ) (bytes : List ℕ) : Type 0 where
  pub own : PageLent b g bytes
  pub other : PageLent b h bytes
  pub fit : n + k ≤ b

-- they are joined, in page r
pub record PagesJoined (b g n h k : ℕ) (bit : Bool) (bytes bytes' : List ℕ) (r : ℕ) : Type 0 where
  pub kept : r ≡ cond bit h g
  pub bytes-are : bytes' ≡ joined_pages b g n h k bit bytes
