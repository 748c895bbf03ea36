-- The lent pages: one page changed, records carried between two, a free one. Assumes nothing.
use Rattle.std.specs.Prelude.{ℕ, zero, suc, ◌+◌, ◌-◌, ◌*◌, ◌≤◌, ◌<◌, cond, List, eqb, ltb, length, drop}
use Rattle.std.proofs.Math.Seq.{paste}
use Rattle.page.specs.Page.{count_of, page_size, page_at}
use Rattle.page.specs.Fields.{record_offset}
use Rattle.page.specs.Changes.{counted_page, appended_page}

-- page g is one of those lent, of which there are at most 4,096, with at most 16 records each
pub record PageLent (b g : ℕ) (bytes : List ℕ) : Type 0 where
  pub capacity-le : b ≤ 16
  pub number_lt : g < 4096
  pub whole : g * page_size b + page_size b ≤ length bytes

-- the lent bytes with page g replaced
abbrev pub with_page : ℕ → ℕ → List ℕ → List ℕ → List ℕ
with_page b g page bytes = paste bytes (g * page_size b) page (page_size b)

-- the lent bytes after the records from m on of page p, which has n, were put behind the j records of page q
unfoldable pub carried_pages : ℕ → ℕ → ℕ → ℕ → ℕ → ℕ → List ℕ → List ℕ
carried_pages b p m n q j bytes =
    let carried = drop (record_offset m) (page_at b bytes p) in
    let kept = with_page b p (counted_page m (page_at b bytes p)) bytes in
    with_page b q (appended_page j (n - m) carried (page_at b kept q)) kept

-- "A page is free exactly if its count is 0": the first free one of the k pages from g on; g + k where none is
unfoldable pub first_free : ℕ → List ℕ → ℕ → ℕ → ℕ
first_free b bytes zero g = g
first_free b bytes (suc k) g = cond (eqb (count_of (page_at b bytes g)) 0) g (first_free b bytes k (suc g))

-- a free one of the first n pages: the first from page `start` on, else the first of all; n where none is
unfoldable pub free_page : ℕ → List ℕ → ℕ → ℕ → ℕ
free_page b bytes n start =
    let g = first_free b bytes (n - start) start in
    cond (ltb g n) g (first_free b bytes n 0)
