-- What the steps of an accepted insert leave of the page bytes: a page with one record more; a full page divided, and
-- the record in one of the halves. Assumes nothing.
use Rattle.std.specs.Prelude.{ℕ, ◌-◌, ◌≤◌, ◌<◌, cond, List}
use Rattle.page.specs.Page.{page_at}
use Rattle.page.specs.Changes.{inserted_page}
use Rattle.pages.specs.Pages.{with_page, carried_pages}
use Rattle.insert_cut.specs.declared.Cut.{Cut}

-- a record, given by its bytes, was put before record i of the n of page g
unfoldable pub inserted_pages : ℕ → ℕ → ℕ → ℕ → List ℕ → List ℕ → List ℕ
inserted_pages b g i n new bytes = with_page b g (inserted_page i n new (page_at b bytes g)) bytes

-- the full page g was cut, page h, which was free, took the records from there on, and the half of the record's bit the
-- record
unfoldable pub divided_pages : ℕ → ℕ → ℕ → Cut → List ℕ → List ℕ → List ℕ
divided_pages b g h cut new bytes =
    inserted_pages b (cond cut.bit h g) cut.place (cond cut.bit (b - cut.start) cut.start) new
    (carried_pages b g cut.start b h 0 bytes)

-- a cut of a page of b records, in which the half of the record's bit has room
pub record CutFits (b : ℕ) (cut : Cut) : Type 0 where
  pub capacity-le : b ≤ 16
  pub start-le : cut.start ≤ b
  pub place-le : cut.place ≤ cond cut.bit (b - cut.start) cut.start
  pub room : cond cut.bit (b - cut.start) cut.start < b
