-- Laws of the lent bytes with one record more on page g: that page, the others, and the bytes past them. Assumes
-- nothing.
use Prim.Native.Nat.{ℕ, ◌*◌, ◌≤◌, ◌<◌}
use mathlib.Core.Path.{◌≡◌, ap, ◌∙◌}
use mathlib.Core.List.{List}
use native.Mathlib.Omega.{arith}
use lib.ListN.{length, drop}
use Rattle.shape.specs.declared.Shape.{Shape}
use Rattle.record.specs.Bytes.{record_size, record_of}
use Rattle.page.specs.Page.{records_of, records_from, page_size, page_at}
use Rattle.page.specs.Changes.{inserted_page, insert_at}
use Rattle.page.proofs.ChangeLaws.{length-inserted_page, records_of-inserted_page}
use Rattle.pages.specs.Pages.{PageLent}
use Rattle.pages.proofs.PageLaws.{length-with_page, page_at-with_page-same, drop-with_page}
use Rattle.page.proofs.PartLaws.{length-page_at, page-end-le}
use Rattle.pages.proofs.PageLaws.{page_at-with_page-other}
use Rattle.insert_pages.specs.Inserted.{inserted_pages}

module _ (b g i n : ℕ) (new bytes : List ℕ) (lent : PageLent b g bytes) (h : i ≤ n) (l : n < b)
    (e : length new ≡ record_size) where
  abbrev page : List ℕ
  page = page_at b bytes g

  size : length page ≡ page_size b
  size = length-page_at b g bytes lent.whole

  pub length_inserted : length (inserted_page i n new page) ≡ page_size b
  length_inserted = length-inserted_page i n new page h e (omega (arith, size)) ∙ size

  pub length-inserted_pages : length (inserted_pages b g i n new bytes) ≡ length bytes
  unfolding inserted_pages
  length-inserted_pages = length-with_page b g (inserted_page i n new page) bytes lent.whole length_inserted

  pub drop-inserted_pages : (P : ℕ) → g < P
      → drop (P * page_size b) (inserted_pages b g i n new bytes) ≡ drop (P * page_size b) bytes
  unfolding inserted_pages
  drop-inserted_pages P k =
      drop-with_page b g (inserted_page i n new page) bytes lent.whole length_inserted (P * page_size b)
      (page-end-le b g P k)

  pub page_at-inserted_pages-other : (k : ℕ) → (k ≡ g → ⊥)
      → page_at b (inserted_pages b g i n new bytes) k ≡ page_at b bytes k
  unfolding inserted_pages
  page_at-inserted_pages-other k d =
      page_at-with_page-other b g (inserted_page i n new page) bytes lent.whole length_inserted k d

  -- its records
  pub records_of-inserted_pages : (s : Shape)
      → records_of s (page_at b (inserted_pages b g i n new bytes) g) ≡ insert_at i (record_of s new)
      (records_from s n 2 page)
  unfolding inserted_pages
  records_of-inserted_pages s =
      let few = lent.capacity-le in
      ap (records_of s) (page_at-with_page-same b g (inserted_page i n new page) bytes lent.whole length_inserted)
      ∙ records_of-inserted_page i n new page h e (omega (arith, size)) s (omega arith)
