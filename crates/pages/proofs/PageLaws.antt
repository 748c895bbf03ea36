-- Laws of one page among the lent bytes: that page, the others and the bytes past them when it is replaced.
-- Assumes nothing.
use Prim.Native.Nat.{ℕ, ◌+◌, ◌*◌, ◌≤◌, ◌<◌}
use mathlib.Core.Path.{◌≡◌, sym, ap, ◌∙◌}
use mathlib.Core.List.{List}
use mathlib.Core.Logic.{◌⊎◌, inl, inr}
use native.Mathlib.Omega.{arith}
use lib.ListN.{length, take, drop}
use lib.Seq.{length-paste, take-length}
use Rattle.lists.proofs.Numbers.{lt-or-le}
use Rattle.moves.proofs.PasteLaws.{window-paste-before, window-paste-in, drop-paste-past}
use Rattle.record.specs.Bytes.{field}
use Rattle.page.specs.Page.{page_size, page_at}
use Rattle.page.proofs.PartLaws.{page-end-le}
use Rattle.pages.specs.Pages.{with_page}

-- ---- a page replaced

module _ (b g : ℕ) (page bytes : List ℕ) (h : g * page_size b + page_size b ≤ length bytes)
    (e : length page ≡ page_size b) where
  pub length-with_page : length (with_page b g page bytes) ≡ length bytes
  length-with_page = length-paste bytes (g * page_size b) page (page_size b) h (omega arith)

  pub page_at-with_page-same : page_at b (with_page b g page bytes) g ≡ page
  page_at-with_page-same =
      let at : g * page_size b ≡ g * page_size b + 0 = omega arith in
      ap (λ o. field (with_page b g page bytes) o (page_size b)) at
      ∙ window-paste-in bytes (g * page_size b) page (page_size b) (omega arith) (omega arith) 0 (page_size b)
      (omega arith)
      ∙ ap (λ k. take k page) (sym e)
      ∙ take-length page

  -- the bytes from an offset on that lies past the page
  pub drop-with_page : (offset : ℕ) → g * page_size b + page_size b ≤ offset
      → drop offset (with_page b g page bytes) ≡ drop offset bytes
  drop-with_page offset l = drop-paste-past bytes (g * page_size b) page (page_size b) (omega arith) (omega arith) offset l

  pub page_at-with_page-other : (g' : ℕ) → (g' ≡ g → ⊥) → page_at b (with_page b g page bytes) g' ≡ page_at b bytes g'
  page_at-with_page-other g' n = go (lt-or-le g' g)
    where
      go : (g' < g) ⊎ (g ≤ g') → page_at b (with_page b g page bytes) g' ≡ page_at b bytes g'
      go (inl l) =
          window-paste-before bytes (g * page_size b) page (page_size b) (omega arith) (omega arith) (g' * page_size b)
          (page_size b)
          (page-end-le b g' g l)
      go (inr l) =
          let past : g < g' = omega arith in
          ap (take (page_size b)) (drop-with_page (g' * page_size b) (page-end-le b g g' past))
