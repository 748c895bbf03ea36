-- Laws of a page that was lent and comes back: it stands in its place among the lent bytes. `start` and `size` are
-- where the page begins and its size, as the code has them. Assumes nothing.
use Prim.Native.Nat.{ℕ, ◌+◌, ◌-◌, ◌*◌}
use mathlib.Core.Path.{◌≡◌, sym, ap, ◌∙◌}
use mathlib.Core.List.{List, ◌++◌, append_assoc}
use native.Mathlib.Omega.{arith}
use lib.ListN.{length, take, drop}
use lib.Seq.{take-length, drop-drop}
use borrow.Rule.Slice.PartMut.{put_mid, mid_of}
use Rattle.page.specs.Page.{page_size, page_at}
use Rattle.page.proofs.PartLaws.{mid_of-page}
use Rattle.pages.specs.Pages.{with_page}

module _ (b g start size : ℕ) (bytes : List ℕ) (at : start ≡ g * page_size b) (wide : size ≡ page_size b) where
  pub put_mid-page : (page : List ℕ) → length page ≡ page_size b
      → put_mid start (start + size - start) bytes page ≡ with_page b g page bytes
  put_mid-page page e =
      let width : start + size - start ≡ size = omega arith in
      let whole : page ≡ take size page = sym (ap (λ k. take k page) (wide ∙ sym e) ∙ take-length page) in
      ap (λ k. take start bytes ++ (page ++ drop k (drop start bytes))) width
      ∙ ap (λ l. take start bytes ++ (page ++ l)) (drop-drop size start bytes)
      ∙ ap (λ l. take start bytes ++ (l ++ drop (start + size) bytes)) whole
      ∙ sym (append_assoc (take start bytes) (take size page) (drop (start + size) bytes))
      ∙ (λ i. (take (at i) bytes ++ take (wide i) page) ++ drop (at i + wide i) bytes)

  -- a change of the page alone, said of all the bytes
  pub put_mid-change : (f : List ℕ → List ℕ) (page : List ℕ) → page ≡ f (mid_of start (start + size - start) bytes)
      → length (f (page_at b bytes g)) ≡ page_size b
      → put_mid start (start + size - start) bytes page ≡ with_page b g (f (page_at b bytes g)) bytes
  put_mid-change f page e l =
      let same : page ≡ f (page_at b bytes g) = e ∙ ap f (mid_of-page b g start size bytes at wide) in
      put_mid-page page (ap length same ∙ l) ∙ ap (λ p. with_page b g p bytes) same
