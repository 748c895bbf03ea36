-- Laws of a page as a part of the lent bytes: where it lies; what is lent, as the code takes it out.
-- Assumes nothing.
use Prim.Native.Nat.{ℕ, ◌+◌, ◌-◌, ◌*◌, ◌≤◌, ◌<◌}
use mathlib.Core.Path.{◌≡◌, ap, ◌∙◌}
use mathlib.Core.List.{List}
use native.Mathlib.Nat.{mul-le-mul_right, suc-mul}
use native.Mathlib.Omega.{arith}
use lib.ListN.{length, take, drop, length-drop}
use lib.Seq.{length-take-le}
use borrow.Rule.Slice.PartMut.{mid_of}
use Rattle.page.specs.Page.{page_size, page_at}

-- ---- where it lies

-- page g ends before a later one begins, and within n pages if it is one of them
pub page-end-le : (b g n : ℕ) → g < n → g * page_size b + page_size b ≤ n * page_size b
page-end-le b g n h = rw (suc-mul g) at (mul-le-mul_right (page_size b) h)

pub length-page_at : (b g : ℕ) (bytes : List ℕ) → g * page_size b + page_size b ≤ length bytes
    → length (page_at b bytes g) ≡ page_size b
length-page_at b g bytes h = length-take-le (page_size b) (drop (g * page_size b) bytes) (simp length-drop (omega arith))

-- ---- what is lent

-- the part is the page
pub mid_of-page : (b g start size : ℕ) (bytes : List ℕ) → start ≡ g * page_size b → size ≡ page_size b
    → mid_of start (start + size - start) bytes ≡ page_at b bytes g
mid_of-page b g start size bytes e f =
    let width : start + size - start ≡ size = omega arith in
    ap (λ k. take k (drop start bytes)) width ∙ (λ i. take (f i) (drop (e i) bytes))
