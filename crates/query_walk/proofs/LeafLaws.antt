-- Laws of a leaf's page as the walk tests it: by the count of a page that a leaf can have. Assumes nothing.
use Prim.Native.Nat.{ℕ}
use mathlib.Core.Path.{◌≡◌, refl, sym, ap}
use mathlib.Core.Bool.{Bool, true, false, ◌&&◌, cond}
use mathlib.Core.List.{List}
use native.Mathlib.Omega.{arith}
use borrow.Author.Tests.{leb-true}
use lib.Dec.{leb}
use Rattle.std.specs.Prelude.{is_some}
use Rattle.lists.proofs.Bools.{and_split}
use Rattle.shape.specs.Shape.{within}
use Rattle.page.specs.Page.{count_of}
use Rattle.page_ends.specs.Ends.{ends_agree}
use Rattle.page_ends.specs.Fair.{fair_count, positive}
use Rattle.page_ends.proofs.FairLaws.{positive-some}
use Rattle.query_walk.specs.Turns.{fair_by}

pub fair_by-counted : (b bias mask key : ℕ) (page : List ℕ)
    → is_some (positive (fair_count b (ends_agree bias mask key page (count_of page)) page)) ≡ fair_by b bias mask key page
unfolding fair_by fair_count
fair_by-counted b bias mask key page = go (within 1 b (count_of page) && ends_agree bias mask key page (count_of page)) refl
  where
    go : (β : Bool) → (within 1 b (count_of page) && ends_agree bias mask key page (count_of page)) ≡ β
        → is_some (positive (cond β (count_of page) 0)) ≡ β
    go false t = refl
    go true t =
        let counted = (and_split (within 1 b (count_of page)) (ends_agree bias mask key page (count_of page)) t).0 in
        let some = (and_split (leb 1 (count_of page)) (leb (count_of page) b) counted).0 in
        ap is_some (sym (positive-some (count_of page) (λ z. absurd (omega (arith, leb-true 1 (count_of page) some, z)))))
