-- What the sums of a walk over the regions are compared with. Assumes nothing.
use Rattle.std.specs.Prelude.{ℕ, zero, suc, ◌+◌, Bool, cond, List, eqb, get_or}
use Rattle.shape.specs.Shape.{all_below}
use Rattle.page.specs.Page.{count_of, page_at}

-- how many of the first n pages have a count other than 0
abbrev pub used_pages : ℕ → List ℕ → ℕ → ℕ
used_pages b bytes zero = 0
used_pages b bytes (suc n) = cond (eqb (count_of (page_at b bytes n)) 0) 0 1 + used_pages b bytes n

-- two tallies are equal at depths 0 to 12
abbrev pub same_tally : List ℕ → List ℕ → Bool
same_tally xs ys = all_below 13 (λ x. eqb (get_or xs x 0) (get_or ys x 0))
