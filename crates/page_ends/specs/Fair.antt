-- Pages that a leaf can have, by their count (document 01, "Regions of a set": a leaf with a page has 1 to b records).
-- Assumes nothing.
use Rattle.std.specs.Prelude.{Option, Some, None, ℕ, zero, suc, Bool, ◌&&◌, cond, List}
use Rattle.shape.specs.Shape.{within}
use Rattle.page.specs.Page.{count_of}

-- how many records a page has, where these are 1 to b and the leaf's own, as a test of them says; 0 for another page
unfoldable pub fair_count : ℕ → Bool → List ℕ → ℕ
fair_count b own page = cond (within 1 b (count_of page) && own) (count_of page) 0

-- a count other than 0; none for 0
abbrev pub positive : ℕ → Option ℕ
positive zero = None
positive (suc n) = Some (suc n)
