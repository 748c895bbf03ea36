-- Regions as the code hands them on, and the strings that they stand for. Assumes nothing.
use Rattle.std.specs.Prelude.{ℕ, ◌+◌, ◌-◌, ◌≤◌, ◌≡◌, Bool, true, false, List}
use Rattle.address.specs.Address.{address}
use Rattle.address_formula.specs.Index.{index_list}
use Rattle.cell.specs.Cell.{cell}
use Rattle.directory_tests.specs.Intact.{cell_word}
use Rattle.pairs.specs.Pairs.{StepsBefore}
use Rattle.region.specs.Strings.{with_bit}
use Rattle.check_test.specs.Codes.{code}
use Rattle.check_test.specs.Walk.{same_words}
use Rattle.check_walk.specs.declared.regions.Region.{Region}
use Rattle.check_walk.specs.declared.regions.Sides.{Sides}

-- the region of the empty string
unfoldable pub whole_region : Region
whole_region =
    record { index = record { i0 = 0; i1 = 0; i2 = 0; i3 = 0 }; address = 0; place = 0; depth = 0; string = 0 }

-- the region is that of the first bits of p, and p is the string of its first cell
pub record RegionNamed (ws : List ℕ) (r : Region) (p : ℕ → Bool) : Type 0 where
  pub vector : cell ws r.depth p ≡ index_list r.index
  pub string : code r.depth 0 p ≡ r.string
  pub zeros : (t : ℕ) → r.depth ≤ t → p t ≡ false

-- a region of the widths
pub record RegionIn (ws : List ℕ) (r : Region) : Type 0 where
  pub named : (p : ℕ → Bool) × RegionNamed ws r p
  pub at : r.address ≡ address ws (index_list r.index)
  pub place : StepsBefore ws r.depth r.place

-- the sides of a region
pub record SidesOf (ws : List ℕ) (r : Region) (h : Sides) : Type 0 where
  pub lower_in : RegionIn ws h.lower
  pub lower-depth : h.lower.depth ≡ r.depth + 1
  pub lower-names : (p : ℕ → Bool) → RegionNamed ws r p → RegionNamed ws h.lower (with_bit p r.depth false)
  pub upper_in : RegionIn ws h.upper
  pub upper-depth : h.upper.depth ≡ r.depth + 1
  pub upper-names : (p : ℕ → Bool) → RegionNamed ws r p → RegionNamed ws h.upper (with_bit p r.depth true)

-- whether every cell of a region holds the word, in a directory of depth t
abbrev pub SameWords : List ℕ → ℕ → List ℕ → Region → ℕ → Bool → Type 0
SameWords ws t words r word held =
    (p : ℕ → Bool) → RegionNamed ws r p → held ≡ same_words (cell_word ws t words) (t - r.depth) p r.depth word
