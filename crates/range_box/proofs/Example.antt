-- Boxes of the proof table's shape, computed: two attributes of two bits, so that the split steps are bit 0 of both
-- and then bit 1 of both. Assumes nothing.
use Prim.Native.Nat.{ℕ, ◌≤◌}
use mathlib.Core.Path.{◌≡◌, refl}
use mathlib.Core.Bool.{Bool, true, false}
use mathlib.Core.List.{List, [], ◌∷◌, map}
use mathlib.Core.Option.{none, some}
use native.Mathlib.Omega.{arith}
use lib.Dec.{leb}
use lib.ListN.{get_or, length}
use borrow.Author.Tests.{leb-true}
use Rattle.lists.proofs.Bools.{and_split}
use Rattle.shape.specs.Shape.{widths_of}
use Rattle.shape.specs.Key.{if_given}
use Rattle.shape.specs.declared.Shape.{Shape}
use Rattle.shape.proofs.BoundsLaws.{test-of-all_below}
use Rattle.split.specs.Steps.{steps_below, step_number}
use Rattle.region.specs.Strings.{list_bit, empty_string}
use Rattle.range_box.specs.Box.{Box, in_interval, in_box, number, box_meets, HoldsKey}

abbrev two_two : Shape
two_two = record { attributes = 2; widths = 2 ∷ 2 ∷ 0 ∷ 0 ∷ []; capacity = 2; signs = 0 }

-- attribute 1 from 1 to 2
abbrev one_to_two : Box
one_to_two = none ∷ some (record { low = 1; high = 2 }) ∷ none ∷ none ∷ []

-- the regions 0, 00, 000, 0000, 0001, 0100, 0101
abbrev regions : List (List Bool)
regions =
    (false ∷ [])
    ∷ (false ∷ false ∷ [])
    ∷ (false ∷ false ∷ false ∷ [])
    ∷ (false ∷ false ∷ false ∷ false ∷ [])
    ∷ (false ∷ false ∷ false ∷ true ∷ [])
    ∷ (false ∷ true ∷ false ∷ false ∷ [])
    ∷ (false ∷ true ∷ false ∷ true ∷ [])
    ∷ []

-- the last four hold the values 0, 1, 2 and 3 of attribute 1
pub met : map (λ r. box_meets two_two one_to_two (list_bit r) (length r)) regions
    ≡ true ∷ true ∷ true ∷ false ∷ true ∷ true ∷ false ∷ []
unfolding box_meets number widths_of steps_below step_number
met = refl

-- 2 to 1 meets the region of all keys and holds none: why the law of keys asks for ends that rise
abbrev fallen : Box
fallen = none ∷ some (record { low = 2; high = 1 }) ∷ none ∷ none ∷ []

pub fallen-meets : (box_meets two_two fallen empty_string 0 ≡ true) × (HoldsKey two_two fallen empty_string 0 → ⊥)
unfolding box_meets in_box number widths_of steps_below step_number
fallen-meets = (refl, λ h. none_between (get_or h.0 1 0) (test-of-all_below (inside h.0) 4 1 h.4 (omega arith)))
  where
    inside : List ℕ → ℕ → Bool
    inside key j = if_given (in_interval (get_or key j 0)) (get_or fallen j none)

    none_between : (v : ℕ) → in_interval v (record { low = 2; high = 1 }) ≡ true → ⊥
    none_between v e =
        let c = and_split (leb 2 v) (leb v 1) e in
        let a : 2 ≤ v = leb-true 2 v c.0 in
        let b : v ≤ 1 = leb-true v 1 c.1 in
        omega arith
