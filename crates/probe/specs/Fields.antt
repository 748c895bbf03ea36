-- Enums, and a full leaf's split, as the numbers that cross the C interface. Assumes nothing.
use Rattle.std.specs.Prelude.{ℕ, zero, suc, Result, Ok, Err}
use Rattle.std.specs.declared.cmp.Ordering.{Ordering}
use Rattle.std.specs.declared.cmp.Ordering.TheVariants.{Less, Equal, Greater}
use Rattle.directory_word.specs.declared.Leaf.{Leaf}
use Rattle.directory_word.specs.declared.Leaf.TheVariants.{Empty, Page}
use Rattle.insert_planned.specs.declared.Split.{Split}
use Rattle.probe.specs.declared.SplitFields.{SplitFields}
use Rattle.probe.specs.declared.words.LeafFields.{LeafFields}
use Rattle.probe.specs.declared.keys.PlaceFields.{PlaceFields}

-- a leaf: 1 and its page, or 0 and 0 without one; and its depth
abbrev pub leaf_fields : Leaf → LeafFields
leaf_fields (Empty depth) = record { paged = 0; page = 0; depth = depth }
leaf_fields (Page page depth) = record { paged = 1; page = page; depth = depth }

-- how a key stands to another one
abbrev pub order_number : Ordering → ℕ
order_number Equal = 0
order_number Less = 1
order_number Greater = 2

-- a place: 0 for the one before record i, any other number for that of record i
abbrev pub numbered_place : ℕ → ℕ → Result ℕ ℕ
numbered_place zero i = Err i
numbered_place (suc found) i = Ok i

abbrev pub place_of : PlaceFields → Result ℕ ℕ
place_of f = numbered_place f.found f.place

-- a full leaf and the step that divides it, field by field
abbrev pub split_of : SplitFields → Split
split_of f =
    record { page = f.page; depth = f.depth; behind = f.behind; pair = f.pair; step = f.step }
