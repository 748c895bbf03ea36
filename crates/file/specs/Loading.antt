-- The refusals of a load (document 02, request 5): "12 .. checked first; then 1; then 13, straight before 2 ..; after 2
-- come 6 and 7 at the first record that meets them." Request 7: "The load of a saved store uses the same numbers", so
-- that 14 and 15 follow 1. Assumes nothing.
use Rattle.std.specs.Prelude.{ℕ, not, ◌&&◌, List, [], ◌∷◌, ◌++◌, length}
use Rattle.shape.specs.Refusal.{Condition, refusal, first_number}
use Rattle.shape.specs.Shape.{shape_conditions}
use Rattle.record.specs.Record.{Record}
use Rattle.model.specs.Sets.{is_set, with_record}
use Rattle.model.specs.Limits.{fixed_by}
use Rattle.model.specs.Model.{Fixed, room_conditions}
use Rattle.store.specs.Fresh.{fresh_conditions}
use Rattle.store.specs.Store.{Memory}
use Rattle.file.specs.File.{file_shape, file_records, is_whole, is_plain}

-- "with P and L set as by Fresh"
abbrev pub load_fixed : List ℕ → Memory → Fixed
load_fixed file m = fixed_by (file_shape file) (length m.words) (length m.bytes)

-- 6 and 7 of records that join a set one after the other
abbrev pub join_conditions : Fixed → List Record → List Record → List Condition
join_conditions f S [] = []
join_conditions f S (r ∷ rs) = room_conditions f S r ++ join_conditions f (with_record f.shape r S) rs

-- 12
abbrev pub whole_conditions : List ℕ → List Condition
whole_conditions file = refusal 12 (not (is_whole file)) ∷ []

-- 13: the shape's bytes; "a value outside its bounds (unused ones 0), or records not strictly rising", which is no set
abbrev pub content_conditions : List ℕ → List Condition
content_conditions file = refusal 13 (not (is_plain file && is_set (file_shape file) (file_records file))) ∷ []

-- 12, 1, 14, 15, 13, 2, then 6 or 7 at the first record that meets them
unfoldable pub load_refusals : List ℕ → Memory → List Condition
load_refusals file m =
    let s = file_shape file in
    whole_conditions file ++ (shape_conditions s ++ (content_conditions file ++ (fresh_conditions s m
    ++ join_conditions (load_fixed file m) [] (file_records file))))

abbrev pub load_number : List ℕ → Memory → ℕ
load_number file m = first_number (load_refusals file m)
