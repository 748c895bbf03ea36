-- The leaves of a set of records are document 01's: in a set no two records have one key, and a page holds one at
-- least.
-- Assumes nothing.
use mathlib.Core.Path.{◌≡◌}
use mathlib.Core.Bool.{Bool, true}
use mathlib.Core.List.{List}
use mathlib.Core.Logic.{◌↔◌}
use lib.ListN.{length}
use Rattle.lists.specs.Filter.{all}
use Rattle.lists.proofs.Bools.{and_split}
use Rattle.shape.specs.Shape.{shape_number, widths_of, total}
use Rattle.shape.specs.declared.Shape.{Shape}
use Rattle.shape.proofs.ShapeLaws.{capacity-bounds}
use Rattle.region.specs.Strings.{list_bit}
use Rattle.region.specs.Sets.{sorted}
use Rattle.region.specs.Division.{IsLeaf}
use Rattle.region.specs.Leaves.{LeafInWords, DivisionLaws}
use Rattle.region.proofs.StatedLaws.{division-laws}
use Rattle.record.specs.Record.{Record, record_bit}
use Rattle.model.specs.Sets.{in_shape, is_set, division_of}
use Rattle.model.specs.Leaves.{SetLeaves}

pub set-leaves : (s : Shape) (S : List Record) → shape_number s ≡ 0 → is_set s S ≡ true → SetLeaves s S
unfolding is_set division_of
set-leaves s S n e =
    record {
      are-leaves = λ bits. (
        λ m. (words bits).0 ((laws.are-leaves bits).0 m),
        λ h. (laws.are-leaves bits).1 ((words bits).1 h),
      );
      laws = laws;
    }
  where
    laws : DivisionLaws (record_bit s) s.capacity (total (widths_of s)) S (division_of s S)
    laws = division-laws (record_bit s) s.capacity (total (widths_of s)) S

    words : (bits : List Bool)
        → IsLeaf (record_bit s) s.capacity (total (widths_of s)) S (list_bit bits) (length bits)
        ↔ LeafInWords (record_bit s) s.capacity S (list_bit bits) (length bits)
    words bits =
        let set = (and_split (sorted (record_bit s) (total (widths_of s)) 0 S) (all (in_shape s) S) e).0 in
        laws.in_words (capacity-bounds s n).0 set (list_bit bits) (length bits)
