-- The leaves of a set of records of a shape, in document 01's words ("Regions of a set"). Assumes nothing.
use Rattle.std.specs.Prelude.{Bool, List, ◌↔◌, length}
use Rattle.lists.specs.Members.{Member}
use Rattle.shape.specs.Shape.{widths_of, total}
use Rattle.shape.specs.declared.Shape.{Shape}
use Rattle.region.specs.Strings.{list_bit}
use Rattle.region.specs.Leaves.{LeafInWords, leaf_strings, DivisionLaws}
use Rattle.record.specs.Record.{Record, record_bit}
use Rattle.model.specs.Sets.{division_of}

-- what holds of every set of records of a shape within its bounds
pub record SetLeaves (s : Shape) (S : List Record) : Type 0 where
  -- "Undivided regions whose every shorter beginning is divided are the leaves, the empty string included": the strings
  -- listed are these and no other, whatever their length
  pub are-leaves : (bits : List Bool) → Member bits (leaf_strings (division_of s S))
      ↔ LeafInWords (record_bit s) s.capacity S (list_bit bits) (length bits)
  -- each once; T, tally, pages and reads are counts of them
  pub laws : DivisionLaws (record_bit s) s.capacity (total (widths_of s)) S (division_of s S)
