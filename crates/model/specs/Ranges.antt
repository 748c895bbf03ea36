-- Ranges on a set of records of a shape, in the words of document 02, request 1. Assumes nothing.
use Rattle.std.specs.Prelude.{ℕ, ◌-◌, ◌^◌, ◌≤◌, ◌<◌, ◌≡◌, Bool, true, false, List, ◌↔◌, length, set}
use Rattle.std.proofs.Math.Option.{Option, none, some}
use Rattle.shape.specs.Shape.{width_of, widths_of, total}
use Rattle.shape.specs.Refusal.{refused}
use Rattle.shape.specs.Key.{decode, names_unused}
use Rattle.shape.specs.Range.{Interval, range_fits, range_rises, point_range}
use Rattle.shape.specs.declared.Shape.{Shape}
use Rattle.record.specs.Record.{Record}
use Rattle.range_box.specs.Box.{box_of, box_meets, HoldsKey}
use Rattle.model.specs.Sets.{is_set}
use Rattle.model.specs.Model.{Fixed, query_call, range_call, inside, outcome}

-- the interval of all values of attribute j: those of the encodings from 0 to 2^w_j - 1
abbrev pub whole_interval : Shape → ℕ → Interval
whole_interval s j = record { low = decode s j 0; high = decode s j (2 ^ width_of s j - 1) }

-- what holds of every range on a set of records of a shape within its bounds
pub record SetRanges (f : Fixed) (S : List Record) : Type 0 where
  -- "number 8 .. as in a query", whatever the ends; 10 is "checked after 3", in whichever attributes
  pub unused-eight : (r : List (Option Interval)) (out : List ℕ) → names_unused f.shape r ≡ true
      → (outcome f S (range_call r out)).answer ≡ refused 8
  pub three-before-ten : (r : List (Option Interval)) (out : List ℕ) → names_unused f.shape r ≡ false
      → range_fits f.shape r ≡ false → (outcome f S (range_call r out)).answer ≡ refused 3
  pub falling-ten : (r : List (Option Interval)) (out : List ℕ) → names_unused f.shape r ≡ false
      → range_fits f.shape r ≡ true → range_rises f.shape r ≡ false
      → (outcome f S (range_call r out)).answer ≡ refused 10
  -- "the list holds them in split order, each exactly once"
  pub in_order : (r : List (Option Interval)) → is_set f.shape (inside f S r) ≡ true
  -- "A single value is the interval with equal ends": number, list, total, reads and output are the query's
  pub equal-ends : (q : List (Option ℕ)) (out : List ℕ)
      → outcome f S (range_call (point_range q) out) ≡ outcome f S (query_call q out)
  -- an attribute with all its values is as good as free
  pub whole-as-free : (r : List (Option Interval)) (out : List ℕ) (j : ℕ) → length r ≡ 4 → j < f.shape.attributes
      → outcome f S (range_call (set r j (some (whole_interval f.shape j))) out)
      ≡ outcome f S (range_call (set r j none) out)
  -- "whose box of values meets the query's": exactly if a key of the shape begins with the region and lies in the box
  pub meets : (r : List (Option Interval)) → range_rises f.shape r ≡ true → (p : ℕ → Bool) (x : ℕ)
      → x ≤ total (widths_of f.shape)
      → (box_meets f.shape (box_of f.shape r) p x ≡ true) ↔ HoldsKey f.shape (box_of f.shape r) p x
