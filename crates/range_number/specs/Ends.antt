-- The ends of a range: as queries, and as packed keys. Assumes nothing.
use Rattle.std.specs.Prelude.{◌≡◌, ℕ, List, get_or}
use Rattle.std.proofs.Math.Option.{Option, none, some}
use Rattle.shape.specs.Key.{per_attribute, encoded_wanted}
pub use Rattle.shape.specs.Key.{value_or}
use Rattle.shape.specs.Range.{Interval}
use Rattle.shape.specs.declared.Shape.{Shape}
use Rattle.record.specs.Packed.{packed_key}

-- ---- as queries

abbrev pub low_end : Option Interval → Option ℕ
low_end none = none
low_end (some i) = some i.low

abbrev pub high_end : Option Interval → Option ℕ
high_end none = none
high_end (some i) = some i.high

-- a choice between an interval's two ends that gives what a query then wants
abbrev pub EndsAs : (ℕ → ℕ → ℕ → Type 0) → (Option Interval → Option ℕ) → Type 0
EndsAs post wanted = (wanted none ≡ none) × ((i : Interval) (r : ℕ) → post i.low i.high r → some r ≡ wanted (some i))

-- the query that gives the low end of each interval, and that of the high ends
unfoldable pub low_ends : List (Option Interval) → List (Option ℕ)
low_ends r = per_attribute (λ j. low_end (get_or r j none))

unfoldable pub high_ends : List (Option Interval) → List (Option ℕ)
high_ends r = per_attribute (λ j. high_end (get_or r j none))

-- ---- as packed keys

-- given values, or the one that stands for a free attribute
abbrev pub values_or : ℕ → List (Option ℕ) → List ℕ
values_or free q = per_attribute (λ j. value_or free (get_or q j none))

-- by their encodings; where an attribute is free, the ends that every number of 16 bits lies between
unfoldable pub low_key : Shape → List (Option Interval) → ℕ
low_key s r = packed_key (values_or 0 (encoded_wanted s (low_ends r)))

unfoldable pub high_key : Shape → List (Option Interval) → ℕ
high_key s r = packed_key (values_or 65535 (encoded_wanted s (high_ends r)))
