-- Ranges of a shape (document 02, request 1): "A range call leaves each attribute free or gives it an interval, low to
-- high, both included". Assumes nothing.
use Rattle.std.specs.Prelude.{ℕ, zero, suc, Bool, ◌&&◌, List, leb, get_or}
use Rattle.std.proofs.Math.Option.{Option, none, some}
use Rattle.shape.specs.Shape.{all_below}
use Rattle.shape.specs.Key.{per_attribute, value_fits, encode, if_given}
use Rattle.shape.specs.declared.Shape.{Shape}
use Rattle.shape.specs.declared.Span.{Span}
use Rattle.shape.specs.declared.Span.TheVariants.{Free, Within}
use Rattle.shape.specs.declared.Range.{Range}

pub record Interval : Type 0 where
  pub low : ℕ
  pub high : ℕ

abbrev pub span_interval : Span → Option Interval
span_interval Free = none
span_interval (Within low high) = some (record { low = low; high = high })

-- the intervals that a range gives, by attribute
unfoldable pub range_intervals : Range → List (Option Interval)
range_intervals r = per_attribute (λ j. span_interval (get_or r.attributes j (record { span = Free })).span)

-- ---- intervals as numbers

-- what numbers say of an attribute: its interval, if the number beside its ends is not 0
abbrev pub interval_if : ℕ → ℕ → ℕ → Option Interval
interval_if zero low high = none
interval_if (suc n) low high = some (record { low = low; high = high })

-- and of all four
unfoldable pub intervals_of : List ℕ → List ℕ → List ℕ → List (Option Interval)
intervals_of given lows highs = per_attribute (λ j. interval_if (get_or given j 0) (get_or lows j 0) (get_or highs j 0))

-- ---- refusals

-- no end of a given interval is a "value .. of 2^w_j or more", or outside the bounds of a marked attribute
abbrev pub ends_fit : Shape → ℕ → Interval → Bool
ends_fit s j i = value_fits s j i.low && value_fits s j i.high

unfoldable pub range_fits : Shape → List (Option Interval) → Bool
range_fits s r = all_below 4 (λ j. if_given (ends_fit s j) (get_or r j none))

-- not "low above high in some attribute": values are compared by their encodings
abbrev pub ends_rise : Shape → ℕ → Interval → Bool
ends_rise s j i = leb (encode s j i.low) (encode s j i.high)

unfoldable pub range_rises : Shape → List (Option Interval) → Bool
range_rises s r = all_below 4 (λ j. if_given (ends_rise s j) (get_or r j none))

-- ---- single values

-- "A single value is the interval with equal ends."
abbrev pub equal_ends : ℕ → Interval
equal_ends v = record { low = v; high = v }

abbrev pub point_of : Option ℕ → Option Interval
point_of none = none
point_of (some v) = some (equal_ends v)

-- a query's values as a range
unfoldable pub point_range : List (Option ℕ) → List (Option Interval)
point_range q = per_attribute (λ j. point_of (get_or q j none))
