-- Boxes of encodings and the regions that they meet (document 02, request 1). Assumes nothing.
use Rattle.std.specs.Prelude.{ℕ, zero, suc, ◌+◌, ◌*◌, ◌^◌, ◌≡◌, Bool, true, false, ◌&&◌, cond, List, leb, ltb, get_or, length}
use Rattle.std.proofs.Math.Option.{Option, none, some}
use Rattle.shape.specs.Shape.{width_of, widths_of, all_below, within, index_fits}
use Rattle.shape.specs.Key.{per_attribute, encode, if_given}
use Rattle.shape.specs.Range.{Interval}
use Rattle.shape.specs.declared.Shape.{Shape}
use Rattle.split.specs.Steps.{bit_value}
use Rattle.split.specs.Bits.{split_bit}
use Rattle.cell.specs.Cell.{attribute_bit}
use Rattle.region.specs.Strings.{same_bits}

-- ---- boxes

-- an interval of encodings for each attribute, none where it is free
abbrev pub Box : Type 0
Box = List (Option Interval)

abbrev pub encode_ends : Shape → ℕ → Option Interval → Option Interval
encode_ends s j none = none
encode_ends s j (some i) = some (record { low = encode s j i.low; high = encode s j i.high })

-- the box of a range's intervals of values
unfoldable pub box_of : Shape → List (Option Interval) → Box
box_of s r = per_attribute (λ j. encode_ends s j (get_or r j none))

-- an encoding is inside an interval, "low to high, both included"
abbrev pub in_interval : ℕ → Interval → Bool
in_interval e i = within i.low i.high e

-- a key "inside the box", by its four encodings
unfoldable pub in_box : Box → List ℕ → Bool
in_box box key = all_below 4 (λ j. if_given (in_interval (get_or key j 0)) (get_or box j none))

-- no end is 2^w_j or more
unfoldable pub box_fits : Shape → Box → Bool
box_fits s box =
    all_below 4 (λ j. if_given (λ i. ltb i.low (2 ^ width_of s j) && ltb i.high (2 ^ width_of s j)) (get_or box j none))

-- no low end is above its high end
unfoldable pub box_rises : Box → Bool
box_rises box = all_below 4 (λ j. if_given (λ i. leb i.low i.high) (get_or box j none))

-- ---- regions

-- the number of the first n bits, the first most significant: 1, 0, 1 gives 5
unfoldable pub number : (ℕ → Bool) → ℕ → ℕ
number β zero = 0
number β (suc n) = 2 * number β n + bit_value (β n)

-- the first x bits of a string, and bits β from there on
abbrev pub filled : (ℕ → Bool) → ℕ → Bool → ℕ → Bool
filled p x β t = cond (ltb t x) (p t) β

-- attribute j of the key whose split bits are the first x bits of p and then only β
abbrev pub corner : Shape → (ℕ → Bool) → ℕ → Bool → ℕ → ℕ
corner s p x β j = number (attribute_bit (widths_of s) (filled p x β) j) (get_or (widths_of s) j 0)

-- "box of values" of the region of the first x bits of p: its lowest and its highest encoding of attribute j
abbrev pub lowest : Shape → (ℕ → Bool) → ℕ → ℕ → ℕ
lowest s p x j = corner s p x false j

abbrev pub highest : Shape → (ℕ → Bool) → ℕ → ℕ → ℕ
highest s p x j = corner s p x true j

-- the numbers from one to another meet an interval
abbrev pub meets_interval : ℕ → ℕ → Interval → Bool
meets_interval from to i = leb i.low to && leb from i.high

-- it "meets the query's": in attribute j, and in all
abbrev pub meets_at : Shape → Box → (ℕ → Bool) → ℕ → ℕ → Bool
meets_at s box p x j = if_given (meets_interval (lowest s p x j) (highest s p x j)) (get_or box j none)

unfoldable pub box_meets : Shape → Box → (ℕ → Bool) → ℕ → Bool
box_meets s box p x = all_below 4 (meets_at s box p x)

-- what that is to say: a key of the shape begins with the region and lies in the box
abbrev pub HoldsKey : Shape → Box → (ℕ → Bool) → ℕ → Type 0
HoldsKey s box p x =
    (key : List ℕ) × (length key ≡ 4) × (index_fits (widths_of s) key ≡ true)
    × (same_bits p (split_bit (widths_of s) key) x 0 ≡ true) × (in_box box key ≡ true)

-- ---- the walk

-- it enters the regions that the box meets
abbrev pub box_enters : Shape → Box → ℕ → (ℕ → Bool) → Bool
box_enters s box x p = box_meets s box p x
