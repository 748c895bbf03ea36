-- A box against a region by the first bits of the ends: with r bits of an attribute still free in the region, its bits
-- lie between low / 2^r and high / 2^r. Assumes nothing.
use Rattle.std.specs.Prelude.{ℕ, ◌-◌, ◌/◌, ◌^◌, Bool, ◌&&◌, leb, get_or}
use Rattle.std.proofs.Math.Option.{none}
use Rattle.shape.specs.Shape.{widths_of}
use Rattle.shape.specs.Key.{if_given}
use Rattle.shape.specs.Range.{Interval}
use Rattle.shape.specs.declared.Shape.{Shape}
use Rattle.split.specs.Steps.{attribute_depth}
use Rattle.cell.specs.Cell.{attribute_bit}
use Rattle.range_box.specs.Box.{Box, number}

-- the first h of w bits of an encoding: of 5 in three bits, the first two are 2
abbrev pub first_bits : ℕ → ℕ → ℕ → ℕ
first_bits w h e = e / 2 ^ (w - h)

-- the bits of attribute j in the region of the first x bits of p
abbrev pub region_bits : Shape → (ℕ → Bool) → ℕ → ℕ → ℕ
region_bits s p x j = number (attribute_bit (widths_of s) p j) (attribute_depth (widths_of s) x j)

-- h bits c of an attribute lie between the first h of both ends
abbrev pub first_meets : ℕ → ℕ → ℕ → Interval → Bool
first_meets w h c i = leb (first_bits w h i.low) c && leb c (first_bits w h i.high)

-- those of the region, in attribute j
abbrev pub first_meets_at : Shape → Box → (ℕ → Bool) → ℕ → ℕ → Bool
first_meets_at s box p x j =
    if_given (first_meets (get_or (widths_of s) j 0) (attribute_depth (widths_of s) x j) (region_bits s p x j))
    (get_or box j none)
