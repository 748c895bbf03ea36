-- Queries as patterns of packed keys: a mask and the value under it. Assumes nothing.
use Rattle.std.specs.Prelude.{ℕ, ◌%◌, ◌^◌, Bool, cond, ◌&&◌, List, eqb, get_or}
use Rattle.std.proofs.Math.Option.{Option, none}
use Rattle.std.specs.Int.Bits.{bit_and}
use Rattle.shape.specs.Key.{per_attribute, value_or, is_given}
use Rattle.record.specs.Packed.{packed_key, SixteenBits, key_in}
use Rattle.page_matches.specs.declared.Pattern.{Pattern}

-- "each attribute is either given a value or free": the bits of a value that are compared, and what they are
abbrev pub wanted_mask : Option ℕ → ℕ
wanted_mask w = cond (is_given w) 65535 0

abbrev pub wanted_bits : Option ℕ → ℕ
wanted_bits w = value_or 0 w

-- as a field of 16 bits has them
abbrev pub wanted_field : Option ℕ → ℕ
wanted_field w = value_or 0 w % 2 ^ 16

-- the bits of all four values
abbrev pub masks_of : List (Option ℕ) → List ℕ
masks_of q = per_attribute (λ j. wanted_mask (get_or q j none))

abbrev pub bits_of : List (Option ℕ) → List ℕ
bits_of q = per_attribute (λ j. wanted_bits (get_or q j none))

abbrev pub fields_wanted : List (Option ℕ) → List ℕ
fields_wanted q = per_attribute (λ j. wanted_field (get_or q j none))

-- given numbers of 16 bits, as the encodings of values are that fit a shape
abbrev pub GivenSixteenBits : List (Option ℕ) → Type 0
GivenSixteenBits q = SixteenBits (bits_of q)

-- the pattern of a query: attribute 1 given as 5 has mask 0xffff0000 and value 0x50000
unfoldable pub pattern_of : List (Option ℕ) → Pattern
pattern_of q = record { mask = packed_key (masks_of q); value = packed_key (fields_wanted q) }

-- a pattern of a query with every attribute free
unfoldable pub gives_nothing : Pattern → Bool
gives_nothing p = eqb p.mask 0 && eqb p.value 0

-- a record's bytes match a pattern
unfoldable pub passes : Pattern → List ℕ → Bool
passes p bytes = eqb (bit_and (key_in bytes) p.mask) p.value
