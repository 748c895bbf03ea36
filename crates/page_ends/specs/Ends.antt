-- Whether a page is its leaf's, by the first and the last of its records (document 01, "Regions of a set": a leaf's
-- keys begin with it). Assumes nothing.
use Rattle.std.specs.Prelude.{ℕ, ◌-◌, ◌^◌, Bool, ◌&&◌, List, eqb, get_or}
use Rattle.std.specs.Int.Bits.{bit_and, bit_or, bit_xor}
use Rattle.shape.specs.Shape.{index_fits}
use Rattle.shape.specs.Key.{per_attribute}
use Rattle.split.specs.Steps.{attribute_depth}
use Rattle.split.specs.Bits.{split_bit}
use Rattle.region.specs.Strings.{same_bits}
use Rattle.record.specs.Packed.{packed_key, unpacked_key}
use Rattle.page.specs.Fields.{code_at}

-- a key has values in bounds and begins with the first x bits of p
unfoldable pub key_begins : List ℕ → ℕ → (ℕ → Bool) → List ℕ → Bool
key_begins ws x p key = index_fits ws key && same_bits (split_bit ws key) p x 0

-- so do the first and the last of the n records of a page, where a shape adds a bias to its values
unfoldable pub ends_begin : List ℕ → ℕ → ℕ → (ℕ → Bool) → List ℕ → ℕ → Bool
ends_begin ws bias x p page n =
    key_begins ws x p (unpacked_key (code_at bias page 0)) && key_begins ws x p (unpacked_key (code_at bias page (n - 1)))

-- the bits of a packed key that are fixed in a leaf of depth x: of the value of attribute j its first h_j bits, and
-- those past its width, which are 0. For widths 2, 2 and x = 1: 0xfffe, 0xfffc, 0xffff, 0xffff by attribute
unfoldable pub fixed_bits : List ℕ → ℕ → ℕ
fixed_bits ws x = packed_key (per_attribute (λ j. 2 ^ 16 - 2 ^ (get_or ws j 0 - attribute_depth ws x j)))

-- the first and the last of n records agree with a packed key in the bits of a mask
unfoldable pub ends_agree : ℕ → ℕ → ℕ → List ℕ → ℕ → Bool
ends_agree bias mask key page n =
    eqb (bit_and (bit_or (bit_xor (code_at bias page 0) key) (bit_xor (code_at bias page (n - 1)) key)) mask) 0
