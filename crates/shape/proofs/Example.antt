-- Marked attributes, computed (document 02, request 4): offsets from -512 to 511, of width 10; which of two attributes a
-- mark is of; the least and the greatest width. Assumes nothing.
use Prim.Native.Nat.{ℕ, ◌-◌, ◌%◌, ◌^◌}
use mathlib.Core.Path.{◌≡◌, refl}
use mathlib.Core.Bool.{true, false}
use mathlib.Core.List.{List, [], ◌∷◌, map}
use lib.IntN.{pos, negsuc}
use Rattle.shape.specs.Key.{marked, bias, encode, value_fits, encode_field}
use Rattle.shape.specs.Integers.{integer_of, field_integer}
use Rattle.shape.specs.declared.Shape.{Shape}

abbrev offsets : Shape
offsets = record { attributes = 1; widths = 10 ∷ 0 ∷ 0 ∷ 0 ∷ []; capacity = 1; signs = 1 }

-- of -513, -512, -1, 0, 511 and 512, the first and the last do not fit
abbrev numbers : List ℕ
numbers = (2 ^ 32 - 513) ∷ (2 ^ 32 - 512) ∷ (2 ^ 32 - 1) ∷ 0 ∷ 511 ∷ 512 ∷ []

pub offsets-fit : map (value_fits offsets 0) numbers ≡ false ∷ true ∷ true ∷ true ∷ true ∷ false ∷ []
unfolding value_fits encode bias marked
offsets-fit = refl

pub offsets-encoded : map (encode offsets 0) numbers ≡ (2 ^ 32 - 1) ∷ 0 ∷ 511 ∷ 512 ∷ 1023 ∷ 1024 ∷ []
unfolding encode bias marked
offsets-encoded = refl

-- their low 16 bits: 0xfdff, 0xfe00, 0xffff, 0, 0x01ff, 0x0200
abbrev fields : List ℕ
fields = map (λ v. v % 2 ^ 16) numbers

pub fields-encoded : map (encode_field offsets 0) fields ≡ 65535 ∷ 0 ∷ 511 ∷ 512 ∷ 1023 ∷ 1024 ∷ []
unfolding encode_field bias marked
fields-encoded = refl

pub fields-integers : map (field_integer offsets 0) fields
    ≡ negsuc 512 ∷ negsuc 511 ∷ negsuc 0 ∷ pos 0 ∷ pos 511 ∷ pos 512 ∷ []
unfolding field_integer integer_of marked
fields-integers = refl

pub numbers-integers : map (integer_of 32) numbers ≡ map (field_integer offsets 0) fields
unfolding field_integer integer_of marked
numbers-integers = refl

-- ---- bit j marks attribute j

abbrev second : Shape
second = record { attributes = 2; widths = 1 ∷ 16 ∷ 5 ∷ 0 ∷ []; capacity = 1; signs = 6 }

pub second-marked : map (marked second) (0 ∷ 1 ∷ 2 ∷ []) ≡ false ∷ true ∷ false ∷ []
unfolding marked
second-marked = refl

-- of 16 bits, -32769, -32768, 32767 and 32768
pub widest-fit : map (value_fits second 1) ((2 ^ 32 - 32769) ∷ (2 ^ 32 - 32768) ∷ 32767 ∷ 32768 ∷ [])
    ≡ false ∷ true ∷ true ∷ false ∷ []
unfolding value_fits encode bias marked
widest-fit = refl

-- of 1 bit, -2, -1, 0 and 1
pub narrowest-fit : map (value_fits (record { attributes = 1; widths = 1 ∷ 0 ∷ 0 ∷ 0 ∷ []; capacity = 1; signs = 1 }) 0)
    ((2 ^ 32 - 2) ∷ (2 ^ 32 - 1) ∷ 0 ∷ 1 ∷ [])
    ≡ false ∷ true ∷ true ∷ false ∷ []
unfolding value_fits encode bias marked
narrowest-fit = refl
