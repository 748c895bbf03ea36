-- The file of a saved store (document 02, request 5). With n records:
--
--     offset     size   meaning
--     0          12n    the records in split order
--     12n        1      d
--     12n + 1    4      the widths of attributes 0 to 3, 0 for an unused one
--     12n + 5    1      b
--     12n + 6    1      the marks of signed attributes, bit j for attribute j
--     12n + 7    1      0
--     12n + 8    4      the letters M, D, E, H
--     12n + 12   4      24, from the end back to the first byte of the shape
--     12n + 16   4      24 + 12n, from the end back to the first byte of the file
--     12n + 20   4      n
--
-- Assumes nothing.
use Rattle.std.specs.Prelude.{ℕ, ◌+◌, ◌-◌, ◌*◌, ◌/◌, ◌%◌, ◌^◌, Bool, ◌&&◌, ◌||◌, List, [], ◌∷◌, ◌++◌, leb, ltb, eqb, length, get_or}
use Rattle.shape.specs.Shape.{all_below, widths_of}
use Rattle.shape.specs.Key.{per_attribute}
use Rattle.shape.specs.declared.Shape.{Shape}
use Rattle.record.specs.Record.{Record}
use Rattle.record.specs.Bytes.{record_size, little_endian, number_of, field, records_bytes}
use Rattle.record.specs.Lanes.{lane_sum}
use Rattle.record.specs.Packed.{key_in}
use Rattle.page.specs.Page.{records_from}

-- ---- the file of a set

-- "the ASCII letters MDEH"
abbrev pub letters : List ℕ
letters = 77 ∷ 68 ∷ 69 ∷ 72 ∷ []

-- "Eight bytes of shape", and "the last 16 bytes": what stands behind the records
abbrev pub end_size : ℕ
end_size = 8 + 16

-- the bytes of a file with n records
abbrev pub file_size : ℕ → ℕ
file_size n = record_size * n + end_size

-- "d, four widths (unused 0), b, a byte of sign marks (bit j for attribute j, bit 0 the least, written 0 where there is
-- no attribute), and 0"
abbrev pub shape_bytes : Shape → List ℕ
shape_bytes s = s.attributes ∷ (widths_of s ++ s.capacity ∷ s.signs % 2 ^ s.attributes ∷ 0 ∷ [])

-- "then three little-endian 32-bit numbers. These are the distances from the end of the file back to the first byte of
-- the shape and of the file, and the record count."
abbrev pub trailer_bytes : ℕ → List ℕ
trailer_bytes n = letters ++ (little_endian 4 end_size ++ (little_endian 4 (file_size n) ++ little_endian 4 n))

-- behind n records
unfoldable pub end_bytes : Shape → ℕ → List ℕ
end_bytes s n = shape_bytes s ++ trailer_bytes n

-- "The file holds the records in split order, 12 bytes each. Eight bytes of shape follow .. The trailer is the last 16
-- bytes": of a set, which is a list in split order
unfoldable pub file_of : Shape → List Record → List ℕ
file_of s S = records_bytes s S ++ end_bytes s (length S)

-- ---- what any bytes say as a file

-- the byte that stands n bytes before the end, and the number in the four bytes from there on
abbrev pub byte_before : ℕ → List ℕ → ℕ
byte_before n file = get_or file (length file - n) 0

abbrev pub number_before : ℕ → List ℕ → ℕ
number_before n file = number_of (field file (length file - n) 4)

-- the record count
abbrev pub file_count : List ℕ → ℕ
file_count file = number_before 4 file

-- the shape
unfoldable pub file_shape : List ℕ → Shape
file_shape file =
    record {
      attributes = byte_before 24 file;
      widths = per_attribute (λ j. byte_before (23 - j) file);
      capacity = byte_before 19 file;
      signs = byte_before 18 file;
    }

-- the records
unfoldable pub file_records : List ℕ → List Record
file_records file = records_from (file_shape file) (file_count file) 0 file

-- record i: its bytes, and its packed encodings, where a shape adds a bias to its values
abbrev pub record_at : List ℕ → ℕ → List ℕ
record_at file i = field file (record_size * i) record_size

abbrev pub encodings_at : ℕ → List ℕ → ℕ → ℕ
encodings_at bias file i = lane_sum (key_in (record_at file i)) bias

-- not "fewer than 24 bytes, or trailer letters or distances not those of its count and the file's length"
unfoldable pub is_whole : List ℕ → Bool
is_whole file =
    leb end_size (length file)
    && (all_below 4 (λ i. eqb (byte_before (16 - i) file) (get_or letters i 0))
    && (eqb (number_before 12 file) end_size
    && (eqb (number_before 8 file) (file_size (file_count file)) && eqb (length file) (file_size (file_count file)))))

-- not "a last shape byte, an unused width or a mark bit without an attribute that is not 0"
unfoldable pub is_plain : List ℕ → Bool
is_plain file =
    let s = file_shape file in
    eqb (byte_before 17 file) 0
    && (all_below 4 (λ j. ltb j s.attributes || eqb (get_or s.widths j 0) 0)
    && eqb (s.signs / 2 ^ s.attributes) 0)
