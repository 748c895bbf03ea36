-- Numbers and records as bytes (document 01, "Lent memory"): "little-endian .. records .., each four 16-bit values
-- (unused ones 0) and a 32-bit payload". A value of a marked attribute is "in 16-bit two's complement" (document 02,
-- request 4): of an encoding's value the low 16 bits are written.
--
--     offset   size   meaning
--     0        2      value of attribute 0
--     2        2      value of attribute 1
--     4        2      value of attribute 2
--     6        2      value of attribute 3
--     8        4      payload
--
-- Assumes nothing.
use Rattle.std.specs.Prelude.{ℕ, zero, suc, ◌+◌, ◌*◌, ◌/◌, ◌%◌, List, [], ◌∷◌, ◌++◌, get_or, take, drop}
use Rattle.shape.specs.Key.{decode, encode_field, per_attribute}
use Rattle.shape.specs.declared.Shape.{Shape}
use Rattle.record.specs.Record.{Record}

-- "12-byte records"
abbrev pub record_size : ℕ
record_size = 12

-- ---- numbers, the least significant byte first

-- a number in n bytes: 258 in two is 2, 1
abbrev pub little_endian : ℕ → ℕ → List ℕ
little_endian zero v = []
little_endian (suc n) v = v % 256 ∷ little_endian n (v / 256)

-- the number that bytes hold
abbrev pub number_of : List ℕ → ℕ
number_of [] = 0
number_of (x ∷ xs) = x + 256 * number_of xs

-- n bytes from an offset on
abbrev pub field : List ℕ → ℕ → ℕ → List ℕ
field bytes offset n = take n (drop offset bytes)

-- ---- records

-- a record's bytes
unfoldable pub record_bytes : Shape → Record → List ℕ
record_bytes s r =
    little_endian 2 (decode s 0 (get_or r.key 0 0))
    ++ (little_endian 2 (decode s 1 (get_or r.key 1 0))
    ++ (little_endian 2 (decode s 2 (get_or r.key 2 0))
    ++ (little_endian 2 (decode s 3 (get_or r.key 3 0))
    ++ little_endian 4 r.content.payload)))

-- the record that bytes hold
unfoldable pub record_of : Shape → List ℕ → Record
record_of s bytes =
    record {
      key = per_attribute (λ j. encode_field s j (number_of (field bytes (2 * j) 2)));
      content = record { payload = number_of (field bytes 8 4) };
    }

-- the bytes of records, one after the other
abbrev pub records_bytes : Shape → List Record → List ℕ
records_bytes s [] = []
records_bytes s (r ∷ rs) = record_bytes s r ++ records_bytes s rs
