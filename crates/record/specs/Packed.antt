-- Keys as the code hands them on: four values in one number of 64 bits, a packed key. The values are the encodings of a
-- key, or the fields of a record's bytes, where it is the number of the first eight. Assumes nothing.
use Rattle.std.specs.Prelude.{ℕ, ◌+◌, ◌*◌, ◌/◌, ◌%◌, ◌^◌, ◌<◌, List, ◌++◌, get_or}
use Rattle.shape.specs.Key.{per_attribute}
use Rattle.record.specs.declared.Content.{Content}
use Rattle.record.specs.Bytes.{little_endian, number_of, field}

-- four values below 2^16 as one number, the value of attribute 0 lowest: of 1, 2, 0, 0 it is 0x20001
unfoldable pub packed_key : List ℕ → ℕ
packed_key values =
    get_or values 0 0 + 2 ^ 16 * (get_or values 1 0 + 2 ^ 16 * (get_or values 2 0 + 2 ^ 16 * get_or values 3 0))

-- values of 16 bits, as fields are, and the encodings of values that fit a shape
abbrev pub SixteenBits : List ℕ → Type 0
SixteenBits values = (j : ℕ) → get_or values j 0 < 2 ^ 16

-- the value of attribute j in a packed key, and all four
abbrev pub packed_value : ℕ → ℕ → ℕ
packed_value key j = key / 2 ^ (16 * j) % 2 ^ 16

unfoldable pub unpacked_key : ℕ → List ℕ
unpacked_key key = per_attribute (packed_value key)

-- the packed key and the content that a record's bytes hold
abbrev pub key_in : List ℕ → ℕ
key_in bytes = number_of (field bytes 0 8)

abbrev pub content_in : List ℕ → Content
content_in bytes = record { payload = number_of (field bytes 8 4) }

-- the bytes of a record, from its packed key and its content
unfoldable pub packed_bytes : ℕ → Content → List ℕ
packed_bytes key content = little_endian 8 key ++ little_endian 4 content.payload
