-- The replies of the program `stock` as bytes (document 01, "Proof table and the printed run"): "It prints `ok`, `no`
-- and the number, or `bad line`; for `list`, the records (values, payload), then `=`, total, reads. .. Fields are
-- decimal, one space apart." Each reply, and each record, is a line of its own. Assumes nothing.
use Rattle.std.specs.Prelude.{ℕ, zero, suc, ◌+◌, ◌-◌, ◌*◌, ◌/◌, ◌%◌, ◌^◌, ◌≤◌, ◌<◌, ◌≡◌, cond, List, [], ◌∷◌, ◌++◌, ltb, length, take}
use Rattle.record.specs.Bytes.{record_size, number_of, field}
use Rattle.record.specs.Packed.{content_in}

-- ---- numbers

-- the last k decimal digits of n, the most significant first: of 258 the last two are `58`
abbrev pub digits : ℕ → ℕ → List ℕ
digits zero n = []
digits (suc k) n = digits k (n / 10) ++ ((48 + n % 10) ∷ [])

-- the digits of n without leading zeros, at least one; f counts down the further ones that may be looked for
abbrev pub places_from : ℕ → ℕ → ℕ
places_from zero n = 1
places_from (suc f) n = cond (ltb n 10) 1 (suc (places_from f (n / 10)))

-- enough for a number below 10^21
unfoldable pub places : ℕ → ℕ
places n = places_from 20 n

unfoldable pub decimal : ℕ → List ℕ
decimal n = digits (places n) n

-- k is the fewest digits that hold n, at least one: 1 for 0, 2 for 10
abbrev pub Fewest : ℕ → ℕ → Type 0
Fewest n k = (1 ≤ k) × (n < 10 ^ k) × (1 < k → 10 ^ (k - 1) ≤ n)

-- ---- lines

abbrev pub space : ℕ
space = 32

abbrev pub newline : ℕ
newline = 10

-- a number, and the byte behind it
unfoldable pub field_text : ℕ → ℕ → List ℕ
field_text n behind = decimal n ++ (behind ∷ [])

-- `ok`
unfoldable pub ok_text : List ℕ
ok_text = 111 ∷ 107 ∷ newline ∷ []

-- `bad line`
unfoldable pub bad_text : List ℕ
bad_text = 98 ∷ 97 ∷ 100 ∷ space ∷ 108 ∷ 105 ∷ 110 ∷ 101 ∷ newline ∷ []

-- "`no` and the number"
unfoldable pub refused_text : ℕ → List ℕ
refused_text number = (110 ∷ 111 ∷ space ∷ []) ++ field_text number newline

-- the values of a record's first d attributes
unfoldable pub values_text : ℕ → List ℕ → List ℕ
values_text zero bytes = []
values_text (suc j) bytes = values_text j bytes ++ field_text (number_of (field bytes (2 * j) 2)) space

-- "(values, payload)" of the record that bytes hold
unfoldable pub record_text : ℕ → List ℕ → List ℕ
record_text d bytes = values_text d bytes ++ field_text (content_in bytes).payload newline

-- the first n records of an output, one after the other
unfoldable pub records_text : ℕ → ℕ → List ℕ → List ℕ
records_text d zero bytes = []
records_text d (suc i) bytes = records_text d i bytes ++ record_text d (field bytes (record_size * i) record_size)

-- "`=`, total, reads"
unfoldable pub sum_text : ℕ → ℕ → List ℕ
sum_text total reads = (61 ∷ space ∷ []) ++ (field_text total space ++ field_text reads newline)

-- the bytes that a line of a list is given: of a record it has at most 35 (four values of up to 5 digits, a payload of
-- up to 10, a byte behind each), of the sum at most 44 (`=`, two numbers of up to 20 digits, a byte behind each)
abbrev pub line_size : ℕ
line_size = 48

-- ---- a text that grows

-- `bytes` were written into `entry` from offset `at` on, and `end` is the offset behind them; what stands past it is
-- free
pub record Grown (entry : List ℕ) (at : ℕ) (bytes : List ℕ) (exit : List ℕ) (end : ℕ) : Type 0 where
  pub end_is : end ≡ at + length bytes
  pub length-is : length exit ≡ length entry
  pub text-is : take end exit ≡ take at entry ++ bytes
