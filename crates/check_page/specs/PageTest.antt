-- What the contracts of the test of a page cite: the key in a record's bytes, with the bias that a shape adds to its
-- fields, and the test by codes in the code's order.
-- Assumes nothing.
use Rattle.std.specs.Prelude.{ℕ, zero, suc, ◌+◌, ◌-◌, ◌*◌, ◌/◌, ◌^◌, ◌≤◌, ◌<◌, ◌≡◌, Bool, true, false, ◌&&◌, List, leb, ltb, eqb}
use Rattle.shape.specs.Shape.{Fit, total, index_fits}
use Rattle.shape.specs.Key.{per_attribute, biased}
use Rattle.split.specs.Bits.{split_bit}
use Rattle.record.specs.Bytes.{record_size, number_of, field}
use Rattle.record.specs.Packed.{packed_value, unpacked_key}
use Rattle.page.specs.Page.{page_size, count_of}
use Rattle.check_test.specs.Codes.{code}

-- "each four 16-bit values": the fields of the record at an offset
abbrev pub fields_at : List ℕ → ℕ → List ℕ
fields_at page at = per_attribute (λ j. number_of (field page (at + 2 * j) 2))

-- their encodings, where a packed bias is added
abbrev pub encodings_at : ℕ → List ℕ → ℕ → List ℕ
encodings_at bias page at = per_attribute (λ j. biased (packed_value bias j) (number_of (field page (at + 2 * j) 2)))

-- what is read of each of the n records of a page, where a packed bias is added: its packed encodings
abbrev pub Reads : (ℕ → ℕ → Type 0) → List ℕ → ℕ → ℕ → Type 0
Reads read page bias n =
    (k key : ℕ) → k < n → read k key → unpacked_key key ≡ encodings_at bias page (2 + record_size * k)

-- all split bits of a key as one number
unfoldable pub key_code : List ℕ → List ℕ → ℕ
key_code ws key = code (total ws) 0 (split_bit ws key)

-- the records of a page, by the widths, in the leaf of x bits with the code s
module _ (ws : List ℕ) (x s : ℕ) where
  -- a key within the widths that begins with the x bits
  abbrev pub record_passes : List ℕ → Bool
  record_passes key = index_fits ws key && eqb (key_code ws key / 2 ^ (total ws - x)) s

  -- n records from an offset on, after one with the code c
  abbrev pub records_after : ℕ → List ℕ → ℕ → ℕ → ℕ → Bool
  records_after bias page c zero at = true
  records_after bias page c (suc n) at =
      let key = encodings_at bias page at in
      ltb c (key_code ws key) && (record_passes key && records_after bias page (key_code ws key) n (at + record_size))

  -- n records, one at least
  abbrev pub records_pass : ℕ → List ℕ → ℕ → Bool
  records_pass bias page zero = false
  records_pass bias page (suc n) =
      let key = encodings_at bias page 2 in
      record_passes key && records_after bias page (key_code ws key) n (2 + record_size)

-- the records of a page in split order and within the widths, wherever they begin
module _ (ws : List ℕ) (bias : ℕ) where
  -- n records from an offset on, after one with the code c: in split order
  abbrev pub ascend_after : List ℕ → ℕ → ℕ → ℕ → Bool
  ascend_after page c zero at = true
  ascend_after page c (suc n) at =
      let key = encodings_at bias page at in
      ltb c (key_code ws key) && ascend_after page (key_code ws key) n (at + record_size)

  -- n records from an offset on, each within the widths
  abbrev pub all_fit : List ℕ → ℕ → ℕ → Bool
  all_fit page zero at = true
  all_fit page (suc n) at = index_fits ws (encodings_at bias page at) && all_fit page n (at + record_size)

  -- n records, one at least
  unfoldable pub ascending : List ℕ → ℕ → Bool
  ascending page n = ascend_after page (key_code ws (encodings_at bias page 2)) (n - 1) (2 + record_size) && all_fit page n 2

-- 1 to b records, in split order, each within the widths and beginning with the x bits
unfoldable pub page_passes : List ℕ → ℕ → ℕ → ℕ → ℕ → List ℕ → Bool
page_passes ws b x s bias page = leb (count_of page) b && records_pass ws x s bias page (count_of page)

-- a page of b records, and x of the split bits
pub record TestedPage (ws : List ℕ) (b x size : ℕ) : Type 0 where
  pub fit : Fit ws
  pub within : x ≤ total ws
  pub whole : size ≡ page_size b
