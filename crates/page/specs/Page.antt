-- Pages (document 01, "Lent memory"): "A page has 2 + 12b bytes, little-endian: count (2), then records in split
-- order".
-- Bytes past the last record are free. Assumes nothing.
use Rattle.std.specs.Prelude.{ℕ, zero, suc, ◌+◌, ◌*◌, List, [], ◌∷◌}
use Rattle.shape.specs.declared.Shape.{Shape}
use Rattle.record.specs.Record.{Record}
use Rattle.record.specs.Bytes.{record_size, number_of, field, record_of}

-- "2 + 12b bytes"
abbrev pub page_size : ℕ → ℕ
page_size b = 2 + record_size * b

-- "count (2)"; "A page is free exactly if its count is 0."
abbrev pub count_of : List ℕ → ℕ
count_of page = number_of (field page 0 2)

-- n records from an offset on
abbrev pub records_from : Shape → ℕ → ℕ → List ℕ → List Record
records_from s zero offset bytes = []
records_from s (suc n) offset bytes = record_of s (field bytes offset record_size)
    ∷ records_from s n (offset + record_size) bytes

-- "then records": those that the count says
abbrev pub records_of : Shape → List ℕ → List Record
records_of s page = records_from s (count_of page) 2 page

-- page g of the lent bytes
abbrev pub page_at : ℕ → List ℕ → ℕ → List ℕ
page_at b bytes g = field bytes (g * page_size b) (page_size b)
