-- The records of a page by their place and as their bytes. Assumes nothing.
use Rattle.std.specs.Prelude.{ℕ, zero, suc, ◌+◌, ◌*◌, List, [], ◌∷◌}
use Rattle.record.specs.declared.Content.{Content}
use Rattle.record.specs.Bytes.{record_size, field}
use Rattle.record.specs.Lanes.{lane_sum}
use Rattle.record.specs.Packed.{key_in, content_in}

-- "count (2), then records": where record i begins
abbrev pub record_offset : ℕ → ℕ
record_offset i = 2 + record_size * i

-- the bytes of record i, its packed fields and its content
abbrev pub record_field : List ℕ → ℕ → List ℕ
record_field page i = field page (record_offset i) record_size

abbrev pub key_at : List ℕ → ℕ → ℕ
key_at page i = key_in (record_field page i)

-- its packed encodings, where a shape adds a bias to its values
abbrev pub code_at : ℕ → List ℕ → ℕ → ℕ
code_at bias page i = lane_sum (key_at page i) bias

abbrev pub content_at : List ℕ → ℕ → Content
content_at page i = content_in (record_field page i)

-- n records from an offset on, each as its bytes
abbrev pub fields_from : ℕ → ℕ → List ℕ → List (List ℕ)
fields_from zero offset bytes = []
fields_from (suc n) offset bytes = field bytes offset record_size ∷ fields_from n (offset + record_size) bytes
