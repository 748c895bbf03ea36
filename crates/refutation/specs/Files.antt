-- Small files of widths 2, 2 and b = 2, right and wrong ones. Assumes nothing.
use Rattle.std.specs.Prelude.{ℕ, ◌^◌, List, [], ◌∷◌, ◌++◌, length, replicate}
use Rattle.record.specs.Record.{Record}
use Rattle.record.specs.Bytes.{little_endian, records_bytes}
use Rattle.store.specs.Store.{Memory}
use Rattle.file.specs.File.{letters, end_size, trailer_bytes}
use Rattle.table.specs.Table.{two_two}
use Rattle.refutation.specs.Stores.{record_at}

-- records in any order, with these bytes of shape
abbrev pub file_with : List Record → List ℕ → List ℕ
file_with rs shape = records_bytes two_two rs ++ (shape ++ trailer_bytes (length rs))

-- the shape's bytes, with these marks and this last byte
abbrev pub shape_with : ℕ → ℕ → List ℕ
shape_with marks last = 2 ∷ 2 ∷ 2 ∷ 0 ∷ 0 ∷ 2 ∷ marks ∷ last ∷ []

-- no record, and a shape of widths 0, 17, 5 and b = 0
abbrev pub bad_shape : List ℕ
bad_shape = file_with [] (3 ∷ 0 ∷ 17 ∷ 5 ∷ 0 ∷ 0 ∷ 0 ∷ 0 ∷ [])

-- (2,0) twice, and (3,1) before (2,0)
abbrev pub same_keys : List ℕ
same_keys = file_with (record_at 2 0 11 ∷ record_at 2 0 12 ∷ []) (shape_with 0 0)

abbrev pub falling : List ℕ
falling = file_with (record_at 3 1 12 ∷ record_at 2 0 11 ∷ []) (shape_with 0 0)

-- no record, and a count of 2^30: 12 times it is 0 modulo 2^32, so that both distances are 24 there
abbrev pub count_wraps : List ℕ
count_wraps =
    shape_with 0 0 ++ (letters ++ (little_endian 4 end_size ++ (little_endian 4 end_size ++ little_endian 4 (2 ^ 30))))

-- slices of so many words and bytes
abbrev pub slices : ℕ → ℕ → Memory
slices words bytes = record { words = replicate words 1; bytes = replicate bytes 1 }
