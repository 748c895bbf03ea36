-- Files and the answers of their loads, computed (document 02, requests 5 and 7): an empty store's, the proof table's
-- four records, a marked value; files that are damaged in one place, and the order of the numbers. Assumes nothing.
use Prim.Native.Nat.{ℕ}
use mathlib.Core.Path.{◌≡◌, refl}
use mathlib.Core.List.{List, [], ◌∷◌, map}
use lib.ListN.{drop, set, replicate}
use Rattle.shape.specs.Refusal.{Answer, refused, refused_with, first_number, answered_by}
use Rattle.shape.specs.Shape.{shape_conditions, lowest_bad, widths_of}
use Rattle.shape.specs.Key.{marked, bias, decode, encode_field}
use Rattle.shape.specs.declared.Shape.{Shape}
use Rattle.split.specs.Steps.{steps_below, steps, step}
use Rattle.split.specs.Bits.{split_bit}
use Rattle.record.specs.Record.{Record}
use Rattle.record.specs.Bytes.{record_bytes, record_of}
use Rattle.model.specs.Limits.{logarithm, page_limit_of, depth_limit_of, fresh_shape, fixed_by}
use Rattle.model.specs.Sets.{is_set, division_of}
use Rattle.store.specs.Store.{Memory, memory}
use Rattle.file.specs.File.{end_bytes, file_of, file_shape, file_records, is_whole, is_plain}
use Rattle.file.specs.Loading.{load_refusals, load_number}

-- ---- files

-- "Widths 2, 2, b = 2"
abbrev two_two : Shape
two_two = record { attributes = 2; widths = 2 ∷ 2 ∷ 0 ∷ 0 ∷ []; capacity = 2; signs = 0 }

-- without records, 24 bytes
abbrev empty_file : List ℕ
empty_file =
    2 ∷ 2 ∷ 2 ∷ 0 ∷ 0 ∷ 2 ∷ 0 ∷ 0
    ∷ 77 ∷ 68 ∷ 69 ∷ 72
    ∷ 24 ∷ 0 ∷ 0 ∷ 0
    ∷ 24 ∷ 0 ∷ 0 ∷ 0
    ∷ 0 ∷ 0 ∷ 0 ∷ 0
    ∷ []

pub empty-file : file_of two_two [] ≡ empty_file
unfolding file_of end_bytes widths_of
empty-file = refl

abbrev entry : ℕ → ℕ → ℕ → Record
entry x y payload = record { key = x ∷ y ∷ 0 ∷ 0 ∷ []; content = record { payload = payload } }

-- keys (0,0), (2,0), (2,1), (3,1) of the proof table, with split bits 0000, 1000, 1001, 1011
abbrev four_records : List Record
four_records = entry 0 0 10 ∷ entry 2 0 11 ∷ entry 2 1 13 ∷ entry 3 1 12 ∷ []

abbrev four_file : List ℕ
four_file =
    0 ∷ 0 ∷ 0 ∷ 0 ∷ 0 ∷ 0 ∷ 0 ∷ 0 ∷ 10 ∷ 0 ∷ 0 ∷ 0
    ∷ 2 ∷ 0 ∷ 0 ∷ 0 ∷ 0 ∷ 0 ∷ 0 ∷ 0 ∷ 11 ∷ 0 ∷ 0 ∷ 0
    ∷ 2 ∷ 0 ∷ 1 ∷ 0 ∷ 0 ∷ 0 ∷ 0 ∷ 0 ∷ 13 ∷ 0 ∷ 0 ∷ 0
    ∷ 3 ∷ 0 ∷ 1 ∷ 0 ∷ 0 ∷ 0 ∷ 0 ∷ 0 ∷ 12 ∷ 0 ∷ 0 ∷ 0
    ∷ 2 ∷ 2 ∷ 2 ∷ 0 ∷ 0 ∷ 2 ∷ 0 ∷ 0
    ∷ 77 ∷ 68 ∷ 69 ∷ 72
    ∷ 24 ∷ 0 ∷ 0 ∷ 0
    ∷ 72 ∷ 0 ∷ 0 ∷ 0
    ∷ 4 ∷ 0 ∷ 0 ∷ 0
    ∷ []

pub four-file : file_of two_two four_records ≡ four_file
unfolding file_of end_bytes widths_of record_bytes decode marked
four-file = refl

pub four-records : file_records four_file ≡ four_records
unfolding file_records file_shape record_of encode_field bias marked
four-records = refl

-- offsets from -512 to 511; width and mark of attribute 1 are unused and written as 0
abbrev offsets : Shape
offsets = record { attributes = 1; widths = 10 ∷ 9 ∷ 0 ∷ 0 ∷ []; capacity = 1; signs = 3 }

-- -1, whose encoding is 511, is the field 0xffff
abbrev offset_file : List ℕ
offset_file =
    255 ∷ 255 ∷ 0 ∷ 0 ∷ 0 ∷ 0 ∷ 0 ∷ 0 ∷ 7 ∷ 0 ∷ 0 ∷ 0
    ∷ 1 ∷ 10 ∷ 0 ∷ 0 ∷ 0 ∷ 1 ∷ 1 ∷ 0
    ∷ 77 ∷ 68 ∷ 69 ∷ 72
    ∷ 24 ∷ 0 ∷ 0 ∷ 0
    ∷ 36 ∷ 0 ∷ 0 ∷ 0
    ∷ 1 ∷ 0 ∷ 0 ∷ 0
    ∷ []

pub offset-file : file_of offsets (entry 511 0 7 ∷ []) ≡ offset_file
unfolding file_of end_bytes widths_of record_bytes decode bias marked
offset-file = refl

pub offset-records : file_records offset_file ≡ entry 511 0 7 ∷ []
unfolding file_records file_shape record_of encode_field bias marked widths_of
offset-records = refl

-- ---- loads

-- words and pages that are lent
abbrev slices : ℕ → ℕ → Memory
slices words bytes = memory (replicate words 0) (replicate bytes 0)

abbrev numbers_of : Memory → List (List ℕ) → List ℕ
numbers_of m files = map (λ file. load_number file m) files

-- no byte, 23 bytes, a byte too few or too many; a letter, either distance; a count of 2^30 + 4, whose 24 + 12n is 72
-- modulo 2^32; count and distance of three records, where there are four
abbrev damaged_ends : List (List ℕ)
damaged_ends =
    []
    ∷ drop 1 empty_file
    ∷ drop 1 four_file
    ∷ (0 ∷ four_file)
    ∷ set four_file 56 109
    ∷ set four_file 59 73
    ∷ set four_file 60 25
    ∷ set four_file 64 71
    ∷ set four_file 71 64
    ∷ set (set four_file 64 60) 68 3
    ∷ []

-- no attribute or five; a width of 0 or 17, both widths, a width and the capacity; a capacity of 0 or 17
abbrev damaged_shapes : List (List ℕ)
damaged_shapes =
    set four_file 48 0
    ∷ set four_file 48 5
    ∷ set four_file 49 0
    ∷ set four_file 50 17
    ∷ set (set four_file 50 0) 49 17
    ∷ set (set four_file 50 17) 53 0
    ∷ set four_file 53 0
    ∷ set four_file 53 17
    ∷ []

-- 14 names the lowest attribute with a bad width
abbrev shape_answers : List (Answer (Unit {0}))
shape_answers =
    refused 1
    ∷ refused 1
    ∷ refused_with 14 0
    ∷ refused_with 14 1
    ∷ refused_with 14 0
    ∷ refused_with 14 1
    ∷ refused 15
    ∷ refused 15
    ∷ []

-- the last byte of the shape, an unused width, a mark without an attribute; values outside their bounds, unused values;
-- two records in the wrong order, equal keys; at width 10 the field 0x0200, which is that of no value
abbrev damaged_contents : List (List ℕ)
damaged_contents =
    set four_file 55 1
    ∷ set four_file 52 1
    ∷ set four_file 54 4
    ∷ set four_file 36 4
    ∷ set four_file 37 1
    ∷ set four_file 40 1
    ∷ set four_file 42 1
    ∷ set four_file 12 3
    ∷ set four_file 12 0
    ∷ set (set offset_file 0 0) 1 2
    ∷ []

-- a byte too few and no attribute; no attribute and a width of 0; a width of 17 and no
-- capacity; no capacity and the last byte of the shape; this one alone; a good file
abbrev damaged_twice : List (List ℕ)
damaged_twice =
    set (drop 1 four_file) 47 0
    ∷ set (set four_file 48 0) 49 0
    ∷ set (set four_file 49 17) 53 0
    ∷ set (set four_file 53 0) 55 1
    ∷ set four_file 55 1
    ∷ four_file
    ∷ []

-- 16 cells and 3 pages are enough, and a payload of 0 loads; the damaged files; no word, no whole page; one cell, where
-- the third record finds b that share their first 0 split bits; one page, of a leaf that the third record divides; the
-- order: 12, 1, 14, 15, 13, 2, then 6 before 7
pub load-numbers :
    (numbers_of (slices 16 78) (empty_file ∷ four_file ∷ offset_file ∷ set four_file 8 0 ∷ []) ≡ replicate 4 0)
    × (numbers_of (slices 16 78) damaged_ends ≡ replicate 10 12)
    × (map (λ file. answered_by (load_refusals file (slices 16 78)) tt) damaged_shapes ≡ shape_answers)
    × (numbers_of (slices 16 78) damaged_contents ≡ replicate 10 13)
    × (map (load_number four_file) (slices 0 78 ∷ slices 16 25 ∷ slices 1 78 ∷ slices 16 26 ∷ []) ≡ 2 ∷ 2 ∷ 6 ∷ 7 ∷ [])
    × (numbers_of (slices 0 0) damaged_twice ≡ 12 ∷ 1 ∷ 14 ∷ 15 ∷ 13 ∷ 2 ∷ [])
    × (load_number four_file (slices 1 26) ≡ 6)
unfolding
    load_refusals first_number answered_by is_whole is_plain file_shape file_records shape_conditions lowest_bad widths_of
    record_of encode_field bias marked is_set split_bit step steps steps_below
    logarithm page_limit_of depth_limit_of fresh_shape fixed_by division_of
load-numbers = (refl, refl, refl, refl, refl, refl, refl)
