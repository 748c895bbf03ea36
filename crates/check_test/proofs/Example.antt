-- The test, computed: the proof table's store after four inserts passes, and so do others that are sound; damaged ones
-- do not (document 01, "Proof table", "Lent memory"). Assumes nothing.
use Prim.Native.Nat.{ℕ}
use mathlib.Core.Path.{◌≡◌, refl}
use mathlib.Core.Bool.{true, not}
use mathlib.Core.List.{List, [], ◌∷◌, ◌++◌}
use lib.ListN.{length, take, replicate, set}
use Rattle.lists.specs.Filter.{all}
use Rattle.shape.specs.Key.{marked, bias, encode, decode, encode_field}
use Rattle.shape.specs.Refusal.{first_number}
use Rattle.shape.specs.Shape.{shape_conditions, widths_of}
use Rattle.shape.specs.declared.Shape.{Shape}
use Rattle.split.specs.Steps.{steps_below, steps, step, step_number, steps_of, attribute_depth}
use Rattle.split.specs.Bits.{split_bit}
use Rattle.address.specs.Address.{highest_bit, created_by, latest_step, formula, address_from, address}
use Rattle.address.specs.Doubling.{sides}
use Rattle.cell.specs.Cell.{sum_bits, cell, cell_address}
use Rattle.record.specs.Record.{Record}
use Rattle.record.specs.Bytes.{little_endian, record_bytes, records_bytes, record_of}
use Rattle.page.specs.Page.{page_size}
use Rattle.directory_word.specs.Word.{word_of}
use Rattle.directory_word.specs.declared.Leaf.TheVariants.{Empty, Page}
use Rattle.store.specs.Store.{Store, lent_conditions}
use Rattle.refusals.specs.Limits.{limits_hold}
use Rattle.check_test.specs.Test.{sound_test, shown_set}

-- ---- stores of widths 2, 2 and b = 2, with L = 3

abbrev shape : Shape
shape = record { attributes = 2; widths = 2 ∷ 2 ∷ 0 ∷ 0 ∷ []; capacity = 2; signs = 0 }

abbrev key : ℕ → ℕ → ℕ → Record
key x y payload = record { key = x ∷ y ∷ 0 ∷ 0 ∷ []; content = record { payload = payload } }

-- a page with these records, and any bytes after them
abbrev page : List Record → List ℕ
page rs = take (page_size 2) (little_endian 2 (length rs) ++ records_bytes shape rs ++ replicate (page_size 2) 7)

-- P, T, the tally at depths 0 to 3, words, bytes
abbrev store : ℕ → ℕ → List ℕ → List ℕ → List ℕ → Store
store P T tally words bytes =
    record {
      state =
          record {
            shape = shape;
            limits = record { pages = P; depth = 3 };
            deepest = T;
            tally = record { leaves = tally ++ replicate 9 0 };
          };
      memory = record { words = words; bytes = bytes };
    }

-- ---- the proof table's store: leaves 0, 100, 101 and 11

abbrev leaves : List ℕ
leaves = 0 ∷ 1 ∷ 1 ∷ 2 ∷ []

abbrev words : List ℕ
words =
    word_of (Page 0 1) ∷ word_of (Page 1 3) ∷ word_of (Page 0 1) ∷ word_of (Empty 2) ∷ word_of (Page 0 1)
    ∷ word_of (Page 0 1) ∷ word_of (Page 2 3) ∷ word_of (Empty 2) ∷ []

abbrev page0 : List ℕ
page0 = page (key 0 0 10 ∷ [])

abbrev page1 : List ℕ
page1 = page (key 2 0 11 ∷ key 2 1 13 ∷ [])

abbrev page2 : List ℕ
page2 = page (key 3 1 12 ∷ [])

abbrev free_page : List ℕ
free_page = page []

abbrev bytes : List ℕ
bytes = page0 ++ page1 ++ page2 ++ free_page

abbrev four : Store
four = store 4 3 leaves words bytes

-- ---- sound ones

abbrev sound : List Store
sound =
    four
    -- longer slices, other page numbers
    ∷ store 4 3 leaves (words ++ 99 ∷ []) (bytes ++ 5 ∷ [])
    ∷ store 4 3 leaves
    (word_of (Page 3 1) ∷ word_of (Page 1 3) ∷ word_of (Page 3 1) ∷ word_of (Empty 2) ∷ word_of (Page 3 1)
    ∷ word_of (Page 3 1) ∷ word_of (Page 0 3) ∷ word_of (Empty 2) ∷ [])
    (page2 ++ page1 ++ free_page ++ page0)
    -- two empty leaves, 1 and 01, beside 000 and 001
    ∷ store 4 3 leaves
    (word_of (Page 0 3) ∷ word_of (Empty 1) ∷ word_of (Empty 2) ∷ word_of (Empty 1) ∷ word_of (Page 1 3)
    ∷ word_of (Empty 2) ∷ word_of (Empty 1) ∷ word_of (Empty 1) ∷ [])
    (page (key 0 0 10 ∷ key 0 1 11 ∷ []) ++ page (key 1 0 12 ∷ []) ++ free_page ++ free_page)
    -- a fresh store
    ∷ store 4 0 (1 ∷ 0 ∷ 0 ∷ 0 ∷ []) (0 ∷ replicate 7 7) (free_page ++ free_page ++ free_page ++ free_page)
    ∷ []

-- ---- damaged ones

abbrev with_word : ℕ → ℕ → Store
with_word a w = store 4 3 leaves (set words a w) bytes

abbrev with_pages : List ℕ → Store
with_pages pages = store 4 3 leaves words pages

abbrev damaged : List Store
damaged =
    -- a cell of a leaf with another depth, another page; page number P; a bit above 19; a smaller depth
    with_word 5 (word_of (Page 0 2))
    ∷ with_word 5 (word_of (Page 1 1))
    ∷ with_word 1 (word_of (Page 4 3))
    ∷ with_word 6 (word_of (Page 2 19))
    ∷ with_word 6 (word_of (Page 2 2))
    -- an empty leaf with a page; a leaf with records and no page; two leaves with one page
    ∷ store 4 3 leaves (set (set words 3 (word_of (Page 3 2))) 7 (word_of (Page 3 2))) bytes
    ∷ with_word 6 (word_of (Empty 3))
    ∷ with_word 6 (word_of (Page 1 3))
    -- a page without a leaf that is not free; pages exchanged; count above b; wrong order; a key twice
    ∷ with_pages (page0 ++ page1 ++ page2 ++ page2)
    ∷ with_pages (page0 ++ page2 ++ page1 ++ free_page)
    ∷ with_pages (set bytes 26 3)
    ∷ with_pages (page0 ++ page (key 2 1 13 ∷ key 2 0 11 ∷ []) ++ page2 ++ free_page)
    ∷ with_pages (page0 ++ page (key 2 0 13 ∷ key 2 0 11 ∷ []) ++ page2 ++ free_page)
    -- a value of 2^w or more; an unused value not 0
    ∷ with_pages (page (key 0 4 10 ∷ []) ++ page1 ++ page2 ++ free_page)
    ∷ with_pages (set bytes 6 1)
    -- a divided region with b records: (2, 1) is gone
    ∷ with_pages (page0 ++ page (key 2 0 11 ∷ []) ++ page2 ++ free_page)
    -- tally; T; P too small, P = 0
    ∷ store 4 3 (0 ∷ 1 ∷ 2 ∷ 2 ∷ []) words bytes
    ∷ store 4 2 leaves words bytes
    ∷ store 2 3 leaves words bytes
    ∷ store 0 0 (1 ∷ 0 ∷ 0 ∷ 0 ∷ []) (0 ∷ replicate 7 7) bytes
    ∷ []

-- ---- computed

pub examples : (all sound_test sound ≡ true) × (all (λ x. not (sound_test x)) damaged ≡ true)
unfolding
    sound_test limits_hold lent_conditions first_number shape_conditions widths_of
    steps_below steps step step_number steps_of attribute_depth split_bit
    highest_bit created_by latest_step formula address_from address sides sum_bits cell cell_address record_bytes record_of
    marked bias encode decode encode_field
examples = (refl, refl)

-- why soundness speaks of page numbers below P: past them a word has two readings
pub two-readings : word_of (Empty 1) ≡ word_of (Page 65535 0)
two-readings = refl

-- the set of the proof table, read off the pages
pub read_off : shown_set four ≡ key 0 0 10 ∷ key 2 0 11 ∷ key 2 1 13 ∷ key 3 1 12 ∷ []
unfolding
    widths_of steps_below steps step step_number steps_of attribute_depth
    highest_bit created_by latest_step formula address_from address sides sum_bits cell cell_address record_bytes record_of
    marked bias encode decode encode_field
read_off = refl
