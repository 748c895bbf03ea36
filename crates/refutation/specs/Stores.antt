-- Small stores with widths 2, 2 and b = 2, as the proof table has them. L is 3; P is 3 where no other number is told.
-- Assumes nothing.
use Rattle.std.specs.Prelude.{ℕ, ◌-◌, ◌*◌, ◌^◌, List, [], ◌∷◌, ◌++◌, length, replicate}
use Rattle.std.proofs.Math.Option.{Option, none, some}
use Rattle.shape.specs.Range.{Interval}
use Rattle.shape.specs.declared.Shape.{Shape}
use Rattle.region.specs.Division.{Division}
use Rattle.record.specs.Record.{Record}
use Rattle.record.specs.Bytes.{record_size, little_endian, records_bytes}
use Rattle.page.specs.Page.{page_size}
use Rattle.directory_word.specs.Word.{word_of}
use Rattle.directory_word.specs.declared.Leaf.TheVariants.{Empty, Page}
use Rattle.model.specs.Model.{Call, Outcome, outcome, next}
use Rattle.model.specs.Sets.{division_of}
use Rattle.store.specs.Store.{Store, Memory, fixed_of}
use Rattle.store.specs.Promises.{with_bytes}
use Rattle.store.specs.declared.State.{State}
use Rattle.table.specs.Table.{two_two, key}

-- ---- parts

abbrev pub record_at : ℕ → ℕ → ℕ → Record
record_at x y payload = record { key = key x y; content = record { payload = payload } }

-- the bytes of a page with some records of a shape, 0 past them
abbrev pub page_of : Shape → List Record → List ℕ
page_of s rs = little_endian 2 (length rs) ++ (records_bytes s rs ++ replicate (record_size * (2 - length rs)) 0)

abbrev pub page_with : List Record → List ℕ
page_with rs = page_of two_two rs

-- a state: P, T and the tally at depths 0 to 3
abbrev pub state_with : ℕ → ℕ → List ℕ → State
state_with P T leaves =
    record {
      shape = two_two;
      limits = record { pages = P; depth = 3 };
      deepest = T;
      tally = record { leaves = leaves ++ replicate 9 0 };
    }

-- ---- stores

-- as Fresh leaves it, with a word past the first 2^L and two bytes past the pages
abbrev pub no_record : Store
no_record =
    record {
      state = state_with 3 0 (1 ∷ 0 ∷ 0 ∷ 0 ∷ []);
      memory = record { words = replicate 9 0; bytes = replicate 80 0 };
    }

-- one leaf of depth 0, whose page 0 has these records
abbrev pub one_leaf : List Record → Store
one_leaf rs =
    record {
      state = state_with 3 0 (1 ∷ 0 ∷ 0 ∷ 0 ∷ []);
      memory = record { words = word_of (Page 0 0) ∷ replicate 7 0; bytes = page_with rs ++ replicate 52 0 };
    }

-- (0,0)
abbrev pub set_of_one : List Record
set_of_one = record_at 0 0 10 ∷ []

abbrev pub one_record : Store
one_record = one_leaf set_of_one

-- (0,0) with payload 0
abbrev pub set_of_zero : List Record
set_of_zero = record_at 0 0 0 ∷ []

abbrev pub zero_stored : Store
zero_stored = one_leaf set_of_zero

-- (2,0), (3,1)
abbrev pub set_of_two : List Record
set_of_two = record_at 2 0 11 ∷ record_at 3 1 12 ∷ []

abbrev pub two_records : Store
two_records = one_leaf set_of_two

-- (0,0) in the leaf 0 with page 0, (2,0) and (3,1) in the leaf 1 with page 1; so many pages
abbrev pub three_records : ℕ → Store
three_records P =
    record {
      state = state_with P 1 (0 ∷ 2 ∷ 0 ∷ 0 ∷ []);
      memory = record {
        words = word_of (Page 0 1) ∷ word_of (Page 1 1) ∷ replicate 6 0;
        bytes = page_with set_of_one ++ (page_with set_of_two ++ replicate ((P - 2) * page_size 2) 0);
      };
    }

abbrev pub set_of_three : List Record
set_of_three = set_of_one ++ set_of_two

-- the store of the table's entries (a) and (b): leaves 0, 100, 101 with pages 0, 1, 2, and 11 without a page
abbrev pub four_records : Store
four_records =
    record {
      state = state_with 3 3 (0 ∷ 1 ∷ 1 ∷ 2 ∷ []);
      memory = record {
        words =
            word_of (Page 0 1) ∷ word_of (Page 1 3) ∷ word_of (Page 0 1) ∷ word_of (Empty 2)
            ∷ word_of (Page 0 1) ∷ word_of (Page 0 1) ∷ word_of (Page 2 3) ∷ word_of (Empty 2) ∷ [];
        bytes =
            page_with set_of_one
            ++ (page_with (record_at 2 0 11 ∷ record_at 2 1 13 ∷ []) ++ page_with (record_at 3 1 12 ∷ []));
      };
    }

abbrev pub set_of_four : List Record
set_of_four = record_at 0 0 10 ∷ record_at 2 0 11 ∷ record_at 2 1 13 ∷ record_at 3 1 12 ∷ []

-- ---- marked stores

-- with these marks: 1 marks attribute 0, whose values are then from -2 to 1, and 4 would mark an attribute past d
abbrev pub two_two_marked : ℕ → Shape
two_two_marked signs = record { attributes = 2; widths = 2 ∷ 2 ∷ 0 ∷ 0 ∷ []; capacity = 2; signs = signs }

-- a state with other marks
abbrev pub marking : ℕ → State → State
marking signs st =
    record { shape = two_two_marked signs; limits = st.limits; deepest = st.deepest; tally = st.tally }

-- the store of four records where attribute 0 is marked: (-2,0), (0,0), (0,1), (1,1) have the same encodings
abbrev pub four_marked : Store
four_marked =
    record {
      state = marking 1 four_records.state;
      memory = record {
        words = four_records.memory.words;
        bytes =
            page_of (two_two_marked 1) set_of_one
            ++ (page_of (two_two_marked 1) (record_at 2 0 11 ∷ record_at 2 1 13 ∷ [])
            ++ page_of (two_two_marked 1) (record_at 3 1 12 ∷ []));
      };
    }

-- the number of 32 bits that stands for -n
abbrev pub minus : ℕ → ℕ
minus n = 2 ^ 32 - n

-- ---- spoiled stores

-- three records, with another page 1
abbrev pub other_page : List ℕ → Store
other_page page = with_bytes (three_records 2) (page_with set_of_one ++ page)

-- no record, but a tally of two leaves of depth 1
abbrev pub wrong_tally : Store
wrong_tally = record { state = state_with 3 0 (0 ∷ 2 ∷ 0 ∷ 0 ∷ []); memory = no_record.memory }

-- "word with page number P"
abbrev pub word_past_pages : Store
word_past_pages =
    record {
      state = state_with 3 0 (1 ∷ 0 ∷ 0 ∷ 0 ∷ []);
      memory = record { words = word_of (Page 3 0) ∷ replicate 7 0; bytes = page_with set_of_one ++ replicate 52 0 };
    }

-- "word with page number P", with marks
abbrev pub word_past_marked : ℕ → Store
word_past_marked signs =
    record { state = marking signs word_past_pages.state; memory = word_past_pages.memory }

-- one leaf, whose page has -2 of the marked attribute 0 as its two bits alone, without the sign
abbrev pub sign_left_out : Store
sign_left_out =
    record {
      state = marking 1 one_record.state;
      memory = (one_leaf (record_at 2 0 10 ∷ [])).memory;
    }

-- a record in a page that no leaf has
abbrev pub page_not_free : Store
page_not_free =
    record {
      state = state_with 3 0 (1 ∷ 0 ∷ 0 ∷ 0 ∷ []);
      memory = record { words = replicate 8 0; bytes = page_with set_of_one ++ replicate 52 0 };
    }

-- four records and a free page, with another word at address 3, one of the two cells of the leaf 11, and any tally
abbrev pub other_word : ℕ → List ℕ → Store
other_word word leaves =
    record {
      state = state_with 4 3 leaves;
      memory = record {
        words =
            word_of (Page 0 1) ∷ word_of (Page 1 3) ∷ word_of (Page 0 1) ∷ word
            ∷ word_of (Page 0 1) ∷ word_of (Page 0 1) ∷ word_of (Page 2 3) ∷ word_of (Empty 2) ∷ [];
        bytes = four_records.memory.bytes ++ replicate 26 0;
      };
    }

-- that word is 0, as one flipped bit leaves it
abbrev pub zeroed_word : Store
zeroed_word = other_word 0 (0 ∷ 1 ∷ 1 ∷ 2 ∷ [])

-- a tally without the two leaves of depth 3
abbrev pub low_tally : Store
low_tally = other_word (word_of (Empty 2)) (0 ∷ 1 ∷ 1 ∷ 0 ∷ [])

-- ---- shapes in which something is amiss

-- d = 3 with widths 0, 17 and 5, and b = 0
abbrev pub two_bad_widths : Shape
two_bad_widths = record { attributes = 3; widths = 0 ∷ 17 ∷ 5 ∷ 0 ∷ []; capacity = 0; signs = 0 }

-- b = 17
abbrev pub bad_capacity : Shape
bad_capacity = record { attributes = 2; widths = 2 ∷ 2 ∷ 0 ∷ 0 ∷ []; capacity = 17; signs = 0 }

-- the store with another shape
abbrev pub with_shape : Shape → Store → Store
with_shape s store =
    let st = store.state in
    record {
      state = record { shape = s; limits = st.limits; deepest = st.deepest; tally = st.tally };
      memory = store.memory;
    }

-- nothing: the width 17 is past d
abbrev pub unused_wide : Shape
unused_wide = record { attributes = 2; widths = 2 ∷ 2 ∷ 17 ∷ 0 ∷ []; capacity = 2; signs = 0 }

-- ---- words of a doubled directory

-- of three records, from depth 1 to depth 2; then with an empty leaf in the cells of 11; then from depth 2 to depth 3
abbrev pub doubled_once : List ℕ
doubled_once = word_of (Page 0 1) ∷ word_of (Page 1 1) ∷ word_of (Page 0 1) ∷ word_of (Page 1 1) ∷ replicate 4 0

abbrev pub sibling_set : List ℕ
sibling_set = word_of (Page 0 1) ∷ word_of (Page 1 1) ∷ word_of (Page 0 1) ∷ word_of (Empty 2) ∷ replicate 4 0

abbrev pub sibling_doubled : List ℕ
sibling_doubled =
    word_of (Page 0 1) ∷ word_of (Page 1 1) ∷ word_of (Page 0 1) ∷ word_of (Empty 2)
    ∷ word_of (Page 0 1) ∷ word_of (Page 0 1) ∷ word_of (Page 1 1) ∷ word_of (Empty 2) ∷ []

-- of three records, from depth 1 to depth 3, and no other word set
abbrev pub doubled_twice : List ℕ
doubled_twice =
    word_of (Page 0 1) ∷ word_of (Page 1 1) ∷ word_of (Page 0 1) ∷ word_of (Page 1 1)
    ∷ word_of (Page 0 1) ∷ word_of (Page 0 1) ∷ word_of (Page 1 1) ∷ word_of (Page 1 1) ∷ []

-- of four records, from depth 1, that of the leaf 0, to depth 3
abbrev pub doubled_from_leaf : List ℕ
doubled_from_leaf =
    word_of (Page 0 1) ∷ word_of (Page 1 3) ∷ word_of (Page 0 1) ∷ word_of (Page 1 3)
    ∷ word_of (Page 0 1) ∷ word_of (Page 0 1) ∷ word_of (Page 1 3) ∷ word_of (Page 1 3) ∷ []

-- ---- lent memory, queries, ranges, and what the model says

-- 8 words and 3 pages, every byte 1
abbrev pub ones : Memory
ones = record { words = replicate 8 1; bytes = replicate 78 1 }

-- queries that give nothing, attribute 0 alone, attribute 1 alone
abbrev pub all_free : List (Option ℕ)
all_free = none ∷ none ∷ none ∷ none ∷ []

abbrev pub given_first : ℕ → List (Option ℕ)
given_first v = some v ∷ none ∷ none ∷ none ∷ []

abbrev pub given_second : ℕ → List (Option ℕ)
given_second v = none ∷ some v ∷ none ∷ none ∷ []

-- a given interval, and the range that gives attribute 0 alone one
abbrev pub interval : ℕ → ℕ → Option Interval
interval low high = some (record { low = low; high = high })

abbrev pub first_within : ℕ → ℕ → List (Option Interval)
first_within low high = interval low high ∷ none ∷ none ∷ none ∷ []

-- the outcome of a call on a store that shows the set S, and the leaves after it
abbrev pub outcome_on : Store → List Record → Call → Outcome
outcome_on store S c = outcome (fixed_of store.state) S c

abbrev pub leaves_after : Store → List Record → Call → Division Record
leaves_after store S c = division_of store.state.shape (next (fixed_of store.state) S c)
