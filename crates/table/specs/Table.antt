-- The proof table (document 01, "Proof table and the printed run"): its twelve entries, and what each claims.
-- Assumes nothing.
use Rattle.std.specs.Prelude.{ℕ, zero, suc, ◌+◌, ◌*◌, ◌^◌, ◌≡◌, Bool, true, false, cond, ◌&&◌, eqb, length, replicate}
use mathlib.Core.List.{List, [], ◌∷◌, ◌++◌, map, flatten}
use Rattle.std.proofs.Math.Option.{Option, none, some}
use Rattle.lists.specs.Filter.{all, non_empty}
use Rattle.shape.specs.Refusal.{Answer, accepted, refused, refused_with, number_told}
use Rattle.shape.specs.Shape.{widths_of}
use Rattle.shape.specs.Key.{encodings}
use Rattle.shape.specs.declared.Shape.{Shape}
use Rattle.split.specs.Steps.{bit_value}
use Rattle.split.specs.Bits.{split_bit}
use Rattle.address_calls.specs.Answers.{address_answer, index_answer}
use Rattle.cell.specs.Cell.{cell_address}
use Rattle.region.specs.Strings.{list_bit}
use Rattle.region.specs.Division.{Division, leaf, divided, greatest_depth, non_empty_leaves, leaf_depth, leaf_records}
use Rattle.record.specs.Record.{Record}
use Rattle.record.specs.Bytes.{record_size}
use Rattle.page.specs.Page.{page_size}
use Rattle.directory_word.specs.Word.{word_of, depth_field, page_field}
use Rattle.directory_word.specs.declared.Leaf.TheVariants.{Empty, Page}
use Rattle.model.specs.Sets.{division_of, reads_bound}
use Rattle.model.specs.Limits.{fixed_by}
use Rattle.model.specs.Model.{Fixed, Call, insert_call, delete_call, query_call, Reply, changed, found, listed}
use Rattle.model.specs.Model.{outcome, run, last_set}

-- ---- tests

abbrev pub same_numbers : List ℕ → List ℕ → Bool
same_numbers [] [] = true
same_numbers [] (y ∷ ys) = false
same_numbers (x ∷ xs) [] = false
same_numbers (x ∷ xs) (y ∷ ys) = eqb x y && same_numbers xs ys

abbrev pub accepted_as : {A : Type 0} → (A → Bool) → Answer A → Bool
accepted_as test (accepted x) = test x
accepted_as test (refused n) = false
accepted_as test (refused_with n x) = false

-- written, total and reads of an accepted query
abbrev pub counts_in : Answer Reply → List ℕ
counts_in (accepted (listed written total reads)) = written ∷ total ∷ reads ∷ []
counts_in (accepted (changed depth)) = []
counts_in (accepted (found content reads depth)) = []
counts_in (refused n) = []
counts_in (refused_with n x) = []

-- ---- the sets of the table

-- "Widths 2, 2, b = 2"
abbrev pub two_two : Shape
two_two = record { attributes = 2; widths = 2 ∷ 2 ∷ 0 ∷ 0 ∷ []; capacity = 2; signs = 0 }

-- "Widths 1, 3, 2"
abbrev pub one_three_two : Shape
one_three_two = record { attributes = 3; widths = 1 ∷ 3 ∷ 2 ∷ 0 ∷ []; capacity = 2; signs = 0 }

abbrev pub key : ℕ → ℕ → List ℕ
key x y = x ∷ y ∷ 0 ∷ 0 ∷ []

-- an insert with the payload of the printed run
abbrev pub insert_of : ℕ → ℕ → ℕ → Call
insert_of x y payload = insert_call (key x y) (record { payload = payload })

-- "inserting keys (0,0), (2,0), (3,1)", and the fourth, "(2,1)"
abbrev pub three_inserts : List Call
three_inserts = insert_of 0 0 10 ∷ insert_of 2 0 11 ∷ insert_of 3 1 12 ∷ []

abbrev pub four_inserts : List Call
four_inserts = three_inserts ++ insert_of 2 1 13 ∷ []

-- what Fresh fixes with so many words and pages
abbrev pub fixed_with : ℕ → ℕ → Fixed
fixed_with words pages = fixed_by two_two words (pages * page_size 2)

-- enough for every call of the table
abbrev pub fixed_amply : Fixed
fixed_amply = fixed_with 4096 64

abbrev pub division_after : List Call → Division Record
division_after cs = division_of two_two (last_set fixed_amply [] cs)

-- ---- the directory by addresses

-- the strings of n bits
abbrev pub bit_strings : ℕ → List (List Bool)
bit_strings zero = [] ∷ []
bit_strings (suc n) = map (λ bits. false ∷ bits) (bit_strings n) ++ map (λ bits. true ∷ bits) (bit_strings n)

-- f of the string whose cell stands at address a, among those given
abbrev pub at_address : ℕ → (List Bool → ℕ) → ℕ → List (List Bool) → ℕ
at_address T f a [] = 0
at_address T f a (bits ∷ more) =
    cond (eqb (cell_address (widths_of two_two) T (list_bit bits)) a) (f bits) (at_address T f a more)

abbrev pub up_to : ℕ → List ℕ
up_to zero = []
up_to (suc n) = up_to n ++ n ∷ []

-- f of each cell of a directory of depth T, by address
abbrev pub by_address : ℕ → (List Bool → ℕ) → List ℕ
by_address T f = map (λ a. at_address T f a (bit_strings T)) (up_to (2 ^ T))

-- the number of the page of the leaf that a string leads to. Which page a leaf takes is left free: here they are
-- numbered in the order of the leaves, "bit 0 before bit 1"
abbrev pub page_number : (ℕ → Bool) → ℕ → Division Record → ℕ
page_number p t (leaf rs) = 0
page_number p t (divided l u) =
    cond (p t) (non_empty_leaves l + page_number p (suc t) u) (page_number p (suc t) l)

-- "A leaf is empty or has one page": what the cell of a string holds
abbrev pub held_word : Division Record → (ℕ → Bool) → ℕ
held_word D p =
    let x = leaf_depth p 0 D in
    cond (non_empty (leaf_records p 0 D)) (word_of (Page (page_number p 0 D) x)) (word_of (Empty x))

-- the directory's words 0 to 2^T − 1: of (a) 0x10001, 0x30002, 0x10001, 0x20000, 0x10001, 0x10001, 0x30003, 0x20000
abbrev pub directory_words : Division Record → List ℕ
directory_words D = by_address (greatest_depth D) (λ bits. held_word D (list_bit bits))

-- ---- entries

-- the 12 bytes of a record of two attributes, values and payload below 256: "little-endian .. four 16-bit values ..
-- and a 32-bit payload"
abbrev pub record_written : ℕ → ℕ → ℕ → List ℕ
record_written x y payload = x ∷ 0 ∷ y ∷ 0 ∷ 0 ∷ 0 ∷ 0 ∷ 0 ∷ payload ∷ 0 ∷ 0 ∷ 0 ∷ []

pub data Entry : Type 0 where
  -- "index (3,1) at 7": the call gives the address, and the inverse call the index
  located : Shape → List ℕ → ℕ → Entry
  -- "split bits 0000": of a key with widths 2, 2
  bits : List ℕ → List ℕ → Entry
  -- "after three T = 1 with 2 pages": calls, T, pages
  leaves_after : List Call → ℕ → ℕ → Entry
  -- "words 0–7 have depths .., words .. without a page": calls, what the words say: depths, and page numbers plus one
  words_after : List Call → List ℕ → List ℕ → Entry
  -- "attribute 1 given as 1: (2,1), (3,1), reads 3, bound 4": calls, query, what the output begins with, reads, bound;
  -- three bytes more stay as they came
  lists : List Call → List (Option ℕ) → List (List ℕ) → ℕ → ℕ → Entry
  -- "A directory of 4 .. words: the fourth insert gives 6": words, pages, the numbers of the four answers
  numbers : ℕ → ℕ → List ℕ → Entry
  -- an entry of two parts
  both : Entry → Entry → Entry

abbrev pub entry_holds : Entry → Bool
entry_holds (located s is a) = accepted_as (eqb a) (address_answer s is) && accepted_as (same_numbers is) (index_answer s a)
entry_holds (bits values expected) =
    same_numbers (map (λ t. bit_value (split_bit (widths_of two_two) (encodings two_two values) t)) (up_to 4)) expected
entry_holds (leaves_after cs T pages) =
    eqb (greatest_depth (division_after cs)) T && eqb (non_empty_leaves (division_after cs)) pages
entry_holds (words_after cs depths pages) =
    let words = directory_words (division_after cs) in
    same_numbers (map depth_field words) depths && same_numbers (map page_field words) pages
entry_holds (lists cs q records reads bound) =
    let S = last_set fixed_amply [] cs in
    let n = length records in
    let o = outcome fixed_amply S (query_call q (replicate (record_size * n + 3) 255)) in
    same_numbers o.output (flatten records ++ replicate 3 255)
    && (same_numbers (counts_in o.answer) (n ∷ n ∷ reads ∷ []) && eqb (reads_bound two_two q S) bound)
entry_holds (numbers words pages expected) =
    same_numbers (map (λ o. number_told o.answer) (run (fixed_with words pages) [] four_inserts)) expected
entry_holds (both e e') = entry_holds e && entry_holds e'

-- "Twelve entries make up the table"
abbrev pub table : List Entry
table =
    located two_two (0 ∷ 0 ∷ 0 ∷ 0 ∷ []) 0
    ∷ located two_two (1 ∷ 0 ∷ 0 ∷ 0 ∷ []) 1
    ∷ located two_two (0 ∷ 1 ∷ 0 ∷ 0 ∷ []) 2
    ∷ located two_two (3 ∷ 1 ∷ 0 ∷ 0 ∷ []) 7
    ∷ located two_two (0 ∷ 2 ∷ 0 ∷ 0 ∷ []) 8
    ∷ located two_two (3 ∷ 3 ∷ 0 ∷ 0 ∷ []) 15
    ∷ located one_three_two (1 ∷ 2 ∷ 1 ∷ 0 ∷ []) 11
    ∷ located one_three_two (0 ∷ 7 ∷ 3 ∷ 0 ∷ []) 59
    -- (a)
    ∷ both
    (both (both (bits (key 0 0) (0 ∷ 0 ∷ 0 ∷ 0 ∷ [])) (bits (key 2 0) (1 ∷ 0 ∷ 0 ∷ 0 ∷ [])))
    (both (bits (key 3 1) (1 ∷ 0 ∷ 1 ∷ 1 ∷ [])) (bits (key 2 1) (1 ∷ 0 ∷ 0 ∷ 1 ∷ []))))
    (both (both (leaves_after three_inserts 1 2) (leaves_after four_inserts 3 3))
    (words_after four_inserts (1 ∷ 3 ∷ 1 ∷ 2 ∷ 1 ∷ 1 ∷ 3 ∷ 2 ∷ []) (1 ∷ 2 ∷ 1 ∷ 0 ∷ 1 ∷ 1 ∷ 3 ∷ 0 ∷ [])))
    -- (b)
    ∷ lists four_inserts (none ∷ some 1 ∷ none ∷ none ∷ []) (record_written 2 1 13 ∷ record_written 3 1 12 ∷ []) 3 4
    -- (c)
    ∷ leaves_after (four_inserts ++ delete_call (key 2 1) ∷ []) 1 2
    -- (d) and (e)
    ∷ both
    (both (numbers 4 64 (0 ∷ 0 ∷ 0 ∷ 6 ∷ []))
    (both (numbers 7 64 (0 ∷ 0 ∷ 0 ∷ 6 ∷ [])) (numbers 8 64 (0 ∷ 0 ∷ 0 ∷ 0 ∷ []))))
    (both (numbers 8 2 (0 ∷ 0 ∷ 0 ∷ 7 ∷ [])) (numbers 4 2 (0 ∷ 0 ∷ 0 ∷ 6 ∷ [])))
    ∷ []

-- "the checker establishes them together, from the definitions, by a theorem over the whole table"
abbrev pub TableHolds : Type 0
TableHolds = (all entry_holds table ≡ true) × (length table ≡ 12)
