-- Words of the spoiled stores, bits of keys and cells that `ContainedRefuted` needs, by computing. Assumes nothing.
use Prim.Native.Nat.{ℕ, zero}
use mathlib.Core.Path.{◌≡◌, refl}
use mathlib.Core.Bool.{Bool, true, false}
use mathlib.Core.List.{List, [], ◌∷◌}
use lib.ListN.{get_or}
use Rattle.shape.specs.Shape.{widths_of}
use Rattle.shape.specs.Key.{marked, encode, encodings}
use Rattle.split.specs.Steps.{steps_below, steps, step, step_number, steps_of, attribute_depth}
use Rattle.split.specs.Bits.{split_bit}
use Rattle.address.specs.Address.{highest_bit, created_by, latest_step, formula, address_from, address}
use Rattle.address.specs.Doubling.{sides}
use Rattle.cell.specs.Cell.{sum_bits, cell, cell_address}
use Rattle.region.specs.Strings.{empty_string, list_bit}
use Rattle.record.specs.Bytes.{record_bytes}
use Rattle.page.specs.Page.{count_of, page_at}
use Rattle.directory_word.specs.Word.{word_of}
use Rattle.directory_word.specs.declared.Leaf.TheVariants.{Page}
use Rattle.store.specs.Store.{word_at}
use Rattle.table.specs.Table.{two_two, key}
use Rattle.refutation.specs.Stores.{zeroed_word, low_tally}

abbrev pub key_string : List ℕ → ℕ → Bool
key_string values = split_bit (widths_of two_two) (encodings two_two values)

-- the strings 100 and 101
abbrev pub lower : ℕ → Bool
lower = list_bit (true ∷ false ∷ false ∷ [])

abbrev pub upper : ℕ → Bool
upper = list_bit (true ∷ false ∷ true ∷ [])

pub record Computed (words : List ℕ) : Type 0 where
  -- the word of (2,2) at T = 3, and the first bits of two keys
  pub own : word_at two_two 3 zeroed_word.memory.words (key_string (key 2 2)) ≡ 0
  pub one : key_string (key 2 2) 0 ≡ true
  pub zero : key_string (key 0 0) 0 ≡ false
  -- words of other leaves before
  pub first : word_at two_two 3 zeroed_word.memory.words empty_string ≡ word_of (Page 0 1)
  pub low : word_at two_two 3 low_tally.memory.words lower ≡ word_of (Page 1 3)
  pub high : word_at two_two 3 low_tally.memory.words upper ≡ word_of (Page 2 3)
  -- the cell of the string 0 at T = 3, and of 10 at T = 2
  pub at-0 : word_at two_two 3 words empty_string ≡ get_or words 0 0
  pub low-at-1 : word_at two_two 2 words lower ≡ get_or words 1 0
  pub high-at-1 : word_at two_two 2 words upper ≡ get_or words 1 0
  -- the word of the leaf 0 before, and the third bit of (3,0)
  pub first-low : word_at two_two 3 low_tally.memory.words empty_string ≡ word_of (Page 0 1)
  pub third : key_string (key 3 0) 2 ≡ true
  -- the word of (3,1) at T = 3, its first two bits, the cell of the string 100 and the records of its page
  pub sibling-own : word_at two_two 3 low_tally.memory.words (key_string (key 3 1)) ≡ word_of (Page 2 3)
  pub sibling-one : key_string (key 3 1) 0 ≡ true
  pub sibling-zero : key_string (key 3 1) 1 ≡ false
  pub low-at-3 : word_at two_two 3 words lower ≡ get_or words 1 0
  pub low_count : count_of (page_at 2 low_tally.memory.bytes 1) ≡ 2

pub computed : (words : List ℕ) → Computed words
unfolding
    widths_of encodings steps_below steps step step_number steps_of attribute_depth split_bit encode
    highest_bit created_by latest_step formula address_from address sides sum_bits cell cell_address record_bytes marked
computed words =
    record {
      own = refl;
      one = refl;
      zero = refl;
      first = refl;
      low = refl;
      high = refl;
      at-0 = refl;
      low-at-1 = refl;
      high-at-1 = refl;
      first-low = refl;
      third = refl;
      sibling-own = refl;
      sibling-one = refl;
      sibling-zero = refl;
      low-at-3 = refl;
      low_count = refl;
    }
