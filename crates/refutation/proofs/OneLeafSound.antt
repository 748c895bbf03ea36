-- Small stores with one leaf are sound: each part of `Sound` is computed, and every string leads to word 0. Assumes
-- nothing.
use Prim.Native.Nat.{ℕ, zero, suc, ◌≤◌, ◌<◌, ◌*◌}
use mathlib.Core.Path.{◌≡◌, refl}
use mathlib.Core.Bool.{true}
use mathlib.Core.List.{List, [], ◌∷◌, ◌++◌}
use native.Mathlib.Omega.{arith}
use lib.ListN.{length, get_or, replicate}
use Rattle.shape.specs.Key.{marked, bias, encode, decode, encode_field}
use Rattle.shape.specs.Shape.{in_bounds, widths_of}
use Rattle.split.specs.Steps.{steps_below, steps, step, step_number, steps_of, attribute_depth}
use Rattle.split.specs.Bits.{split_bit}
use Rattle.address.specs.Address.{highest_bit, created_by, latest_step, formula, address_from, address}
use Rattle.address.specs.Doubling.{sides}
use Rattle.cell.specs.Cell.{sum_bits, cell, cell_address}
use Rattle.record.specs.Record.{Record}
use Rattle.record.specs.Bytes.{record_bytes, record_of}
use Rattle.model.specs.Sets.{is_set, division_of}
use Rattle.store.specs.Store.{Memory}
use Rattle.store.specs.Sound.{Sound, Shows, LeafWord, tallies}
use Rattle.region.specs.Division.{leaf, greatest_depth}
use Rattle.region.specs.Strings.{empty_string}
use Rattle.page.specs.Page.{page_size, count_of, records_of, page_at}
use Rattle.directory_word.specs.Word.{word_of}
use Rattle.directory_word.specs.declared.Leaf.TheVariants.{Page}
use Rattle.table.specs.Table.{two_two}
use Rattle.refutation.specs.Stores.{record_at, state_with, no_record, one_leaf, one_record, set_of_one, zero_stored}
use Rattle.refutation.specs.Stores.{set_of_zero, two_records, set_of_two}

-- ---- numbers

-- the numbers of a small store are in order: what is left is its set, T, the tally and what words and pages show
module _ (P T : ℕ) (leaves : List ℕ) (m : Memory) (S : List Record) where
  pub sound-of : 1 ≤ P → P ≤ 3 → T ≤ 3 → 8 ≤ length m.words → P * page_size 2 ≤ length m.bytes
      → is_set two_two S ≡ true
      → T ≡ greatest_depth (division_of two_two S) → leaves ++ replicate 9 0 ≡ tallies (division_of two_two S) 0 13
      → Shows two_two P T m (division_of two_two S) → Sound (record { state = state_with P T leaves; memory = m }) S
  unfolding in_bounds widths_of
  sound-of some-page few-pages within words pages set deepest tallied shown =
      record {
        shape = refl;
        words-lent = words;
        pages-lent = pages;
        some-page = some-page;
        most-pages = omega arith;
        depth-limit = omega arith;
        depth-bits = omega arith;
        depth-within = within;
        set = set;
        deepest = deepest;
        tallied = tallied;
        shown = shown;
      }

-- ---- one leaf

-- every string leads to word 0
shows-leaf : (m : Memory) (rs : List Record) → LeafWord two_two 3 m.bytes rs 0 (get_or m.words 0 0)
    → ((g : ℕ) → g < 3 → ((x : ℕ) → get_or m.words 0 0 ≡ word_of (Page g x) → ⊥) → count_of (page_at 2 m.bytes g) ≡ 0)
    → Shows two_two 3 0 m (leaf rs)
unfolding
    widths_of steps_below steps step step_number steps_of attribute_depth
    highest_bit created_by latest_step formula address_from address sides sum_bits cell cell_address
shows-leaf m rs word free =
    record {
      word = λ p. word;
      same_word = λ p q agree. refl;
      own-page = λ p q apart g x y l e e'. apart (λ s h. absurd (omega arith));
      free = λ g l unused. free g l (unused empty_string);
    }

pub no_record-sound : Sound no_record []
unfolding widths_of steps_below steps step split_bit record_bytes record_of is_set division_of
no_record-sound =
    sound-of 3 0 (1 ∷ 0 ∷ 0 ∷ 0 ∷ []) _ []
    (omega arith) (omega arith) (omega arith) (omega arith) (omega arith) refl refl refl
    (shows-leaf no_record.memory [] refl free)
  where
    free : (g : ℕ) → g < 3 → ((x : ℕ) → 0 ≡ word_of (Page g x) → ⊥) → count_of (page_at 2 no_record.memory.bytes g) ≡ 0
    free zero l unused = refl
    free (suc zero) l unused = refl
    free (suc (suc zero)) l unused = refl
    free (suc (suc (suc g))) l unused = absurd (omega arith)

-- with records, in page 0
module _ (r : Record) (rs : List Record) where
  abbrev bytes : List ℕ
  bytes = (one_leaf (r ∷ rs)).memory.bytes

  one_leaf-sound : 3 * page_size 2 ≤ length bytes → is_set two_two (r ∷ rs) ≡ true
      → division_of two_two (r ∷ rs) ≡ leaf (r ∷ rs) → records_of two_two (page_at 2 bytes 0) ≡ r ∷ rs
      → count_of (page_at 2 bytes 1) ≡ 0 → count_of (page_at 2 bytes 2) ≡ 0 → Sound (one_leaf (r ∷ rs)) (r ∷ rs)
  one_leaf-sound pages set leaves first second third =
      sound-of 3 0 (1 ∷ 0 ∷ 0 ∷ 0 ∷ []) _ (r ∷ rs)
      (omega arith) (omega arith) (omega arith) (omega arith) pages set (rw leaves) (rw leaves)
      (rw leaves (shows-leaf (one_leaf (r ∷ rs)).memory (r ∷ rs) (0, omega arith, refl, first) free))
    where
      free : (g : ℕ) → g < 3 → ((x : ℕ) → 1 ≡ word_of (Page g x) → ⊥) → count_of (page_at 2 bytes g) ≡ 0
      free zero l unused = absurd (unused 0 refl)
      free (suc zero) l unused = second
      free (suc (suc zero)) l unused = third
      free (suc (suc (suc g))) l unused = absurd (omega arith)

pub one_record-sound : Sound one_record set_of_one
unfolding
    widths_of steps_below steps step split_bit record_bytes record_of is_set division_of encode decode encode_field
    marked bias
one_record-sound = one_leaf-sound _ [] (omega arith) refl refl refl refl refl

pub two_records-sound : Sound two_records set_of_two
unfolding
    widths_of steps_below steps step split_bit record_bytes record_of is_set division_of encode decode encode_field
    marked bias
two_records-sound = one_leaf-sound _ (record_at 3 1 12 ∷ []) (omega arith) refl refl refl refl refl

-- "Stores that already hold such payloads stay sound"
pub zero_stored-sound : Sound zero_stored set_of_zero
unfolding
    widths_of steps_below steps step split_bit record_bytes record_of is_set division_of encode decode encode_field
    marked bias
zero_stored-sound = one_leaf-sound _ [] (omega arith) refl refl refl refl refl
