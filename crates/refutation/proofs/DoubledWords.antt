-- The words of doubled directories that are written out are so, by computing for each string of three bits. Assumes
-- nothing.
use Prim.Native.Nat.{ℕ, zero, suc, ◌+◌, ◌-◌, ◌≤◌}
use mathlib.Core.Path.{◌≡◌, refl, sym, ap, ◌∙◌}
use mathlib.Core.Bool.{Bool, true, false, true≢false}
use mathlib.Core.List.{List, [], ◌∷◌, map}
use native.Mathlib.Omega.{arith}
use lib.ListN.{get_or, drop}
use lib.Seq.{get_or-drop}
use Rattle.shape.specs.Shape.{widths_of}
use Rattle.split.specs.Steps.{steps_below, steps, step, step_number, steps_of, attribute_depth}
use Rattle.address.specs.Address.{highest_bit, created_by, latest_step, formula, address_from, address}
use Rattle.address.specs.Doubling.{sides}
use Rattle.cell.specs.Cell.{sum_bits, cell, cell_address, Agree}
use Rattle.region.specs.Strings.{list_bit}
use Rattle.directory.specs.Directory.{Filled}
use Rattle.directory_word.specs.Word.{word_of}
use Rattle.directory_word.specs.declared.Leaf.TheVariants.{Empty}
use Rattle.store.specs.Store.{word_at}
use Rattle.table.specs.Table.{two_two, bit_strings}
use Rattle.change.specs.Divided.{Deepened}
use Rattle.refutation.specs.Stores.{three_records, four_records, doubled_once, sibling_set, sibling_doubled}
use Rattle.refutation.specs.Stores.{doubled_twice, doubled_from_leaf}

-- ---- lists

-- numbers that are equal for each string of three bits
by_bits : (f g : List Bool → ℕ) → map f (bit_strings 3) ≡ map g (bit_strings 3)
    → (α β γ : Bool) → f (α ∷ β ∷ γ ∷ []) ≡ g (α ∷ β ∷ γ ∷ [])
by_bits f g e false false false = ap (λ l. get_or l 0 0) e
by_bits f g e false false true = ap (λ l. get_or l 1 0) e
by_bits f g e false true false = ap (λ l. get_or l 2 0) e
by_bits f g e false true true = ap (λ l. get_or l 3 0) e
by_bits f g e true false false = ap (λ l. get_or l 4 0) e
by_bits f g e true false true = ap (λ l. get_or l 5 0) e
by_bits f g e true true false = ap (λ l. get_or l 6 0) e
by_bits f g e true true true = ap (λ l. get_or l 7 0) e

-- words that are the same from n on
same-past : (n : ℕ) (words words' : List ℕ) → drop n words ≡ drop n words'
    → (a : ℕ) → n ≤ a → get_or words a 0 ≡ get_or words' a 0
same-past n words words' e a h =
    let there : a ≡ n + (a - n) = omega arith in
    rw there (sym (get_or-drop n words (a - n) 0) ∙ ap (λ l. get_or l (a - n) 0) e ∙ get_or-drop n words' (a - n) 0)

-- the word at the cell of a string that is written out
abbrev at : List ℕ → ℕ → List Bool → ℕ
at words T bits = word_at two_two T words (list_bit bits)

-- ---- words

abbrev three : List ℕ
three = (three_records 3).memory.words

abbrev four : List ℕ
four = four_records.memory.words

pub record DoubledWords : Type 0 where
  pub once : Deepened (widths_of two_two) 1 2 three doubled_once
  pub set : Filled (widths_of two_two) 2 2 (list_bit (true ∷ true ∷ [])) (word_of (Empty 2)) doubled_once sibling_set
  pub again : Deepened (widths_of two_two) 2 3 sibling_set sibling_doubled
  pub twice : Deepened (widths_of two_two) 1 3 three doubled_twice
  pub from-leaf : Deepened (widths_of two_two) 1 3 four doubled_from_leaf

pub doubled-words : DoubledWords
unfolding
    widths_of steps_below steps step step_number steps_of attribute_depth
    highest_bit created_by latest_step formula address_from address sides sum_bits cell cell_address
doubled-words =
    record {
      once = record {
        cells = λ p. by_bits (at doubled_once 2) (at three 1) refl (p 0) (p 1) (p 2);
        past = same-past 4 doubled_once three refl;
        size = refl;
      };
      set = record {
        inside = λ q agree. inside (q 0) (q 1) (agree 0 (omega arith)) (agree 1 (omega arith));
        outside = λ q apart. outside (q 0) (q 1) (λ e e'. apart (both q e e'));
        past = same-past 4 sibling_set doubled_once refl;
        size = refl;
      };
      again = record {
        cells = λ p. by_bits (at sibling_doubled 3) (at sibling_set 2) refl (p 0) (p 1) (p 2);
        past = same-past 8 sibling_doubled sibling_set refl;
        size = refl;
      };
      twice = record {
        cells = λ p. by_bits (at doubled_twice 3) (at three 1) refl (p 0) (p 1) (p 2);
        past = same-past 8 doubled_twice three refl;
        size = refl;
      };
      from-leaf = record {
        cells = λ p. by_bits (at doubled_from_leaf 3) (at four 1) refl (p 0) (p 1) (p 2);
        past = same-past 8 doubled_from_leaf four refl;
        size = refl;
      };
    }
  where
    inside : (α β : Bool) → true ≡ α → true ≡ β → at sibling_set 2 (α ∷ β ∷ []) ≡ word_of (Empty 2)
    inside true true e e' = refl
    inside false β e e' = absurd (true≢false e)
    inside true false e e' = absurd (true≢false e')

    outside : (α β : Bool) → (true ≡ α → true ≡ β → ⊥) → at sibling_set 2 (α ∷ β ∷ []) ≡ at doubled_once 2 (α ∷ β ∷ [])
    outside true true apart = absurd (apart refl refl)
    outside false true apart = refl
    outside false false apart = refl
    outside true false apart = refl

    both : (q : ℕ → Bool) → true ≡ q 0 → true ≡ q 1 → Agree 2 (list_bit (true ∷ true ∷ [])) q
    both q e e' zero h = e
    both q e e' (suc zero) h = e'
    both q e e' (suc (suc s)) h = absurd (omega arith)
