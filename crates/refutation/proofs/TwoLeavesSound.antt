-- The store with the leaves 0 and 1 is sound, in two pages and in three: a string counts by its first bit. Assumes
-- nothing.
use Prim.Native.Nat.{ℕ, zero, suc, ◌≤◌, ◌<◌}
use mathlib.Core.Path.{◌≡◌, refl, sym, ap, ◌∙◌}
use mathlib.Core.Bool.{Bool, true, false, cond}
use mathlib.Core.List.{[], ◌∷◌}
use native.Mathlib.Omega.{arith}
use Rattle.shape.specs.Key.{marked, bias, encode, decode, encode_field}
use Rattle.shape.specs.Shape.{widths_of}
use Rattle.split.specs.Steps.{steps_below, steps, step, step_number, steps_of, attribute_depth}
use Rattle.split.specs.Bits.{split_bit}
use Rattle.address.specs.Address.{highest_bit, created_by, latest_step, formula, address_from, address}
use Rattle.address.specs.Doubling.{sides}
use Rattle.cell.specs.Cell.{sum_bits, cell, cell_address, Agree}
use Rattle.record.specs.Bytes.{record_bytes, record_of}
use Rattle.model.specs.Sets.{is_set, division_of}
use Rattle.store.specs.Store.{word_at}
use Rattle.store.specs.Sound.{Sound, Shows, LeafWord}
use Rattle.region.specs.Division.{leaf_depth, leaf_records}
use Rattle.region.specs.Strings.{empty_string, list_bit}
use Rattle.page.specs.Page.{count_of, page_at}
use Rattle.directory_word.specs.Word.{word_of}
use Rattle.directory_word.specs.declared.Leaf.TheVariants.{Page}
use Rattle.table.specs.Table.{two_two}
use Rattle.refutation.specs.Stores.{three_records}
use Rattle.refutation.specs.Stores.{set_of_three}
use Rattle.refutation.proofs.OneLeafSound.{sound-of}

-- the word that a string leads to, by its first bit
abbrev pub word_of_three : Bool → ℕ
word_of_three false = word_of (Page 0 1)
word_of_three true = word_of (Page 1 1)

pub word_at-three : (P : ℕ) (p : ℕ → Bool) → word_at two_two 1 (three_records P).memory.words p ≡ word_of_three (p 0)
unfolding
    widths_of steps_below steps step step_number steps_of attribute_depth
    highest_bit created_by latest_step formula address_from address sides sum_bits cell cell_address
word_at-three P p = by_bit (p 0)
  where
    by_bit : (β : Bool) → word_at two_two 1 (three_records P).memory.words (list_bit (β ∷ [])) ≡ word_of_three β
    by_bit true = refl
    by_bit false = refl

-- the page names the leaf
word_of_three-page : (α β : Bool) (g x y : ℕ) → word_of_three α ≡ word_of (Page g x) → word_of_three β ≡ word_of (Page g y)
    → α ≡ β
word_of_three-page true true g x y e e' = refl
word_of_three-page false false g x y e e' = refl
word_of_three-page true false g x y e e' = absurd (omega arith)
word_of_three-page false true g x y e e' = absurd (omega arith)

shows-three : (P : ℕ) → 2 ≤ P → ((g : ℕ) → 2 ≤ g → g < P → count_of (page_at 2 (three_records P).memory.bytes g) ≡ 0)
    → Shows two_two P 1 (three_records P).memory (division_of two_two set_of_three)
unfolding
    widths_of steps_below steps step step_number steps_of attribute_depth split_bit
    highest_bit created_by latest_step formula address_from address sides sum_bits cell cell_address
    record_bytes record_of division_of encode decode encode_field marked bias
shows-three P enough others =
    record {
      word = λ p. word (p 0);
      same_word = λ p q agree. word_at-three P p ∙ ap word_of_three (agree 0 (omega arith)) ∙ sym (word_at-three P q);
      own-page = λ p q apart g x y l e e'.
          apart
          (one_bit p q (word_of_three-page (p 0) (q 0) g x y (sym (word_at-three P p) ∙ e) (sym (word_at-three P q) ∙ e')));
      free = free;
    }
  where
    word : (β : Bool)
        → let p = list_bit (β ∷ []) in
        let D = division_of two_two set_of_three in
        LeafWord two_two P (three_records P).memory.bytes (leaf_records p 0 D) (leaf_depth p 0 D)
        (word_at two_two 1 (three_records P).memory.words p)
    word false = (0, omega arith, refl, refl)
    word true = (1, omega arith, refl, refl)

    at_most_one : (β : Bool) → suc (cond β 0 0) ≤ 1
    at_most_one true = omega arith
    at_most_one false = omega arith

    one_bit : (p q : ℕ → Bool) → p 0 ≡ q 0 → Agree (leaf_depth p 0 (division_of two_two set_of_three)) p q
    one_bit p q e zero h = e
    one_bit p q e (suc s) h = absurd (omega (arith, at_most_one (p 0)))

    free : (g : ℕ) → g < P
        → ((p : ℕ → Bool) (x : ℕ) → word_at two_two 1 (three_records P).memory.words p ≡ word_of (Page g x) → ⊥)
        → count_of (page_at 2 (three_records P).memory.bytes g) ≡ 0
    free zero l unused = absurd (unused empty_string 1 refl)
    free (suc zero) l unused = absurd (unused (list_bit (true ∷ [])) 1 refl)
    free (suc (suc g)) l unused = others (suc (suc g)) (omega arith) l

-- in two pages
pub three_records-sound-2 : Sound (three_records 2) set_of_three
unfolding widths_of steps_below steps step split_bit record_bytes record_of is_set division_of
three_records-sound-2 =
    sound-of 2 1 (0 ∷ 2 ∷ 0 ∷ 0 ∷ []) _ set_of_three
    (omega arith) (omega arith) (omega arith) (omega arith) (omega arith) refl refl refl
    (shows-three 2 (omega arith) (λ g h l. absurd (omega arith)))

-- in three
pub three_records-sound-3 : Sound (three_records 3) set_of_three
unfolding widths_of steps_below steps step split_bit record_bytes record_of is_set division_of
three_records-sound-3 =
    sound-of 3 1 (0 ∷ 2 ∷ 0 ∷ 0 ∷ []) _ set_of_three
    (omega arith) (omega arith) (omega arith) (omega arith) (omega arith) refl refl refl
    (shows-three 3 (omega arith) others)
  where
    others : (g : ℕ) → 2 ≤ g → g < 3 → count_of (page_at 2 (three_records 3).memory.bytes g) ≡ 0
    others g h l = let e : g ≡ 2 = omega arith in rw e
