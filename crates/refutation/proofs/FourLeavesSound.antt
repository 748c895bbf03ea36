-- The store with the leaves 0, 100, 101 and 11 is sound: a string counts by its first three bits. Assumes nothing.
use Prim.Native.Nat.{ℕ, zero, suc, ◌≤◌, ◌<◌}
use mathlib.Core.Path.{◌≡◌, refl, sym, ◌∙◌}
use mathlib.Core.Bool.{Bool, true, false}
use mathlib.Core.List.{[], ◌∷◌}
use native.Mathlib.Omega.{arith}
use Rattle.shape.specs.Key.{marked, bias, encode, decode, encode_field}
use Rattle.shape.specs.Shape.{widths_of}
use Rattle.split.specs.Steps.{steps_below, steps, step, step_number, steps_of, attribute_depth}
use Rattle.split.specs.Bits.{split_bit}
use Rattle.address.specs.Address.{highest_bit, created_by, latest_step, formula, address_from, address}
use Rattle.address.specs.Doubling.{sides}
use Rattle.cell.specs.Cell.{sum_bits, cell, cell_address, Agree}
use Rattle.record.specs.Bytes.{record_bytes, record_of}
use Rattle.model.specs.Sets.{is_set, division_of}
use Rattle.store.specs.Store.{word_at}
use Rattle.store.specs.Sound.{Sound, Shows, LeafWord}
use Rattle.region.specs.Division.{leaf_depth, leaf_records}
use Rattle.region.specs.Strings.{empty_string, list_bit}
use Rattle.page.specs.Page.{count_of, page_at}
use Rattle.directory_word.specs.Word.{word_of}
use Rattle.directory_word.specs.declared.Leaf.TheVariants.{Empty, Page}
use Rattle.table.specs.Table.{two_two}
use Rattle.refutation.specs.Stores.{four_records, set_of_four}
use Rattle.refutation.proofs.OneLeafSound.{sound-of}

-- the word and the depth of the leaf that a string leads to, by its first three bits
abbrev word_of_four : Bool → Bool → Bool → ℕ
word_of_four false β γ = word_of (Page 0 1)
word_of_four true true γ = word_of (Empty 2)
word_of_four true false false = word_of (Page 1 3)
word_of_four true false true = word_of (Page 2 3)

abbrev depth_of_four : Bool → Bool → Bool → ℕ
depth_of_four false β γ = 1
depth_of_four true true γ = 2
depth_of_four true false γ = 3

word_at-four : (p : ℕ → Bool) → word_at two_two 3 four_records.memory.words p ≡ word_of_four (p 0) (p 1) (p 2)
unfolding
    widths_of steps_below steps step step_number steps_of attribute_depth
    highest_bit created_by latest_step formula address_from address sides sum_bits cell cell_address
word_at-four p = by_bits (p 0) (p 1) (p 2)
  where
    by_bits : (α β γ : Bool)
        → word_at two_two 3 four_records.memory.words (list_bit (α ∷ β ∷ γ ∷ [])) ≡ word_of_four α β γ
    by_bits false false false = refl
    by_bits false false true = refl
    by_bits false true false = refl
    by_bits false true true = refl
    by_bits true false false = refl
    by_bits true false true = refl
    by_bits true true false = refl
    by_bits true true true = refl

leaf_depth-four : (p : ℕ → Bool) → leaf_depth p 0 (division_of two_two set_of_four) ≡ depth_of_four (p 0) (p 1) (p 2)
unfolding widths_of steps_below steps step split_bit division_of
leaf_depth-four p = by_bits (p 0) (p 1) (p 2)
  where
    by_bits : (α β γ : Bool) → leaf_depth (list_bit (α ∷ β ∷ γ ∷ [])) 0 (division_of two_two set_of_four) ≡ depth_of_four α β γ
    by_bits false β γ = refl
    by_bits true true γ = refl
    by_bits true false false = refl
    by_bits true false true = refl

-- strings of one leaf, by their first three bits
record OneLeaf (α β γ α' β' γ' : Bool) : Type 0 where
  first : α ≡ α'
  second : 1 < depth_of_four α β γ → β ≡ β'
  third : 2 < depth_of_four α β γ → γ ≡ γ'

one_leaf-of-agree : (p q : ℕ → Bool) → Agree (leaf_depth p 0 (division_of two_two set_of_four)) p q
    → OneLeaf (p 0) (p 1) (p 2) (q 0) (q 1) (q 2)
one_leaf-of-agree p q a =
    record {
      first = a 0 (rw (leaf_depth-four p) (some (p 0) (p 1) (p 2)));
      second = λ h. a 1 (rw (leaf_depth-four p) h);
      third = λ h. a 2 (rw (leaf_depth-four p) h);
    }
  where
    some : (α β γ : Bool) → 0 < depth_of_four α β γ
    some false β γ = omega arith
    some true true γ = omega arith
    some true false γ = omega arith

agree-of-one_leaf : (p q : ℕ → Bool) → OneLeaf (p 0) (p 1) (p 2) (q 0) (q 1) (q 2)
    → Agree (leaf_depth p 0 (division_of two_two set_of_four)) p q
agree-of-one_leaf p q o zero h = o.first
agree-of-one_leaf p q o (suc zero) h = o.second (rw (leaf_depth-four p) at h)
agree-of-one_leaf p q o (suc (suc zero)) h = o.third (rw (leaf_depth-four p) at h)
agree-of-one_leaf p q o (suc (suc (suc s))) h =
    let most = at_most (p 0) (p 1) (p 2) in
    let below = rw (leaf_depth-four p) at h in
    absurd (omega (arith, most, below))
  where
    at_most : (α β γ : Bool) → depth_of_four α β γ ≤ 3
    at_most false β γ = omega arith
    at_most true true γ = omega arith
    at_most true false γ = omega arith

word_of_four-leaf : (α β γ α' β' γ' : Bool) → OneLeaf α β γ α' β' γ' → word_of_four α β γ ≡ word_of_four α' β' γ'
word_of_four-leaf false β γ α' β' γ' o = rw (← o.first)
word_of_four-leaf true true γ α' β' γ' o = rw (← o.first, ← o.second (omega arith))
word_of_four-leaf true false γ α' β' γ' o = rw (← o.first, ← o.second (omega arith), ← o.third (omega arith))

-- the page names the leaf
word_of_four-page : (α β γ α' β' γ' : Bool) (g x y : ℕ) → g < 3
    → word_of_four α β γ ≡ word_of (Page g x) → word_of_four α' β' γ' ≡ word_of (Page g y) → OneLeaf α β γ α' β' γ'
word_of_four-page false β γ false β' γ' g x y l e e' =
    record { first = refl; second = λ h. absurd (omega arith); third = λ h. absurd (omega arith) }
word_of_four-page true false false true false false g x y l e e' =
    record { first = refl; second = λ h. refl; third = λ h. refl }
word_of_four-page true false true true false true g x y l e e' =
    record { first = refl; second = λ h. refl; third = λ h. refl }
word_of_four-page true true γ α' β' γ' g x y l e e' = absurd (omega arith)
word_of_four-page false β γ true true γ' g x y l e e' = absurd (omega arith)
word_of_four-page false β γ true false false g x y l e e' = absurd (omega arith)
word_of_four-page false β γ true false true g x y l e e' = absurd (omega arith)
word_of_four-page true false false false β' γ' g x y l e e' = absurd (omega arith)
word_of_four-page true false false true true γ' g x y l e e' = absurd (omega arith)
word_of_four-page true false false true false true g x y l e e' = absurd (omega arith)
word_of_four-page true false true false β' γ' g x y l e e' = absurd (omega arith)
word_of_four-page true false true true true γ' g x y l e e' = absurd (omega arith)
word_of_four-page true false true true false false g x y l e e' = absurd (omega arith)

shows-four : Shows two_two 3 3 four_records.memory (division_of two_two set_of_four)
unfolding
    widths_of steps_below steps step step_number steps_of attribute_depth split_bit
    highest_bit created_by latest_step formula address_from address sides sum_bits cell cell_address
    record_bytes record_of division_of encode decode encode_field marked bias
shows-four =
    record {
      word = λ p. word (p 0) (p 1) (p 2);
      same_word = λ p q agree.
          word_at-four p
          ∙ word_of_four-leaf (p 0) (p 1) (p 2) (q 0) (q 1) (q 2) (one_leaf-of-agree p q agree)
          ∙ sym (word_at-four q);
      own-page = λ p q apart g x y l e e'.
          apart (agree-of-one_leaf p q (word_of_four-page (p 0) (p 1) (p 2) (q 0) (q 1) (q 2) g x y l
          (sym (word_at-four p) ∙ e) (sym (word_at-four q) ∙ e')));
      free = free;
    }
  where
    word : (α β γ : Bool)
        → let p = list_bit (α ∷ β ∷ γ ∷ []) in
        let D = division_of two_two set_of_four in
        LeafWord two_two 3 four_records.memory.bytes (leaf_records p 0 D) (leaf_depth p 0 D)
        (word_at two_two 3 four_records.memory.words p)
    word false false false = (0, omega arith, refl, refl)
    word false false true = (0, omega arith, refl, refl)
    word false true false = (0, omega arith, refl, refl)
    word false true true = (0, omega arith, refl, refl)
    word true false false = (1, omega arith, refl, refl)
    word true false true = (2, omega arith, refl, refl)
    word true true false = refl
    word true true true = refl

    free : (g : ℕ) → g < 3
        → ((p : ℕ → Bool) (x : ℕ) → word_at two_two 3 four_records.memory.words p ≡ word_of (Page g x) → ⊥)
        → count_of (page_at 2 four_records.memory.bytes g) ≡ 0
    free zero h unused = absurd (unused empty_string 1 refl)
    free (suc zero) h unused = absurd (unused (list_bit (true ∷ [])) 3 refl)
    free (suc (suc zero)) h unused = absurd (unused (list_bit (true ∷ false ∷ true ∷ [])) 3 refl)
    free (suc (suc (suc g))) h unused = absurd (omega arith)

pub four_records-sound : Sound four_records set_of_four
unfolding widths_of steps_below steps step split_bit record_bytes record_of is_set division_of
four_records-sound =
    sound-of 3 3 (0 ∷ 1 ∷ 1 ∷ 2 ∷ []) _ set_of_four
    (omega arith) (omega arith) (omega arith) (omega arith) (omega arith) refl refl refl shows-four
