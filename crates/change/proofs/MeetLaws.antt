-- What an insert meets, as its code knows it: the word at its key's cell, a page and its records. On a sound store
-- these decide the leaf. Assumes nothing.
use Prim.Native.Nat.{ℕ, zero, suc, ◌+◌, ◌%◌, ◌^◌, ◌≤◌, ◌<◌}
use mathlib.Core.Path.{◌≡◌, refl, sym, ap, ◌∙◌}
use mathlib.Core.Bool.{Bool, true, false, ◌&&◌, beq}
use mathlib.Core.List.{List, []}
use native.Mathlib.Omega.{arith}
use native.Mathlib.Nat.{zero-add}
use Rattle.lists.specs.Filter.{all, non_empty}
use Rattle.lists.proofs.Bools.{and_split}
use Rattle.lists.proofs.FilterLaws.{all-and, all-imp}
use Rattle.shape.specs.Shape.{widths_of, total}
use Rattle.shape.specs.declared.Shape.{Shape}
use Rattle.region.specs.Strings.{same_bits}
use Rattle.region.specs.Sets.{sorted}
use Rattle.region.specs.Division.{Division, leaf_depth, leaf_records}
use Rattle.region.proofs.StringLaws.{same_bits-suc}
use Rattle.region.proofs.OrderLaws.{sorted_filter}
use Rattle.region.proofs.StringLeafLaws.{all-same_bits-leaf_records}
use Rattle.record.specs.Record.{Record, record_bit}
use Rattle.directory_word.specs.Word.{word_of}
use Rattle.directory_word.specs.declared.Leaf.TheVariants.{Empty, Page}
use Rattle.directory_word.proofs.WordLaws.{word_of-page, word_of-page-empty}
use Rattle.model.specs.Sets.{stored, division_of}
use Rattle.model.proofs.SetLaws.{sorted-of-is_set}
use Rattle.store.specs.Store.{Store}
use Rattle.store.specs.Sound.{Sound}
use Rattle.store.proofs.ShownLaws.{page_records, word_on, division_on, LeafWord-page, LeafWord-empty}
use Rattle.store.proofs.KeyLaws.{stored-page, stored-no-page}
use Rattle.store.proofs.DividedLaws.{leaf_records-division_of}

-- ---- records that agree with a string bit by bit

module _ {R : Type 0} (bit : R → ℕ → Bool) (p : ℕ → Bool) (rs : List R) where
  -- all have the string's bit t
  abbrev pub all_have : ℕ → Bool
  all_have t = all (λ y. beq (p t) (bit y t)) rs

  same_bits-last : (m : ℕ) (y : R) → same_bits p (bit y) (suc m) 0 ≡ (same_bits p (bit y) m 0 && beq (p m) (bit y m))
  same_bits-last m y = same_bits-suc p (bit y) m 0 ∙ rw (zero-add m)

  -- from x on to m
  pub all-same_bits-of : (n x m : ℕ) → x + n ≡ m → all (λ y. same_bits p (bit y) x 0) rs ≡ true
      → ((t : ℕ) → x ≤ t → t < m → all_have t ≡ true) → all (λ y. same_bits p (bit y) m 0) rs ≡ true
  all-same_bits-of zero x m e h k = let x≡ : x ≡ m = omega arith in rw x≡ at h
  all-same_bits-of (suc n) x m e h k =
      all-same_bits-of n (suc x) m (omega arith)
      (all-imp (λ y. same_bits p (bit y) x 0 && beq (p x) (bit y x)) (λ y. same_bits p (bit y) (suc x) 0)
      (λ y d. same_bits-last x y ∙ d) rs
      (all-and (λ y. same_bits p (bit y) x 0) (λ y. beq (p x) (bit y x)) rs h (k x (omega arith) (omega arith))))
      (λ t a b. k t (omega arith) b)

  pub not-all-same_bits : (m : ℕ) → all_have m ≡ false → all (λ y. same_bits p (bit y) (suc m) 0) rs ≡ false
  not-all-same_bits m e = go (all (λ y. same_bits p (bit y) (suc m) 0) rs) refl
    where
      last : (y : R) → same_bits p (bit y) (suc m) 0 ≡ true → beq (p m) (bit y m) ≡ true
      last y k = (and_split (same_bits p (bit y) m 0) (beq (p m) (bit y m)) (sym (same_bits-last m y) ∙ k)).1

      go : (β : Bool) → all (λ y. same_bits p (bit y) (suc m) 0) rs ≡ β → β ≡ false
      go false d = refl
      go true d =
          let have : all_have m ≡ true =
          all-imp (λ y. same_bits p (bit y) (suc m) 0) (λ y. beq (p m) (bit y m)) last rs d in
          sym have ∙ e

-- ---- the leaf

-- the records that page g of a store shows
abbrev pub records_on : Store → ℕ → List Record
records_on before g = page_records before.state.shape before.memory.bytes g

module _ (before : Store) (r : Record) where
  abbrev s : Shape
  s = before.state.shape

  abbrev P : ℕ
  P = before.state.limits.pages

  abbrev p₀ : ℕ → Bool
  p₀ = record_bit s r

  -- the record's leaf has page g and depth x
  pub record MeetsPage (g x : ℕ) : Type 0 where
    pub within : g < P
    pub word : word_on before p₀ ≡ word_of (Page g x)

  module _ (S : List Record) (sound : Sound before S) where
    abbrev D : Division Record
    D = division_on before S

    module _ (g x : ℕ) (meets : MeetsPage g x) where
      page-parts : (g < P) × (leaf_depth p₀ 0 D ≡ x) × (records_on before g ≡ leaf_records p₀ 0 D)
          × (non_empty (leaf_records p₀ 0 D) ≡ true)
      page-parts =
          LeafWord-page s P before.memory.bytes sound.most-pages (leaf_records p₀ 0 D) (leaf_depth p₀ 0 D)
          (word_on before p₀) (sound.shown.word p₀) g x (omega (arith, meets.within, sound.most-pages)) meets.word

      pub depth-of-page : leaf_depth p₀ 0 D ≡ x
      depth-of-page = page-parts.1

      pub records-of-page : leaf_records p₀ 0 D ≡ records_on before g
      records-of-page = sym page-parts.2

      pub non_empty-page : non_empty (records_on before g) ≡ true
      non_empty-page = ap non_empty page-parts.2 ∙ page-parts.3

      -- what is stored under the key is on the page
      pub stored-of-page : stored r.key S ≡ stored r.key (records_on before g)
      stored-of-page =
          let field = word_of-page g x (omega (arith, meets.within, sound.most-pages)) in
          (stored-page before S sound r.key g (ap (λ w. w % 2 ^ 16) meets.word ∙ field)).1

      -- the page is in split order
      pub sorted-page : sorted (record_bit s) (total (widths_of s)) 0 (records_on before g) ≡ true
      sorted-page =
          rw (page-parts.2, leaf_records-division_of s S p₀)
          (sorted_filter (record_bit s) (total (widths_of s)) 0 _ S (sorted-of-is_set s S sound.set))

      -- its records begin with the leaf's string
      pub shared-page : all (λ y. same_bits p₀ (record_bit s y) x 0) (records_on before g) ≡ true
      unfolding division_of
      shared-page =
          rw (page-parts.2, sym page-parts.1)
          (all-same_bits-leaf_records (record_bit s) s.capacity p₀ (total (widths_of s)) 0 S)

    module _ (x : ℕ) (word : word_on before p₀ ≡ word_of (Empty x)) where
      empty-parts : (leaf_depth p₀ 0 D ≡ x) × (leaf_records p₀ 0 D ≡ [])
      empty-parts =
          LeafWord-empty s P before.memory.bytes sound.most-pages (leaf_records p₀ 0 D) (leaf_depth p₀ 0 D)
          (word_on before p₀) (sound.shown.word p₀) x word

      pub depth-of-empty : leaf_depth p₀ 0 D ≡ x
      depth-of-empty = empty-parts.0

      pub records-of-empty : leaf_records p₀ 0 D ≡ []
      records-of-empty = empty-parts.1

      pub stored-of-empty : stored r.key S ≡ []
      stored-of-empty =
          stored-no-page before S sound r.key (ap (λ w. w % 2 ^ 16) word ∙ word_of-page-empty x)
