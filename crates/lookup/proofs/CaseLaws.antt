-- Laws of lookup's answer by case, one for each way that a step of it ends. Assumes nothing.
use Prim.Native.Nat.{ℕ}
use mathlib.Core.Path.{◌≡◌, ap}
use mathlib.Core.Bool.{true, false}
use mathlib.Core.List.{List}
use native.Mathlib.Omega.{arith}
use borrow.Author.Tests.{lt-ltb}
use Rattle.shape.specs.Refusal.{refused, refused_with}
use Rattle.shape.specs.Shape.{widths_of}
use Rattle.split.specs.Bits.{split_bit}
use Rattle.record.specs.Packed.{packed_key}
use Rattle.page.specs.Page.{page_at}
use Rattle.page_matches.specs.KeyPlace.{key_place}
use Rattle.directory_word.specs.Word.{depth_field, leaf_of}
use Rattle.directory_word.specs.declared.Leaf.TheVariants.{Empty, Page}
use Rattle.directory_word.proofs.LeafLaws.{word_of-of-leaf_of}
use Rattle.store.specs.Store.{Store}
use Rattle.store.specs.declared.State.{State}
use Rattle.store.proofs.ShownLaws.{word_on}
use Rattle.refusals.specs.Limits.{limits_hold}
use Rattle.leaf_word.specs.Hold.{word_holds}
use Rattle.lookup.specs.Private.{place_answer, count_answer, page_answer, leaf_answer, word_answer, sought_answer}

-- ---- a page with n records, of a leaf of depth x

module _ (x : ℕ) (page : List ℕ) (n : ℕ) where
  module _ (fields : ℕ) where
    pub count_answer-none : n ≡ 0 → refused 9 ≡ count_answer x n page fields
    unfolding count_answer
    count_answer-none z = rw z

    pub count_answer-some : (n ≡ 0 → ⊥)
        → place_answer x page n (key_place fields page n 0) ≡ count_answer x n page fields
    unfolding count_answer
    count_answer-some h = rw (lt-ltb 0 n (omega arith))

-- ---- a leaf, as a word names it

module _ (st : State) (bytes : List ℕ) (key word : ℕ) where
  pub word_answer-damaged : word_holds st word ≡ false → refused 9 ≡ word_answer st bytes key word
  unfolding word_answer
  word_answer-damaged e = rw e

  module _ (holds : word_holds st word ≡ true) where
    pub word_answer-empty : (x : ℕ) → leaf_of word ≡ Empty x
        → refused_with 5 (depth_field word) ≡ word_answer st bytes key word
    unfolding word_answer leaf_answer
    word_answer-empty x e =
        let depth : depth_field word ≡ x = omega (arith, word_of-of-leaf_of word (Empty x) e) in
        rw (holds, e) (ap (refused_with 5) depth)

    pub word_answer-page : (g x : ℕ) → leaf_of word ≡ Page g x
        → page_answer st.shape x key (page_at st.shape.capacity bytes g) ≡ word_answer st bytes key word
    unfolding word_answer leaf_answer
    word_answer-page g x e = rw (holds, e)

-- ---- a store

module _ (store : Store) (encoded : List ℕ) where
  pub sought_answer-limits : limits_hold store.state ≡ false → refused 9 ≡ sought_answer store encoded
  unfolding sought_answer
  sought_answer-limits e = rw e

  pub sought_answer-word : limits_hold store.state ≡ true → (word key : ℕ)
      → word ≡ word_on store (split_bit (widths_of store.state.shape) encoded) → key ≡ packed_key encoded
      → word_answer store.state store.memory.bytes key word ≡ sought_answer store encoded
  unfolding sought_answer
  sought_answer-word e word key w k = rw (e, w, k)
