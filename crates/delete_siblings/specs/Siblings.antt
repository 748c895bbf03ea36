-- What the siblings of a key's regions show: the word of that beside the key's leaf, a key that falls there, whether a
-- sound store can have the word, and which siblings above are empty leaves. Assumes nothing.
use Rattle.std.specs.Prelude.{ℕ, suc, ◌≤◌, ◌<◌, ◌≡◌, Bool, true, ◌&&◌, List, [], ltb}
use Rattle.shape.specs.Shape.{widths_of, index_fits}
use Rattle.shape.specs.declared.Shape.{Shape}
use Rattle.split.specs.Bits.{split_bit}
use Rattle.cell.specs.Cell.{Agree}
use Rattle.region.specs.Strings.{sibling}
use Rattle.record.specs.Packed.{unpacked_key}
use Rattle.directory_lent.specs.Lent.{DirectoryLent}
use Rattle.directory_word.specs.Word.{word_of}
use Rattle.directory_word.specs.declared.Leaf.TheVariants.{Empty}
use Rattle.store.specs.Store.{store}
use Rattle.store.specs.declared.State.{State}
use Rattle.change.specs.Delete.{AtSibling}
use Rattle.leaf_word.specs.Hold.{word_holds}
use Rattle.delete_siblings.specs.declared.Sibling.{Sibling}

-- ---- the sibling of the key's leaf

-- what is asked to find the sibling of a packed key's region of z + 1 bits
pub record SiblingAsked (st : State) (size key z : ℕ) : Type 0 where
  pub lent : DirectoryLent st size
  pub below : z < st.deepest
  pub fits : index_fits (widths_of st.shape) (unpacked_key key) ≡ true

-- a packed key has values in bounds and falls into the sibling of another's region of z + 1 bits
pub record SiblingKey (s : Shape) (key z beside : ℕ) : Type 0 where
  pub fits : index_fits (widths_of s) (unpacked_key beside) ≡ true
  pub agree : Agree (suc z) (sibling (split_bit (widths_of s) (unpacked_key key)) z)
      (split_bit (widths_of s) (unpacked_key beside))

-- the word of one of the sibling's cells, and a key that falls there
pub record SiblingFound (st : State) (words : List ℕ) (key z : ℕ) (r : Sibling) : Type 0 where
  pub word : AtSibling (store st words []) (unpacked_key key) z (λ w. r.word ≡ w)
  pub beside : SiblingKey st.shape key z r.key

-- a sound store can have a word at the sibling of a leaf of depth x that has a page: a leaf above depth x would hold
-- that leaf's region, and with an empty leaf beside it the region of both would not be divided
unfoldable pub sibling_holds : State → ℕ → ℕ → Bool
sibling_holds st x w = word_holds st w && ltb (word_of (Empty x)) w

-- ---- siblings above

-- from depth m up, the siblings are empty leaves from depth y + 1 on, and that at depth y is none
pub record Climbed (st : State) (words encoded : List ℕ) (m y : ℕ) : Type 0 where
  pub above : y ≤ m
  pub empty : (z : ℕ) → y ≤ z → z < m → AtSibling (store st words []) encoded z (λ w. w ≡ word_of (Empty (suc z)))
  pub top : (z : ℕ) → y ≡ suc z → AtSibling (store st words []) encoded z (λ w. w ≡ word_of (Empty (suc z)) → ⊥)
