-- What a change leaves as it was on any store, sound or not: the words and pages outside the key's leaf and the leaves
-- that are joined with it (document 01, "Lent memory": "Every other leaf keeps its page."). Assumes nothing.
use Rattle.std.specs.Prelude.{ℕ, suc, ◌≤◌, ◌<◌, ◌≡◌, Bool, true, ◌⊎◌}
use Rattle.cell.specs.Cell.{Agree}
use Rattle.page.specs.Page.{count_of, page_at}
use Rattle.directory_word.specs.Word.{word_of, depth_field}
use Rattle.directory_word.specs.declared.Leaf.TheVariants.{Empty, Page}
use Rattle.store.specs.Store.{Store, word_at}

-- the word names page g
abbrev pub Names : ℕ → ℕ → Type 0
Names g word = (x : ℕ) × (word ≡ word_of (Page g x))

-- ---- words

-- the leaf that p's word names is whole: every string of its region has the word
abbrev pub Whole : ((ℕ → Bool) → ℕ) → (ℕ → Bool) → Type 0
Whole word p = (q : ℕ → Bool) → Agree (depth_field (word p)) p q → word q ≡ word p

-- `joins` says whether the call may join leaves; `old` and `new` give the words of strings before and after it, and
-- `key` is the key's string
module _ (joins : Bool) (old new : (ℕ → Bool) → ℕ) (key : ℕ → Bool) where
  -- p's leaf is a sibling that the key's leaf is joined with: p leaves the key's string in its last bit, bit z, which
  -- stood above the depth of the key's leaf and does not stand above it now
  pub record JoinedWith (p : ℕ → Bool) : Type 0 where
    -- Shut out: an insert that takes a sibling in
    pub allowed : joins ≡ true
    pub z : ℕ
    pub depth : depth_field (old p) ≡ suc z
    pub agree : Agree z key p
    pub differ : key z ≡ p z → ⊥
    pub above : z < depth_field (old key)
    pub within : depth_field (new key) ≤ z
    -- it is the sibling of the key's own leaf, or an empty leaf above. Shut out: a delete that gives away a leaf above
    -- that has a page
    pub nearest-or-empty : (suc z ≡ depth_field (old key)) ⊎ (old p ≡ word_of (Empty (suc z)))
    -- the key's leaf is whole now, so that p and all of its leaf have the key's word. Shut out: a delete that clears a
    -- sibling's page and leaves its words, or some of them
    pub one-leaf : Whole new key

  -- p's leaf gives way: it is whole, and it is the key's or joined with it
  abbrev pub GivesWay : (ℕ → Bool) → Type 0
  GivesWay p = Whole old p × (Agree (depth_field (old p)) p key ⊎ JoinedWith p)

  -- every other word is kept, in the directory of the new depth
  abbrev pub WordsKept : Type 0
  WordsKept = (p : ℕ → Bool) → (new p ≡ old p) ⊎ GivesWay p

-- ---- a store

module _ (joins : Bool) (before after : Store) (key : ℕ → Bool) where
  abbrev old : (ℕ → Bool) → ℕ
  old p = word_at before.state.shape before.state.deepest before.memory.words p

  abbrev new : (ℕ → Bool) → ℕ
  new p = word_at after.state.shape after.state.deepest after.memory.words p

  -- page g may be written: it is the page of the key's leaf, or of a whole leaf that is joined with it, or it was free
  -- and a leaf in the region of the key's leaf has it now. Shut out: a delete that changes a page for the sake of one
  -- damaged word that names it
  abbrev pub Written : ℕ → Type 0
  Written g =
      Names g (old key)
      ⊎ (((p : ℕ → Bool) × Whole old p × JoinedWith joins old new key p × Names g (old p))
      ⊎ ((count_of (page_at before.state.shape.capacity before.memory.bytes g) ≡ 0)
      × ((p : ℕ → Bool) × Agree (depth_field (old key)) key p × Names g (new p))))

  -- the bytes of every other page are kept
  abbrev pub BytesKept : Type 0
  BytesKept = (g : ℕ) → g < before.state.limits.pages
      → (page_at before.state.shape.capacity after.memory.bytes g
      ≡ page_at before.state.shape.capacity before.memory.bytes g) ⊎ Written g

  -- Shut out: a region set after a look at one of its cells; T lowered by a wrong tally (words); a record written into
  -- another leaf's page (bytes)
  pub record Contained : Type 0 where
    pub words-kept : WordsKept joins old new key
    pub bytes-kept : BytesKept
