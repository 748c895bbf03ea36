-- What a delete finds in a store and does to it, where the leaf of its key stays and where it is joined with its
-- sibling; the tally after a join. Private functions' contracts cite these. Assumes nothing.
use Rattle.std.specs.Prelude.{ℕ, zero, suc, ◌+◌, ◌-◌, ◌≤◌, ◌<◌, ◌≡◌, Bool, true, false, cond, List, ◌⊎◌, eqb, get_or, set}
use Rattle.lists.specs.Filter.{non_empty}
use Rattle.shape.specs.Shape.{widths_of}
use Rattle.split.specs.Bits.{split_bit}
use Rattle.cell.specs.Cell.{Agree}
use Rattle.directory.specs.Directory.{Filled}
use Rattle.region.specs.Strings.{sibling}
use Rattle.region.specs.Sets.{in_order}
use Rattle.record.specs.Record.{Record}
use Rattle.page.specs.Page.{count_of, records_of, page_at}
use Rattle.directory_word.specs.Word.{word_of}
use Rattle.directory_word.specs.declared.Leaf.TheVariants.{Empty, Page}
use Rattle.model.specs.Sets.{without_key}
use Rattle.store.specs.Store.{Store, Memory, word_at}
use Rattle.store.specs.declared.Tally.{Tally}

-- ---- the tally

-- two leaves of depth x + 1 give way to one of depth x
unfoldable pub joined_once : ℕ → List ℕ → List ℕ
joined_once x leaves =
    let less = set leaves (x + 1) (get_or leaves (x + 1) 0 - 2) in
    set less x (get_or less x 0 + 1)

-- so n times, one above the other: two leaves less at depth x + n, one less at each of x + n - 1 to x + 1, one more at
-- x
unfoldable pub joined_tally : ℕ → ℕ → List ℕ → List ℕ
joined_tally x zero leaves = leaves
joined_tally x (suc n) leaves = joined_once x (joined_tally (suc x) n leaves)

-- "T is the greatest leaf depth": the greatest depth up to n with a count other than 0
unfoldable pub tally_depth : ℕ → List ℕ → ℕ
tally_depth zero leaves = 0
tally_depth (suc n) leaves = cond (eqb (get_or leaves (suc n) 0) 0) (tally_depth n leaves) (suc n)

-- ---- a key in a store, the key given by its four encodings

module _ (before : Store) (key : List ℕ) where
  -- the key's string of split bits
  abbrev pub key_string : ℕ → Bool
  key_string = split_bit (widths_of before.state.shape) key

  -- the word of a string; count and records of page g, and its records in other bytes
  abbrev word_before : (ℕ → Bool) → ℕ
  word_before q = word_at before.state.shape before.state.deepest before.memory.words q

  abbrev count_before : ℕ → ℕ
  count_before g = count_of (page_at before.state.shape.capacity before.memory.bytes g)

  abbrev records_in : List ℕ → ℕ → List Record
  records_in bytes g = records_of before.state.shape (page_at before.state.shape.capacity bytes g)

  -- a cell of the other half of the key's region of z bits has a word with this property
  abbrev pub AtSibling : ℕ → (ℕ → Type 0) → Type 0
  AtSibling z X = (q : ℕ → Bool) × Agree (suc z) (sibling key_string z) q × X (word_before q)

  -- the key's leaf, of page g and depth x, stays; its page has lost the record
  pub record LeafDeleted (g x : ℕ) (after : Memory) : Type 0 where
    pub within : g < before.state.limits.pages
    pub own : word_before key_string ≡ word_of (Page g x)
    -- its sibling is no leaf with a page, or both do not fit one page without the record
    pub alone : (m : ℕ) → x ≡ suc m
        → AtSibling m (λ w. (h : ℕ) → h < before.state.limits.pages → w ≡ word_of (Page h (suc m))
        → suc before.state.shape.capacity < count_before g + count_before h)
    pub records : records_in after.bytes g ≡ without_key key (records_in before.memory.bytes g)
    pub others : (h : ℕ) → h < before.state.limits.pages → (h ≡ g → ⊥)
        → records_in after.bytes h ≡ records_in before.memory.bytes h
    -- "A leaf is empty or has one page"
    pub some_left : non_empty (records_in after.bytes g) ≡ true → after.words ≡ before.memory.words
    pub none_left : non_empty (records_in after.bytes g) ≡ false
        → Filled (widths_of before.state.shape) before.state.deepest x key_string (word_of (Empty x))
        before.memory.words after.words

  -- the key's leaf and its sibling have the pages g and h and depth m + 1, and both fit one page without the record;
  -- above, the siblings are empty leaves from depth y + 1 on, and that at depth y is none
  pub record JoinFound (g h m y : ℕ) : Type 0 where
    pub own-within : g < before.state.limits.pages
    pub own : word_before key_string ≡ word_of (Page g (suc m))
    pub other-within : h < before.state.limits.pages
    pub other : AtSibling m (λ w. w ≡ word_of (Page h (suc m)))
    pub fit : count_before g + count_before h ≤ suc before.state.shape.capacity
    pub above : y ≤ m
    pub empty : (z : ℕ) → y ≤ z → z < m → AtSibling z (λ w. w ≡ word_of (Empty (suc z)))
    pub top : (z : ℕ) → y ≡ suc z → AtSibling z (λ w. w ≡ word_of (Empty (suc z)) → ⊥)

  -- the records of both are in page `kept` now, page `freed` is free, the region of y bits is set in a directory of
  -- depth T'
  pub record LeafJoined (g h m y kept freed T' : ℕ) (tally' : Tally) (after : Memory) : Type 0 where
    pub pages : ((kept ≡ g) × (freed ≡ h)) ⊎ ((kept ≡ h) × (freed ≡ g))
    pub records : records_in after.bytes kept
        ≡ in_order (key_string m) (without_key key (records_in before.memory.bytes g))
        (records_in before.memory.bytes h)
    pub none : count_of (page_at before.state.shape.capacity after.bytes freed) ≡ 0
    pub others : (i : ℕ) → i < before.state.limits.pages → (i ≡ g → ⊥) → (i ≡ h → ⊥)
        → records_in after.bytes i ≡ records_in before.memory.bytes i
    pub tally : tally'.leaves ≡ joined_tally y (suc m - y) before.state.tally.leaves
    pub depth : T' ≡ tally_depth before.state.deepest tally'.leaves
    pub filled : Filled (widths_of before.state.shape) T' y key_string (word_of (Page kept y)) before.memory.words
        after.words
