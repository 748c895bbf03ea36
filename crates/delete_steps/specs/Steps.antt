-- What the steps of a delete need of the lent slices, and what they leave of them. Private functions' contracts cite
-- these. Assumes nothing.
use Rattle.std.specs.Prelude.{ℕ, suc, ◌+◌, ◌-◌, ◌≤◌, ◌<◌, ◌≡◌, true, List, length}
use Rattle.shape.specs.Shape.{widths_of}
use Rattle.split.specs.Bits.{split_bit}
use Rattle.directory.specs.Directory.{Filled}
use Rattle.directory_word.specs.Word.{word_of}
use Rattle.directory_word.specs.declared.Leaf.TheVariants.{Empty, Page}
use Rattle.store.specs.declared.State.{State}
use Rattle.change.specs.Delete.{joined_tally, tally_depth}
use Rattle.tally.specs.Tally.{tally_holds}
use Rattle.delete_plan.specs.declared.Stored.{Stored}
use Rattle.delete_plan.specs.declared.Join.{Join}
use Rattle.directory_lent.specs.Lent.{DirectoryLent}
use Rattle.delete_pages.specs.PageBytes.{RecordLent, PairLent, kept_page, removed_bytes, joined_bytes}

-- ---- bounds

-- the depths of both leaves and of the new one, and the tally
pub record LeavesLent (st : State) (r : Stored) (j : Join) : Type 0 where
  pub deep : r.depth ≤ st.deepest
  pub depth-step : r.depth ≡ suc j.step
  pub above : j.top ≤ j.step
  pub thirteen : length st.tally.leaves ≡ 13
  pub tally : tally_holds st.tally.leaves ≡ true

-- what a leaf that stays needs
pub record LeafLent (st : State) (r : Stored) (size : ℕ) (bytes : List ℕ) : Type 0 where
  pub lent : DirectoryLent st size
  pub deep : r.depth ≤ st.deepest
  pub own : RecordLent st.shape.capacity r bytes

-- and two that are joined
pub record JoinLent (st : State) (r : Stored) (j : Join) (size : ℕ) (bytes : List ℕ) : Type 0 where
  pub lent : DirectoryLent st size
  pub leaves : LeavesLent st r j
  pub pair : PairLent st.shape.capacity r j bytes

-- ---- what is left

module _ (st : State) (encoded : List ℕ) where
  abbrev filled : ℕ → ℕ → ℕ → List ℕ → List ℕ → Type 0
  filled T x word words words' =
      Filled (widths_of st.shape) T x (split_bit (widths_of st.shape) encoded) word words words'

  -- the words of a leaf that stays: without a page, if its page had one record
  pub record LeafWords (r : Stored) (words words' : List ℕ) : Type 0 where
    pub emptied : r.count ≡ 1 → filled st.deepest r.depth (word_of (Empty r.depth)) words words'
    pub same : (r.count ≡ 1 → ⊥) → words' ≡ words

  -- T and the tally after a join, and the words of the new leaf
  pub record JoinWords (r : Stored) (j : Join) (st' : State) (words words' : List ℕ) : Type 0 where
    pub state : st' ≡ record { shape = st.shape; limits = st.limits; deepest = st'.deepest; tally = st'.tally }
    pub tally : st'.tally.leaves ≡ joined_tally j.top (suc j.step - j.top) st.tally.leaves
    pub depth : st'.deepest ≡ tally_depth st.deepest st'.tally.leaves
    pub new-leaf : filled st'.deepest j.top
        (word_of (Page (kept_page j.bit r.page j.other) j.top)) words words'

  -- a leaf that stays has lost the record
  pub record LeafKept (r : Stored) (words bytes words' bytes' : List ℕ) : Type 0 where
    pub words_are : LeafWords r words words'
    pub bytes-are : bytes' ≡ removed_bytes st.shape.capacity r.page r.place r.count bytes

  -- two leaves have given way to one
  pub record LeavesJoined (r : Stored) (j : Join) (st' : State) (words bytes words' bytes' : List ℕ) : Type 0 where
    pub words_are : JoinWords r j st' words words'
    pub bytes-are : bytes'
        ≡ joined_bytes j.bit st.shape.capacity r.page r.place r.count j.other j.count bytes
