-- What the tests of crate `directory_tests` tell a change before it sets words, on any store: of the words and the
-- state alone, whatever the page bytes. `encoded` are the encodings of the key. Assumes nothing.
use Rattle.std.specs.Prelude.{ℕ, suc, ◌-◌, ◌≤◌, ◌<◌, Bool, List}
use Rattle.shape.specs.Shape.{widths_of}
use Rattle.split.specs.Bits.{split_bit}
use Rattle.region.specs.Strings.{sibling}
use Rattle.directory_word.specs.Word.{word_of}
use Rattle.directory_word.specs.declared.Leaf.TheVariants.{Empty, Page}
use Rattle.store.specs.declared.State.{State}
use Rattle.change.specs.Delete.{joined_tally, tally_depth}
use Rattle.delete_plan.specs.declared.Stored.{Stored}
use Rattle.delete_plan.specs.declared.Join.{Join}
use Rattle.directory_tests.specs.Intact.{RegionHolds, Folds}

-- T after a join
abbrev pub joined_depth : State → Join → ℕ
joined_depth st j = tally_depth st.deepest (joined_tally j.top (suc j.step - j.top) st.tally.leaves)

module _ (st : State) (words encoded : List ℕ) where
  abbrev ws : List ℕ
  ws = widths_of st.shape

  abbrev key : ℕ → Bool
  key = split_bit ws encoded

  -- every cell of the key's region of x bits holds the word
  abbrev pub LeafTested : ℕ → ℕ → Type 0
  LeafTested x word = RegionHolds ws st.deepest x key word words

  -- every cell of the other half of its region of z bits
  abbrev pub SiblingTested : ℕ → ℕ → Type 0
  SiblingTested z word = RegionHolds ws st.deepest (suc z) (sibling key z) word words

  -- the key's leaf, its sibling and the empty siblings above are whole, and a directory of the new depth has every word
  -- outside the key's region
  pub record JoinTested (r : Stored) (j : Join) : Type 0 where
    pub own : LeafTested (suc j.step) (word_of (Page r.page (suc j.step)))
    pub other : SiblingTested j.step (word_of (Page j.other (suc j.step)))
    pub empty : (z : ℕ) → j.top ≤ z → z < j.step → SiblingTested z (word_of (Empty (suc z)))
    pub halved : Folds ws (joined_depth st j) st.deepest key words
