-- What the tests of a change before its first write ask and tell. Page bytes are not looked at: what is told
-- holds whatever they are. Assumes nothing.
use Rattle.std.specs.Prelude.{Ok, ℕ, suc, ◌≤◌, ◌<◌, ◌≡◌, Bool, true, false, List, [], ◌∷◌}
use Rattle.shape.specs.Shape.{widths_of}
use Rattle.split.specs.Bits.{split_bit}
use Rattle.cell.specs.Cell.{Agree}
use Rattle.record.specs.Record.{Record}
use Rattle.directory_word.specs.Word.{word_of}
use Rattle.directory_word.specs.declared.Leaf.TheVariants.{Empty, Page}
use Rattle.model.specs.Sets.{stored}
use Rattle.store.specs.Store.{store}
use Rattle.store.specs.Sound.{Sound}
use Rattle.store.specs.declared.State.{State}
use Rattle.delete_plan.specs.Plan as delete
use Rattle.delete_plan.specs.declared.Plan as delete-plan
use Rattle.delete_plan.specs.declared.Plan.TheVariants as delete-plans
use Rattle.delete_plan.specs.declared.Stored.{Stored}
use Rattle.delete_plan.specs.declared.Join.{Join}
use Rattle.directory_lent.specs.Lent.{DirectoryLent}
use Rattle.delete_steps.specs.Steps.{LeavesLent}
use Rattle.directory_tests.specs.Intact.{cell_word}
use Rattle.change_kept.specs.Tested.{joined_depth, LeafTested, SiblingTested, JoinTested}

-- ---- what is asked

-- the cells of a leaf that loses its only record
pub record RemovalAsked (st : State) (size : ℕ) (r : Stored) : Type 0 where
  pub lent : DirectoryLent st size
  pub deep : r.depth ≤ st.deepest
  pub page-lt : r.page < 65535

-- those of two leaves that are joined, and of the empty ones above
pub record JoiningAsked (st : State) (size : ℕ) (r : Stored) (j : Join) : Type 0 where
  pub lent : DirectoryLent st size
  pub leaves : LeavesLent st r j
  pub page-lt : r.page < 65535
  pub other-lt : j.other < 65535

-- those of the siblings of depths y + 1 to m
pub record EmptiesAsked (st : State) (size m y : ℕ) : Type 0 where
  pub lent : DirectoryLent st size
  pub below : m < st.deepest
  pub above : y ≤ m

-- T after a join
pub record DepthJoined (st : State) (j : Join) (depth : ℕ) : Type 0 where
  pub is : depth ≡ joined_depth st j
  pub at_most : depth ≤ st.deepest

-- ---- what is told

-- a set has one record with these encodings as its key
pub record KeyHeld (encoded : List ℕ) (S : List Record) : Type 0 where
  pub content : Record
  pub held : stored content.key S ≡ content ∷ []
  pub key : content.key ≡ encoded

module _ (st : State) (words encoded : List ℕ) where
  abbrev pub DeleteGuarded : delete-plan.Plan → Type 0
  DeleteGuarded (delete-plans.Keep r) =
      r.count ≡ 1 → LeafTested st words encoded r.depth (word_of (Page r.page r.depth))
  DeleteGuarded (delete-plans.Join r j) = JoinTested st words encoded r j

  -- a key whose record was found is stored
  abbrev pub KeyStored : List ℕ → List Record → Type 0
  KeyStored bytes S = (r : Stored) → delete.RecordFound (store st words bytes) encoded r → KeyHeld encoded S

  -- where a test fails, no sound store has these words and this plan
  pub record DeleteTold (plan : delete-plan.Plan) (held : Bool) : Type 0 where
    pub yes : held ≡ true → DeleteGuarded plan
    pub no : held ≡ false → (bytes : List ℕ) → delete.DeletePlanned (store st words bytes) encoded (Ok plan)
        → (S : List Record) → Sound (store st words bytes) S → KeyStored bytes S → ⊥

  -- of the two plans
  abbrev pub RemovalTold : Stored → Bool → Type 0
  RemovalTold r = DeleteTold (delete-plans.Keep r)

  abbrev pub JoiningTold : Stored → Join → Bool → Type 0
  JoiningTold r j = DeleteTold (delete-plans.Join r j)

  -- ---- a join

  pub record EmptiesTold (m y : ℕ) (held : Bool) : Type 0 where
    pub yes : held ≡ true → (z : ℕ) → y ≤ z → z < m → SiblingTested st words encoded z (word_of (Empty (suc z)))
    pub no : held ≡ false
        → ((z : ℕ) → y ≤ z → z < m → SiblingTested st words encoded z (word_of (Empty (suc z)))) → ⊥

  -- what a sound store passes: the leaves are whole, and no step from the new T on changes a word outside
  pub record JoinPasses (r : Stored) (j : Join) : Type 0 where
    pub own : LeafTested st words encoded (suc j.step) (word_of (Page r.page (suc j.step)))
    pub other : SiblingTested st words encoded j.step (word_of (Page j.other (suc j.step)))
    pub empty : (z : ℕ) → j.top ≤ z → z < j.step → SiblingTested st words encoded z (word_of (Empty (suc z)))
    pub folds : (n : ℕ) → joined_depth st j ≤ n → n < st.deepest → (q : ℕ → Bool)
        → (Agree n (split_bit (widths_of st.shape) encoded) q → ⊥)
        → cell_word (widths_of st.shape) (suc n) words q ≡ cell_word (widths_of st.shape) n words q

  pub record JoinTold (r : Stored) (j : Join) (held : Bool) : Type 0 where
    pub yes : held ≡ true → JoinTested st words encoded r j
    pub no : held ≡ false → JoinPasses r j → ⊥
