-- What a plan of an insert tells, on any store. `encoded` are the encodings of the key. Assumes nothing.
use Rattle.std.specs.Prelude.{ℕ, List, Result, Ok, Err}
use Rattle.directory_word.specs.Word.{word_of}
use Rattle.directory_word.specs.declared.Leaf.TheVariants.{Empty, Page}
use Rattle.store.specs.Store.{Store}
use Rattle.change_kept.specs.Tested.{LeafTested}
use Rattle.insert_planned.specs.Planned.{RoomFound, RefusalMet, GetPlanned, DividePlanned}
use Rattle.shape.specs.declared.refusal.Refusal.{Refusal}
use Rattle.insert_allocate.specs.declared.Plan.{Plan}
use Rattle.insert_allocate.specs.declared.Plan.TheVariants.{Take, Get, Divide}

module _ (before : Store) (encoded : List ℕ) where
  -- every cell of the key's leaf, of depth x, holds its word
  abbrev pub LeafWhole : ℕ → ℕ → Type 0
  LeafWhole x word = LeafTested before.state before.memory.words encoded x word

  -- a leaf that gets a page is whole
  abbrev pub PageAllocated : Plan → Type 0
  PageAllocated (Take g x i n) = RoomFound before encoded g x i n
  PageAllocated (Get g x) = GetPlanned before encoded g x × LeafWhole x (word_of (Empty x))
  PageAllocated (Divide split cut free) =
      DividePlanned before encoded split cut free
      × LeafWhole split.depth (word_of (Page split.page split.depth))

  -- a refusal is what `add` promises
  abbrev pub InsertPlanned : Result Plan Refusal → Type 0
  InsertPlanned (Ok plan) = PageAllocated plan
  InsertPlanned (Err r) = RefusalMet before encoded r
