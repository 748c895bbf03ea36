-- What an insert finds, on any store: the word, the page and the places; and what it is to do once a page is free for a
-- leaf that newly gets one. `encoded` are the encodings of the key. Assumes nothing.
use Rattle.std.specs.Prelude.{Result, Ok, Err, ℕ, ◌≤◌, ◌<◌, ◌≡◌, true, List}
use Rattle.shape.specs.Refusal.{told}
use Rattle.shape.specs.declared.refusal.Refusal.{Refusal}
use Rattle.shape.specs.Shape.{widths_of, total, index_fits}
use Rattle.split.specs.Bits.{split_bit}
use Rattle.record.specs.declared.Content.{Content}
use Rattle.record.specs.Lanes.{bias_key}
use Rattle.record.specs.Packed.{packed_key, unpacked_key}
use Rattle.page.specs.Page.{count_of, page_at}
use Rattle.directory_word.specs.Word.{word_of}
use Rattle.directory_word.specs.declared.Leaf.TheVariants.{Empty, Page}
use Rattle.store.specs.Store.{Store, store, word_at}
use Rattle.store.specs.Promises.{AddPromise}
use Rattle.store.specs.declared.State.{State}
use Rattle.refusals.specs.Passed.{OfValues}
use Rattle.leaf_word.specs.Hold.{word_holds}
use Rattle.tally.specs.Tally.{tally_holds}
use Rattle.insert_cut.specs.declared.Cut.{Cut}
use Rattle.insert_cut.specs.Halves.{HalfMet}
use Rattle.insert_planned.specs.Found.{InsertAsked, PageMet, FallsBefore, EndsMet}
use Rattle.insert_planned.specs.declared.Split.{Split}
use Rattle.insert_planned.specs.declared.Found.{Found}
use Rattle.insert_planned.specs.declared.Found.TheVariants.{Room, Null, Full}

-- ---- what is asked

-- a packed key within the widths, and a directory depth of at most W
pub record KeyAsked (st : State) (key : ℕ) : Type 0 where
  pub bits : st.deepest ≤ total (widths_of st.shape)
  pub fits : index_fits (widths_of st.shape) (unpacked_key key) ≡ true

-- ---- a store

module _ (before : Store) (encoded : List ℕ) where
  abbrev ws : List ℕ
  ws = widths_of before.state.shape

  -- page g
  abbrev page : ℕ → List ℕ
  page g = page_at before.state.shape.capacity before.memory.bytes g

  -- the word at the key's cell
  abbrev word : ℕ
  word = word_at before.state.shape before.state.deepest before.memory.words (split_bit ws encoded)

  -- ---- what is found

  -- page g, of a leaf of depth x, has room, and takes the key before record i of n
  pub record RoomFound (g x i n : ℕ) : Type 0 where
    pub asked : InsertAsked before encoded
    pub met : PageMet before encoded g x n
    pub room : n < before.state.shape.capacity
    pub place : FallsBefore before encoded g n i

  -- the key's leaf, of depth x, is empty
  pub record NullFound (x : ℕ) : Type 0 where
    pub asked : InsertAsked before encoded
    pub depth_le : x ≤ before.state.deepest
    pub holds : word_holds before.state word ≡ true
    pub own : word ≡ word_of (Empty x)

  -- two keys differ, the step is one of the leaf's own and above depth L, and the tally can be a sound store's
  pub record SplitMet (split : Split) : Type 0 where
    pub ends-met : EndsMet before encoded split.page split.depth split.behind split.pair split.step
    pub differ : split.pair < 64
    pub below : split.depth ≤ split.step
    pub deep : split.step < before.state.limits.depth
    pub tally : tally_holds before.state.tally.leaves ≡ true

  -- the key's leaf is full, and the key falls into its own half
  pub record FullFound (split : Split) (cut : Cut) : Type 0 where
    pub asked : InsertAsked before encoded
    pub met : SplitMet split
    pub half : HalfMet ws (bias_key before.state.shape) (page split.page) before.state.shape.capacity
        (packed_key encoded) split.behind split.pair cut

  -- a refusal is what `add` promises of the call's values, whatever the record holds
  abbrev pub RefusalMet : Refusal → Type 0
  RefusalMet r =
      OfValues before encoded (λ values. (content : Content) → AddPromise before values content (told r) before)

  abbrev pub LeafFound : Found → Type 0
  LeafFound (Room g x i n) = RoomFound g x i n
  LeafFound (Null x) = NullFound x
  LeafFound (Full split cut) = FullFound split cut

  abbrev pub InsertFound : Result Found Refusal → Type 0
  InsertFound (Ok found) = LeafFound found
  InsertFound (Err r) = RefusalMet r

  -- ---- with a page for the leaf

  -- page g is free for an empty leaf of depth x
  pub record GetPlanned (g x : ℕ) : Type 0 where
    pub found : NullFound x
    pub within : g < before.state.limits.pages
    pub free : count_of (page g) ≡ 0

  -- page `free` is free for a full leaf
  pub record DividePlanned (split : Split) (cut : Cut) (free : ℕ) : Type 0 where
    pub found : FullFound split cut
    pub free-within : free < before.state.limits.pages
    pub free-none : count_of (page free) ≡ 0

  -- ---- what the steps of a search are told

  -- the key's word
  pub record WordMet (key found : ℕ) : Type 0 where
    pub asked : InsertAsked before encoded
    pub key-is : key ≡ packed_key encoded
    pub found-is : word ≡ found

  -- it is that of a leaf of depth x with page g
  pub record LeafMet (key g x : ℕ) : Type 0 where
    pub asked : InsertAsked before encoded
    pub key-is : key ≡ packed_key encoded
    pub within : g < before.state.limits.pages
    pub depth_le : x ≤ before.state.deepest
    pub holds : word_holds before.state word ≡ true
    pub own : word ≡ word_of (Page g x)

  -- the page is full, and the key falls before record i
  pub record FullMet (key g x i : ℕ) : Type 0 where
    pub asked : InsertAsked before encoded
    pub key-is : key ≡ packed_key encoded
    pub met : PageMet before encoded g x before.state.shape.capacity
    pub place : FallsBefore before encoded g before.state.shape.capacity i

  -- the leaf is to be divided
  pub record DividingMet (key : ℕ) (split : Split) : Type 0 where
    pub asked : InsertAsked before encoded
    pub key-is : key ≡ packed_key encoded
    pub split-met : SplitMet split

-- whatever the words and the key, a step that was told X of them tells what is found
abbrev pub InsertFoundFrom : State → List ℕ → (Store → List ℕ → Type 0) → Result Found Refusal → Type 0
InsertFoundFrom st bytes X found =
    (words encoded : List ℕ) → X (store st words bytes) encoded → InsertFound (store st words bytes) encoded found
