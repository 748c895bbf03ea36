-- What an insert finds of the store before it plans, on any store: the word at the key's cell, its page, and where the
-- keys of a full page differ. `encoded` are the encodings of the key. Assumes nothing.
use Rattle.std.specs.Prelude.{ℕ, ◌≤◌, ◌<◌, ◌≡◌, true, List, Err, get_or, length}
use Rattle.shape.specs.Shape.{widths_of, total}
use Rattle.split.specs.Steps.{steps_below}
use Rattle.split.specs.Bits.{split_bit}
use Rattle.record.specs.Lanes.{bias_key}
use Rattle.record.specs.Packed.{packed_key, unpacked_key}
use Rattle.page.specs.Page.{count_of, page_at}
use Rattle.key_order.specs.Order.{FirstPair}
use Rattle.page_place.specs.Find.{Placed}
use Rattle.directory_word.specs.Word.{word_of}
use Rattle.directory_word.specs.declared.Leaf.TheVariants.{Page}
use Rattle.store.specs.Store.{Store, word_at}
use Rattle.refusals.specs.Passed.{Passed}
use Rattle.leaf_word.specs.Hold.{word_holds, own_page}
use Rattle.insert_spare.specs.Spare.{PagesLent}
use Rattle.insert_cut.specs.Halves.{first_key, last_key}

-- the early refusals let the key pass, and the limits hold
pub record InsertAsked (before : Store) (encoded : List ℕ) : Type 0 where
  pub passed : Passed before encoded
  pub pages-lent : PagesLent before.state before.memory.bytes
  pub short : before.state.limits.depth ≤ 12
  pub bits : before.state.limits.depth ≤ total (widths_of before.state.shape)
  pub within-limit : before.state.deepest ≤ before.state.limits.depth

module _ (before : Store) (encoded : List ℕ) where
  abbrev ws : List ℕ
  ws = widths_of before.state.shape

  -- what is added to the fields of a page
  abbrev bias : ℕ
  bias = bias_key before.state.shape

  -- page g
  abbrev page : ℕ → List ℕ
  page g = page_at before.state.shape.capacity before.memory.bytes g

  -- the word at the key's cell
  abbrev word : ℕ
  word = word_at before.state.shape before.state.deepest before.memory.words (split_bit ws encoded)

  -- the key's leaf has page g and depth x, and the page has n records, of which the first and the last have values in
  -- bounds and begin with the leaf's string
  pub record PageMet (g x n : ℕ) : Type 0 where
    pub within : g < before.state.limits.pages
    pub depth_le : x ≤ before.state.deepest
    pub holds : word_holds before.state word ≡ true
    pub own : word ≡ word_of (Page g x)
    pub count : n ≡ count_of (page g)
    pub most : n ≤ before.state.shape.capacity
    pub ends : own_page before.state.shape x (packed_key encoded) (page g) n ≡ true
    pub bytes : (i : ℕ) → get_or before.memory.bytes i 0 < 256

  -- the key stands between records i - 1 and i of page g, which has n
  abbrev pub FallsBefore : ℕ → ℕ → ℕ → Type 0
  FallsBefore g n i = Placed ws bias (unpacked_key (packed_key encoded)) (page g) n (Err i)

  -- of the keys on a full page g and the new one, which falls before record i, the first and the last differ first at
  -- the place `pair` of a split step, whose number is m
  pub record EndsMet (g x i pair m : ℕ) : Type 0 where
    pub met : PageMet g x before.state.shape.capacity
    pub place : FallsBefore g before.state.shape.capacity i
    pub ends : FirstPair ws (unpacked_key (first_key bias (page g) (packed_key encoded) i))
        (unpacked_key (last_key bias (page g) before.state.shape.capacity (packed_key encoded) i)) pair
    pub step : m ≡ length (steps_below ws pair)
