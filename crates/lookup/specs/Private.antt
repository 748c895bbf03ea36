-- What lookup answers on any store, sound or not, step by step: the place on a page, the page, the leaf, the store
-- (document 01, "Calls", "Refused calls" 5 and 9). Assumes nothing.
use Rattle.std.specs.Prelude.{ℕ, ◌≤◌, ◌≡◌, true, cond, List, ltb, length}
use Rattle.shape.specs.Refusal.{Answer, accepted, refused, refused_with}
use Rattle.shape.specs.Shape.{widths_of, total, index_fits, shape_number}
use Rattle.shape.specs.declared.Shape.{Shape}
use Rattle.split.specs.Bits.{split_bit}
use Rattle.record.specs.Lanes.{fields_key}
use Rattle.record.specs.Packed.{packed_key, unpacked_key}
use Rattle.page.specs.Page.{page_at}
use Rattle.page.specs.Fields.{content_at}
use Rattle.page_matches.specs.KeyPlace.{key_place}
use Rattle.directory_word.specs.Word.{leaf_of}
use Rattle.directory_word.specs.declared.Leaf.{Leaf}
use Rattle.directory_word.specs.declared.Leaf.TheVariants.{Empty, Page}
use Rattle.model.specs.Model.{Reply, found}
use Rattle.store.specs.Store.{Store, word_at, pages_size}
use Rattle.store.specs.declared.State.{State}
use Rattle.refusals.specs.Limits.{limits_hold}
use Rattle.leaf_word.specs.Hold.{word_holds, own_count}

-- ---- a page

-- the record at place i of n, on the page of a leaf of depth x: "the payload and 1 page read"; none at place n
unfoldable pub place_answer : ℕ → List ℕ → ℕ → ℕ → Answer Reply
place_answer x page n i = cond (ltb i n) (accepted (found (content_at page i) 1 x)) (refused_with 5 x)

-- the record with the packed fields of a key among the n of its page; 9 for no records, as a page has that is not the
-- leaf's
unfoldable pub count_answer : ℕ → ℕ → List ℕ → ℕ → Answer Reply
count_answer x n page fields = cond (ltb 0 n) (place_answer x page n (key_place fields page n 0)) (refused 9)

-- on the page of the leaf of depth x in which a packed key falls
abbrev pub page_answer : Shape → ℕ → ℕ → List ℕ → Answer Reply
page_answer s x key page = count_answer x (own_count s x key page) page (fields_key s key)

-- ---- a leaf, as the word of the key's cell names it

-- "A word taken apart without a page means absent, with no read"
unfoldable pub leaf_answer : Shape → List ℕ → ℕ → Leaf → Answer Reply
leaf_answer s bytes key (Empty depth) = refused_with 5 depth
leaf_answer s bytes key (Page g depth) = page_answer s depth key (page_at s.capacity bytes g)

-- 9 for a word that no sound store has: a depth above T or of no leaf, "word with page number P"
unfoldable pub word_answer : State → List ℕ → ℕ → ℕ → Answer Reply
word_answer st bytes key word = cond (word_holds st word) (leaf_answer st.shape bytes key (leaf_of word)) (refused 9)

-- what the search in the leaf that a word names asks: what the early refusals and the limits leave
pub record KeyPassed (st : State) (bytes : List ℕ) (key : ℕ) : Type 0 where
  pub shape : shape_number st.shape ≡ 0
  pub few : st.limits.pages ≤ 4096
  pub short : st.deepest ≤ 12
  pub bits : st.deepest ≤ total (widths_of st.shape)
  pub lent : pages_size st ≤ length bytes
  pub fits : index_fits (widths_of st.shape) (unpacked_key key) ≡ true

-- ---- a store

-- the answer after 1, 14, 15, 2 and 3 for a key by its encodings: 9 for limits that no sound store has
unfoldable pub sought_answer : Store → List ℕ → Answer Reply
sought_answer store encoded =
    let st = store.state in
    let word = word_at st.shape st.deepest store.memory.words (split_bit (widths_of st.shape) encoded) in
    cond (limits_hold st) (word_answer st store.memory.bytes (packed_key encoded) word) (refused 9)
