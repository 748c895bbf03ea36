-- What a walk over the regions sees in any directory and any pages, sound or not (document 01, "Calls"): the pages
-- that it notes, in order, and whether all that it met is as in a sound store. The region of depth x is the first x
-- bits of a string. Assumes nothing.
use Rattle.std.specs.Prelude.{ℕ, zero, suc, ◌-◌, Bool, true, false, cond, ◌&&◌, List, [], ◌∷◌, ◌++◌, eqb, ltb, leb, get_or}
use Rattle.shape.specs.Shape.{within, widths_of}
use Rattle.shape.specs.declared.Shape.{Shape}
use Rattle.region.specs.Strings.{with_bit, empty_string}
use Rattle.region.specs.Query.{QueryBit, query_enters}
use Rattle.page.specs.Page.{count_of, page_at}
use Rattle.record.specs.Lanes.{bias_key}
use Rattle.page_ends.specs.Ends.{ends_begin}
use Rattle.store.specs.declared.State.{State}
use Rattle.store.specs.declared.Tally.{Tally}
use Rattle.store.specs.Store.{word_at}
use Rattle.directory_word.specs.Word.{page_field, depth_field}

-- ---- what is seen

pub record Seen : Type 0 where
  pub pages : List ℕ
  pub sound : Bool

-- no page
abbrev pub nothing : Seen
nothing = record { pages = []; sound = true }

-- something that no sound store has
abbrev pub damaged : Seen
damaged = record { pages = []; sound = false }

-- one page
abbrev pub single : ℕ → Seen
single g = record { pages = g ∷ []; sound = true }

-- one after the other; damage ends the walk
unfoldable pub after : Seen → Seen → Seen
after s u = cond s.sound (record { pages = s.pages ++ u.pages; sound = u.sound }) s

-- ---- a word

-- page g is one that a leaf of the first x bits of p can have: its count is 1 to b, and the first and the last of its
-- records have values in bounds and begin with those bits
unfoldable pub fair_page : Shape → List ℕ → ℕ → (ℕ → Bool) → ℕ → Bool
fair_page s bytes x p g =
    let page = page_at s.capacity bytes g in
    within 1 s.capacity (count_of page) && ends_begin (widths_of s) (bias_key s) x p page (count_of page)

-- "the tally of leaves (empty ones too)" has one at depth x
unfoldable pub tallied : Tally → ℕ → Bool
tallied tally x = leb 1 (get_or tally.leaves x 0)

-- a leaf's word, where there are P pages, `has` tells whether the tally has a leaf of its depth, and `fair` which pages
-- may be read: page P is none, "word with page number P"
unfoldable pub noted : ℕ → Bool → (ℕ → Bool) → ℕ → Seen
noted P has fair word =
    cond has
    (cond (eqb (page_field word) 0) nothing
    (cond (ltb P (page_field word)) damaged (cond (fair (page_field word - 1)) (single (page_field word - 1)) damaged)))
    damaged

-- the word of a leaf of the first x bits of p
abbrev pub leaf_seen : State → List ℕ → ℕ → (ℕ → Bool) → ℕ → Seen
leaf_seen st bytes x p word =
    noted st.limits.pages (tallied st.tally x) (fair_page st.shape bytes x p) word

-- ---- a walk

-- a region of depth x with its word: a leaf, if the word has its depth, where `own` is seen; of no sound store, if the
-- word's depth is smaller or above T; else divided, and `below` is seen
unfoldable pub met : ℕ → ℕ → ℕ → Seen → Seen → Seen
met T x word own below =
    cond (eqb (depth_field word) x) own
    (cond (ltb (depth_field word) x) damaged (cond (ltb T (depth_field word)) damaged below))

-- `word x p` is the word of the region of the first x bits of p, that of its cell with bits 0 from x on; `leaf x p w`
-- is seen where it is a leaf with the word w; `enter` tests a region. The fuel is T less the depth.
module _ (word : ℕ → (ℕ → Bool) → ℕ) (leaf : ℕ → (ℕ → Bool) → ℕ → Seen) (enter : ℕ → (ℕ → Bool) → Bool) (T : ℕ) where
  -- "It walks the regions .. by recursion, bit 0 before bit 1"
  unfoldable pub seen : ℕ → (ℕ → Bool) → ℕ → Seen
  seen zero p x = met T x (word x p) (leaf x p (word x p)) damaged
  seen (suc f) p x =
      met T x (word x p) (leaf x p (word x p))
      (after (cond (enter (suc x) (with_bit p x false)) (seen f (with_bit p x false) (suc x)) nothing)
      (cond (enter (suc x) (with_bit p x true)) (seen f (with_bit p x true) (suc x)) nothing))

-- a walk over a store's memory, "from the empty string"
unfoldable pub walk_seen_by : State → List ℕ → List ℕ → (ℕ → (ℕ → Bool) → Bool) → Seen
walk_seen_by st words bytes enter =
    seen (λ x p. word_at st.shape x words p) (leaf_seen st bytes) enter st.deepest st.deepest empty_string 0

-- a query's
abbrev pub walk_seen : State → List ℕ → List ℕ → (ℕ → QueryBit) → Seen
walk_seen st words bytes q = walk_seen_by st words bytes (query_enters q)
