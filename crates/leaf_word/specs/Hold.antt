-- Words and pages that a sound store can have (document 01, "Lent memory", "Refused calls" 9). Assumes nothing.
use Rattle.std.specs.Prelude.{ℕ, ◌^◌, ◌≤◌, ◌≡◌, Bool, true, ◌&&◌, List, leb, get_or}
use Rattle.shape.specs.Shape.{Fit, widths_of, total, index_fits, shape_number}
use Rattle.shape.specs.declared.Shape.{Shape}
use Rattle.split.specs.Bits.{split_bit}
use Rattle.record.specs.Lanes.{bias_key}
use Rattle.record.specs.Packed.{unpacked_key}
use Rattle.page.specs.Page.{count_of}
use Rattle.pages.specs.Pages.{PageLent}
use Rattle.directory_word.specs.Word.{depth_field, page_field}
use Rattle.store.specs.declared.State.{State}
use Rattle.page_ends.specs.Ends.{ends_begin}
use Rattle.page_ends.specs.Fair.{fair_count}

-- what is asked to read the word of a key's cell in a directory of depth t, of n words
pub record CellAsked (ws : List ℕ) (t n : ℕ) : Type 0 where
  pub fit : Fit ws
  pub deep : t ≤ total ws
  pub lent : 2 ^ t ≤ n

-- the leaf's depth is at most T and that of a leaf in the tally, and its page one of the P: the page number plus one, 0
-- for no page, is at most P. At T = 3, a tally of 0, 1, 1, 2 and P = 2, page 1 at depth 3 holds (0x30002); page 2 does
-- not, "word with page number P" (0x30003), nor does depth 4 (0x40000), nor depth 0 (an all-zero word)
unfoldable pub word_holds : State → ℕ → Bool
word_holds st w =
    let x = depth_field w in
    leb x st.deepest && leb 1 (get_or st.tally.leaves x 0) && leb (page_field w) st.limits.pages

-- a page of n records can be that of the leaf of depth x in which a packed key falls: its first and its last record
-- have values in bounds and begin with the key's first x split bits, the leaf's string
abbrev pub own_page : Shape → ℕ → ℕ → List ℕ → ℕ → Bool
own_page s x key page n = ends_begin (widths_of s) (bias_key s) x (split_bit (widths_of s) (unpacked_key key)) page n

-- how many records such a page has: 1 to b; 0 for another page
abbrev pub own_count : Shape → ℕ → ℕ → List ℕ → ℕ
own_count s x key page = fair_count s.capacity (own_page s x key page (count_of page)) page

-- what is asked to tell it of page g: a key within the widths
pub record LeafAsked (s : Shape) (bytes : List ℕ) (g x key : ℕ) : Type 0 where
  pub shape : shape_number s ≡ 0
  pub deep : x ≤ total (widths_of s)
  pub fits : index_fits (widths_of s) (unpacked_key key) ≡ true
  pub lent : PageLent s.capacity g bytes

-- and where the page has n records, at least one and at most b
pub record OwnAsked (s : Shape) (bytes : List ℕ) (g n x key : ℕ) : Type 0 where
  pub shape : shape_number s ≡ 0
  pub deep : x ≤ total (widths_of s)
  pub fits : index_fits (widths_of s) (unpacked_key key) ≡ true
  pub lent : PageLent s.capacity g bytes
  pub some : 1 ≤ n
  pub few : n ≤ s.capacity
