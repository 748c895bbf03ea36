-- Each way that the function ends is a law of the leaf's test; the last adds one leaf to the tally.
use Rattle.std.proofs.Common.{◌≡◌, ◌-◌, ℕ, Bool, List, length, get_or, bit_and, None, refl, sym, ◌∙◌, arith}
use mathlib.Core.Path.{subst}
use lib.Bits.{and_mask}
use Rattle.std.specs.Prelude.{Option}
use Rattle.shape.specs.declared.Widths.{Widths}
use Rattle.shape.specs.Shape.{width_list}
use Rattle.store.specs.declared.State.{State}
use Rattle.region.specs.Division.{leaf}
use Rattle.directory_word.specs.Word.{page_field}
use Rattle.check_test.specs.Walk.{page_test, field_records}
use Rattle.check_seen.specs.declared.Seen.{Seen}
use Rattle.check_walk.specs.declared.regions.Region.{Region}
use Rattle.check_walk.specs.Regions.{RegionNamed}
use Rattle.check_walk.specs.Sums.{view_by, Sees, Walks, PageSeen}
use Rattle.check_walk.proofs.RegionLaws.{cell_word-first}
use Rattle.check_walk.proofs.SumLaws.{leaf-depth-fails, leaf-page-fails, leaf-words-fail, leaf-passes}
use Rattle.check_walk.proofs.leaf.Goals as goal

module _ (st : State) (w : Widths) (r : Region) (p : ℕ → Bool) (n : RegionNamed (width_list w) r p)
    (words bytes : List ℕ) (word : ℕ) where
  -- the word is that of the first cell
  here : Walks st (width_list w) (length words) (length bytes) r → word ≡ get_or words r.address 0
      → (view_by (width_list w) st words bytes).word p ≡ word
  here k e =
      cell_word-first w.w0 w.w1 w.w2 w.w3 r k.region st.deepest _ k.directory k.within words p n ∙ sym e

  -- what is told of its page
  abbrev Told : Option Seen → ℕ → Type 0
  Told told f =
      let v = view_by (width_list w) st words bytes in
      Sees (page_test v p r.depth f) (leaf (field_records v f)) told

  page : (told : Option Seen) → PageSeen st (width_list w) bytes r (bit_and word 0xffff) told → Told told (page_field word)
  page told k = subst (Told told) (and_mask word 16) (k words p n)

pub returns-then-depth_of-region : goal.returns-then-depth_of-region
returns-then-depth_of-region c p n =
    let a = c.args in
    leaf-depth-fails (view_by (width_list a.widths) a.state a.dir.now a.pages.now) (a.state.deepest - a.region.depth) p a.region.depth
    a.word
    (here a.state a.widths a.region p n a.dir.now a.pages.now a.word c.requires.0 c.requires.2) a.tally.now a.tally.now
    (λ e. c.if-depth_of-region.true (c.depth_of.ensures ∙ e))

pub returns-in_err-seen : goal.returns-in_err-seen
returns-in_err-seen c p n =
    let a = c.args in
    let gone : c.from_residual.result ≡ None = grind arith in
    rw gone
    (leaf-page-fails (view_by (width_list a.widths) a.state a.dir.now a.pages.now) (a.state.deepest - a.region.depth) p a.region.depth
    a.word
    (here a.state a.widths a.region p n a.dir.now a.pages.now a.word c.requires.0 c.requires.2) a.tally.now a.tally.now
    (sym c.depth_of.ensures ∙ c.if-depth_of-region.false)
    (page a.state a.widths a.region p n a.dir.now a.pages.now a.word None c.in_err-seen.ensures))

pub returns-then-not-same_words : goal.returns-then-not-same_words
returns-then-not-same_words c p n =
    let a = c.args in
    leaf-words-fail (view_by (width_list a.widths) a.state a.dir.now a.pages.now) (a.state.deepest - a.region.depth) p a.region.depth
    a.word
    (here a.state a.widths a.region p n a.dir.now a.pages.now a.word c.requires.0 c.requires.2) a.tally.now a.tally.now
    (sym c.depth_of.ensures ∙ c.if-depth_of-region.false) _
    (page a.state a.widths a.region p n a.dir.now a.pages.now a.word _ c.in_ok-seen.ensures)
    (sym (c.same_words.ensures p n) ∙ c.if-not-same_words.true)

pub returns : goal.returns
returns c p n =
    let a = c.args in
    leaf-passes (view_by (width_list a.widths) a.state a.dir.now a.pages.now) (a.state.deepest - a.region.depth) p a.region.depth
    a.word
    (here a.state a.widths a.region p n a.dir.now a.pages.now a.word c.requires.0 c.requires.2) a.tally.now _
    (sym c.depth_of.ensures ∙ c.if-depth_of-region.false) _
    (page a.state a.widths a.region p n a.dir.now a.pages.now a.word _ c.in_ok-seen.ensures)
    (sym (c.same_words.ensures p n) ∙ c.if-not-same_words.false) c.requires.1.depths refl
