-- The words that each form of an accepted insert and delete keeps, from its plan, the tests and what its steps leave of
-- the words. Assumes nothing.
use Prim.Native.Nat.{ℕ, suc, ◌-◌, ◌^◌, ◌≤◌, ◌<◌}
use mathlib.Core.Path.{◌≡◌, refl, sym, ap, ◌∙◌, subst}
use mathlib.Core.Bool.{Bool, true, false}
use mathlib.Core.List.{List}
use mathlib.Core.Logic.{◌⊎◌, inl, inr}
use native.Mathlib.Nat.{le_trans}
use native.Mathlib.Omega.{arith}
use Rattle.lists.proofs.Numbers.{eq-or-ne}
use Rattle.shape.specs.Shape.{widths_of}
use Rattle.shape.specs.declared.Shape.{Shape}
use Rattle.directory.specs.Directory.{Filled}
use Rattle.directory_word.specs.Word.{word_of, depth_field}
use Rattle.directory_word.specs.declared.Leaf.TheVariants.{Empty, Page}
use Rattle.directory_word.proofs.WordLaws.{word_of-depth, word_of-depth-empty}
use Rattle.store.specs.Store.{Store, word_at}
use Rattle.store.specs.Contained.{WordsKept}
use Rattle.store.specs.declared.State.{State}
use Rattle.change.specs.Delete.{key_string, tally_depth}
use Rattle.refusals.proofs.LimitsLaws.{limits-parts}
use Rattle.insert_planned.specs.declared.Split.{Split}
use Rattle.insert_cut.specs.declared.Cut.{Cut}
use Rattle.insert_planned.specs.Planned.{GetPlanned, DividePlanned}
use Rattle.insert_words.specs.Divided.{WordsDivided}
use Rattle.delete_plan.specs.declared.Stored.{Stored}
use Rattle.delete_plan.specs.declared.Join.{Join}
use Rattle.delete_plan.specs.Plan.{RecordFound, JoinPlanned}
use Rattle.delete_pages.specs.PageBytes.{kept_page}
use Rattle.delete_steps.specs.Steps.{LeavesLent, LeafWords, JoinWords}
use Rattle.delete_steps.proofs.StepLaws.{top-le, kept_page-lt}
use Rattle.directory_tests.specs.Intact.{cell_word, RegionHolds, Folds}
use Rattle.change_kept.specs.Tested.{joined_depth, LeafTested, JoinTested}
use Rattle.change_kept.proofs.WordLaws.{SiblingLeaf, kept_same}
use Rattle.change_kept.proofs.RegionLaws.{filled-kept, divided-kept, joined-kept}

module _ (before : Store) (encoded : List ℕ) where
  abbrev st : State
  st = before.state

  abbrev s : Shape
  s = st.shape

  abbrev words : List ℕ
  words = before.memory.words

  abbrev key : ℕ → Bool
  key = key_string before encoded

  abbrev own : ℕ
  own = word_at s st.deepest words key

  -- the words outside the leaves that give way are kept in a state and words then
  abbrev pub KeptIn : Bool → State → List ℕ → Type 0
  KeptIn joins st' words' =
      WordsKept joins (word_at s st.deepest words) (word_at st'.shape st'.deepest words') key

  -- a test of the word that is the key's
  tested : (x word : ℕ) → own ≡ word → LeafTested st words encoded x word
      → RegionHolds (widths_of s) st.deepest x key own words
  tested x word e h = subst (λ w. RegionHolds (widths_of s) st.deepest x key w words) (sym e) h

  -- the shape is kept
  with-shape : (joins : Bool) (st' : State) (words' : List ℕ)
      → st' ≡ record { shape = s; limits = st.limits; deepest = st'.deepest; tally = st'.tally }
      → WordsKept joins (cell_word (widths_of s) st.deepest words) (cell_word (widths_of s) st'.deepest words') key
      → KeptIn joins st' words'
  with-shape joins st' words' e k =
      subst (λ v. WordsKept joins (word_at s st.deepest words) (word_at v st'.deepest words') key)
      (sym (ap (λ t. t.shape) e)) k

  -- ---- insert

  -- a page takes the record: no word changes. Delete: a record is removed from a page that has others
  pub same_kept : (joins : Bool) (words' : List ℕ) → words' ≡ words → KeptIn joins st words'
  same_kept joins words' e =
      kept_same (word_at s st.deepest words) (word_at s st.deepest words') key joins
      (λ p. ap (λ w. word_at s st.deepest w p) e)

  -- an empty leaf gets a page
  pub get-kept : (g x word : ℕ) (words' : List ℕ) → GetPlanned before encoded g x
      → LeafTested st words encoded x (word_of (Empty x)) → Filled (widths_of s) st.deepest x key word words words'
      → KeptIn false st words'
  get-kept g x word words' planned h f =
      filled-kept (widths_of s) st.deepest key words x (ap depth_field planned.found.own ∙ word_of-depth-empty x)
      (tested x _ planned.found.own h) false word words' f

  -- a full leaf is divided
  pub divide-kept : (split : Split) (cut : Cut) (free : ℕ) (st' : State) (words' : List ℕ)
      → DividePlanned before encoded split cut free
      → LeafTested st words encoded split.depth (word_of (Page split.page split.depth))
      → WordsDivided st encoded split free words st' words' → KeptIn false st' words'
  divide-kept split cut free st' words' planned h w =
      let met = planned.found.met.ends-met.met in
      let x = split.depth in
      let few : split.page < 2 ^ 16 - 1 = omega (arith, met.within, planned.found.asked.pages-lent.few) in
      with-shape false st' words' w.state
      (divided-kept (widths_of s) st.deepest key words x
      (ap depth_field met.own ∙ word_of-depth split.page x few) (tested x _ met.own h)
      st'.deepest split.step split.page free w.doubled words' w.deepened w.leaves)

  -- ---- delete

  module _ (r : Stored) (found : RecordFound before encoded r) where
    few : st.limits.pages ≤ 4096
    few = (limits-parts st found.leaf.limits).1

    short : st.deepest ≤ 12
    short = let l = limits-parts st found.leaf.limits in le_trans l.4 l.2

    pub depth_is : depth_field own ≡ r.depth
    depth_is =
        ap depth_field found.leaf.own
        ∙ word_of-depth r.page r.depth (omega (arith, found.leaf.own-within, few))

    -- the key's leaf stays: without a page, where its only record is removed
    pub keep-kept : (words' : List ℕ)
        → (r.count ≡ 1 → LeafTested st words encoded r.depth (word_of (Page r.page r.depth)))
        → LeafWords st encoded r words words' → KeptIn true st words'
    keep-kept words' h w = by_count (eq-or-ne r.count 1)
      where
        by_count : (r.count ≡ 1) ⊎ (r.count ≡ 1 → ⊥) → KeptIn true st words'
        by_count (inl e) =
            filled-kept (widths_of s) st.deepest key words r.depth depth_is
            (tested r.depth _ found.leaf.own (h e)) true (word_of (Empty r.depth)) words' (w.emptied e)
        by_count (inr n) = same_kept true words' (w.same n)

    -- the word at the key's cell names the same depth then
    pub depth-kept : (words' : List ℕ) → LeafWords st encoded r words words'
        → depth_field (word_at s st.deepest words' key) ≡ r.depth
    depth-kept words' w = by_count (eq-or-ne r.count 1)
      where
        by_count : (r.count ≡ 1) ⊎ (r.count ≡ 1 → ⊥) → depth_field (word_at s st.deepest words' key) ≡ r.depth
        by_count (inl e) =
            ap depth_field ((w.emptied e).inside key (λ i l. refl)) ∙ word_of-depth-empty r.depth
        by_count (inr n) = ap (λ ws. depth_field (word_at s st.deepest ws key)) (w.same n) ∙ depth_is

    -- the siblings that are joined with it: its own, and empty ones above
    pub joined-siblings : (j : Join) → JoinPlanned before encoded r j → JoinTested st words encoded r j → (z : ℕ)
        → j.top ≤ z → z ≤ j.step → SiblingLeaf (word_at s st.deepest words) key z
    joined-siblings j planned h z l b = by-depth (eq-or-ne z j.step)
      where
        by-depth : (z ≡ j.step) ⊎ (z ≡ j.step → ⊥) → SiblingLeaf (word_at s st.deepest words) key z
        by-depth (inl e) =
            subst (SiblingLeaf (word_at s st.deepest words) key) (sym e) (record {
              word = word_of (Page j.other (suc j.step));
              depth = word_of-depth j.other (suc j.step) (omega (arith, planned.met.other-within, few));
              nearest-or-empty = inl (sym (depth_is ∙ planned.depth-step));
              holds = h.other;
            })
        by-depth (inr n) = record {
          word = word_of (Empty (suc z));
          depth = word_of-depth-empty (suc z);
          nearest-or-empty = inr refl;
          holds = h.empty z l (omega arith);
        }

    -- the page that a join keeps
    pub kept-lt : (j : Join) → JoinPlanned before encoded r j → kept_page j.bit r.page j.other < 2 ^ 16 - 1
    kept-lt j planned =
        let l = kept_page-lt j.bit r.page j.other st.limits.pages planned.met.own-within
        planned.met.other-within in
        omega (arith, l, few)

    -- the word at the key's cell names the new leaf's depth then
    pub depth-joined : (j : Join) → JoinPlanned before encoded r j → (st' : State) (words' : List ℕ)
        → JoinWords st encoded r j st' words words' → depth_field (word_at s st'.deepest words' key) ≡ j.top
    depth-joined j planned st' words' w =
        ap depth_field (w.new-leaf.inside key (λ i l. refl))
        ∙ word_of-depth (kept_page j.bit r.page j.other) j.top (kept-lt j planned)

    -- the key's leaf is joined
    pub join_kept : (j : Join) (st' : State) (words' : List ℕ) → JoinPlanned before encoded r j → LeavesLent st r j
        → JoinTested st words encoded r j → JoinWords st encoded r j st' words words' → KeptIn true st' words'
    join_kept j st' words' planned lent h w =
        let m = j.step in
        let y = j.top in
        let met = planned.met in
        let depth : joined_depth st j ≡ st'.deepest = sym (w.depth ∙ ap (tally_depth st.deepest) w.tally) in
        let low : y ≤ st'.deepest = subst (λ n. y ≤ n) (sym w.depth) (top-le st r j lent short _ w.tally) in
        with-shape true st' words' w.state
        (joined-kept (widths_of s) st.deepest key words m y st'.deepest (kept_page j.bit r.page j.other)
        met.above low (depth_is ∙ planned.depth-step) (tested (suc m) _ met.own h.own)
        (joined-siblings j planned h) (kept-lt j planned)
        (subst (λ n. Folds (widths_of s) n st.deepest key words) depth h.halved) words' w.new-leaf)
