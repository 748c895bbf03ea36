-- Stores that change in one region, that of the first x bits of a string p₀. Where the region's words and pages show
-- the new leaves and all else shows what it did, the store shows the new division, and pages are kept and taken as
-- promised. For insert and delete alike. Assumes nothing.
use Prim.Native.Nat.{ℕ, ◌≤◌, ◌<◌}
use mathlib.Core.Path.{◌≡◌, sym, ap, ◌∙◌}
use mathlib.Core.Bool.{Bool, true}
use mathlib.Core.List.{List, [], ◌∷◌}
use mathlib.Core.Logic.{◌⊎◌, inl, inr}
use native.Mathlib.Omega.{arith}
use lib.ListN.{length}
use Rattle.lists.specs.Filter.{non_empty}
use Rattle.shape.specs.declared.Shape.{Shape}
use Rattle.cell.specs.Cell.{Agree}
use Rattle.region.specs.Division.{Division, greatest_depth, leaf_depth, leaf_records}
use Rattle.region.proofs.InsertLaws.{SameLeaf}
use Rattle.record.specs.Record.{Record}
use Rattle.page.specs.Page.{count_of, page_at}
use Rattle.page.proofs.FieldLaws.{length-records_from}
use Rattle.directory_word.specs.Word.{word_of}
use Rattle.directory_word.specs.declared.Leaf.TheVariants.{Page}
use Rattle.model.specs.Sets.{is_set}
use Rattle.store.specs.Store.{Store, Memory, word_at}
use Rattle.store.specs.Sound.{LeafWord, Shows, tallies, Sound}
use Rattle.store.specs.Promises.{KeepsPages, TakesPages}
use Rattle.store.specs.declared.Tally.{Tally}
use Rattle.store.proofs.AgreeLaws.{Agree-le, agree-or-not, leaf_depth-agree}
use Rattle.store.proofs.ShownLaws.{page_records, word_on, division_on, LeafWord-page, agree-of-page, shows-of-words}
use Rattle.store.proofs.RoomLaws.{FreePage, count-of-page}

-- a store after a call, which keeps shape and limits
abbrev pub changed_store : Store → ℕ → Tally → Memory → Store
changed_store before T' tally' m' =
    record {
      state =
          record { shape = before.state.shape; limits = before.state.limits; deepest = T'; tally = tally' };
      memory = m';
    }

-- ---- pages

module _ (s : Shape) (bytes bytes' : List ℕ) where
  -- a page that shows the same records has the same count
  pub count-of-records : (g : ℕ) → page_records s bytes' g ≡ page_records s bytes g
      → count_of (page_at s.capacity bytes' g) ≡ count_of (page_at s.capacity bytes g)
  count-of-records g e =
      sym (length-records_from s (count_of (page_at s.capacity bytes' g)) 2 (page_at s.capacity bytes' g))
      ∙ ap length e
      ∙ length-records_from s (count_of (page_at s.capacity bytes g)) 2 (page_at s.capacity bytes g)

  -- a leaf whose page shows the same records has the same word
  pub LeafWord-kept : (P : ℕ) (rs : List Record) (y word : ℕ) → LeafWord s P bytes rs y word
      → ((g z : ℕ) → g < P → word ≡ word_of (Page g z) → page_records s bytes' g ≡ page_records s bytes g)
      → LeafWord s P bytes' rs y word
  LeafWord-kept P [] y word h k = h
  LeafWord-kept P (r ∷ rs) y word h k = (h.0, h.1, h.2, k h.0 y h.1 h.2 ∙ h.3)

-- ---- a change in one region

-- S is the set before, S' the one after; T' and m' are the directory's depth and the memory after
module _ (before : Store) (S S' : List Record) (T' : ℕ) (m' : Memory) (p₀ : ℕ → Bool) (x : ℕ) where
  abbrev s : Shape
  s = before.state.shape

  abbrev P : ℕ
  P = before.state.limits.pages

  abbrev D : Division Record
  D = division_on before S

  abbrev D' : Division Record
  D' = division_on before S'

  -- the word of a string afterwards
  abbrev word_after : (ℕ → Bool) → ℕ
  word_after q = word_at s T' m'.words q

  -- the string begins with the region's
  abbrev Inside : (ℕ → Bool) → Type 0
  Inside q = Agree x p₀ q

  -- a leaf of the region had page g, has page g
  abbrev pub OldPage : ℕ → Type 0
  OldPage g = (q : ℕ → Bool) × (y : ℕ) × Inside q × (word_on before q ≡ word_of (Page g y))

  abbrev pub NewPage : ℕ → Type 0
  NewPage g = (q : ℕ → Bool) × (y : ℕ) × Inside q × (word_after q ≡ word_of (Page g y))

  -- page g is a new leaf's; or an old leaf's, and free now; or no old leaf's, and shows what it did
  abbrev pub PageAfter : ℕ → Type 0
  PageAfter g =
      NewPage g
      ⊎ (((count_of (page_at s.capacity m'.bytes g) ≡ 0) × OldPage g)
      ⊎ ((page_records s m'.bytes g ≡ page_records s before.memory.bytes g) × (OldPage g → ⊥)))

  -- page g was no leaf's, or was that of a leaf that is none any more
  abbrev pub MayTake : ℕ → Type 0
  MayTake g =
      FreePage before g
      ⊎ ((q : ℕ → Bool) × (y : ℕ) × (word_on before q ≡ word_of (Page g y)) × (leaf_depth q 0 D ≡ leaf_depth q 0 D' → ⊥))

  -- what the call did
  pub record RegionChanged : Type 0 where
    -- the region is made up of leaves, before and after
    pub leaves-before : (q : ℕ → Bool) → Inside q → x ≤ leaf_depth q 0 D
    pub leaves_after : (q : ℕ → Bool) → Inside q → x ≤ leaf_depth q 0 D'
    -- outside, leaves and words stay
    pub leaf-outside : (q : ℕ → Bool) → (Inside q → ⊥) → SameLeaf q 0 D' D
    pub word-outside : (q : ℕ → Bool) → (Inside q → ⊥) → word_after q ≡ word_on before q
    -- inside, words show the new leaves, one word for each
    pub word-inside : (q : ℕ → Bool) → Inside q
        → LeafWord s P m'.bytes (leaf_records q 0 D') (leaf_depth q 0 D') (word_after q)
    pub same-word-inside : (p q : ℕ → Bool) → Inside p → Inside q → Agree (leaf_depth p 0 D') p q
        → word_after p ≡ word_after q
    pub page : (g : ℕ) → g < P → PageAfter g
    -- a leaf that was there and has records keeps its page
    pub keeps : (p : ℕ → Bool) → Inside p → leaf_depth p 0 D ≡ leaf_depth p 0 D' → non_empty (leaf_records p 0 D') ≡ true
        → (g y : ℕ) → g < P → word_on before p ≡ word_of (Page g y) → word_after p ≡ word_of (Page g y)
    -- another has one that it may take
    pub takes : (p : ℕ → Bool) → Inside p → (g y : ℕ) → g < P → word_after p ≡ word_of (Page g y)
        → (word_on before p ≡ word_of (Page g y)) ⊎ MayTake g

  module _ (sound : Sound before S) (change : RegionChanged) where
    -- a page of the region's is none of a leaf outside
    apart : (p q : ℕ → Bool) → Inside p → (Inside q → ⊥) → (g y z : ℕ) → g < P → word_on before p ≡ word_of (Page g y)
        → word_on before q ≡ word_of (Page g z) → ⊥
    apart p q i o g y z l e d =
        let a = agree-of-page s P before.state.deepest before.memory S sound.most-pages sound.shown.word
        p q g y z (omega (arith, sound.most-pages)) e d in
        o (λ j k. i j k ∙ Agree-le p q x (leaf_depth p 0 D) (change.leaves-before p i) a j k)

    not_free : (q : ℕ → Bool) (g y : ℕ) → g < P → word_on before q ≡ word_of (Page g y) → FreePage before g → ⊥
    not_free q g y l e f =
        let k = LeafWord-page s P before.memory.bytes sound.most-pages (leaf_records q 0 D) (leaf_depth q 0 D) _
        (sound.shown.word q) g y (omega (arith, sound.most-pages)) e in
        count-of-page s before.memory.bytes g (ap non_empty k.2 ∙ k.3) f

    page-outside : (q : ℕ → Bool) → (Inside q → ⊥) → (g z : ℕ) → g < P → word_on before q ≡ word_of (Page g z)
        → page_records s m'.bytes g ≡ page_records s before.memory.bytes g
    page-outside q o g z l e = by-page (change.page g l)
      where
        old : OldPage g → ⊥
        old h = apart h.0 q h.2 o g h.1 z l h.3 e

        taken : MayTake g → ⊥
        taken (inl f) = not_free q g z l e f
        taken (inr h) = by_side (agree-or-not p₀ h.0 x)
          where
            by_side : Inside h.0 ⊎ (Inside h.0 → ⊥) → ⊥
            by_side (inl i) = old (h.0, h.1, i, h.2)
            by_side (inr n) = h.3 (sym (change.leaf-outside h.0 n).0)

        new : (p : ℕ → Bool) (y : ℕ) → Inside p → (word_on before p ≡ word_of (Page g y)) ⊎ MayTake g → ⊥
        new p y i (inl d) = old (p, y, i, d)
        new p y i (inr h) = taken h

        by-page : PageAfter g → page_records s m'.bytes g ≡ page_records s before.memory.bytes g
        by-page (inl h) = absurd (new h.0 h.1 h.2 (change.takes h.0 h.2 g h.1 l h.3))
        by-page (inr (inl h)) = absurd (old h.1)
        by-page (inr (inr h)) = h.0

    word : (q : ℕ → Bool) → LeafWord s P m'.bytes (leaf_records q 0 D') (leaf_depth q 0 D') (word_after q)
    word q = by_side (agree-or-not p₀ q x)
      where
        by_side : Inside q ⊎ (Inside q → ⊥)
            → LeafWord s P m'.bytes (leaf_records q 0 D') (leaf_depth q 0 D') (word_after q)
        by_side (inl i) = change.word-inside q i
        by_side (inr o) =
            rw ((change.leaf-outside q o).1, (change.leaf-outside q o).0, change.word-outside q o)
            (LeafWord-kept s before.memory.bytes m'.bytes P (leaf_records q 0 D) (leaf_depth q 0 D)
            (word_on before q) (sound.shown.word q) (page-outside q o))

    same_word : (p q : ℕ → Bool) → Agree (leaf_depth p 0 D') p q → word_after p ≡ word_after q
    same_word p q a = by_side (agree-or-not p₀ p x) (agree-or-not p₀ q x)
      where
        by_side : Inside p ⊎ (Inside p → ⊥) → Inside q ⊎ (Inside q → ⊥) → word_after p ≡ word_after q
        by_side (inl i) (inl k) = change.same-word-inside p q i k a
        by_side (inl i) (inr n) =
            absurd (n (λ j l. i j l ∙ Agree-le p q x (leaf_depth p 0 D') (change.leaves_after p i) a j l))
        by_side (inr o) (inl k) =
            let deep : x ≤ leaf_depth p 0 D' = omega (arith, change.leaves_after q k, leaf_depth-agree p q D' a) in
            absurd (o (λ j l. k j l ∙ sym (Agree-le p q x (leaf_depth p 0 D') deep a j l)))
        by_side (inr o) (inr n) =
            change.word-outside p o
            ∙ sound.shown.same_word p q (rw (change.leaf-outside p o).0 at a)
            ∙ sym (change.word-outside q n)

    free : (g : ℕ) → g < P → ((p : ℕ → Bool) (y : ℕ) → word_after p ≡ word_of (Page g y) → ⊥)
        → count_of (page_at s.capacity m'.bytes g) ≡ 0
    free g l none = by-page (change.page g l)
      where
        no-leaf : (OldPage g → ⊥) → (p : ℕ → Bool) (y : ℕ) → word_on before p ≡ word_of (Page g y) → ⊥
        no-leaf n p y e = by_side (agree-or-not p₀ p x)
          where
            by_side : Inside p ⊎ (Inside p → ⊥) → ⊥
            by_side (inl i) = n (p, y, i, e)
            by_side (inr o) = none p y (change.word-outside p o ∙ e)

        by-page : PageAfter g → count_of (page_at s.capacity m'.bytes g) ≡ 0
        by-page (inl h) = absurd (none h.0 h.1 h.3)
        by-page (inr (inl h)) = h.0
        by-page (inr (inr h)) =
            count-of-records s before.memory.bytes m'.bytes g h.0 ∙ sound.shown.free g l (no-leaf h.1)

    -- ---- what follows

    pub shows-of-region : Shows s P T' m' D'
    shows-of-region = shows-of-words s P T' m' S' sound.most-pages word same_word free

    pub keeps-of-region : (tally' : Tally) → KeepsPages before (changed_store before T' tally' m') D D'
    keeps-of-region tally' p e h g y l d = by_side (agree-or-not p₀ p x)
      where
        by_side : Inside p ⊎ (Inside p → ⊥) → word_after p ≡ word_of (Page g y)
        by_side (inl i) = change.keeps p i e h g y l d
        by_side (inr o) = change.word-outside p o ∙ d

    pub takes-of-region : (tally' : Tally) → TakesPages before (changed_store before T' tally' m') D D'
    takes-of-region tally' p g y l d = by_side (agree-or-not p₀ p x)
      where
        by_side : Inside p ⊎ (Inside p → ⊥) → (word_on before p ≡ word_of (Page g y)) ⊎ MayTake g
        by_side (inl i) = change.takes p i g y l d
        by_side (inr o) = inl (sym (change.word-outside p o) ∙ d)

    -- the set, T and the tally are those of the new leaves
    pub sound-of-region : (tally' : Tally) → is_set s S' ≡ true → T' ≡ greatest_depth D'
        → T' ≤ before.state.limits.depth → tally'.leaves ≡ tallies D' 0 13
        → length m'.words ≡ length before.memory.words → length m'.bytes ≡ length before.memory.bytes
        → Sound (changed_store before T' tally' m') S'
    sound-of-region tally' set deepest within tallied words bytes =
        record {
          shape = sound.shape;
          words-lent = rw words sound.words-lent;
          pages-lent = rw bytes sound.pages-lent;
          some-page = sound.some-page;
          most-pages = sound.most-pages;
          depth-limit = sound.depth-limit;
          depth-bits = sound.depth-bits;
          depth-within = within;
          set = set;
          deepest = deepest;
          tallied = tallied;
          shown = shows-of-region;
        }
