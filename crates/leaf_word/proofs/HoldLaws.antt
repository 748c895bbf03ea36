-- Laws of words that a sound store can have: one for each way that the test ends; the leaf that such a word names; a
-- sound store's words pass the test. Assumes nothing.
use Prim.Native.Nat.{ℕ, zero, suc, ◌/◌, ◌%◌, ◌^◌, ◌≤◌, ◌<◌}
use mathlib.Core.Path.{◌≡◌, refl, sym, ap, ◌∙◌}
use mathlib.Core.Bool.{Bool, true, false, ◌&&◌}
use mathlib.Core.List.{List}
use native.Mathlib.Numerals.{add-one}
use native.Mathlib.Omega.{arith}
use lib.Dec.{leb}
use lib.ListN.{get_or}
use borrow.Author.Tests.{le-leb, lt-leb, leb-true}
use Rattle.lists.proofs.Bools.{and_split}
use Rattle.record.specs.Record.{Record}
use Rattle.directory_word.specs.Word.{word_of, field_leaf, leaf_of}
use Rattle.directory_word.specs.declared.Leaf.{Leaf}
use Rattle.directory_word.specs.declared.Leaf.TheVariants.{Empty, Page}
use Rattle.directory_word.proofs.LeafLaws.{word_of-of-leaf_of}
use Rattle.store.specs.Store.{Store}
use Rattle.store.specs.Sound.{Sound}
use Rattle.store.specs.declared.State.{State}
use Rattle.store.proofs.ShownLaws.{word_on, word_on-depth, leaf_depth-le-depth, leaf_records-page}
use Rattle.change.proofs.BoundLaws.{leaf-counted}
use Rattle.leaf_word.specs.Hold.{word_holds}

-- the page field of a leaf's word
abbrev field : Leaf → ℕ
field (Empty depth) = 0
field (Page page depth) = suc page

module _ (st : State) (w : ℕ) where
  abbrev P : ℕ
  P = st.limits.pages

  -- the word's depth, and how many leaves the tally has there
  abbrev x : ℕ
  x = w / 2 ^ 16

  abbrev many : ℕ
  many = get_or st.tally.leaves x 0

  -- ---- by case

  pub word_holds-deep : st.deepest < x → false ≡ word_holds st w
  unfolding word_holds
  word_holds-deep h = rw (lt-leb x st.deepest h)

  module _ (deep : x ≤ st.deepest) where
    -- no leaf has the depth
    pub word_holds-none : many ≡ 0 → false ≡ word_holds st w
    unfolding word_holds
    word_holds-none e = rw (le-leb x st.deepest deep, lt-leb 1 many (omega arith))

    -- some leaf has it: the page decides
    pub word_holds-page : (many ≡ 0 → ⊥) → leb (w % 2 ^ 16) P ≡ word_holds st w
    unfolding word_holds
    word_holds-page n = rw (le-leb x st.deepest deep, le-leb 1 many (omega arith))

  -- ---- the leaf that it names

  module _ (e : word_holds st w ≡ true) where
    pub held-parts : (x ≤ st.deepest) × (1 ≤ many) × (w % 2 ^ 16 ≤ P)
    unfolding word_holds
    held-parts =
        let all = and_split (leb x st.deepest && leb 1 many) (leb (w % 2 ^ 16) P) e in
        let depth = and_split (leb x st.deepest) (leb 1 many) all.0 in
        (leb-true x st.deepest depth.0, leb-true 1 many depth.1, leb-true (w % 2 ^ 16) P all.1)

    pub held-empty : (y : ℕ) → leaf_of w ≡ Empty y → (y ≤ st.deepest) × (w ≡ word_of (Empty y))
    held-empty y h = let word = word_of-of-leaf_of w (Empty y) h in (omega (arith, held-parts.0, word), word)

    pub held-page : (g y : ℕ) → leaf_of w ≡ Page g y → (g < P) × (y ≤ st.deepest) × (w ≡ word_of (Page g y))
    unfolding leaf_of
    held-page g y h =
        let word = word_of-of-leaf_of w (Page g y) h in
        let plus : w % 2 ^ 16 ≡ suc g = field-leaf (w % 2 ^ 16) x ∙ ap field h in
        (omega (arith, held-parts.2, plus), omega (arith, held-parts.0, word, plus), word)
      where
        field-leaf : (n x : ℕ) → n ≡ field (field_leaf n x)
        field-leaf zero x = refl
        field-leaf (suc n) x = refl

-- ---- a sound store

pub word-of-sound : (before : Store) (S : List Record) → Sound before S → (p : ℕ → Bool)
    → word_holds before.state (word_on before p) ≡ true
word-of-sound before S sound p =
    sym (word_holds-page before.state word deep (λ e. omega (arith, counted, e)))
    ∙ le-leb (word % 2 ^ 16) P (few (word % 2 ^ 16) refl)
  where
    word : ℕ
    word = word_on before p

    P : ℕ
    P = before.state.limits.pages

    deep : word / 2 ^ 16 ≤ before.state.deepest
    deep = omega (arith, word_on-depth before S sound p, leaf_depth-le-depth before S sound p)

    counted : 1 ≤ get_or before.state.tally.leaves (word / 2 ^ 16) 0
    counted = rw (word_on-depth before S sound p) (leaf-counted before S sound p)

    few : (n : ℕ) → word % 2 ^ 16 ≡ n → n ≤ before.state.limits.pages
    few zero e = omega arith
    few (suc g) e = omega (arith, (leaf_records-page before S sound p g (e ∙ sym (add-one g))).0)
