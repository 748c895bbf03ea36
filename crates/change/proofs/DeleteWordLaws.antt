-- What the words of a sound store say to a delete: the leaf that has a page, an empty leaf, the word of a cell in a
-- directory of a smaller depth. Assumes nothing.
use Prim.Native.Nat.{ℕ, suc, ◌≤◌, ◌<◌}
use mathlib.Core.Path.{◌≡◌, sym, ap, ◌∙◌}
use mathlib.Core.Bool.{Bool}
use mathlib.Core.List.{List, [], ◌∷◌, nil≢cons}
use native.Mathlib.Omega.{arith}
use lib.ListN.{length, get_or}
use Rattle.shape.specs.Shape.{widths_of}
use Rattle.shape.specs.declared.Shape.{Shape}
use Rattle.cell.specs.Cell.{Agree}
use Rattle.cell.proofs.AgreeLaws.{cut, agree-cut, cut-past}
use Rattle.region.specs.Strings.{sibling}
use Rattle.region.specs.Division.{Division, leaf_depth, leaf_records}
use Rattle.record.specs.Record.{Record}
use Rattle.page.specs.Page.{count_of, page_at}
use Rattle.page.proofs.FieldLaws.{length-records_from}
use Rattle.directory_word.specs.Word.{word_of}
use Rattle.directory_word.specs.declared.Leaf.TheVariants.{Empty, Page}
use Rattle.store.specs.Store.{Store, word_at}
use Rattle.store.specs.Sound.{LeafWord, Sound}
use Rattle.store.proofs.AgreeLaws.{Agree-sym, leaf_depth-agree, leaf_records-agree, cells}
use Rattle.store.proofs.ShownLaws.{page_records, word_on, division_on, shape-of-Sound, depth-of-Sound}
use Rattle.store.proofs.ShownLaws.{LeafWord-page, LeafWord-empty}
use Rattle.change.specs.Delete.{key_string, AtSibling}

-- a page has as many records as its count says
pub length-page_records : (s : Shape) (bytes : List ℕ) (g : ℕ)
    → length (page_records s bytes g) ≡ count_of (page_at s.capacity bytes g)
length-page_records s bytes g =
    length-records_from s (count_of (page_at s.capacity bytes g)) 2 (page_at s.capacity bytes g)

module _ (before : Store) (S : List Record) (sound : Sound before S) where
  abbrev s : Shape
  s = before.state.shape

  abbrev P : ℕ
  P = before.state.limits.pages

  abbrev D : Division Record
  D = division_on before S

  -- the leaf whose word has a page
  pub leaf-of-page-word : (q : ℕ → Bool) (g x : ℕ) → g < P → word_on before q ≡ word_of (Page g x)
      → (leaf_depth q 0 D ≡ x) × (page_records s before.memory.bytes g ≡ leaf_records q 0 D)
  leaf-of-page-word q g x l e =
      let k = LeafWord-page s P before.memory.bytes sound.most-pages (leaf_records q 0 D) (leaf_depth q 0 D) _
      (sound.shown.word q) g x (omega (arith, sound.most-pages)) e in
      (k.1, k.2)

  -- the leaf whose word has none, and the word of an empty leaf
  pub leaf-of-empty-word : (q : ℕ → Bool) (x : ℕ) → word_on before q ≡ word_of (Empty x)
      → (leaf_depth q 0 D ≡ x) × (leaf_records q 0 D ≡ [])
  leaf-of-empty-word q x e =
      LeafWord-empty s P before.memory.bytes sound.most-pages (leaf_records q 0 D) (leaf_depth q 0 D) _
      (sound.shown.word q) x e

  pub word-of-empty-leaf : (q : ℕ → Bool) → leaf_records q 0 D ≡ [] → word_on before q ≡ word_of (Empty (leaf_depth q 0 D))
  word-of-empty-leaf q e = by-list (leaf_records q 0 D) e (sound.shown.word q)
    where
      by-list : (rs : List Record) → rs ≡ []
          → LeafWord s P before.memory.bytes rs (leaf_depth q 0 D) (word_on before q)
          → word_on before q ≡ word_of (Empty (leaf_depth q 0 D))
      by-list [] d h = h
      by-list (r ∷ rs) d h = absurd (nil≢cons (sym d))

  -- halving needs no write: a directory of depth T' has the words of the leaves that do not lie deeper
  pub word_at-halved : (T' : ℕ) → T' ≤ before.state.deepest → (q : ℕ → Bool) → leaf_depth q 0 D ≤ T'
      → word_at s T' before.memory.words q ≡ word_on before q
  word_at-halved T' h q l =
      let c = cells s (shape-of-Sound before S sound) in
      let T = before.state.deepest in
      let ws = widths_of s in
      ap (λ a. get_or before.memory.words a 0)
      (sym (c.zero_bits T' T h (depth-of-Sound before S sound) (cut T' q) (λ i u v. cut-past T' q i u)
      ∙ (c.address_same T' (omega (arith, depth-of-Sound before S sound)) (cut T' q) q).1 (agree-cut T' q)))
      ∙ sym (sound.shown.same_word q (cut T' q) (λ i v. sym (agree-cut T' q i (omega arith))))

  -- ---- another string of a leaf

  pub leaf-near : (p q : ℕ → Bool) (x : ℕ) → Agree x p q → leaf_depth q 0 D ≡ x
      → (leaf_depth p 0 D ≡ x) × (leaf_records p 0 D ≡ leaf_records q 0 D) × (word_on before p ≡ word_on before q)
  leaf-near p q x a e =
      let back : Agree (leaf_depth q 0 D) q p = rw e (Agree-sym p q x a) in (
        leaf_depth-agree q p D back ∙ e,
        leaf_records-agree q p D back,
        sym (sound.shown.same_word q p back),
      )

  -- ---- the leaf of a sibling, by the word of one of its cells

  module _ (key : List ℕ) (z : ℕ) where
    abbrev p : ℕ → Bool
    p = sibling (key_string before key) z

    pub sibling-page : (h : ℕ) → h < P → AtSibling before key z (λ w. w ≡ word_of (Page h (suc z)))
        → (leaf_depth p 0 D ≡ suc z) × (page_records s before.memory.bytes h ≡ leaf_records p 0 D)
        × (word_on before p ≡ word_of (Page h (suc z)))
    sibling-page h l c =
        let k = leaf-of-page-word c.0 h (suc z) l c.2 in
        let n = leaf-near p c.0 (suc z) c.1 k.0 in
        (n.0, k.1 ∙ sym n.1, n.2 ∙ c.2)

    pub sibling-empty : AtSibling before key z (λ w. w ≡ word_of (Empty (suc z)))
        → (leaf_depth p 0 D ≡ suc z) × (leaf_records p 0 D ≡ [])
    sibling-empty c =
        let k = leaf-of-empty-word c.0 (suc z) c.2 in
        let n = leaf-near p c.0 (suc z) c.1 k.0 in
        (n.0, n.1 ∙ k.1)

    pub sibling-other : AtSibling before key z (λ w. w ≡ word_of (Empty (suc z)) → ⊥) → leaf_depth p 0 D ≡ suc z
        → leaf_records p 0 D ≡ [] → ⊥
    sibling-other c e d =
        c.2
        (sym (sound.shown.same_word p c.0 (rw e c.1))
        ∙ word-of-empty-leaf p d
        ∙ ap (λ x. word_of (Empty x)) e)
