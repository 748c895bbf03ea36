-- A delete that joins the leaf of its key: the records of the two siblings in one page, the other page free, the region
-- of y bits set to the joined leaf's word, in a directory that may be less deep. What follows for the store. Assumes
-- nothing.
use Prim.Native.Nat.{ℕ, suc, ◌-◌, ◌≤◌, ◌<◌}
use mathlib.Core.Path.{◌≡◌, refl, sym, ◌∙◌}
use mathlib.Core.Bool.{Bool}
use mathlib.Core.List.{List, [], ◌∷◌}
use mathlib.Core.Logic.{◌⊎◌, inl, inr}
use native.Mathlib.Omega.{arith}
use lib.ListN.{length}
use Rattle.lists.proofs.Numbers.{eq-or-ne}
use Rattle.shape.specs.declared.Shape.{Shape}
use Rattle.cell.specs.Cell.{Agree}
use Rattle.region.specs.Division.{Division, greatest_depth, leaf_depth}
use Rattle.region.proofs.StringLeafLaws.{leaf_depth-le}
use Rattle.record.specs.Record.{Record, record_bit}
use Rattle.directory_word.specs.Word.{word_of}
use Rattle.directory_word.specs.declared.Leaf.TheVariants.{Page}
use Rattle.directory_word.proofs.WordLaws.{word_of-one-to-one}
use Rattle.model.specs.Sets.{stored, without_key}
use Rattle.store.specs.Store.{Store, Memory, word_at}
use Rattle.store.specs.Sound.{LeafWord, Sound}
use Rattle.store.specs.declared.Tally.{Tally}
use Rattle.store.proofs.ShownLaws.{page_records, division_on}
use Rattle.shape.proofs.ShapeLaws.{shape_number-true, capacity-bounds}
use Rattle.change.specs.Delete.{JoinFound, LeafJoined}
use Rattle.change.proofs.RegionLaws.{RegionChanged, PageAfter, MayTake}
use Rattle.change.proofs.DeleteWordLaws.{word_at-halved}
use Rattle.change.proofs.DeleteFoundLaws.{joined_records, JoinRegion, join-region}

module _ (before : Store) (S : List Record) (sound : Sound before S) (r : Record)
    (held : stored r.key S ≡ r ∷ []) (g h m y kept freed T' : ℕ) (tally' : Tally) (m' : Memory)
    (f : JoinFound before r.key g h m y)
    (k : LeafJoined before r.key g h m y kept freed T' tally' m') where
  abbrev s : Shape
  s = before.state.shape

  abbrev P : ℕ
  P = before.state.limits.pages

  abbrev D : Division Record
  D = division_on before S

  abbrev S' : List Record
  S' = without_key r.key S

  abbrev D' : Division Record
  D' = division_on before S'

  abbrev p : ℕ → Bool
  p = record_bit s r

  region : JoinRegion before S r g h m y
  region = join-region before S r sound held g h m y f

  -- ---- the two pages

  abbrev Chosen : Type 0
  Chosen = ((kept ≡ g) × (freed ≡ h)) ⊎ ((kept ≡ h) × (freed ≡ g))

  kept-is : (kept ≡ g) ⊎ (kept ≡ h)
  kept-is = by_pages k.pages
    where
      by_pages : Chosen → (kept ≡ g) ⊎ (kept ≡ h)
      by_pages (inl e) = inl e.0
      by_pages (inr e) = inr e.0

  freed-is : (freed ≡ g) ⊎ (freed ≡ h)
  freed-is = by_pages k.pages
    where
      by_pages : Chosen → (freed ≡ g) ⊎ (freed ≡ h)
      by_pages (inl e) = inr e.1
      by_pages (inr e) = inl e.1

  neither : (i : ℕ) → (i ≡ kept → ⊥) → (i ≡ freed → ⊥) → (i ≡ g) ⊎ (i ≡ h) → ⊥
  neither i n v c = by_pages k.pages c
    where
      by_pages : Chosen → (i ≡ g) ⊎ (i ≡ h) → ⊥
      by_pages (inl d) (inl e) = n (e ∙ sym d.0)
      by_pages (inl d) (inr e) = v (e ∙ sym d.1)
      by_pages (inr d) (inl e) = v (e ∙ sym d.1)
      by_pages (inr d) (inr e) = n (e ∙ sym d.0)

  kept-within : kept < P
  kept-within = by-page kept-is
    where
      by-page : (kept ≡ g) ⊎ (kept ≡ h) → kept < P
      by-page (inl e) = omega (arith, f.own-within)
      by-page (inr e) = omega (arith, f.other-within)

  -- ---- the region

  leaf-word : (rs : List Record) → page_records s m'.bytes kept ≡ rs → 1 ≤ length rs
      → LeafWord s P m'.bytes rs y (word_of (Page kept y))
  leaf-word [] e l = absurd (omega arith)
  leaf-word (q ∷ rs) e l = (kept, kept-within, refl, e)

  page-after : (i : ℕ) → i < P → (i ≡ kept) ⊎ (i ≡ kept → ⊥) → (i ≡ freed) ⊎ (i ≡ freed → ⊥)
      → PageAfter before S S' T' m' p y i
  page-after i l (inl e) d = rw e (inl (p, y, λ t a. refl, k.filled.inside p (λ t a. refl)))
  page-after i l (inr n) (inl e) =
      let o = region.leaf-of-two freed freed-is in rw e (inr (inl (k.none, (o.0, suc m, o.1, o.2))))
  page-after i l (inr n) (inr v) =
      inr (inr (
        k.others i l (λ e. neither i n v (inl e)) (λ e. neither i n v (inr e)),
        λ o. neither i n v (region.two-of-leaf o.0 i o.1 o.2 l o.3),
      ))

  -- its leaves are none any more
  divided-before : (q : ℕ → Bool) → Agree y p q → leaf_depth q 0 D ≡ leaf_depth q 0 D' → ⊥
  divided-before q a e = omega (arith, region.deeper q a, region.depth-after q a)

  takes : (q : ℕ → Bool) → Agree y p q → (i z : ℕ) → i < P → word_at s T' m'.words q ≡ word_of (Page i z)
      → MayTake before S S' T' m' p y i
  takes q a i z l e =
      let o = region.leaf-of-two kept kept-is in
      let same : i ≡ kept =
      (word_of-one-to-one i kept z y (omega (arith, sound.most-pages)) (omega (arith, kept-within, sound.most-pages))
      (sym e ∙ k.filled.inside q a)).0 in
      rw same (inr (o.0, suc m, o.2, divided-before o.0 o.1))

  pub join-changed : T' ≤ before.state.deepest → T' ≡ greatest_depth D' → RegionChanged before S S' T' m' p y
  join-changed shallower deepest = record {
    leaves-before = λ q i. omega (arith, region.deeper q i);
    leaves_after = λ q i. omega (arith, region.depth-after q i);
    leaf-outside = region.outside;
    word-outside = λ q o.
        k.filled.outside q o
        ∙ word_at-halved before S sound T' shallower q (omega (arith, (region.outside q o).0, leaf_depth-le q 0 D'));
    word-inside = λ q i.
        rw (region.records-after q i, region.depth-after q i, k.filled.inside q i)
        (leaf-word (joined_records before S r g h m) k.records
        (omega (arith, region.full, (capacity-bounds s (shape_number-true s sound.shape)).0)));
    same-word-inside = λ a b i j e. k.filled.inside a i ∙ sym (k.filled.inside b j);
    page = λ i l. page-after i l (eq-or-ne i kept) (eq-or-ne i freed);
    keeps = λ q i e ne j z l d. absurd (divided-before q i e);
    takes = λ q i j z l d. inr (takes q i j z l d);
  }
