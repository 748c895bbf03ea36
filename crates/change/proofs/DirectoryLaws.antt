-- The directory's words of a leaf that is divided: doubled as often as needed, they show the old leaves at the new
-- depth; then the siblings and the two halves are set, region by region. Assumes nothing.
use Prim.Native.Nat.{ℕ, suc, ◌^◌, ◌≤◌, ◌<◌}
use mathlib.Core.Path.{◌≡◌, refl, sym, ap, ◌∙◌}
use mathlib.Core.Bool.{Bool, true, false, cond, false≢true, true≢false}
use mathlib.Core.List.{List}
use mathlib.Core.Logic.{◌⊎◌, inl, inr}
use native.Mathlib.Omega.{arith}
use lib.ListN.{get_or, length}
use lib.Pow.{pow_mono}
use Rattle.lists.proofs.Numbers.{eq-or-ne}
use Rattle.shape.specs.Shape.{widths_of}
use Rattle.shape.specs.declared.Shape.{Shape}
use Rattle.cell.specs.Cell.{cell_address, Agree}
use Rattle.directory.specs.Directory.{Doubled, Filled}
use Rattle.cell.proofs.AgreeLaws.{agree-suc}
use Rattle.region.specs.Division.{Division}
use Rattle.record.specs.Record.{Record}
use Rattle.directory_word.specs.Word.{word_of}
use Rattle.directory_word.specs.declared.Leaf.TheVariants.{Empty, Page}
use Rattle.store.specs.Store.{Memory, memory}
use Rattle.store.specs.Sound.{Shows}
use Rattle.change.specs.Divided.{Deepened, Leaves, SiblingsSet, LeavesSet}

-- ---- doubling

module _ (ws : List ℕ) (t : ℕ) (words : List ℕ) where
  pub deepened-none : Deepened ws t t words words
  deepened-none = record { cells = λ p. refl; past = λ a l. refl; size = refl }

  pub deepened-suc : (u : ℕ) (middle after : List ℕ) → Deepened ws t u words middle → Doubled ws u middle after
      → Deepened ws t (suc u) words after
  deepened-suc u middle after d e =
      record {
        cells = λ p. e.cells p ∙ d.cells p;
        past = λ a l. e.past a l ∙ d.past a (omega (arith, pow_mono {i = u} {j = suc u} (omega arith)));
        size = e.size ∙ d.size;
      }

-- the words show the old leaves at the new depth
pub shows-deepened : (s : Shape) (P t u : ℕ) (m : Memory) (D : Division Record) (words : List ℕ) → Shows s P t m D
    → Deepened (widths_of s) t u m.words words → Shows s P u (memory words m.bytes) D
shows-deepened s P t u m D words h d =
    record {
      word = λ p. rw (d.cells p) (h.word p);
      same_word = λ p q a. d.cells p ∙ h.same_word p q a ∙ sym (d.cells q);
      own-page = λ p q n g x y l e k. h.own-page p q n g x y l (sym (d.cells p) ∙ e) (sym (d.cells q) ∙ k);
      free = λ g l n. h.free g l (λ p x e. n p x (d.cells p ∙ e));
    }

-- ---- siblings

module _ (ws : List ℕ) (t x : ℕ) (p : ℕ → Bool) (before : List ℕ) where
  pub siblings-none : SiblingsSet ws t x x p before before
  siblings-none =
      record {
        sibling = λ q z h l k. absurd (omega arith);
        outside = λ q o. refl;
        past = λ a l. refl;
        size = refl;
      }

  module _ (y : ℕ) (h : x ≤ y) (middle after : List ℕ) (s : SiblingsSet ws t x y p before middle) where
    -- or by the whole region of p's first y bits, whose other half is set later
    pub siblings-whole : Filled ws t y p (word_of (Empty (suc y))) middle after
        → SiblingsSet ws t x (suc y) p before after
    siblings-whole f =
        record {
          sibling = λ q z b l k. by_order q z b l k (eq-or-ne z y);
          outside = λ q o. f.outside q (λ a. o (λ i l. a i (omega arith))) ∙ s.outside q o;
          past = λ a l. f.past a l ∙ s.past a l;
          size = f.size ∙ s.size;
        }
      where
        by_order : (q : ℕ → Bool) (z : ℕ) → x ≤ z → z < suc y → Leaves p q z → (z ≡ y) ⊎ (z ≡ y → ⊥)
            → get_or after (cell_address ws t q) 0 ≡ word_of (Empty (suc z))
        by_order q z b l k (inl e) = let k' : Leaves p q y = rw e at k in rw e (f.inside q k'.agree)
        by_order q z b l k (inr n) =
            f.outside q (λ a. k.differ (a z (omega arith))) ∙ s.sibling q z b (omega arith) k

  -- a region within that of p's first m bits holds no sibling
  siblings-kept : (m d : ℕ) (p' : ℕ → Bool) (word : ℕ) (middle after : List ℕ) → x ≤ m → m ≤ d → Agree m p p'
      → SiblingsSet ws t x m p before middle → Filled ws t d p' word middle after → SiblingsSet ws t x m p before after
  siblings-kept m d p' word middle after h l b s f =
      record {
        sibling = λ q z c e k.
            f.outside q (λ a. k.differ (b z e ∙ a z (omega arith))) ∙ s.sibling q z c e k;
        outside = λ q o. f.outside q (λ a. o (λ i c. b i (omega arith) ∙ a i (omega arith))) ∙ s.outside q o;
        past = λ a c. f.past a c ∙ s.past a c;
        size = f.size ∙ s.size;
      }

  -- ---- halves

  module _ (m : ℕ) (l : x ≤ m) (g h : ℕ) (middle one after : List ℕ) (s : SiblingsSet ws t x m p before middle) where
    -- or the whole region for the half that p is not in, then p's
    pub leaves-of-whole : Filled ws t m p (word_of (Page (cond (p m) g h) (suc m))) middle one
        → Filled ws t (suc m) p (word_of (Page (cond (p m) h g) (suc m))) one after
        → LeavesSet ws t x m p g h before after
    leaves-of-whole f₀ f₁ =
        record {
          siblings =
              siblings-kept m (suc m) p _ one after l (omega arith) (λ i k. refl)
              (siblings-kept m m p _ middle one l (omega arith) (λ i k. refl) s f₀) f₁;
          half = λ q a. by_bits q a (p m) (q m) refl refl;
        }
      where
        own : (q : ℕ → Bool) → Agree m p q → p m ≡ q m
            → get_or after (cell_address ws t q) 0 ≡ word_of (Page (cond (q m) h g) (suc m))
        own q a e = f₁.inside q (agree-suc m p q a e) ∙ ap (λ β. word_of (Page (cond β h g) (suc m))) e

        other : (q : ℕ → Bool) → Agree m p q → (p m ≡ q m → ⊥)
            → get_or after (cell_address ws t q) 0 ≡ word_of (Page (cond (p m) g h) (suc m))
        other q a n = f₁.outside q (λ c. n (c m (omega arith))) ∙ f₀.inside q a

        by_bits : (q : ℕ → Bool) → Agree m p q → (α β : Bool) → p m ≡ α → q m ≡ β
            → get_or after (cell_address ws t q) 0 ≡ word_of (Page (cond (q m) h g) (suc m))
        by_bits q a true true d e = own q a (d ∙ sym e)
        by_bits q a true false d e = rw e (rw d at (other q a (λ k. true≢false (sym d ∙ k ∙ e))))
        by_bits q a false true d e = rw e (rw d at (other q a (λ k. false≢true (sym d ∙ k ∙ e))))
        by_bits q a false false d e = own q a (d ∙ sym e)

-- ---- words past the directory

module _ (ws : List ℕ) (t u x m : ℕ) (p : ℕ → Bool) (g h : ℕ) (before middle after : List ℕ)
    (deepened : Deepened ws t u before middle) (leaves : LeavesSet ws u x m p g h middle after) where
  pub divided-past : (a : ℕ) → 2 ^ u ≤ a → get_or after a 0 ≡ get_or before a 0
  divided-past a l = leaves.siblings.past a l ∙ deepened.past a l

  pub divided-size : length after ≡ length before
  divided-size = leaves.siblings.size ∙ deepened.size
