-- Laws of the word that the plan of a delete meets at the sibling of the key's leaf: the leaf stays beside a divided
-- one, or the sibling has a page; the refusal 9. Assumes nothing.
use Prim.Native.Nat.{ℕ, suc, ◌+◌, ◌-◌, ◌≤◌, ◌<◌}
use mathlib.Core.Path.{◌≡◌, refl, sym, ap, ◌∙◌, subst}
use mathlib.Core.Bool.{Bool, true, false, ◌&&◌}
use mathlib.Core.List.{List}
use native.Mathlib.Omega.{arith}
use lib.Dec.{ltb}
use borrow.Author.Tests.{ltb-false}
use Rattle.lists.proofs.Bools.{and_split}
use Rattle.shape.specs.declared.refusal.Refusal.TheVariants as why
use Rattle.shape.specs.Shape.{widths_of}
use Rattle.cell.specs.Cell.{Agree}
use Rattle.region.specs.Strings.{sibling}
use Rattle.record.specs.Packed.{packed_key}
use Rattle.page.specs.Page.{count_of, page_at}
use Rattle.page_ends.specs.Ends.{fixed_bits}
use Rattle.directory_word.specs.Word.{word_of, leaf_of}
use Rattle.directory_word.specs.declared.Leaf.TheVariants.{Empty, Page}
use Rattle.directory_word.proofs.WordLaws.{word_of-one-to-one, word_of-apart}
use Rattle.store.specs.Store.{Store}
use Rattle.change.specs.Delete.{key_string, AtSibling}
use Rattle.refusals.proofs.LimitsLaws.{limits-parts}
use Rattle.leaf_word.specs.Hold.{word_holds}
use Rattle.leaf_word.proofs.HoldLaws.{held-empty, held-page}
use Rattle.delete_siblings.specs.Siblings.{SiblingKey, sibling_holds}
use Rattle.delete_siblings.proofs.SiblingLaws.{siblings-deep}
use Rattle.delete_plan.specs.Plan.{RecordFound, StaysAlone, RefusalMet}
use Rattle.delete_plan.specs.Met.{SiblingMet}
use Rattle.delete_plan.specs.declared.Stored.{Stored}
use Rattle.delete_plan.proofs.MetLaws.{refused-unsound, refused-word}

module _ (before : Store) (encoded : List ℕ) (r : Stored) (f : RecordFound before encoded r) where
  abbrev P : ℕ
  P = before.state.limits.pages

  abbrev b : ℕ
  b = before.state.shape.capacity

  abbrev g : ℕ
  g = r.page

  abbrev x : ℕ
  x = r.depth

  abbrev p : ℕ → Bool
  p = key_string before encoded

  abbrev page_of : ℕ → List ℕ
  page_of h = page_at b before.memory.bytes h

  abbrev count_before : ℕ → ℕ
  count_before h = count_of (page_of h)

  most : P ≤ 4096
  most = (limits-parts before.state f.leaf.limits).1

  -- the empty string has no sibling
  pub stays-root : x ≡ 0 → StaysAlone before encoded g x
  stays-root e m d = absurd (omega arith)

  -- ---- the word of a cell of the sibling

  module _ (divided : 0 < x) (word : ℕ) (c : AtSibling before encoded (x - 1) (λ w. word ≡ w)) where
    refused-word-there : word_holds before.state word ≡ false → RefusalMet before encoded why.Unsound
    refused-word-there e =
        refused-word before encoded c.0 (ap (word_holds before.state) (sym c.2) ∙ e)

    -- a leaf above the key's leaf, or an empty one beside it
    refused-shallow : word ≤ word_of (Empty x) → RefusalMet before encoded why.Unsound
    refused-shallow l =
        let step : suc (x - 1) ≡ x = omega arith in
        refused-unsound before encoded
        (λ S sound.
        siblings-deep before S sound encoded g (x - 1) f.leaf.own-within
        (f.leaf.own ∙ ap (λ y. word_of (Page g y)) (sym step))
        (c.0, c.1, rw (step, sym c.2) l))

    pub refused-sibling : sibling_holds before.state x word ≡ false → RefusalMet before encoded why.Unsound
    unfolding sibling_holds
    refused-sibling e = by_word (word_holds before.state word) refl
      where
        by_word : (β : Bool) → word_holds before.state word ≡ β → RefusalMet before encoded why.Unsound
        by_word false h = refused-word-there h
        by_word true h =
            refused-shallow (ltb-false (word_of (Empty x)) word
            (sym (ap (λ β. β && ltb (word_of (Empty x)) word) h) ∙ e))

    pub held-sibling : sibling_holds before.state x word ≡ true → word_holds before.state word ≡ true
    unfolding sibling_holds
    held-sibling e = (and_split (word_holds before.state word) (ltb (word_of (Empty x)) word) e).0

    pub stays : ((h : ℕ) → h < P → word ≡ word_of (Page h x) → suc b < count_before g + count_before h)
        → StaysAlone before encoded g x
    stays alone m e =
        let same : x - 1 ≡ m = omega arith in (
          c.0,
          subst (λ z. Agree (suc z) (sibling p z) c.0) same c.1,
          λ h l d. alone h l (c.2 ∙ d ∙ ap (λ y. word_of (Page h y)) (sym e)),
        )

    module _ (holds : word_holds before.state word ≡ true) where
      pub stays-empty : (y : ℕ) → leaf_of word ≡ Empty y → StaysAlone before encoded g x
      stays-empty y e =
          stays (λ h l d.
          absurd (word_of-apart h x y (omega (arith, most)) (sym d ∙ (held-empty before.state word holds y e).1)))

      module _ (h y : ℕ) (e : leaf_of word ≡ Page h y) where
        leaf : (h < P) × (y ≤ before.state.deepest) × (word ≡ word_of (Page h y))
        leaf = held-page before.state word holds h y e

        -- never joined with a divided sibling
        pub stays-deep : (y ≡ x → ⊥) → StaysAlone before encoded g x
        stays-deep n =
            stays (λ i l d.
            absurd
            (n (word_of-one-to-one h i y x (omega (arith, most, leaf.0)) (omega (arith, most)) (sym leaf.2 ∙ d)).1))

        pub sibling_met : y ≡ x → (mask : ℕ) → mask ≡ fixed_bits (widths_of before.state.shape) x → (beside : ℕ)
            → SiblingKey before.state.shape (packed_key encoded) (x - 1) beside
            → SiblingMet before encoded r mask h beside
        sibling_met d mask fixed beside there =
            record {
              leaf = record { found = f; divided = divided; fixed = fixed };
              other-within = leaf.0;
              other = (c.0, c.1, sym c.2 ∙ leaf.2 ∙ ap (λ z. word_of (Page h z)) d);
              key-there = there;
            }
