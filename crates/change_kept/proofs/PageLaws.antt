-- The pages that a change keeps: all but those that it writes; those beside a page that is divided. Assumes nothing.
use Prim.Native.Nat.{ℕ}
use mathlib.Core.Path.{◌≡◌, refl, sym, ◌∙◌, subst}
use mathlib.Core.Bool.{Bool, true, false, cond}
use mathlib.Core.List.{List}
use mathlib.Core.Logic.{◌⊎◌, inl, inr}
use native.Mathlib.Omega.{arith}
use lib.ListN.{length}
use Rattle.lists.proofs.Numbers.{eq-or-ne}
use Rattle.record.specs.Bytes.{record_size}
use Rattle.page.specs.Page.{page_at}
use Rattle.pages.specs.Pages.{PageLent, carried_pages}
use Rattle.pages.proofs.CarryLaws.{page_at-carried_pages-other}
use Rattle.store.specs.Store.{Store}
use Rattle.store.specs.Contained.{Written, BytesKept}
use Rattle.insert_cut.specs.declared.Cut.{Cut}
use Rattle.insert_pages.specs.Inserted.{CutFits, divided_pages}
use Rattle.insert_pages.proofs.InsertedLaws.{page_at-inserted_pages-other}
use Rattle.insert_pages.proofs.CarriedLaws.{lent-carried}

-- ---- a page that is divided

pub page_at-divided_pages-other : (b g h : ℕ) (cut : Cut) (new bytes : List ℕ) → PageLent b g bytes → PageLent b h bytes
    → CutFits b cut → length new ≡ record_size → (k : ℕ) → (k ≡ g → ⊥) → (k ≡ h → ⊥)
    → page_at b (divided_pages b g h cut new bytes) k ≡ page_at b bytes k
unfolding divided_pages
page_at-divided_pages-other b g h cut new bytes lg lh f e k n o =
    page_at-inserted_pages-other b (cond cut.bit h g) cut.place _ new
    (carried_pages b g cut.start b h 0 bytes) (lent-carried b g h cut bytes _ lg lh f refl _ refl) f.place-le
    f.room e k (neither cut.bit)
    ∙ page_at-carried_pages-other b g cut.start b h 0 bytes lg lh f.start-le (omega arith) (omega arith) k n o
  where
    neither : (β : Bool) → k ≡ cond β h g → ⊥
    neither true d = o d
    neither false d = n d

-- ---- pages written

module _ (joins : Bool) (before after : Store) (key : ℕ → Bool) where
  abbrev Same : ℕ → Type 0
  Same k =
      page_at before.state.shape.capacity after.memory.bytes k
      ≡ page_at before.state.shape.capacity before.memory.bytes k

  pub two-written : (g h : ℕ) → ((k : ℕ) → (k ≡ g → ⊥) → (k ≡ h → ⊥) → Same k) → Written joins before after key g
      → Written joins before after key h → BytesKept joins before after key
  two-written g h others wg wh k l = go (eq-or-ne k g) (eq-or-ne k h)
    where
      go : (k ≡ g) ⊎ (k ≡ g → ⊥) → (k ≡ h) ⊎ (k ≡ h → ⊥) → Same k ⊎ Written joins before after key k
      go (inl e) d = inr (subst (Written joins before after key) (sym e) wg)
      go (inr n) (inl e) = inr (subst (Written joins before after key) (sym e) wh)
      go (inr n) (inr o) = inl (others k n o)

  pub one_written : (g : ℕ) → ((k : ℕ) → (k ≡ g → ⊥) → Same k) → Written joins before after key g
      → BytesKept joins before after key
  one_written g others w = two-written g g (λ k n o. others k n) w w
