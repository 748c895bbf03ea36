-- Law of the climb from the key's leaf: the siblings that are empty leaves, one by one. Assumes nothing.
use Prim.Native.Nat.{ℕ, suc, ◌+◌, ◌≤◌, ◌<◌}
use mathlib.Core.Path.{◌≡◌, sym, ap, ◌∙◌}
use mathlib.Core.List.{List, []}
use mathlib.Core.Logic.{◌⊎◌, inl, inr}
use native.Mathlib.Omega.{arith}
use native.Mathlib.Numerals.{add-one}
use Rattle.lists.proofs.Numbers.{eq-or-ne}
use Rattle.directory_word.specs.Word.{word_of}
use Rattle.directory_word.specs.declared.Leaf.TheVariants.{Empty}
use Rattle.store.specs.Store.{store}
use Rattle.store.specs.declared.State.{State}
use Rattle.change.specs.Delete.{AtSibling}

module _ (st : State) (words encoded : List ℕ) where
  abbrev At : ℕ → (ℕ → Type 0) → Type 0
  At z X = AtSibling (store st words []) encoded z X

  -- from depth m up to y
  abbrev pub Rising : ℕ → ℕ → Type 0
  Rising m y = (y ≤ m) × ((z : ℕ) → y ≤ z → z < m → At z (λ w. w ≡ word_of (Empty (suc z))))

  -- the word of a cell of the next sibling, at bit z
  pub rising-next : (m y z r : ℕ) → Rising m y → y ≡ z + 1 → At z (λ w. r ≡ w) → r ≡ word_of (Empty (z + 1))
      → Rising m z
  rising-next m y z r i e c h = (omega (arith, i.0), λ k u v. go k u v (eq-or-ne k z))
    where
      go : (k : ℕ) → z ≤ k → k < m → (k ≡ z) ⊎ (k ≡ z → ⊥) → At k (λ w. w ≡ word_of (Empty (suc k)))
      go k u v (inl d) = rw d (c.0, c.1, sym c.2 ∙ h ∙ ap (λ x. word_of (Empty x)) (add-one z))
      go k u v (inr n) = i.1 k (omega arith) v
