-- Laws of words that are kept, over functions of strings: nothing changes; one whole leaf changes; a leaf and its
-- siblings change. Assumes nothing.
use Prim.Native.Nat.{ℕ, suc, ◌-◌, ◌≤◌, ◌<◌}
use mathlib.Core.Path.{◌≡◌, refl, sym, ap, ◌∙◌, subst}
use mathlib.Core.Bool.{Bool, true, false, not, false≢true, true≢false}
use mathlib.Core.Logic.{◌⊎◌, inl, inr, ⊎_elim}
use native.Mathlib.Omega.{arith}
use Rattle.cell.specs.Cell.{Agree}
use Rattle.region.proofs.StringLaws.{with_bit-same}
use Rattle.cell.proofs.AgreeLaws.{agree-with_bit}
use Rattle.region.specs.Strings.{sibling}
use Rattle.directory_word.specs.Word.{word_of, depth_field}
use Rattle.directory_word.specs.declared.Leaf.TheVariants.{Empty}
use Rattle.store.specs.Contained.{Whole, JoinedWith, GivesWay, WordsKept}
use Rattle.store.proofs.AgreeLaws.{agree-or-not}
use Rattle.change.specs.Divided.{Leaves}
use Rattle.change.proofs.ChainLaws.{agree-or-leaves, agree-of-leaves}

-- ---- strings

-- the sibling leaves the string in its last bit
pub leaves-sibling : (p : ℕ → Bool) (z : ℕ) → Leaves p (sibling p z) z
leaves-sibling p z = record {
  agree = λ i l. sym (agree-with_bit p z (not (p z)) i l);
  differ = λ e. not-self (p z) (e ∙ with_bit-same p z (not (p z)));
}
  where
    not-self : (β : Bool) → β ≡ not β → ⊥
    not-self true e = true≢false e
    not-self false e = false≢true e

-- ---- whole leaves

module _ (old : (ℕ → Bool) → ℕ) where
  -- every string of p's region of x bits has the word
  abbrev Holds : ℕ → (ℕ → Bool) → ℕ → Type 0
  Holds x p word = (q : ℕ → Bool) → Agree x p q → old q ≡ word

  pub whole-of-holds : (x word : ℕ) (r p : ℕ → Bool) → depth_field word ≡ x → Holds x r word → Agree x r p
      → Whole old p
  whole-of-holds x word r p d h a q b =
      let here : depth_field (old p) ≡ x = ap depth_field (h p a) ∙ d in
      let near : Agree x p q = subst (λ n. Agree n p q) here b in
      h q (λ i l. a i l ∙ near i l) ∙ sym (h p a)

  -- the other half of the key's region of z bits is a whole leaf: the sibling of the key's own, or empty
  pub record SiblingLeaf (key : ℕ → Bool) (z : ℕ) : Type 0 where
    pub word : ℕ
    pub depth : depth_field word ≡ suc z
    pub nearest-or-empty : (suc z ≡ depth_field (old key)) ⊎ (word ≡ word_of (Empty (suc z)))
    pub holds : Holds (suc z) (sibling key z) word

module _ (old new : (ℕ → Bool) → ℕ) (key : ℕ → Bool) where
  -- ---- leaves that give way

  pub leaf-gives-way : (joins : Bool) (x : ℕ) → depth_field (old key) ≡ x → Holds old x key (old key)
      → (p : ℕ → Bool) → Agree x key p → GivesWay joins old new key p
  leaf-gives-way joins x d h p a =
      let here : depth_field (old p) ≡ x = ap depth_field (h p a) ∙ d in (
        whole-of-holds old x (old key) key p d h a,
        inl (subst (λ n. Agree n p key) (sym here) (λ i l. sym (a i l))),
      )

  -- a string that leaves the key's in bit z is in the sibling there, which is whole and joined with the key's leaf
  pub sibling-joined : (z : ℕ) → SiblingLeaf old key z → z < depth_field (old key) → depth_field (new key) ≤ z
      → Whole new key → (p : ℕ → Bool) → Leaves key p z → Whole old p × JoinedWith true old new key p
  sibling-joined z s l b one p leaves =
      let a = agree-of-leaves key (sibling key z) p z (leaves-sibling key z) leaves in (
        whole-of-holds old (suc z) s.word (sibling key z) p s.depth s.holds a,
        record {
          allowed = refl;
          z = z;
          depth = ap depth_field (s.holds p a) ∙ s.depth;
          agree = leaves.agree;
          differ = leaves.differ;
          above = l;
          within = b;
          nearest-or-empty = ⊎_elim inl (λ e. inr (s.holds p a ∙ e)) s.nearest-or-empty;
          one-leaf = one;
        },
      )

  -- ---- words kept

  pub kept_same : (joins : Bool) → ((p : ℕ → Bool) → new p ≡ old p) → WordsKept joins old new key
  kept_same joins e p = inl (e p)

  -- the key's leaf is whole, and no word outside it changes
  pub kept-leaf : (joins : Bool) (x : ℕ) → depth_field (old key) ≡ x → Holds old x key (old key)
      → ((p : ℕ → Bool) → (Agree x key p → ⊥) → new p ≡ old p) → WordsKept joins old new key
  kept-leaf joins x d h outside p = go (agree-or-not key p x)
    where
      go : Agree x key p ⊎ (Agree x key p → ⊥) → (new p ≡ old p) ⊎ GivesWay joins old new key p
      go (inl a) = inr (leaf-gives-way joins x d h p a)
      go (inr n) = inl (outside p n)

  -- the key's leaf and its siblings from depth y + 1 on are whole, the region of y bits is one leaf now, and no word
  -- outside it changes
  pub kept-joined : (m y : ℕ) → y ≤ m → depth_field (old key) ≡ suc m → Holds old (suc m) key (old key)
      → ((z : ℕ) → y ≤ z → z ≤ m → SiblingLeaf old key z) → depth_field (new key) ≡ y → Whole new key
      → ((p : ℕ → Bool) → (Agree y key p → ⊥) → new p ≡ old p) → WordsKept true old new key
  kept-joined m y l d h siblings e one outside p = go (agree-or-not key p y)
    where
      inside : Agree (suc m) key p ⊎ ((z : ℕ) × (y ≤ z) × (z < suc m) × Leaves key p z) → GivesWay true old new key p
      inside (inl a) = leaf-gives-way true (suc m) d h p a
      inside (inr k) =
          let z = k.0 in
          let s = siblings z k.1 (omega (arith, k.2)) in
          let j = sibling-joined z s (omega (arith, k.2, d)) (omega (arith, k.1, e)) one p k.3 in
          (j.0, inr j.1)

      go : Agree y key p ⊎ (Agree y key p → ⊥) → (new p ≡ old p) ⊎ GivesWay true old new key p
      go (inl a) = inr (inside (agree-or-leaves key p (suc m - y) y (suc m) (omega arith) a))
      go (inr n) = inl (outside p n)
