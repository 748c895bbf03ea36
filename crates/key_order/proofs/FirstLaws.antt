-- Laws of the first split step in which two keys differ: the bits before it and at it; the same bits and split order by
-- it. Assumes nothing.
use Prim.Native.Nat.{ℕ, zero, suc, ◌+◌, ◌≤◌, ◌<◌}
use mathlib.Core.Path.{◌≡◌, refl, sym, ap, ◌∙◌, subst}
use mathlib.Core.Bool.{Bool, true, false, ◌&&◌, cond, beq, false≢true, true≢false}
use mathlib.Core.List.{List}
use mathlib.Core.Logic.{◌⊎◌, inl, inr}
use native.Mathlib.Omega.{arith}
use native.Mathlib.Nat.{zero-add}
use lib.Dec.{leb}
use borrow.Author.Tests.{le-leb, leb-true}
use Rattle.lists.proofs.Bools.{eq-of-beq, eq-of-iff}
use Rattle.lists.proofs.Numbers.{lt-or-le, eq-or-ne}
use Rattle.shape.specs.Shape.{total}
use Rattle.split.specs.Bits.{split_bit}
use Rattle.region.specs.Strings.{same_bits}
use Rattle.region.specs.Sets.{before}
use Rattle.region.proofs.StringLaws.{same_bits-ext, same_bits-refl, bit-of-same_bits}
use Rattle.key_order.specs.Order.{common_bits, first_step}
use Rattle.key_order.proofs.CommonLaws.{beq-eq, beq-ne, before-differ}

bit-cases : (α γ : Bool) → (α ≡ γ) ⊎ (α ≡ γ → ⊥)
bit-cases α γ = go (beq α γ) refl
  where
    go : (β : Bool) → beq α γ ≡ β → (α ≡ γ) ⊎ (α ≡ γ → ⊥)
    go true e = inl (sym (eq-of-beq α γ e))
    go false e = inr (λ s. let z : true ≡ false = sym (beq-eq α γ s) ∙ e in absurd (true≢false z))

-- ---- two strings

module _ (p q : ℕ → Bool) where
  common-next : (n t : ℕ) → p t ≡ q t → common_bits p q (suc n) t ≡ suc (common_bits p q n (suc t))
  common-next n t e = rw (beq-eq (p t) (q t) e)

  common-here : (n t : ℕ) → (p t ≡ q t → ⊥) → common_bits p q (suc n) t ≡ 0
  common-here n t d = rw (beq-ne (p t) (q t) d)

  -- the bits in common, and the one that differs
  pub bit-common : (n t s : ℕ) → t ≤ s → s < t + common_bits p q n t → p s ≡ q s
  bit-common zero t s h l = absurd (omega arith)
  bit-common (suc n) t s h l =
      go (bit-cases (p t) (q t)) (eq-or-ne s t) (λ h' l'. bit-common n (suc t) s h' l')
    where
      go : (p t ≡ q t) ⊎ (p t ≡ q t → ⊥) → (s ≡ t) ⊎ (s ≡ t → ⊥)
          → (suc t ≤ s → s < suc t + common_bits p q n (suc t) → p s ≡ q s) → p s ≡ q s
      go (inl e) (inl same) ih = rw same e
      go (inl e) (inr other) ih = ih (omega arith) (omega (arith, common-next n t e))
      go (inr d) same ih = absurd (omega (arith, common-here n t d))

  pub bit-differs : (n t : ℕ) → common_bits p q n t < n
      → p (t + common_bits p q n t) ≡ q (t + common_bits p q n t) → ⊥
  bit-differs zero t h e = absurd (omega arith)
  bit-differs (suc n) t h e = go (bit-cases (p t) (q t)) (bit-differs n (suc t))
    where
      go : (p t ≡ q t) ⊎ (p t ≡ q t → ⊥)
          → (common_bits p q n (suc t) < n
          → p (suc t + common_bits p q n (suc t)) ≡ q (suc t + common_bits p q n (suc t)) → ⊥) → ⊥
      go (inl same) ih =
          let next = common-next n t same in
          let step : t + common_bits p q (suc n) t ≡ suc t + common_bits p q n (suc t) = omega (arith, next) in
          ih (omega arith) (subst (λ s. p s ≡ q s) step e)
      go (inr d) ih =
          let step : t + common_bits p q (suc n) t ≡ t = omega (arith, common-here n t d) in
          d (subst (λ s. p s ≡ q s) step e)

  -- strings share their bits as far as they have them in common
  pub same_bits-common_bits : (m n t : ℕ) → m ≤ n → same_bits p q m t ≡ leb m (common_bits p q n t)
  same_bits-common_bits m n t h = eq-of-iff _ _ to from
    where
      to : same_bits p q m t ≡ true → leb m (common_bits p q n t) ≡ true
      to e = le-leb _ _ (go (lt-or-le (common_bits p q n t) m))
        where
          go : (common_bits p q n t < m) ⊎ (m ≤ common_bits p q n t) → m ≤ common_bits p q n t
          go (inl l) =
              absurd
              (bit-differs n t (omega arith)
              (sym (bit-of-same_bits p q m t e (t + common_bits p q n t) (omega arith) (omega arith))))
          go (inr l) = l

      from : leb m (common_bits p q n t) ≡ true → same_bits p q m t ≡ true
      from e =
          let l : m ≤ common_bits p q n t = leb-true _ _ e in
          same_bits-ext p q q m t (λ s a b. bit-common n t s a (omega arith)) ∙ same_bits-refl q m t

-- ---- three strings in split order

-- α, γ, δ are the bits of x, y, z; m and m' say that x stands before y and y before z by the bits that follow
between_step : (α γ δ m m' s s' : Bool) → (m ≡ true → m' ≡ true → s ≡ true → s' ≡ true)
    → cond (beq α γ) m γ ≡ true → cond (beq γ δ) m' δ ≡ true → (beq α δ && s) ≡ true
    → (beq α γ && s') ≡ true
between_step true true true m m' s s' h a b e = h a b e
between_step true true false m m' s s' h a b e = absurd (false≢true e)
between_step true false δ m m' s s' h a b e = absurd (false≢true a)
between_step false true true m m' s s' h a b e = absurd (false≢true e)
between_step false true false m m' s s' h a b e = absurd (false≢true b)
between_step false false true m m' s s' h a b e = absurd (false≢true e)
between_step false false false m m' s s' h a b e = h a b e

-- what stands between two records has the bits that they share
pub same_bits-between : {R : Type 0} (bit : R → ℕ → Bool) (m n t : ℕ) (x y z : R) → m ≤ n → before bit n t x y ≡ true
    → before bit n t y z ≡ true → same_bits (bit x) (bit z) m t ≡ true → same_bits (bit x) (bit y) m t ≡ true
same_bits-between bit zero n t x y z h a b e = refl
same_bits-between bit (suc m) zero t x y z h a b e = absurd (omega arith)
same_bits-between bit (suc m) (suc n) t x y z h a b e =
    between_step (bit x t) (bit y t) (bit z t) _ _ _ _ (same_bits-between bit m n (suc t) x y z (omega arith)) a b e

-- ---- keys

module _ (ws x y : List ℕ) where
  pub split_bit-before : (t : ℕ) → t < first_step ws x y → split_bit ws x t ≡ split_bit ws y t
  unfolding first_step
  split_bit-before t l = bit-common (split_bit ws x) (split_bit ws y) (total ws) 0 t (omega arith) (omega arith)

  pub split_bit-differs : first_step ws x y < total ws
      → split_bit ws x (first_step ws x y) ≡ split_bit ws y (first_step ws x y) → ⊥
  unfolding first_step
  split_bit-differs l e =
      bit-differs (split_bit ws x) (split_bit ws y) (total ws) 0 l
      (subst (λ s. split_bit ws x s ≡ split_bit ws y s) (sym (zero-add _)) e)

  -- keys share their first n split bits exactly if they do not differ before step n
  pub same_bits-first_step : (n : ℕ) → n ≤ total ws
      → same_bits (split_bit ws x) (split_bit ws y) n 0 ≡ leb n (first_step ws x y)
  unfolding first_step
  same_bits-first_step n h = same_bits-common_bits (split_bit ws x) (split_bit ws y) n (total ws) 0 h

  -- the key with bit 0 there stands before the other
  pub before-first_step : first_step ws x y < total ws
      → before (split_bit ws) (total ws) 0 x y ≡ split_bit ws y (first_step ws x y)
  before-first_step l =
      before-differ (split_bit ws) x y (total ws) 0 (first_step ws x y) l
      (λ u h. split_bit-before (0 + u) (omega arith))
      (λ e. split_bit-differs l (subst (λ s. split_bit ws x s ≡ split_bit ws y s) (zero-add _) e))
      ∙ ap (split_bit ws y) (zero-add _)
