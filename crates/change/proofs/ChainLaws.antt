-- A chain of divisions along a string: where another string leaves it, and the leaf that it then leads to. Assumes
-- nothing.
use Prim.Native.Nat.{ℕ, zero, suc, ◌+◌, ◌≤◌, ◌<◌}
use mathlib.Core.Path.{◌≡◌, refl, sym, ◌∙◌}
use mathlib.Core.Bool.{Bool, true, false, false≢true, true≢false}
use mathlib.Core.List.{[]}
use mathlib.Core.Logic.{◌⊎◌, inl, inr}
use native.Mathlib.Omega.{arith}
use native.Mathlib.Nat.{zero-add}
use Rattle.lists.proofs.Numbers.{eq-or-ne}
use Rattle.cell.specs.Cell.{Agree}
use Rattle.cell.proofs.AgreeLaws.{agree-suc}
use Rattle.region.specs.Division.{Division, leaf, leaf_depth, leaf_records}
use Rattle.region.proofs.DivideLaws.{divided_at, divided_along}
use Rattle.change.specs.Divided.{Leaves}

-- ---- strings

bit-or-not : (α β : Bool) → (α ≡ β) ⊎ (α ≡ β → ⊥)
bit-or-not true true = inl refl
bit-or-not true false = inr true≢false
bit-or-not false true = inr false≢true
bit-or-not false false = inl refl

-- q leaves p below m, or not
pub agree-or-leaves : (p q : ℕ → Bool) (n x m : ℕ) → x + n ≡ m → Agree x p q
    → Agree m p q ⊎ ((z : ℕ) × (x ≤ z) × (z < m) × Leaves p q z)
agree-or-leaves p q zero x m e a = let x≡ : x ≡ m = omega arith in inl (rw x≡ at a)
agree-or-leaves p q (suc n) x m e a = by_bit (bit-or-not (p x) (q x)) (agree-or-leaves p q n (suc x) m (omega arith))
  where
    deeper : Agree m p q ⊎ ((z : ℕ) × (suc x ≤ z) × (z < m) × Leaves p q z)
        → Agree m p q ⊎ ((z : ℕ) × (x ≤ z) × (z < m) × Leaves p q z)
    deeper (inl h) = inl h
    deeper (inr h) = inr (h.0, omega (arith, h.1), h.2, h.3)

    by_bit : (p x ≡ q x) ⊎ (p x ≡ q x → ⊥)
        → (Agree (suc x) p q → Agree m p q ⊎ ((z : ℕ) × (suc x ≤ z) × (z < m) × Leaves p q z))
        → Agree m p q ⊎ ((z : ℕ) × (x ≤ z) × (z < m) × Leaves p q z)
    by_bit (inl d) ih = deeper (ih (agree-suc x p q a d))
    by_bit (inr n) ih = inr (x, omega arith, omega arith, record { agree = a; differ = n })

-- strings that leave p in one bit have that bit too
pub agree-of-leaves : (p q q' : ℕ → Bool) (z : ℕ) → Leaves p q z → Leaves p q' z → Agree (suc z) q q'
agree-of-leaves p q q' z h k =
    agree-suc z q q' (λ i l. sym (h.agree i l) ∙ k.agree i l) (other (p z) (q z) (q' z) h.differ k.differ)
  where
    other : (α β γ : Bool) → (α ≡ β → ⊥) → (α ≡ γ → ⊥) → β ≡ γ
    other true true γ a b = absurd (a refl)
    other true false true a b = absurd (b refl)
    other true false false a b = refl
    other false true true a b = refl
    other false true false a b = absurd (b refl)
    other false false γ a b = absurd (a refl)

-- ---- the leaf that a string leads to

module _ {R : Type 0} (p q : ℕ → Bool) (D : Division R) where
  -- on the other side, or on p's
  divided_at-other : (t : ℕ) (E : Division R) → (p t ≡ q t → ⊥)
      → (leaf_depth q t (divided_at (p t) E (leaf [])) ≡ 1) × (leaf_records q t (divided_at (p t) E (leaf [])) ≡ [])
  divided_at-other t E n = by_bits (p t) (q t) refl refl
    where
      by_bits : (α β : Bool) → p t ≡ α → q t ≡ β
          → (leaf_depth q t (divided_at (p t) E (leaf [])) ≡ 1) × (leaf_records q t (divided_at (p t) E (leaf [])) ≡ [])
      by_bits true true d e = absurd (n (d ∙ sym e))
      by_bits true false d e = rw (d, e) (refl, refl)
      by_bits false true d e = rw (d, e) (refl, refl)
      by_bits false false d e = absurd (n (d ∙ sym e))

  divided_at-same : (t : ℕ) (E : Division R) → p t ≡ q t
      → (leaf_depth q t (divided_at (p t) E (leaf [])) ≡ suc (leaf_depth q (suc t) E))
      × (leaf_records q t (divided_at (p t) E (leaf [])) ≡ leaf_records q (suc t) E)
  divided_at-same t E d = by_bit (q t) refl
    where
      by_bit : (β : Bool) → q t ≡ β
          → (leaf_depth q t (divided_at (p t) E (leaf [])) ≡ suc (leaf_depth q (suc t) E))
          × (leaf_records q t (divided_at (p t) E (leaf [])) ≡ leaf_records q (suc t) E)
      by_bit true e = rw (d ∙ e, e) (refl, refl)
      by_bit false e = rw (d ∙ e, e) (refl, refl)

  -- q leaves p in bit z of the chain: an empty sibling
  pub divided_along-sibling : (n t z : ℕ) → t ≤ z → z < t + n → Leaves p q z
      → (t + leaf_depth q t (divided_along n p t D) ≡ suc z) × (leaf_records q t (divided_along n p t D) ≡ [])
  divided_along-sibling zero t z h l k = absurd (omega arith)
  divided_along-sibling (suc n) t z h l k =
      by_order (eq-or-ne t z) (λ m. divided_along-sibling n (suc t) z m (omega arith) k)
    where
      E : Division R
      E = divided_along n p (suc t) D

      by_order : (t ≡ z) ⊎ (t ≡ z → ⊥)
          → (suc t ≤ z → (suc t + leaf_depth q (suc t) E ≡ suc z) × (leaf_records q (suc t) E ≡ []))
          → (t + leaf_depth q t (divided_at (p t) E (leaf [])) ≡ suc z)
          × (leaf_records q t (divided_at (p t) E (leaf [])) ≡ [])
      by_order (inl e) ih =
          let o = divided_at-other t E (rw (sym e) at k.differ) in (omega (arith, o.0), o.1)
      by_order (inr ne) ih =
          let o = divided_at-same t E (k.agree t (omega arith)) in
          let b = ih (omega arith) in
          (omega (arith, o.0, b.0), o.1 ∙ b.1)

  -- q has the chain's bits: the leaf that it leads to below
  pub divided_along-end : (n t m : ℕ) → t + n ≡ m → Agree m p q
      → (leaf_depth q t (divided_along n p t D) ≡ n + leaf_depth q m D)
      × (leaf_records q t (divided_along n p t D) ≡ leaf_records q m D)
  divided_along-end zero t m e a =
      let m≡ : m ≡ t = omega arith in rw m≡ (sym (zero-add (leaf_depth q t D)), refl)
  divided_along-end (suc n) t m e a =
      let o = divided_at-same t (divided_along n p (suc t) D) (a t (omega arith)) in
      let b = divided_along-end n (suc t) m (omega arith) a in
      (omega (arith, o.0, b.0), o.1 ∙ b.1)
