-- Laws of two strings that agree in c bits and then differ, or agree in all: the bits they have in common, equality,
-- and split order. Assumes nothing.
use Prim.Native.Nat.{ℕ, zero, suc, ◌+◌, ◌<◌}
use mathlib.Core.Path.{◌≡◌, refl, sym, ap, ◌∙◌, subst}
use mathlib.Core.Bool.{Bool, true, false, beq, and-false}
use native.Mathlib.Nat.{add-zero}
use native.Mathlib.Omega.{arith}
use Rattle.lists.proofs.Bools.{beq-refl}
use Rattle.region.specs.Strings.{same_bits}
use Rattle.region.specs.Sets.{before}
use Rattle.key_order.specs.Order.{common_bits}

pub beq-ne : (α β : Bool) → (α ≡ β → ⊥) → beq α β ≡ false
beq-ne true true n = absurd (n refl)
beq-ne true false n = refl
beq-ne false true n = refl
beq-ne false false n = absurd (n refl)

pub beq-eq : (α β : Bool) → α ≡ β → beq α β ≡ true
beq-eq α β e = rw e (beq-refl β)

module _ (p q : ℕ → Bool) where
  -- the bits from t on agree, m of them
  abbrev pub AgreeFrom : ℕ → ℕ → Type 0
  AgreeFrom m t = (u : ℕ) → u < m → p (t + u) ≡ q (t + u)

  agree-here : (m t : ℕ) → AgreeFrom (suc m) t → beq (p t) (q t) ≡ true
  agree-here m t h = beq-eq (p t) (q t) (subst (λ u. p u ≡ q u) (add-zero t) (h 0 (omega arith)))

  agree-next : (m t : ℕ) → AgreeFrom (suc m) t → AgreeFrom m (suc t)
  agree-next m t h u l =
      let e : t + suc u ≡ suc t + u = omega arith in
      subst (λ v. p v ≡ q v) e (h (suc u) (omega arith))

  -- and the bit c from t on differs
  abbrev pub DifferAt : ℕ → Type 0
  DifferAt t = p t ≡ q t → ⊥

  differ-here : (t : ℕ) → DifferAt (t + 0) → beq (p t) (q t) ≡ false
  differ-here t n = beq-ne (p t) (q t) (subst (λ u. p u ≡ q u → ⊥) (add-zero t) n)

  differ-next : (t c : ℕ) → DifferAt (t + suc c) → DifferAt (suc t + c)
  differ-next t c n = let e : t + suc c ≡ suc t + c = omega arith in subst (λ u. p u ≡ q u → ⊥) e n

  -- ---- bits in common

  pub common_bits-all : (n t : ℕ) → AgreeFrom n t → common_bits p q n t ≡ n
  common_bits-all zero t h = refl
  common_bits-all (suc n) t h = rw (agree-here n t h) (ap suc (common_bits-all n (suc t) (agree-next n t h)))

  pub common_bits-differ : (n t c : ℕ) → c < n → AgreeFrom c t → DifferAt (t + c) → common_bits p q n t ≡ c
  common_bits-differ zero t c l h d = absurd (omega arith)
  common_bits-differ (suc n) t zero l h d = rw (differ-here t d)
  common_bits-differ (suc n) t (suc c) l h d =
      rw (agree-here c t h)
      (ap suc (common_bits-differ n (suc t) c (omega arith) (agree-next c t h) (differ-next t c d)))

  -- ---- equality

  pub same_bits-all : (n t : ℕ) → AgreeFrom n t → same_bits p q n t ≡ true
  same_bits-all zero t h = refl
  same_bits-all (suc n) t h = rw (agree-here n t h) (same_bits-all n (suc t) (agree-next n t h))

  pub same_bits-differ : (n t c : ℕ) → c < n → DifferAt (t + c) → same_bits p q n t ≡ false
  same_bits-differ zero t c l d = absurd (omega arith)
  same_bits-differ (suc n) t zero l d = rw (differ-here t d)
  same_bits-differ (suc n) t (suc c) l d =
      rw (same_bits-differ n (suc t) c (omega arith) (differ-next t c d)) (and-false (beq (p t) (q t)))

-- ---- split order

module _ {R : Type 0} (bit : R → ℕ → Bool) (x y : R) where
  pub before-differ : (n t c : ℕ) → c < n → AgreeFrom (bit x) (bit y) c t → DifferAt (bit x) (bit y) (t + c)
      → before bit n t x y ≡ bit y (t + c)
  before-differ zero t c l h d = absurd (omega arith)
  before-differ (suc n) t zero l h d = rw (differ-here (bit x) (bit y) t d) (ap (bit y) (sym (add-zero t)))
  before-differ (suc n) t (suc c) l h d =
      let e : suc t + c ≡ t + suc c = omega arith in
      rw (agree-here (bit x) (bit y) c t h)
      (before-differ n (suc t) c (omega arith) (agree-next (bit x) (bit y) c t h) (differ-next (bit x) (bit y) t c d)
      ∙ ap (bit y) e)
