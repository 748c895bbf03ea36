-- Laws of tests: cases, conjunctions that hold, tests that agree, equal and unequal bits. Assumes nothing.
use Prim.Native.Nat.{ℕ, ◌≤◌}
use mathlib.Core.Path.{◌≡◌, refl, sym}
use mathlib.Core.Bool.{Bool, true, false, not, ◌&&◌, cond, beq, false≢true}
use lib.Dec.{leb}
use borrow.Author.Tests.{leb-true, le-leb}

-- ---- cases

-- what holds of either value, where the test says which
pub cond_cases : {A : Type 0} (P : A → Type 0) (β : Bool) (x y : A) → (β ≡ true → P x) → (β ≡ false → P y)
    → P (cond β x y)
cond_cases P true x y h k = h refl
cond_cases P false x y h k = k refl

-- ---- conjunctions

pub and_split : (a b : Bool) → (a && b) ≡ true → (a ≡ true) × (b ≡ true)
and_split true b e = (refl, e)
and_split false b e = absurd (false≢true e)

pub and_both : (a b : Bool) → a ≡ true → b ≡ true → (a && b) ≡ true
and_both a b h k = rw (h, k)

-- ---- tests that agree

-- two tests, either of which passes where the other does
pub eq-of-iff : (a b : Bool) → (a ≡ true → b ≡ true) → (b ≡ true → a ≡ true) → a ≡ b
eq-of-iff true true h k = refl
eq-of-iff true false h k = absurd (false≢true (h refl))
eq-of-iff false true h k = k refl
eq-of-iff false false h k = refl

-- a test that passes only where another does
pub and-only : (a t b : Bool) → (a ≡ true → t ≡ true) → (t ≡ true → a ≡ b) → a ≡ (t && b)
and-only a true b h k = k refl
and-only true false b h k = sym (h refl)
and-only false false b h k = refl

-- `ltb a b` is `leb (suc a) b`
pub leb-iff : (a b c d : ℕ) → (a ≤ b → c ≤ d) → (c ≤ d → a ≤ b) → leb a b ≡ leb c d
leb-iff a b c d h k = eq-of-iff _ _ (λ e. le-leb c d (h (leb-true a b e))) (λ e. le-leb a b (k (leb-true c d e)))

-- ---- equal bits

pub beq-refl : (β : Bool) → beq β β ≡ true
beq-refl true = refl
beq-refl false = refl

pub beq-not : (β : Bool) → beq β (not β) ≡ false
beq-not true = refl
beq-not false = refl

pub beq-comm : (α β : Bool) → beq α β ≡ beq β α
beq-comm true true = refl
beq-comm true false = refl
beq-comm false true = refl
beq-comm false false = refl

-- the bit that is tested against β
pub eq-of-beq : (β α : Bool) → beq β α ≡ true → α ≡ β
eq-of-beq true true e = refl
eq-of-beq true false e = e
eq-of-beq false true e = absurd (false≢true e)
eq-of-beq false false e = refl

pub beq-of-eq : (β α : Bool) → α ≡ β → beq β α ≡ true
beq-of-eq β α e = rw e (beq-refl β)

pub beq-true : (α : Bool) → beq true α ≡ not (beq false α)
beq-true true = refl
beq-true false = refl
