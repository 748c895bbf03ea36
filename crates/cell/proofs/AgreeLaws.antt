-- Laws of strings whose first bits agree, of a string cut off and of one with a bit set. Assumes nothing.
use Prim.Native.Nat.{ℕ, suc, ◌≤◌, ◌<◌}
use mathlib.Core.Path.{◌≡◌, sym, ◌∙◌, subst}
use mathlib.Core.Bool.{Bool, false, cond}
use mathlib.Core.Logic.{◌⊎◌, inl, inr}
use native.Mathlib.Omega.{arith}
use native.Mathlib.Nat.{le_trans}
use lib.Dec.{ltb}
use borrow.Author.Tests.{lt-ltb, le-ltb}
use Rattle.lists.proofs.Numbers.{lt-or-le}
use Rattle.region.specs.Strings.{with_bit}
use Rattle.region.proofs.StringLaws.{with_bit-other}
use Rattle.cell.specs.Cell.{Agree}

-- the first t bits, then zeros
abbrev pub cut : ℕ → (ℕ → Bool) → ℕ → Bool
cut t p s = cond (ltb s t) (p s) false

pub agree-cut : (t : ℕ) (p : ℕ → Bool) → Agree t (cut t p) p
agree-cut t p s l = rw (lt-ltb s t l)

pub cut-past : (t : ℕ) (p : ℕ → Bool) (s : ℕ) → t ≤ s → cut t p s ≡ false
cut-past t p s l = rw (le-ltb s t l)

pub agree-sym : (t : ℕ) (p q : ℕ → Bool) → Agree t p q → Agree t q p
agree-sym t p q a s l = sym (a s l)

pub agree_trans : (t : ℕ) (p q r : ℕ → Bool) → Agree t p q → Agree t q r → Agree t p r
agree_trans t p q r a b s l = a s l ∙ b s l

pub agree-le : (t u : ℕ) (p q : ℕ → Bool) → t ≤ u → Agree u p q → Agree t p q
agree-le t u p q h a s l = a s (le_trans l h)

pub agree-suc : (t : ℕ) (p q : ℕ → Bool) → Agree t p q → p t ≡ q t → Agree (suc t) p q
agree-suc t p q a e s l = go (lt-or-le s t)
  where
    go : (s < t) ⊎ (t ≤ s) → p s ≡ q s
    go (inl m) = a s m
    go (inr m) = let d : t ≡ s = omega arith in subst (λ n. p n ≡ q n) d e

pub agree-with_bit : (p : ℕ → Bool) (t : ℕ) (β : Bool) → Agree t (with_bit p t β) p
agree-with_bit p t β s l = with_bit-other p t β s (λ e. omega arith)
