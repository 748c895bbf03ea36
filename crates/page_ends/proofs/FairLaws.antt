-- Laws of the count of a page that a leaf can have: one for each way that the test ends; what a count other than 0
-- tells. Assumes nothing.
use Prim.Native.Nat.{ℕ, zero, suc, ◌≤◌, ◌<◌}
use mathlib.Core.Path.{◌≡◌, refl, sym}
use mathlib.Core.Bool.{Bool, true, false, ◌&&◌, cond}
use mathlib.Core.List.{List}
use native.Mathlib.Omega.{arith}
use lib.Dec.{leb}
use borrow.Author.Tests.{le-leb, lt-leb, leb-true}
use Rattle.std.specs.Prelude.{Some, None}
use Rattle.std.proofs.lemmas.Option.{none-some, same_Some}
use Rattle.lists.proofs.Bools.{and_split}
use Rattle.shape.specs.Shape.{within}
use Rattle.page.specs.Page.{count_of}
use Rattle.page_ends.specs.Fair.{fair_count, positive}

-- ---- by case

module _ (b : ℕ) (own : Bool) (page : List ℕ) (n : ℕ) (e : n ≡ count_of page) where
  pub fair_count-none : n ≡ 0 → 0 ≡ fair_count b own page
  unfolding fair_count
  fair_count-none z = rw (← e, z)

  pub fair_count-many : b < n → 0 ≡ fair_count b own page
  unfolding fair_count
  fair_count-many h = rw (← e, le-leb 1 n (omega arith), lt-leb n b h)

  module _ (some : n ≡ 0 → ⊥) (few : n ≤ b) where
    -- the page of another leaf
    pub fair_count-other : own ≡ false → 0 ≡ fair_count b own page
    unfolding fair_count
    fair_count-other o = rw (← e, le-leb 1 n (omega arith), le-leb n b few, o)

    pub fair_count-own : own ≡ true → n ≡ fair_count b own page
    unfolding fair_count
    fair_count-own o = rw (← e, le-leb 1 n (omega arith), le-leb n b few, o)

-- ---- a count other than 0

pub record Fair (b : ℕ) (own : Bool) (page : List ℕ) (n : ℕ) : Type 0 where
  pub counted : n ≡ count_of page
  pub some : 1 ≤ n
  pub few : n ≤ b
  pub owned : own ≡ true

pub fair-of-count : (b : ℕ) (own : Bool) (page : List ℕ) (n : ℕ) → n ≡ fair_count b own page → (n ≡ 0 → ⊥)
    → Fair b own page n
unfolding fair_count
fair-of-count b own page n e not-zero = go (within 1 b (count_of page) && own) refl e
  where
    go : (β : Bool) → (within 1 b (count_of page) && own) ≡ β → n ≡ cond β (count_of page) 0 → Fair b own page n
    go false t c = absurd (not-zero c)
    go true t c =
        let count : n ≡ count_of page = c in
        let parts = and_split (within 1 b (count_of page)) own t in
        let bounds = and_split (leb 1 (count_of page)) (leb (count_of page) b) parts.0 in
        record {
          counted = count;
          some = omega (arith, count, leb-true 1 (count_of page) bounds.0);
          few = omega (arith, count, leb-true (count_of page) b bounds.1);
          owned = parts.1;
        }

-- ---- as an option

pub positive-some : (n : ℕ) → (n ≡ 0 → ⊥) → Some n ≡ positive n
positive-some zero some = absurd (some refl)
positive-some (suc n) some = refl

pub some-positive : (n m : ℕ) → Some n ≡ positive m → (n ≡ m) × (n ≡ 0 → ⊥)
some-positive n zero e = absurd (none-some n (sym e))
some-positive n (suc m) e =
    let same : n ≡ suc m = same_Some n (suc m) e in
    (same, λ z. absurd (omega (arith, same, z)))

pub none-positive : (m : ℕ) → None ≡ positive m → 0 ≡ m
none-positive zero e = refl
none-positive (suc m) e = absurd (none-some (suc m) e)
