-- Laws of free pages: turns of the search for the first, what it finds, and one sought from a page on. Assumes nothing.
use Prim.Native.Nat.{ℕ, zero, suc, ◌+◌, ◌-◌, ◌≤◌, ◌<◌}
use mathlib.Core.Path.{◌≡◌, refl, ap, ◌∙◌}
use mathlib.Core.Bool.{Bool, true, false, cond}
use mathlib.Core.List.{List}
use mathlib.Core.Logic.{◌⊎◌, inl, inr}
use native.Mathlib.Numerals.{add-one}
use native.Mathlib.Omega.{arith}
use lib.Dec.{eqb}
use borrow.Author.Tests.{ne_eqb, eqb-true, eqb-false, lt-ltb, le-ltb}
use Rattle.lists.proofs.Numbers.{lt-or-le}
use Rattle.page.specs.Page.{count_of, page_at}
use Rattle.pages.specs.Pages.{first_free, free_page}

module _ (b : ℕ) (bytes : List ℕ) where
  abbrev count_at : ℕ → ℕ
  count_at g = count_of (page_at b bytes g)

  -- ---- at page g of n

  pub first_free-end : (n g : ℕ) → n ≤ g → first_free b bytes (n - g) g ≡ g
  unfolding first_free
  first_free-end n g h = let e : n - g ≡ 0 = omega arith in rw e

  pub first_free-here : (n g : ℕ) → g < n → count_at g ≡ 0 → first_free b bytes (n - g) g ≡ g
  unfolding first_free
  first_free-here n g h z = let e : n - g ≡ suc (n - suc g) = omega arith in rw (e, z)

  pub first_free-next : (n g : ℕ) → g < n → (count_at g ≡ 0 → ⊥)
      → first_free b bytes (n - g) g ≡ first_free b bytes (n - (g + 1)) (g + 1)
  unfolding first_free
  first_free-next n g h z =
      let e : n - g ≡ suc (n - suc g) = omega arith in
      rw (add-one g, e, ne_eqb (count_at g) 0 z)

  -- ---- what is found among the k pages from g on

  pub first_free-le : (k g : ℕ) → first_free b bytes k g ≤ g + k
  unfolding first_free
  first_free-le zero g = omega arith
  first_free-le (suc k) g = go (eqb (count_at g) 0) (first_free-le k (suc g))
    where
      go : (β : Bool) → first_free b bytes k (suc g) ≤ suc g + k → cond β g (first_free b bytes k (suc g)) ≤ g + suc k
      go true ih = omega arith
      go false ih = omega arith

  first_free-ge : (k g : ℕ) → g ≤ first_free b bytes k g
  unfolding first_free
  first_free-ge zero g = omega arith
  first_free-ge (suc k) g = go (eqb (count_at g) 0) (first_free-ge k (suc g))
    where
      go : (β : Bool) → suc g ≤ first_free b bytes k (suc g) → g ≤ cond β g (first_free b bytes k (suc g))
      go true ih = omega arith
      go false ih = omega arith

  -- no page before it is free
  pub count_of-before-first_free : (k g i : ℕ) → g ≤ i → i < first_free b bytes k g → count_at i ≡ 0 → ⊥
  unfolding first_free
  count_of-before-first_free zero g i h l z = omega arith
  count_of-before-first_free (suc k) g i h l z = go (eqb (count_at g) 0) refl l (count_of-before-first_free k (suc g) i)
    where
      go : (β : Bool) → eqb (count_at g) 0 ≡ β → i < cond β g (first_free b bytes k (suc g))
          → (suc g ≤ i → i < first_free b bytes k (suc g) → count_at i ≡ 0 → ⊥) → ⊥
      go true e l ih = omega arith
      go false e l ih =
          let ne : g ≡ i → ⊥ = λ q. eqb-false (count_at g) 0 e (ap (λ y. count_at y) q ∙ z) in
          ih (omega arith) l z

  -- it is free where it is one of the pages
  pub count_of-first_free : (k g : ℕ) → first_free b bytes k g < g + k → count_at (first_free b bytes k g) ≡ 0
  unfolding first_free
  count_of-first_free zero g l = absurd (omega arith)
  count_of-first_free (suc k) g l = go (eqb (count_at g) 0) refl l (count_of-first_free k (suc g))
    where
      go : (β : Bool) → eqb (count_at g) 0 ≡ β → cond β g (first_free b bytes k (suc g)) < g + suc k
          → (first_free b bytes k (suc g) < suc g + k → count_at (first_free b bytes k (suc g)) ≡ 0)
          → count_at (cond β g (first_free b bytes k (suc g))) ≡ 0
      go true e l ih = eqb-true (count_at g) 0 e
      go false e l ih = ih (omega arith)

  -- ---- a free one of the first n, sought from a page on

  module _ (n start : ℕ) where
    pub free_page-from : first_free b bytes (n - start) start < n
        → free_page b bytes n start ≡ first_free b bytes (n - start) start
    unfolding free_page
    free_page-from l = rw (lt-ltb (first_free b bytes (n - start) start) n l)

    pub free_page-first : n ≤ first_free b bytes (n - start) start → free_page b bytes n start ≡ first_free b bytes n 0
    unfolding free_page
    free_page-first l = rw (le-ltb (first_free b bytes (n - start) start) n l)

    abbrev found : ℕ
    found = first_free b bytes (n - start) start

    pub free_page-le : free_page b bytes n start ≤ n
    free_page-le = go (lt-or-le found n)
      where
        go : (found < n) ⊎ (n ≤ found) → free_page b bytes n start ≤ n
        go (inl l) = omega (arith, free_page-from l)
        go (inr l) = omega (arith, free_page-first l, first_free-le n 0)

    -- it is free where it is one of the pages
    pub count_of-free_page : free_page b bytes n start < n → count_at (free_page b bytes n start) ≡ 0
    count_of-free_page h = go (lt-or-le found n)
      where
        go : (found < n) ⊎ (n ≤ found) → count_at (free_page b bytes n start) ≡ 0
        go (inl l) =
            ap (λ g. count_at g) (free_page-from l)
            ∙ count_of-first_free (n - start) start (omega (arith, l, first_free-ge (n - start) start))
        go (inr l) = ap (λ g. count_at g) (free_page-first l) ∙ count_of-first_free n 0 (omega (arith, free_page-first l))

    -- none is free where it is none of them
    pub free_page-none : free_page b bytes n start ≡ n → (i : ℕ) → i < n → count_at i ≡ 0 → ⊥
    free_page-none e i h = go (lt-or-le found n)
      where
        go : (found < n) ⊎ (n ≤ found) → count_at i ≡ 0 → ⊥
        go (inl l) = absurd (omega (arith, free_page-from l))
        go (inr l) = count_of-before-first_free n 0 i (omega arith) (omega (arith, free_page-first l))
