-- Laws of how many pages the rows let a walk note. Assumes nothing.
use Prim.Native.Nat.{ℕ, zero, suc, ◌+◌, ◌*◌, ◌-◌, ◌^◌, ◌≤◌, ◌<◌}
use mathlib.Core.Path.{◌≡◌, sym, ap, ◌∙◌, subst}
use mathlib.Core.Bool.{Bool, true, false, cond}
use mathlib.Core.List.{List}
use native.Mathlib.Omega.{arith}
use native.Mathlib.Nat.{pow-suc, le_trans, mul-one, mul-le-mul_left, mul-le-mul_right}
use lib.Dec.{ltb}
use borrow.Author.Tests.{lt-ltb, le-ltb}
use Rattle.query_rows.specs.Rows.{most_pages, wanted_bit_in}

-- the sides of a step that are entered
abbrev entered : List ℕ → ℕ → ℕ
entered rows x = cond (ltb 1 (wanted_bit_in rows x)) 2 1

entered-bounds : (rows : List ℕ) (x : ℕ) → (1 ≤ entered rows x) × (entered rows x ≤ 2)
entered-bounds rows x = go (ltb 1 (wanted_bit_in rows x))
  where
    go : (β : Bool) → (1 ≤ cond β 2 1) × (cond β 2 1 ≤ 2)
    go true = (omega arith, omega arith)
    go false = (omega arith, omega arith)

pub most_pages-next : (rows : List ℕ) (f x : ℕ) → most_pages rows f (x + 1) ≤ most_pages rows (suc f) x
unfolding most_pages
most_pages-next rows f x =
    subst (λ n. n ≤ most_pages rows (suc f) x) (mul-one (most_pages rows f (x + 1)))
    (mul-le-mul_left (most_pages rows f (x + 1)) (entered-bounds rows x).0)

-- both sides
pub most_pages-free : (rows : List ℕ) (f x : ℕ) → (wanted_bit_in rows x ≡ 0 → ⊥) → (wanted_bit_in rows x ≡ 1 → ⊥)
    → most_pages rows (suc f) x ≡ most_pages rows f (x + 1) * 2
unfolding most_pages
most_pages-free rows f x n0 n1 =
    let more : 1 < wanted_bit_in rows x = omega arith in
    rw (lt-ltb 1 (wanted_bit_in rows x) more)

pub most_pages-pos : (rows : List ℕ) (f x : ℕ) → 1 ≤ most_pages rows f x
unfolding most_pages
most_pages-pos rows zero x = omega arith
most_pages-pos rows (suc f) x = le_trans (most_pages-pos rows f (x + 1)) (most_pages-next rows f x)

pub most_pages-le : (rows : List ℕ) (f x : ℕ) → most_pages rows f x ≤ 2 ^ f
unfolding most_pages
most_pages-le rows zero x = omega arith
most_pages-le rows (suc f) x =
    rw pow-suc
    (le_trans (mul-le-mul_left (most_pages rows f (x + 1)) (entered-bounds rows x).1)
    (mul-le-mul_right 2 (most_pages-le rows f (x + 1))))

-- counted from depth T down: one step more
module _ (rows : List ℕ) (T x most : ℕ) (above : 0 < x) (deep : x ≤ T) (e : most ≡ most_pages rows (T - x) x) where
  most_pages-down : most_pages rows (T - (x - 1)) (x - 1) ≡ most * entered rows (x - 1)
  unfolding most_pages
  most_pages-down =
      let fuel : T - (x - 1) ≡ suc (T - x) = omega arith in
      let next : x - 1 + 1 ≡ x = omega arith in
      ap (λ f. most_pages rows f (x - 1)) fuel
      ∙ ap (λ y. most_pages rows (T - x) y * entered rows (x - 1)) next
      ∙ ap (λ n. n * entered rows (x - 1)) (sym e)

  pub counted-free : 1 < wanted_bit_in rows (x - 1) → most * 2 ≡ most_pages rows (T - (x - 1)) (x - 1)
  counted-free h = sym (most_pages-down ∙ rw (lt-ltb 1 (wanted_bit_in rows (x - 1)) h))

  pub counted-given : wanted_bit_in rows (x - 1) ≤ 1 → most ≡ most_pages rows (T - (x - 1)) (x - 1)
  counted-given h =
      sym (most_pages-down ∙ rw (le-ltb 1 (wanted_bit_in rows (x - 1)) h) (mul-one most))
