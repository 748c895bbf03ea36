-- Laws of what a walk sees of a leaf's word and of a region's, and of one after the other: of each the case that a
-- return of the code meets. Assumes nothing.
use Prim.Native.Nat.{ℕ, ◌-◌, ◌≤◌, ◌<◌}
use mathlib.Core.Path.{◌≡◌, refl, sym}
use mathlib.Core.Bool.{Bool, true, false, cond}
use mathlib.Core.List.{[], ◌++◌, append-nil}
use native.Mathlib.Omega.{arith}
use borrow.Author.Tests.{le-leb, eq-eqb, ne_eqb, lt-ltb, le-ltb}
use Rattle.shape.specs.Shape.{within}
use Rattle.directory_word.specs.Word.{page_field, depth_field}
use Rattle.query_seen.specs.Seen.{Seen, nothing, damaged, single, after, noted, met}

pub within-true : (b c : ℕ) → 1 ≤ c → c ≤ b → within 1 b c ≡ true
within-true b c h l = rw (le-leb 1 c h, le-leb c b l)

-- ---- a leaf's word

module _ (P : ℕ) (fair : ℕ → Bool) (word : ℕ) where
  -- its depth has no leaf in the tally
  pub noted-untold : noted P false fair word ≡ damaged
  unfolding noted
  noted-untold = refl

  pub noted-none : page_field word ≡ 0 → noted P true fair word ≡ nothing
  unfolding noted
  noted-none e = rw (eq-eqb (page_field word) 0 e)

  pub noted-past : P < page_field word → noted P true fair word ≡ damaged
  unfolding noted
  noted-past h =
      let n : page_field word ≡ 0 → ⊥ = λ e. omega arith in
      rw (ne_eqb (page_field word) 0 n, lt-ltb P (page_field word) h)

  module _ (n : page_field word ≡ 0 → ⊥) (h : page_field word ≤ P) where
    pub noted-unfair : fair (page_field word - 1) ≡ false → noted P true fair word ≡ damaged
    unfolding noted
    noted-unfair g = rw (ne_eqb (page_field word) 0 n, le-ltb P (page_field word) h, g)

    pub noted-fair : fair (page_field word - 1) ≡ true → noted P true fair word ≡ single (page_field word - 1)
    unfolding noted
    noted-fair g = rw (ne_eqb (page_field word) 0 n, le-ltb P (page_field word) h, g)

-- ---- a region's word

module _ (T x word : ℕ) (own below : Seen) where
  pub met-leaf : depth_field word ≡ x → met T x word own below ≡ own
  unfolding met
  met-leaf e = rw (eq-eqb (depth_field word) x e)

  pub met-above : depth_field word < x → met T x word own below ≡ damaged
  unfolding met
  met-above h =
      let n : depth_field word ≡ x → ⊥ = λ e. omega arith in
      rw (ne_eqb (depth_field word) x n, lt-ltb (depth_field word) x h)

  pub met-deep : x < depth_field word → T < depth_field word → met T x word own below ≡ damaged
  unfolding met
  met-deep h l =
      let n : depth_field word ≡ x → ⊥ = λ e. omega arith in
      let k : x ≤ depth_field word = omega arith in
      rw (ne_eqb (depth_field word) x n, le-ltb (depth_field word) x k, lt-ltb T (depth_field word) l)

  pub met-divided : x < depth_field word → depth_field word ≤ T → met T x word own below ≡ below
  unfolding met
  met-divided h l =
      let n : depth_field word ≡ x → ⊥ = λ e. omega arith in
      let k : x ≤ depth_field word = omega arith in
      rw (ne_eqb (depth_field word) x n, le-ltb (depth_field word) x k, le-ltb T (depth_field word) l)

-- ---- one after the other

pub after_nothing : (s : Seen) → after s nothing ≡ s
unfolding after
after_nothing s = go s.sound refl
  where
    go : (β : Bool) → s.sound ≡ β → cond β (record { pages = s.pages ++ []; sound = true }) s ≡ s
    go true e = λ i. record { pages = append-nil s.pages i; sound = sym e i }
    go false e = refl

pub nothing-after : (s : Seen) → after nothing s ≡ s
unfolding after
nothing-after s = refl
