-- Laws of the walk over regions: what it reads and tests, by case; bounds of the sums over what it reads.
-- Assumes nothing.
use Prim.Native.Nat.{ℕ, zero, suc, ◌+◌, ◌^◌, ◌≤◌, ◌<◌}
use mathlib.Core.Path.{◌≡◌, refl, ap, ◌∙◌}
use mathlib.Core.Bool.{Bool, true, false, ◌&&◌}
use native.Mathlib.Omega.{arith}
use native.Mathlib.Nat.{two-pow-succ}
use lib.Dec.{leb, ltb}
use lib.ListN.{length, length-append}
use lib.Pow.{pow_pos}
use borrow.Author.Tests.{leb-true, leb-false, le-leb, lt-leb}
use Rattle.lists.specs.Filter.{non_empty}
use Rattle.lists.proofs.FilterLaws.{cond-le-one}
use Rattle.region.specs.Strings.{with_bit}
use Rattle.region.specs.Division.{Division, leaf, divided, greatest_depth, non_empty_leaves, all_records}
use Rattle.directory_word.specs.Word.{depth_field, page_field}
use Rattle.check_test.specs.Walk.{View, field_records, leaf_test, read_division, record_count}
use Rattle.check_test.specs.Walk.{region_test}

module _ {R : Type 0} (v : View R) where
  -- ---- by case

  module _ (n : ℕ) (p : ℕ → Bool) (t : ℕ) (h : depth_field (v.word p) ≤ t) where
    pub read_division-leaf : read_division v n p t ≡ leaf (field_records v (page_field (v.word p)))
    read_division-leaf = by-steps n
      where
        by-steps : (n : ℕ) → read_division v n p t ≡ leaf (field_records v (page_field (v.word p)))
        by-steps zero = refl
        by-steps (suc n) = rw (le-leb (depth_field (v.word p)) t h, read_division)

    pub region_test-leaf : region_test v n p t ≡ leaf_test v n p t
    region_test-leaf = by-steps n
      where
        by-steps : (n : ℕ) → region_test v n p t ≡ leaf_test v n p t
        by-steps zero = refl
        by-steps (suc n) = rw (le-leb (depth_field (v.word p)) t h, region_test)

  module _ (n : ℕ) (p : ℕ → Bool) (t : ℕ) (h : t < depth_field (v.word p)) where
    pub read_division-divided : read_division v (suc n) p t
        ≡ divided (read_division v n (with_bit p t false) (suc t)) (read_division v n (with_bit p t true) (suc t))
    read_division-divided = rw (lt-leb (depth_field (v.word p)) t h, read_division)

    pub record_count-divided : record_count v (suc n) p t
        ≡ record_count v n (with_bit p t false) (suc t) + record_count v n (with_bit p t true) (suc t)
    record_count-divided =
        ap (λ D. length (all_records D)) read_division-divided
        ∙ length-append (all_records (read_division v n (with_bit p t false) (suc t)))
        (all_records (read_division v n (with_bit p t true) (suc t)))

    pub region_test-divided : region_test v (suc n) p t
        ≡ (region_test v n (with_bit p t false) (suc t)
        && (region_test v n (with_bit p t true) (suc t) && ltb v.capacity (record_count v (suc n) p t)))
    region_test-divided = rw (record_count-divided) (rw (lt-leb (depth_field (v.word p)) t h, region_test))

  -- ---- bounds

  -- what holds of every leaf, and of a divided region whose sides have it, holds of the division read
  pub read_division-all : (Q : ℕ → Division R → Type 0)
      → ((n : ℕ) (p : ℕ → Bool) → Q n (leaf (field_records v (page_field (v.word p)))))
      → ((n : ℕ) (l u : Division R) → Q n l → Q n u → Q (suc n) (divided l u))
      → (n : ℕ) (p : ℕ → Bool) (t : ℕ) → Q n (read_division v n p t)
  read_division-all Q at_leaf at-divided zero p t = at_leaf zero p
  read_division-all Q at_leaf at-divided (suc n) p t =
      by-depth (leb (depth_field (v.word p)) t) refl
      (read_division-all Q at_leaf at-divided n (with_bit p t false) (suc t))
      (read_division-all Q at_leaf at-divided n (with_bit p t true) (suc t))
    where
      by-depth : (γ : Bool) → leb (depth_field (v.word p)) t ≡ γ
          → Q n (read_division v n (with_bit p t false) (suc t)) → Q n (read_division v n (with_bit p t true) (suc t))
          → Q (suc n) (read_division v (suc n) p t)
      by-depth true e k₀ k₁ =
          rw (read_division-leaf (suc n) p t (leb-true (depth_field (v.word p)) t e)) (at_leaf (suc n) p)
      by-depth false e k₀ k₁ =
          rw (read_division-divided n p t (leb-false (depth_field (v.word p)) t e))
          (at-divided n (read_division v n (with_bit p t false) (suc t)) (read_division v n (with_bit p t true) (suc t))
          k₀ k₁)

  pub greatest_depth-read_division-le : (n : ℕ) (p : ℕ → Bool) (t : ℕ) → greatest_depth (read_division v n p t) ≤ n
  greatest_depth-read_division-le =
      read_division-all (λ n D. greatest_depth D ≤ n) (λ n p. omega arith) (λ n l u h k. omega arith)

  pub non_empty_leaves-read_division-le : (n : ℕ) (p : ℕ → Bool) (t : ℕ) → non_empty_leaves (read_division v n p t) ≤ 2 ^ n
  non_empty_leaves-read_division-le =
      read_division-all (λ n D. non_empty_leaves D ≤ 2 ^ n)
      (λ n p. omega (arith, cond-le-one (non_empty (field_records v (page_field (v.word p)))), pow_pos n))
      (λ n l u h k. omega (arith, two-pow-succ n))
