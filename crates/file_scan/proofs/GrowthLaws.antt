-- Laws of the leaves of records in split order, one record after the other: the depth of the last record's leaf, when b
-- share their first L split bits with the next, and when the next starts a non-empty leaf more, each by a window of b
-- records. Assumes nothing.
use Prim.Native.Nat.{ℕ, suc, ◌+◌, ◌-◌, ◌≤◌, ◌<◌}
use mathlib.Core.Path.{◌≡◌, sym, ap, ◌∙◌}
use mathlib.Core.Bool.{Bool, true, false, ◌&&◌, ◌||◌, cond}
use mathlib.Core.List.{List}
use mathlib.Core.Logic.{◌⊎◌, inl, inr}
use native.Mathlib.Omega.{arith}
use native.Mathlib.Nat.{le_refl}
use lib.Dec.{leb, ltb, eqb}
use lib.ListN.{length, get_or, take}
use lib.Seq.{length-take-le}
use borrow.Author.Tests.{le-leb, lt-leb, leb-true, leb-false, lt-ltb, le-ltb, eq-eqb, ne_eqb}
use Rattle.lists.proofs.Bools.{and_split, leb-iff}
use Rattle.lists.proofs.Numbers.{lt-or-le, eq-or-ne}
use Rattle.lists.proofs.FilterLaws.{length-filter-le}
use Rattle.region.specs.Strings.{same_bits}
use Rattle.region.specs.Sets.{sorted, with_prefix}
use Rattle.region.specs.Division.{Division, divide, non_empty_leaves, leaf_depth, leaf_records}
use Rattle.region.proofs.StringLaws.{same_bits-refl, same_bits-comm}
use Rattle.region.proofs.OrderLaws.{same_bits-before}
use Rattle.region.proofs.DivideLaws.{divide-leaf, greatest_depth-divide-le}
use Rattle.region.proofs.StringLeafLaws.{leaf_depth-le, leaf_depth-same, leaf_records-same, leaf_records-divide}
use Rattle.region.proofs.StringLeafLaws.{divided-of-lt-leaf_depth, lt-leaf_depth-of-divided}
use Rattle.key_order.proofs.FirstLaws.{same_bits-common_bits}
use Rattle.file_scan.specs.Scan.{starts_by, depth_at, starts_leaf, leaves_with}
use Rattle.file_scan.proofs.WindowLaws.{StepsOf, before-get_d, absent-get_d, insert-get_d, leb-with_prefix-window}
use Rattle.file_scan.proofs.RisingLaws.{sorted-take}
use Rattle.file_scan.proofs.MetLaws.{non_empty_leaves-insert-met}

length-of-leb : (n : ℕ) → leb 1 n ≡ false → n ≡ 0
length-of-leb n e = omega (arith, leb-false 1 n e)

-- ---- records in split order

module _ {R : Type 0} (bit : R → ℕ → Bool) (W : ℕ) (none : R) (S : List R) (rising : sorted bit W 0 S ≡ true)
    (step : ℕ → ℕ → ℕ) (steps : StepsOf bit W none S step) where
  abbrev at : ℕ → R
  at i = get_or S i none

  -- two records share m bits exactly if they first differ at m or later
  same_bits-step : (i j m : ℕ) → i < length S → j < length S → m ≤ W
      → same_bits (bit (at i)) (bit (at j)) m 0 ≡ leb m (step i j)
  same_bits-step i j m h k within =
      same_bits-common_bits (bit (at i)) (bit (at j)) m W 0 within ∙ ap (leb m) (sym (steps i j h k))

  step_same : (i m : ℕ) → i < length S → m ≤ W → m ≤ step i i
  step_same i m h within =
      leb-true m (step i i) (sym (same_bits-step i i m h h within) ∙ same_bits-refl (bit (at i)) m 0)

  step-lt : (i j : ℕ) → i < j → j < length S → step i j < W
  step-lt i j h k =
      leb-false W (step i j)
      (sym (same_bits-step i j W (omega arith) k (le_refl W))
      ∙ same_bits-before bit W 0 (at i) (at j) (before-get_d bit W none S rising i j h k))

  -- of the first i, k or more share m bits with record j exactly if record i − k does
  window : (i j k m : ℕ) → j < length S → i ≤ suc j → 1 ≤ k → m ≤ W
      → leb k (length (with_prefix bit (bit (at j)) m 0 (take i S))) ≡ (leb k i && leb m (step (i - k) j))
  window = leb-with_prefix-window bit W none S rising step steps

  module _ (b : ℕ) (some : 1 ≤ b) where
    -- ---- refusal 6

    -- b share L bits with record i exactly if its leaf would lie deeper than L
    pub leb-with_prefix-depth_at : (L i : ℕ) → L ≤ W → i < length S
        → leb b (length (with_prefix bit (bit (at i)) L 0 (take i S))) ≡ ltb L (depth_at step b i)
    leb-with_prefix-depth_at L i within h = window i i b L h (omega arith) some within ∙ by_size (lt-or-le i b)
      where
        by_size : (i < b) ⊎ (b ≤ i) → (leb b i && leb L (step (i - b) i)) ≡ ltb L (depth_at step b i)
        by_size (inl k) = rw (lt-leb b i k, lt-ltb i b k, le-ltb L 0 (omega arith))
        by_size (inr k) =
            rw (le-leb b i k, le-ltb i b k)
            (leb-iff L (step (i - b) i) (suc L) (suc (step (i - b) i)) (λ l. omega arith) (λ l. omega arith))

    -- the leaves of the first i
    abbrev division_to : ℕ → Division R
    division_to i = divide bit b W 0 (take i S)

    -- the depth of record j's leaf among the first i
    abbrev depth_of : ℕ → ℕ → ℕ
    depth_of i j = leaf_depth (bit (at j)) 0 (division_to i)

    -- ---- the depth of the last record's leaf

    pub leaf_depth-depth_at : (i : ℕ) → i < length S
        → leaf_depth (bit (at i)) 0 (divide bit b W 0 (take (suc i) S)) ≡ depth_at step b i
    leaf_depth-depth_at i h = by_size (lt-or-le i b)
      where
        x : ℕ
        x = depth_of (suc i) i

        size : length (take (suc i) S) ≡ suc i
        size = length-take-le (suc i) S h

        f : ℕ
        f = step (i - b) i

        -- more than b share m bits with the last
        shared : (m : ℕ) → m ≤ W
            → leb (suc b) (length (with_prefix bit (bit (at i)) m 0 (take (suc i) S))) ≡ (leb (suc b) (suc i) && leb m f)
        shared m k =
            let place : suc i - suc b ≡ i - b = omega arith in
            window (suc i) i (suc b) m h (omega arith) (omega arith) k
            ∙ ap (λ j. leb (suc b) (suc i) && leb m (step j i)) place

        by_size : (i < b) ⊎ (b ≤ i) → x ≡ depth_at step b i
        by_size (inl k) =
            ap (λ D. leaf_depth (bit (at i)) 0 D) (divide-leaf bit b W 0 (take (suc i) S) (omega (arith, size)))
            ∙ rw (lt-ltb i b k)
        by_size (inr k) = depth≡ ∙ rw (le-ltb i b k)
          where
            below : f < W
            below = step-lt (i - b) i (omega arith) h

            more : leb (suc b) (length (with_prefix bit (bit (at i)) f 0 (take (suc i) S))) ≡ true
            more =
                shared f (omega (arith, below)) ∙ rw (le-leb (suc b) (suc i) (omega arith), le-leb f f (le_refl f))

            deeper : f < x
            deeper =
                lt-leaf_depth-of-divided bit b (bit (at i)) W 0 f (take (suc i) S) below (leb-true (suc b) _ more)

            by_order : (suc f < x) ⊎ (x ≤ suc f) → x ≡ suc f
            by_order (inr l) = omega (arith, deeper)
            by_order (inl l) =
                let many = divided-of-lt-leaf_depth bit b (bit (at i)) W 0 (take (suc i) S) (suc f) l in
                let both =
                and_split (leb (suc b) (suc i)) (leb (suc f) f) (sym (shared (suc f) below) ∙ le-leb (suc b) _ many) in
                absurd (omega (arith, leb-true (suc f) f both.1))

            depth≡ : x ≡ suc f
            depth≡ = by_order (lt-or-le (suc f) x)

    -- ---- the leaf that the next record meets

    module _ (i : ℕ) (h : i < length S) where
      abbrev r : R
      r = at i

      abbrev met_at : List R
      met_at = leaf_records (bit r) 0 (division_to i)

      depth_le : (j : ℕ) → depth_of i j ≤ W
      depth_le j =
          omega (arith, leaf_depth-le (bit (at j)) 0 (division_to i), greatest_depth-divide-le bit b W 0 (take i S))

      -- outside the last record's leaf it meets an empty one
      met-outside : 1 ≤ i → step (i - 1) i < depth_of i (i - 1) → length met_at ≡ 0
      met-outside one f<x = by_order (lt-or-le (step (i - 1) i) (depth_of i i))
        where
          by_order : (step (i - 1) i < depth_of i i) ⊎ (depth_of i i ≤ step (i - 1) i) → length met_at ≡ 0
          by_order (inl k) =
              length-of-leb (length met_at)
              (ap (λ rs. leb 1 (length rs)) (leaf_records-divide bit b (bit r) W 0 (take i S))
              ∙ window i i 1 (depth_of i i) h (omega arith) (omega arith) (depth_le i)
              ∙ rw (le-leb 1 i one, lt-leb (depth_of i i) (step (i - 1) i) k))
          by_order (inr k) =
              let shared : same_bits (bit r) (bit (at (i - 1))) (depth_of i i) 0 ≡ true =
              same_bits-comm (bit r) (bit (at (i - 1))) (depth_of i i) 0
              ∙ same_bits-step (i - 1) i (depth_of i i) (omega arith) h (depth_le i)
              ∙ le-leb (depth_of i i) (step (i - 1) i) k in
              absurd (omega (arith, leaf_depth-same (bit r) (bit (at (i - 1))) 0 (division_to i) shared))

      -- inside it, k or more records exactly if record i − k lies there too
      met-inside : depth_of i (i - 1) ≤ step (i - 1) i → (k : ℕ) → 1 ≤ k
          → leb k (length met_at) ≡ (leb k i && leb (depth_of i (i - 1)) (step (i - k) (i - 1)))
      met-inside x≤f k one =
          let x : ℕ = depth_of i (i - 1) in
          let shared : same_bits (bit (at (i - 1))) (bit r) x 0 ≡ true =
          same_bits-step (i - 1) i x (omega arith) h (depth_le (i - 1)) ∙ le-leb x (step (i - 1) i) x≤f in
          ap (λ rs. leb k (length rs))
          (leaf_records-same (bit (at (i - 1))) (bit r) 0 (division_to i) shared
          ∙ leaf_records-divide bit b (bit (at (i - 1))) W 0 (take i S))
          ∙ window i (i - 1) k x (omega arith) (omega arith) one (depth_le (i - 1))

      -- record i starts a leaf where the last record's leaf has the depth x
      abbrev starts_from : ℕ → Bool
      starts_from x = starts_by b i x (step (i - 1) i) (step (i - b) (i - 1))

      met-grows : (eqb (length met_at) 0 || leb b (length met_at)) ≡ starts_from (depth_of i (i - 1))
      met-grows = by_cases (eq-or-ne i 0) (lt-or-le (step (i - 1) i) (depth_of i (i - 1)))
        where
          by_cases : (i ≡ 0) ⊎ (i ≡ 0 → ⊥)
              → (step (i - 1) i < depth_of i (i - 1)) ⊎ (depth_of i (i - 1) ≤ step (i - 1) i)
              → (eqb (length met_at) 0 || leb b (length met_at)) ≡ starts_from (depth_of i (i - 1))
          by_cases (inl e) c =
              let few : length met_at ≤ length (take i S) =
              rw (leaf_records-divide bit b (bit r) W 0 (take i S)) (length-filter-le _ (take i S)) in
              rw (eq-eqb (length met_at) 0 (omega (arith, length-take-le i S (omega arith))), eq-eqb i 0 e)
          by_cases (inr d) (inl k) =
              rw (
                eq-eqb (length met_at) 0 (met-outside (omega arith) k),
                ne_eqb i 0 d,
                lt-ltb (step (i - 1) i) (depth_of i (i - 1)) k,
              )
          by_cases (inr d) (inr k) =
              let one : leb 1 (length met_at) ≡ true =
              met-inside k 1 (omega arith)
              ∙ rw (
                le-leb 1 i (omega arith),
                le-leb (depth_of i (i - 1)) (step (i - 1) (i - 1)) (step_same (i - 1) (depth_of i (i - 1)) (omega arith)
                    (depth_le (i - 1))),
              ) in
              rw (
                ne_eqb (length met_at) 0 (λ e. omega (arith, leb-true 1 (length met_at) one)),
                ne_eqb i 0 d,
                le-ltb (step (i - 1) i) (depth_of i (i - 1)) k,
              )
              (met-inside k b some)

      starts-known : starts_from (depth_of i (i - 1)) ≡ starts_leaf step b i
      starts-known = by-case (eq-or-ne i 0)
        where
          by-case : (i ≡ 0) ⊎ (i ≡ 0 → ⊥) → starts_from (depth_of i (i - 1)) ≡ starts_leaf step b i
          by-case (inl e) = rw (eq-eqb i 0 e)
          by-case (inr d) =
              let next : i ≡ suc (i - 1) = omega arith in
              ap starts_from (ap (λ n. depth_of n (i - 1)) next ∙ leaf_depth-depth_at (i - 1) (omega arith))

      -- ---- the growth law

      pub non_empty_leaves-take-suc : non_empty_leaves (divide bit b W 0 (take (suc i) S))
          ≡ leaves_with step b i (non_empty_leaves (divide bit b W 0 (take i S)))
      non_empty_leaves-take-suc =
          ap (λ T. non_empty_leaves (divide bit b W 0 T)) (sym (insert-get_d bit W none S rising i h))
          ∙ non_empty_leaves-insert-met bit b W some r (take i S) (sorted-take bit W 0 i S rising)
          (absent-get_d bit W none S rising i h)
          ∙ ap (λ β. non_empty_leaves (division_to i) + cond β 1 0) (met-grows ∙ starts-known)
