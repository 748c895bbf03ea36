-- The walk by rows sees no more pages than the rows let in. Assumes nothing.
use Prim.Native.Nat.{ℕ, zero, suc, ◌+◌, ◌*◌, ◌≤◌, ◌<◌}
use mathlib.Core.Path.{◌≡◌, refl}
use mathlib.Core.Bool.{Bool, true, false, cond}
use mathlib.Core.List.{List}
use native.Mathlib.Omega.{arith}
use native.Mathlib.Nat.{le_trans}
use lib.Dec.{eqb, ltb}
use lib.ListN.{length}
use borrow.Author.Tests.{eqb-true, eqb-false, lt-ltb, le-ltb}
use Rattle.query_rows.specs.Rows.{pages_in, tallied_in, has_depth, most_pages}
use Rattle.query_rows.proofs.MostLaws.{most_pages-pos}
use Rattle.query_seen.specs.Seen.{Seen, damaged, after}
use Rattle.query_seen.proofs.BoundLaws.{length-noted-le, length-met-le, length-after-le, OnePage}
use Rattle.query_walk.specs.Private.{wanted_sides, seen_by}
use Rattle.query_walk.specs.Turns.{leaf_by}

pub OnePage-leaf_by : (rows bytes : List ℕ) → OnePage (leaf_by rows bytes)
OnePage-leaf_by rows bytes x key word = length-noted-le (pages_in rows) (has_depth (tallied_in rows) x) _ word

module _ (rows words : List ℕ) (leaf : ℕ → ℕ → ℕ → Seen) (T : ℕ) where
  length-wanted_sides-le : (wanted : ℕ) (s u : Seen) (k : ℕ) → length s.pages ≤ k → length u.pages ≤ k
      → length (wanted_sides wanted s u).pages ≤ k * cond (ltb 1 wanted) 2 1
  unfolding wanted_sides
  length-wanted_sides-le wanted s u k h l = go (eqb wanted 0) refl (eqb wanted 1) refl
    where
      go : (β : Bool) → eqb wanted 0 ≡ β → (γ : Bool) → eqb wanted 1 ≡ γ
          → length (cond β s (cond γ u (after s u))).pages ≤ k * cond (ltb 1 wanted) 2 1
      go true e γ d = rw (le-ltb 1 wanted (omega (arith, eqb-true wanted 0 e))) (omega arith)
      go false e true d = rw (le-ltb 1 wanted (omega (arith, eqb-true wanted 1 d))) (omega arith)
      go false e false d =
          let n0 = eqb-false wanted 0 e in
          let n1 = eqb-false wanted 1 d in
          let more : 1 < wanted = omega arith in
          rw (lt-ltb 1 wanted more) (length-after-le s u k h l)

  pub length-seen_by-le : OnePage leaf → (f x v corner word : ℕ)
      → length (seen_by rows words leaf T f x v corner word).pages ≤ most_pages rows f x
  unfolding seen_by most_pages
  length-seen_by-le few zero x v corner word = length-met-le T x word _ damaged 1 (few x corner word) (omega arith)
  length-seen_by-le few (suc f) x v corner word =
      length-met-le T x word _ _ (most_pages rows (suc f) x)
      (le_trans (few x corner word) (most_pages-pos rows (suc f) x))
      (length-wanted_sides-le _ _ _ (most_pages rows f (x + 1)) (length-seen_by-le few f (x + 1) v corner word)
      (length-seen_by-le few f (x + 1) _ _ _))
