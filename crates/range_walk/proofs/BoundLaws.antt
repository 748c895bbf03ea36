-- The range call's walk by rows sees no more pages than there are cells below a region. Assumes nothing.
use Prim.Native.Nat.{ℕ, zero, suc, ◌+◌, ◌*◌, ◌^◌, ◌≤◌}
use mathlib.Core.Bool.{Bool, cond}
use mathlib.Core.List.{List}
use native.Mathlib.Omega.{arith}
use native.Mathlib.Nat.{pow-suc}
use lib.Pow.{pow_pos}
use lib.ListN.{get_or, length}
use Rattle.lists.proofs.Bools.{cond_cases}
use Rattle.query_rows.specs.Rows.{bit_in, value_in}
use Rattle.query_rows.specs.Vectors.{row_address}
use Rattle.query_seen.specs.Seen.{Seen, nothing, damaged}
use Rattle.query_seen.proofs.BoundLaws.{length-met-le, length-after-le, OnePage}
use Rattle.range_walk.specs.Private.{seen_meeting}

module _ (rows words : List ℕ) (leaf : ℕ → ℕ → ℕ → Seen) (enters : ℕ → ℕ → Bool) (T : ℕ) where
  -- a side, if it is entered
  abbrev side : ℕ → ℕ → ℕ → ℕ → ℕ → Seen
  side f x v corner word = cond (enters x corner) (seen_meeting rows words leaf enters T f x v corner word) nothing

  pub length-side-le : (f x v corner word k : ℕ)
      → length (seen_meeting rows words leaf enters T f x v corner word).pages ≤ k
      → length (side f x v corner word).pages ≤ k
  length-side-le f x v corner word k h =
      cond_cases (λ u. length u.pages ≤ k) (enters x corner) _ nothing (λ e. h) (λ e. omega arith)

  pub length-seen_meeting-le : OnePage leaf → (f x v corner word : ℕ)
      → length (seen_meeting rows words leaf enters T f x v corner word).pages ≤ 2 ^ f
  unfolding seen_meeting
  length-seen_meeting-le few zero x v corner word =
      length-met-le T x word _ damaged 1 (few x corner word) (omega arith)
  length-seen_meeting-le few (suc f) x v corner word =
      let upper = v + bit_in rows x in
      let top = corner + value_in rows x in
      let other = get_or words (row_address rows (x * 6) upper) 0 in
      rw pow-suc
      (length-met-le T x word _ _ (2 ^ f * 2) (omega (arith, pow_pos f, few x corner word))
      (length-after-le (side f (x + 1) v corner word) (side f (x + 1) upper top other) (2 ^ f)
      (length-side-le f (x + 1) v corner word (2 ^ f) (length-seen_meeting-le few f (x + 1) v corner word))
      (length-side-le f (x + 1) upper top other (2 ^ f) (length-seen_meeting-le few f (x + 1) upper top other))))
