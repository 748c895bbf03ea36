-- Laws of the records of all leaves: what holds of each leaf's holds of them, and how many they can be.
-- Assumes nothing.
use Prim.Native.Nat.{ℕ, suc, ◌*◌, ◌≤◌}
use mathlib.Core.Path.{subst}
use mathlib.Core.Bool.{Bool, true, false, cond}
use mathlib.Core.List.{List, [], ◌∷◌}
use native.Mathlib.Nat.{add-mul}
use native.Mathlib.Omega.{arith}
use lib.ListN.{length, length-append}
use Rattle.lists.specs.Members.{All}
use Rattle.lists.proofs.MemberLaws.{All-append}
use Rattle.region.specs.Strings.{with_bit, empty_string}
use Rattle.region.specs.Division.{Division, leaf, divided, leaf_records, non_empty_leaves, all_records}
use Rattle.region.proofs.DivisionLaws.{leaf_records-side}

module _ {R : Type 0} where
  -- what holds of the records of each leaf, in the division of a region of depth t
  leaves-of-side : (Q : List R → Type 0) (t : ℕ) (β : Bool) (l u : Division R)
      → ((p : ℕ → Bool) → Q (leaf_records p t (divided l u))) → (p : ℕ → Bool) → Q (leaf_records p (suc t) (cond β u l))
  leaves-of-side Q t β l u h p = subst Q (leaf_records-side p t β l u) (h (with_bit p t β))

  All-below : (P : R → Type 0) (t : ℕ) (D : Division R) → ((p : ℕ → Bool) → All P (leaf_records p t D))
      → All P (all_records D)
  All-below P t (leaf rs) h = h empty_string
  All-below P t (divided l u) h =
      All-append P (all_records l) (all_records u) (All-below P (suc t) l (leaves-of-side (All P) t false l u h))
      (All-below P (suc t) u (leaves-of-side (All P) t true l u h))

  pub All-all_records : (P : R → Type 0) (D : Division R) → ((p : ℕ → Bool) → All P (leaf_records p 0 D))
      → All P (all_records D)
  All-all_records P D = All-below P 0 D

  length-below : (b t : ℕ) (D : Division R) → ((p : ℕ → Bool) → length (leaf_records p t D) ≤ b)
      → length (all_records D) ≤ non_empty_leaves D * b
  length-below b t (leaf []) h = omega arith
  length-below b t (leaf (r ∷ rs)) h = omega (arith, h empty_string)
  length-below b t (divided l u) h =
      omega (
        arith,
        length-append (all_records l) (all_records u),
        add-mul (non_empty_leaves l) (non_empty_leaves u) b,
        length-below b (suc t) l (leaves-of-side (λ rs. length rs ≤ b) t false l u h),
        length-below b (suc t) u (leaves-of-side (λ rs. length rs ≤ b) t true l u h),
      )

  -- b for each non-empty leaf
  pub length-all_records-le : (b : ℕ) (D : Division R) → ((p : ℕ → Bool) → length (leaf_records p 0 D) ≤ b)
      → length (all_records D) ≤ non_empty_leaves D * b
  length-all_records-le b D = length-below b 0 D
