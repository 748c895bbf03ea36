-- Records that share their first split bits: order, an insert and sorted lists by the bits that follow; an insert into a
-- half. Assumes nothing.
use Prim.Native.Nat.{ℕ, zero, suc, ◌+◌, ◌-◌, ◌<◌}
use mathlib.Core.Path.{◌≡◌, refl, sym, ap, ◌∙◌}
use mathlib.Core.Bool.{Bool, true, false, not, ◌&&◌, cond, beq, false≢true}
use mathlib.Core.List.{List, [], ◌∷◌, ◌++◌}
use native.Mathlib.Omega.{arith}
use native.Mathlib.Nat.{zero-add, suc-add, add-suc}
use Rattle.lists.specs.Filter.{filter, all, non_empty}
use Rattle.lists.proofs.Bools.{and_split, and_both}
use Rattle.lists.proofs.FilterLaws.{all-and, all-imp, filter-append, filter_comm, filter-cong}
use Rattle.region.specs.Strings.{same_bits}
use Rattle.region.specs.Sets.{before, sorted, insert}
use Rattle.region.specs.Division.{side}
use Rattle.region.proofs.StringLaws.{same_bits-comm, same_bits-join}
use Rattle.region.proofs.SideLaws.{side-insert-out}

module _ {R : Type 0} (bit : R → ℕ → Bool) where
  -- ---- the bits that follow

  pub before-shared : (x n t s : ℕ) (r y : R) → t + x ≡ s → same_bits (bit r) (bit y) x t ≡ true
      → before bit (x + n) t r y ≡ before bit n s r y
  before-shared zero n t s r y e h =
      let s≡ : s ≡ t = omega arith in
      rw (s≡, zero-add n)
  before-shared (suc x) n t s r y e h =
      let k = and_split (beq (bit r t) (bit y t)) (same_bits (bit r) (bit y) x (suc t)) h in
      rw (suc-add x n, k.0) (before-shared x n (suc t) s r y (suc-add t x ∙ sym (add-suc t x) ∙ e) k.1)

  module _ (x n t s : ℕ) (e : t + x ≡ s) where
    pub insert-shared : (r : R) (S : List R) → all (λ y. same_bits (bit r) (bit y) x t) S ≡ true
        → insert bit (x + n) t r S ≡ insert bit n s r S
    insert-shared r S h =
        let earlier = filter-cong (λ y. same_bits (bit r) (bit y) x t) (λ y. before bit (x + n) t y r)
        (λ y. before bit n s y r)
        (λ y k. before-shared x n t s y r e (same_bits-comm (bit y) (bit r) x t ∙ k)) S h in
        let later = filter-cong (λ y. same_bits (bit r) (bit y) x t) (λ y. before bit (x + n) t r y)
        (λ y. before bit n s r y) (λ y k. before-shared x n t s r y e k) S h in
        rw (earlier, later)

    pub sorted-shared : (p : ℕ → Bool) (S : List R) → all (λ y. same_bits p (bit y) x t) S ≡ true
        → sorted bit (x + n) t S ≡ true → sorted bit n s S ≡ true
    sorted-shared p [] h k = refl
    sorted-shared p (r ∷ S) h k =
        and_both (all (before bit n s r) S) (sorted bit n s S)
        (all-imp (λ y. same_bits p (bit y) x t && before bit (x + n) t r y) (before bit n s r) step S
        (all-and (λ y. same_bits p (bit y) x t) (before bit (x + n) t r) S of-p.1 of-k.0))
        (sorted-shared p S of-p.1 of-k.1)
      where
        of-p : (same_bits p (bit r) x t ≡ true) × (all (λ y. same_bits p (bit y) x t) S ≡ true)
        of-p = and_split (same_bits p (bit r) x t) (all (λ y. same_bits p (bit y) x t) S) h

        of-k : (all (before bit (x + n) t r) S ≡ true) × (sorted bit (x + n) t S ≡ true)
        of-k = and_split (all (before bit (x + n) t r) S) (sorted bit (x + n) t S) k

        step : (y : R) → (same_bits p (bit y) x t && before bit (x + n) t r y) ≡ true → before bit n s r y ≡ true
        step y d =
            let parts = and_split (same_bits p (bit y) x t) (before bit (x + n) t r y) d in
            let same = same_bits-join (bit r) (bit y) p x t (same_bits-comm (bit r) p x t ∙ of-p.0)
            (same_bits-comm (bit y) p x t ∙ parts.0) in
            sym (before-shared x n t s r y e same) ∙ parts.1

  -- ---- an insert

  module _ (n t : ℕ) (r : R) where
    pub non_empty-insert : (S : List R) → non_empty (insert bit n t r S) ≡ true
    non_empty-insert S = one (filter (λ y. before bit n t y r) S) (filter (λ y. before bit n t r y) S)
      where
        one : (xs ys : List R) → non_empty (xs ++ r ∷ ys) ≡ true
        one [] ys = refl
        one (x ∷ xs) ys = refl

    -- those that pass a test that r passes
    pub filter-insert : (f : R → Bool) (S : List R) → f r ≡ true
        → filter f (insert bit n t r S) ≡ insert bit n t r (filter f S)
    filter-insert f S e =
        filter-append f (filter (λ y. before bit n t y r) S) (r ∷ filter (λ y. before bit n t r y) S)
        ∙ rw (e, filter_comm (λ y. before bit n t y r) f S, filter_comm (λ y. before bit n t r y) f S)

  -- ---- halves by split bit m, of records that share their first m bits

  -- the half with bit β, and r in it if it has that bit
  abbrev pub half_with : ℕ → ℕ → R → Bool → List R → List R
  half_with W m r β S = cond (beq β (bit r m)) (insert bit W 0 r (side bit β m S)) (side bit β m S)

  module _ (W m : ℕ) (l : m < W) (S : List R) where
    pub side-insert : (r : R) → all (λ y. same_bits (bit r) (bit y) m 0) S ≡ true → (β : Bool)
        → side bit β m (insert bit W 0 r S) ≡ half_with W m r β S
    side-insert r h β = by_bit (beq β (bit r m)) refl
      where
        rest : m + suc (W - suc m) ≡ W
        rest = omega arith

        other : (α γ : Bool) → beq α γ ≡ false → γ ≡ not α
        other true true d = absurd (false≢true (sym d))
        other true false d = refl
        other false true d = refl
        other false false d = absurd (false≢true (sym d))

        by_bit : (γ : Bool) → beq β (bit r m) ≡ γ
            → side bit β m (insert bit W 0 r S) ≡ cond γ (insert bit W 0 r (side bit β m S)) (side bit β m S)
        by_bit true d = filter-insert W 0 r (λ y. beq β (bit y m)) S d
        by_bit false d =
            ap (side bit β m)
            (ap (λ n. insert bit n 0 r S) (sym rest) ∙ insert-shared m (suc (W - suc m)) 0 m (zero-add m) r S h)
            ∙ side-insert-out bit (W - suc m) m r S β (other β (bit r m) d)
