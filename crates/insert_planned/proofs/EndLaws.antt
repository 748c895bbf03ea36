-- Laws of a list in split order and of a new element's place in it. Of all these the first stands before every other
-- and the last behind, so that the bits which these two share are shared by all. Assumes nothing.
use Prim.Native.Nat.{ℕ, zero, suc, ◌-◌, ◌≤◌, ◌<◌}
use mathlib.Core.Path.{◌≡◌, refl, sym, ◌∙◌, subst}
use mathlib.Core.Bool.{Bool, true, false, ◌&&◌, cond, beq, false≢true}
use mathlib.Core.List.{List, [], ◌∷◌}
use mathlib.Core.Logic.{◌⊎◌, inl, inr}
use native.Mathlib.Omega.{arith}
use lib.Dec.{eqb}
use lib.ListN.{length, get_or}
use borrow.Author.Tests.{eqb-true, eqb-false}
use Rattle.lists.specs.Filter.{all}
use Rattle.lists.proofs.Bools.{cond_cases, and_split, and_both, eq-of-beq}
use Rattle.lists.proofs.Numbers.{eq-or-ne}
use Rattle.region.specs.Strings.{same_bits}
use Rattle.region.specs.Sets.{before, sorted}
use Rattle.region.proofs.StringLaws.{same_bits-refl, same_bits-comm, same_bits-join}
use Rattle.region.proofs.OrderLaws.{before-trans}
use Rattle.page_place.proofs.SortedLaws.{Between, all_get_d}

-- ---- bits of an element between two others

-- one split bit of three elements in order: α, β, γ
middle-step : (α β γ m m' s : Bool) → cond (beq α β) m β ≡ true → cond (beq β γ) m' γ ≡ true
    → beq α γ ≡ true → (m ≡ true → m' ≡ true → s ≡ true) → (beq α β && s) ≡ true
middle-step true true true m m' s a b e h = h a b
middle-step true true false m m' s a b e h = absurd (false≢true e)
middle-step true false γ m m' s a b e h = absurd (false≢true a)
middle-step false true true m m' s a b e h = absurd (false≢true e)
middle-step false true false m m' s a b e h = absurd (false≢true b)
middle-step false false true m m' s a b e h = absurd (false≢true e)
middle-step false false false m m' s a b e h = h a b

module _ {R : Type 0} (bit : R → ℕ → Bool) where
  same_bits-between : (c n t : ℕ) (x y z : R) → c ≤ n → before bit n t x y ≡ true → before bit n t y z ≡ true
      → same_bits (bit x) (bit z) c t ≡ true → same_bits (bit x) (bit y) c t ≡ true
  same_bits-between zero n t x y z l a b e = refl
  same_bits-between (suc c) zero t x y z l a b e = absurd (omega arith)
  same_bits-between (suc c) (suc n) t x y z l a b e =
      let k = and_split (beq (bit x t) (bit z t)) (same_bits (bit x) (bit z) c (suc t)) e in
      middle-step (bit x t) (bit y t) (bit z t) (before bit n (suc t) x y) (before bit n (suc t) y z)
      (same_bits (bit x) (bit y) c (suc t)) a b k.0
      (λ f g. same_bits-between c n (suc t) x y z (omega arith) f g k.1)

  module _ (n t : ℕ) where
    -- x stands before y, or is it
    abbrev Upto : R → R → Type 0
    Upto x y = (before bit n t x y ≡ true) ⊎ (x ≡ y)

    same_bits-upto : (c : ℕ) (x y z : R) → c ≤ n → Upto x y → Upto y z → same_bits (bit x) (bit z) c t ≡ true
        → same_bits (bit x) (bit y) c t ≡ true
    same_bits-upto c x y z l (inr e) b s =
        subst (λ w. same_bits (bit x) (bit w) c t ≡ true) e (same_bits-refl (bit x) c t)
    same_bits-upto c x y z l (inl a) (inr e) s = subst (λ w. same_bits (bit x) (bit w) c t ≡ true) (sym e) s
    same_bits-upto c x y z l (inl a) (inl b) s = same_bits-between c n t x y z l a b s

    before-upto : (x y z : R) → before bit n t x y ≡ true → Upto y z → before bit n t x z ≡ true
    before-upto x y z a (inl b) = before-trans bit n t x y z a b
    before-upto x y z a (inr e) = subst (λ w. before bit n t x w ≡ true) e a

    upto_before : (x y z : R) → Upto x y → before bit n t y z ≡ true → before bit n t x z ≡ true
    upto_before x y z (inl a) b = before-trans bit n t x y z a b
    upto_before x y z (inr e) b = subst (λ w. before bit n t w z ≡ true) (sym e) b

    -- ---- elements by their places

    sorted-get_d : (S : List R) (j k : ℕ) (d : R) → sorted bit n t S ≡ true → j < k → k < length S
        → before bit n t (get_or S j d) (get_or S k d) ≡ true
    sorted-get_d [] j k d o h l = absurd (omega arith)
    sorted-get_d (x ∷ S) j zero d o h l = absurd (omega arith)
    sorted-get_d (x ∷ S) zero (suc k) d o h l =
        all_get_d (before bit n t x) S k d (and_split (all (before bit n t x) S) (sorted bit n t S) o).0 (omega arith)
    sorted-get_d (x ∷ S) (suc j) (suc k) d o h l =
        sorted-get_d S j k d (and_split (all (before bit n t x) S) (sorted bit n t S) o).1 (omega arith) (omega arith)

all-of-get_d : {A : Type 0} (f : A → Bool) (xs : List A) (d : A)
    → ((k : ℕ) → k < length xs → f (get_or xs k d) ≡ true) → all f xs ≡ true
all-of-get_d f [] d h = refl
all-of-get_d f (x ∷ xs) d h =
    and_both (f x) (all f xs) (h 0 (omega arith)) (all-of-get_d f xs d (λ k l. h (suc k) (omega arith)))

-- ---- a list in order, not empty, and r, which falls between places i - 1 and i

module _ {R : Type 0} (bit : R → ℕ → Bool) (n t : ℕ) (r d : R) (S : List R) (i : ℕ) (o : sorted bit n t S ≡ true)
    (b : Between bit n t r d S i) (some : 1 ≤ length S) where
  -- the first and the last of all
  abbrev pub first_with : R
  first_with = cond (eqb i 0) r (get_or S 0 d)

  abbrev pub last_with : R
  last_with = cond (eqb i (length S)) r (get_or S (length S - 1) d)

  upto-places : (j k : ℕ) → j ≤ k → k < length S → Upto bit n t (get_or S j d) (get_or S k d)
  upto-places j k h l = go (eq-or-ne j k)
    where
      go : (j ≡ k) ⊎ (j ≡ k → ⊥) → Upto bit n t (get_or S j d) (get_or S k d)
      go (inl e) = inr (rw e)
      go (inr e) = inl (sorted-get_d bit n t S j k d o (omega arith) l)

  -- r and what stands beside it
  new-before : (k : ℕ) → i ≤ k → k < length S → before bit n t r (get_or S k d) ≡ true
  new-before k h l = before-upto bit n t r (get_or S i d) (get_or S k d) (b.2 (omega arith)) (upto-places i k h l)

  new-behind : (k : ℕ) → k < i → before bit n t (get_or S k d) r ≡ true
  new-behind k h =
      upto_before bit n t (get_or S k d) (get_or S (i - 1) d) r (upto-places k (i - 1) (omega arith) (omega (arith, b.0)))
      (b.1 (i - 1) (omega arith))

  first-upto : (k : ℕ) → k < length S → Upto bit n t first_with (get_or S k d)
  first-upto k l =
      cond_cases (λ x. Upto bit n t x (get_or S k d)) (eqb i 0) r (get_or S 0 d)
      (λ e. inl (new-before k (omega (arith, eqb-true i 0 e)) l)) (λ e. upto-places 0 k (omega arith) l)

  upto-last : (k : ℕ) → k < length S → Upto bit n t (get_or S k d) last_with
  upto-last k l =
      cond_cases (λ x. Upto bit n t (get_or S k d) x) (eqb i (length S)) r (get_or S (length S - 1) d)
      (λ e. inl (new-behind k (omega (arith, eqb-true i (length S) e))))
      (λ e. upto-places k (length S - 1) (omega arith) (omega arith))

  first-new : Upto bit n t first_with r
  first-new =
      cond_cases (λ x. Upto bit n t x r) (eqb i 0) r (get_or S 0 d) (λ e. inr refl)
      (λ e. let some-before = eqb-false i 0 e in inl (new-behind 0 (omega arith)))

  new-last : Upto bit n t r last_with
  new-last =
      cond_cases (λ x. Upto bit n t r x) (eqb i (length S)) r (get_or S (length S - 1) d) (λ e. inr refl)
      (λ e. let ne = eqb-false i (length S) e in inl (new-before (length S - 1) (omega (arith, b.0)) (omega arith)))

  -- bits that both ends share are r's
  pub alike-of-ends : (c : ℕ) → c ≤ n → same_bits (bit first_with) (bit last_with) c t ≡ true
      → all (λ y. same_bits (bit r) (bit y) c t) S ≡ true
  alike-of-ends c h e =
      let own = same_bits-upto bit n t c first_with r last_with h first-new new-last e in
      all-of-get_d (λ y. same_bits (bit r) (bit y) c t) S d
      (λ k l.
      let theirs = same_bits-upto bit n t c first_with (get_or S k d) last_with h (first-upto k l) (upto-last k l) e in
      same_bits-join (bit r) (bit (get_or S k d)) (bit first_with) c t (same_bits-comm (bit r) (bit first_with) c t ∙ own)
      (same_bits-comm (bit (get_or S k d)) (bit first_with) c t ∙ theirs))

  -- a bit that all have as r is that of both ends
  pub ends-of-alike : (m : ℕ) → all (λ y. beq (bit r m) (bit y m)) S ≡ true → bit first_with m ≡ bit last_with m
  ends-of-alike m e =
      let there : (k : ℕ) → k < length S → bit (get_or S k d) m ≡ bit r m =
      λ k l. eq-of-beq (bit r m) (bit (get_or S k d) m) (all_get_d (λ y. beq (bit r m) (bit y m)) S k d e l) in
      cond_cases (λ x. bit x m ≡ bit r m) (eqb i 0) r (get_or S 0 d) (λ c. refl) (λ c. there 0 (omega arith))
      ∙ sym (cond_cases (λ x. bit x m ≡ bit r m) (eqb i (length S)) r (get_or S (length S - 1) d) (λ c. refl)
      (λ c. there (length S - 1) (omega arith)))

  -- both ends are two
  pub ends-apart : before bit n t first_with last_with ≡ true
  ends-apart =
      cond_cases (λ x. before bit n t x last_with ≡ true) (eqb i 0) r (get_or S 0 d)
      (λ e. let none = eqb-true i 0 e in
      cond_cases (λ x. before bit n t r x ≡ true) (eqb i (length S)) r (get_or S (length S - 1) d)
      (λ c. absurd (omega (arith, eqb-true i (length S) c)))
      (λ c. new-before (length S - 1) (omega arith) (omega arith)))
      (λ e. let some-before = eqb-false i 0 e in
      before-upto bit n t (get_or S 0 d) r last_with (new-behind 0 (omega arith)) new-last)
