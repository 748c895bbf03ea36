-- Laws of codes: their bound, the code of the first bits, one bit more; order and beginnings as `<` and `≡` of codes; a
-- page's test by codes. Assumes nothing.
use Prim.Native.Nat.{ℕ, zero, suc, ◌+◌, ◌-◌, ◌*◌, ◌/◌, ◌^◌, ◌≤◌, ◌<◌}
use mathlib.Core.Path.{◌≡◌, refl, sym, ap, ◌∙◌}
use mathlib.Core.Bool.{Bool, true, false, ◌&&◌, cond, beq}
use mathlib.Core.List.{List, [], ◌∷◌}
use native.Mathlib.Omega.{arith}
use native.Mathlib.Nat.{zero-add, add-zero, suc-add, add-suc, two-pow-succ, pow-zero, add-mul, mul_assoc, add_assoc}
use lib.Dec.{leb, ltb, eqb}
use lib.ListN.{length}
use lib.Pow.{pow-add, high}
use borrow.Author.Tests.{ltb-true, eqb-true, lt-ltb, le-ltb, eq-eqb, ne_eqb}
use Rattle.lists.specs.Filter.{all, non_empty}
use Rattle.lists.proofs.Bools.{and_split, and_both, eq-of-iff}
use Rattle.lists.proofs.FilterLaws.{all-imp}
use Rattle.split.specs.Steps.{bit_value}
use Rattle.region.specs.Strings.{same_bits, with_bit}
use Rattle.region.specs.Sets.{before, sorted}
use Rattle.region.proofs.StringLaws.{with_bit-same, with_bit-other}
use Rattle.region.proofs.OrderLaws.{before-trans}
use Rattle.check_test.specs.Walk.{View, page_test}
use Rattle.check_test.specs.Codes.{code, record_here, chain_after, chain, page_chain}

-- ---- codes

pub code_lt : (n t : ℕ) (p : ℕ → Bool) → code n t p < 2 ^ n
code_lt zero t p = omega (arith, pow-zero 2)
code_lt (suc n) t p = by_bit (p t) (code_lt n (suc t) p)
  where
    by_bit : (β : Bool) → code n (suc t) p < 2 ^ n → bit_value β * 2 ^ n + code n (suc t) p < 2 ^ suc n
    by_bit true h = omega (arith, two-pow-succ n)
    by_bit false h = omega (arith, two-pow-succ n)

-- the first m bits, then k
pub code-add : (m k t : ℕ) (p : ℕ → Bool) → code (m + k) t p ≡ code m t p * 2 ^ k + code k (t + m) p
code-add zero k t p = rw (zero-add k, add-zero t) (omega arith)
code-add (suc m) k t p =
    rw (suc-add m k)
    (rw (
      code-add m k (suc t) p,
      pow-add 2 m k,
      add-mul (bit_value (p t) * 2 ^ m) (code m (suc t) p) (2 ^ k),
      mul_assoc (bit_value (p t)) (2 ^ m) (2 ^ k),
      suc-add t m,
      ← add-suc t m,
    )
    (sym (add_assoc (bit_value (p t) * (2 ^ m * 2 ^ k)) (code m (suc t) p * 2 ^ k) (code k (t + suc m) p))))

-- the first x of W bits: a prefix is a division by a power of two
pub code-div : (W x : ℕ) (p : ℕ → Bool) → x ≤ W → code W 0 p / 2 ^ (W - x) ≡ code x 0 p
code-div W x p h =
    let e : W ≡ x + (W - x) = omega arith in
    ap (λ n. code n 0 p / 2 ^ (W - x)) e ∙ ap (λ n. n / 2 ^ (W - x)) (code-add x (W - x) 0 p)
    ∙ high (code x 0 p) (W - x) (code_lt (W - x) (0 + x) p)

pub code-ext : (n t : ℕ) (p q : ℕ → Bool) → ((s : ℕ) → t ≤ s → s < t + n → p s ≡ q s) → code n t p ≡ code n t q
code-ext zero t p q h = refl
code-ext (suc n) t p q h =
    let here : p t ≡ q t = h t (omega arith) (omega arith) in
    let later = code-ext n (suc t) p q (λ s k l. h s (omega arith) (omega arith)) in
    cc

-- the code of a region's side: twice the region's, and the bit
pub code-side : (t : ℕ) (p : ℕ → Bool) (β : Bool) → code (suc t) 0 (with_bit p t β) ≡ 2 * code t 0 p + bit_value β
code-side t p β =
    let one : t + 1 ≡ suc t = omega arith in
    ap (λ n. code n 0 (with_bit p t β)) (sym one) ∙ code-add t 1 0 (with_bit p t β)
    ∙ rw (
      code-ext t 0 (with_bit p t β) p (λ s k l. with_bit-other p t β s (λ e. omega arith)),
      zero-add t,
      with_bit-same p t β,
      pow-zero 2,
    )
    (omega arith)

-- ---- order and beginnings

ltb_iff : (x y x' y' : ℕ) → (x < y → x' < y') → (x' < y' → x < y) → ltb x y ≡ ltb x' y'
ltb_iff x y x' y' h k =
    eq-of-iff (ltb x y) (ltb x' y') (λ e. lt-ltb x' y' (h (ltb-true x y e))) (λ e. lt-ltb x y (k (ltb-true x' y' e)))

eqb-iff : (x y x' y' : ℕ) → (x ≡ y → x' ≡ y') → (x' ≡ y' → x ≡ y) → eqb x y ≡ eqb x' y'
eqb-iff x y x' y' h k =
    eq-of-iff (eqb x y) (eqb x' y') (λ e. eq-eqb x' y' (h (eqb-true x y e))) (λ e. eq-eqb x y (k (eqb-true x' y' e)))

before-step : (α β : Bool) (m x y : ℕ) → x < m → y < m → (γ : Bool) → γ ≡ ltb x y
    → cond (beq α β) γ β ≡ ltb (bit_value α * m + x) (bit_value β * m + y)
before-step true true m x y hx hy γ e = e ∙ ltb_iff x y (1 * m + x) (1 * m + y) (λ h. omega arith) (λ h. omega arith)
before-step true false m x y hx hy γ e = sym (le-ltb (1 * m + x) (0 * m + y) (omega arith))
before-step false true m x y hx hy γ e = sym (lt-ltb (0 * m + x) (1 * m + y) (omega arith))
before-step false false m x y hx hy γ e = e ∙ ltb_iff x y (0 * m + x) (0 * m + y) (λ h. omega arith) (λ h. omega arith)

same_step : (α β : Bool) (m x y : ℕ) → x < m → y < m → (γ : Bool) → γ ≡ eqb x y
    → (beq α β && γ) ≡ eqb (bit_value α * m + x) (bit_value β * m + y)
same_step true true m x y hx hy γ e = e ∙ eqb-iff x y (1 * m + x) (1 * m + y) (λ h. omega arith) (λ h. omega arith)
same_step true false m x y hx hy γ e = sym (ne_eqb (1 * m + x) (0 * m + y) (λ h. omega arith))
same_step false true m x y hx hy γ e = sym (ne_eqb (0 * m + x) (1 * m + y) (λ h. omega arith))
same_step false false m x y hx hy γ e = e ∙ eqb-iff x y (0 * m + x) (0 * m + y) (λ h. omega arith) (λ h. omega arith)

pub same_bits-code : (p q : ℕ → Bool) (n t : ℕ) → same_bits p q n t ≡ eqb (code n t p) (code n t q)
same_bits-code p q zero t = refl
same_bits-code p q (suc n) t =
    same_step (p t) (q t) (2 ^ n) (code n (suc t) p) (code n (suc t) q) (code_lt n (suc t) p) (code_lt n (suc t) q)
    (same_bits p q n (suc t)) (same_bits-code p q n (suc t))

pub before-code : {R : Type 0} (bit : R → ℕ → Bool) (n t : ℕ) (r r' : R)
    → before bit n t r r' ≡ ltb (code n t (bit r)) (code n t (bit r'))
before-code bit zero t r r' = refl
before-code bit (suc n) t r r' =
    before-step (bit r t) (bit r' t) (2 ^ n) (code n (suc t) (bit r)) (code n (suc t) (bit r'))
    (code_lt n (suc t) (bit r)) (code_lt n (suc t) (bit r')) (before bit n (suc t) r r')
    (before-code bit n (suc t) r r')

-- ---- a page's test

-- in the leaf of the first x bits of p, whose code is s
module _ {R : Type 0} (v : View R) (x s : ℕ) (p : ℕ → Bool) (named : code x 0 p ≡ s) (most : x ≤ v.bits) where
  abbrev code_of : R → ℕ
  code_of r = code v.bits 0 (v.bit r)

  abbrev here : R → Bool
  here r = record_here code_of v.fits v.bits v.capacity x s r

  abbrev after : ℕ → List R → Bool
  after c rs = chain_after code_of v.fits v.bits v.capacity x s c rs

  abbrev asked : R → Bool
  asked r = v.fits r && same_bits p (v.bit r) x 0

  abbrev first : R → R → Bool
  first = before v.bit v.bits 0

  abbrev ordered : List R → Bool
  ordered = sorted v.bit v.bits 0

  record_here-asked : (r : R) → here r ≡ asked r
  record_here-asked r =
      ap (λ β. v.fits r && β)
      (rw (code-div v.bits x (v.bit r) most)
      (eqb-iff (code x 0 (v.bit r)) s (code x 0 p) (code x 0 (v.bit r)) (λ e. named ∙ sym e) (λ e. sym e ∙ named))
      ∙ sym (same_bits-code p (v.bit r) x 0))

  of-chain_after : (r : R) (rs : List R) → after (code_of r) rs ≡ true
      → (all (first r) rs ≡ true) × (ordered rs ≡ true) × (all asked rs ≡ true)
  of-chain_after r [] e = (refl, refl, refl)
  of-chain_after r (y ∷ ys) e =
      let k₁ = and_split (ltb (code_of r) (code_of y)) (here y && after (code_of y) ys) e in
      let k₂ = and_split (here y) (after (code_of y) ys) k₁.1 in
      let k = of-chain_after y ys k₂.1 in
      let h : first r y ≡ true = before-code v.bit v.bits 0 r y ∙ k₁.0 in (
        and_both (first r y) (all (first r) ys) h
            (all-imp (first y) (first r) (λ z m. before-trans v.bit v.bits 0 r y z h m) ys k.0),
        and_both (all (first y) ys) (ordered ys) k.0 k.1,
        and_both (asked y) (all asked ys) (sym (record_here-asked y) ∙ k₂.0) k.2,
      )

  chain_after-true : (r : R) (rs : List R) → all (first r) rs ≡ true → ordered rs ≡ true → all asked rs ≡ true
      → after (code_of r) rs ≡ true
  chain_after-true r [] h k a = refl
  chain_after-true r (y ∷ ys) h k a =
      let h' = and_split (first r y) (all (first r) ys) h in
      let k' = and_split (all (first y) ys) (ordered ys) k in
      let a' = and_split (asked y) (all asked ys) a in
      and_both (ltb (code_of r) (code_of y)) (here y && after (code_of y) ys)
      (sym (before-code v.bit v.bits 0 r y) ∙ h'.0)
      (and_both (here y) (after (code_of y) ys) (record_here-asked y ∙ a'.0)
      (chain_after-true y ys k'.0 k'.1 a'.1))

  pub chain-sorted : (rs : List R)
      → chain code_of v.fits v.bits v.capacity x s rs ≡ (non_empty rs && (ordered rs && all asked rs))
  chain-sorted [] = refl
  chain-sorted (r ∷ rs) =
      eq-of-iff (here r && after (code_of r) rs) (ordered (r ∷ rs) && all asked (r ∷ rs))
      (λ e.
      let e' = and_split (here r) (after (code_of r) rs) e in
      let k = of-chain_after r rs e'.1 in
      and_both (ordered (r ∷ rs)) (all asked (r ∷ rs)) (and_both (all (first r) rs) (ordered rs) k.0 k.1)
      (and_both (asked r) (all asked rs) (sym (record_here-asked r) ∙ e'.0) k.2))
      (λ e.
      let e' = and_split (ordered (r ∷ rs)) (all asked (r ∷ rs)) e in
      let k = and_split (all (first r) rs) (ordered rs) e'.0 in
      let a = and_split (asked r) (all asked rs) e'.1 in
      and_both (here r) (after (code_of r) rs) (record_here-asked r ∙ a.0)
      (chain_after-true r rs k.0 k.1 a.1))

  swap : (α β γ : Bool) → (α && (β && γ)) ≡ (β && (α && γ))
  swap true true γ = refl
  swap true false γ = refl
  swap false true γ = refl
  swap false false γ = refl

  -- the test of a page of the store, as the code runs it
  pub page_test-chain : (g : ℕ) → g < v.pages
      → page_test v p x (suc g) ≡ page_chain code_of v.fits v.bits v.capacity x s (v.shown g)
  page_test-chain g h =
      let rs = v.shown g in
      rw (lt-ltb g v.pages h)
      (swap (non_empty rs) (leb (length rs) v.capacity) (ordered rs && all asked rs)
      ∙ ap (λ β. leb (length rs) v.capacity && β) (sym (chain-sorted rs)))
