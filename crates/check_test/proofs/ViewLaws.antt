-- What words and pages show, by strings: the page and the words of a leaf. Here the two directions of the test meet.
-- Assumes nothing.
use Prim.Native.Nat.{ℕ, zero, suc, ◌+◌, ◌≤◌, ◌<◌}
use mathlib.Core.Path.{◌≡◌, refl, sym, ◌∙◌}
use mathlib.Core.Bool.{Bool, true, false, ◌&&◌, beq, false≢true}
use mathlib.Core.List.{List, [], ◌∷◌}
use native.Mathlib.Omega.{arith}
use native.Mathlib.Nat.{add-zero, suc-add, add-suc}
use lib.Dec.{leb, ltb}
use lib.ListN.{length}
use borrow.Author.Tests.{leb-true, ltb-true, eqb-true, le-leb, lt-ltb, eq-eqb}
use Rattle.lists.specs.Filter.{all, non_empty}
use Rattle.lists.proofs.Bools.{and_split, and_both, eq-of-beq, beq-of-eq}
use Rattle.lists.proofs.FilterLaws.{all-imp, all-and}
use Rattle.region.specs.Strings.{same_bits, with_bit}
use Rattle.region.specs.Sets.{sorted}
use Rattle.region.specs.Division.{Division, leaf_depth, leaf_records}
use Rattle.region.proofs.StringLaws.{same_bits-refl, same_bits-with_bit}
use Rattle.directory_word.specs.Word.{depth_field, page_field}
use Rattle.check_test.specs.Walk.{View, field_records, record_test, page_test, same_words}

-- ---- a region's sides

-- a string of a side: it begins with the region's string, and has the side's bit
pub of-side : (p q : ℕ → Bool) (t : ℕ) (β : Bool) → same_bits (with_bit p t β) q (suc t) 0 ≡ true
    → (same_bits p q t 0 ≡ true) × (q t ≡ β)
of-side p q t β e =
    let k = and_split (same_bits p q t 0) (beq β (q t)) (sym (same_bits-with_bit p q t β) ∙ e) in
    (k.0, eq-of-beq β (q t) k.1)

pub to-side : (p q : ℕ → Bool) (t : ℕ) (β : Bool) → same_bits p q t 0 ≡ true → q t ≡ β
    → same_bits (with_bit p t β) q (suc t) 0 ≡ true
to-side p q t β a e =
    same_bits-with_bit p q t β ∙ and_both (same_bits p q t 0) (beq β (q t)) a (beq-of-eq β (q t) e)

module _ {R : Type 0} (v : View R) where
  -- ---- pages

  -- the records of a leaf, by its word's page field
  abbrev pub Holds : List R → ℕ → Type 0
  Holds [] f = f ≡ 0
  Holds (r ∷ rs) zero = ⊥
  Holds (r ∷ rs) (suc g) = (g < v.pages) × (v.shown g ≡ r ∷ rs)

  -- a page that passes
  pub record Page (p : ℕ → Bool) (t : ℕ) (rs : List R) (f : ℕ) : Type 0 where
    pub begins : all (λ r. same_bits p (v.bit r) t 0) rs ≡ true
    pub fit : all v.fits rs ≡ true
    pub ordered : sorted v.bit v.bits 0 rs ≡ true
    pub short : length rs ≤ v.capacity
    pub held : Holds rs f

  Holds-suc : (rs : List R) (g : ℕ) → v.shown g ≡ rs → g < v.pages → non_empty rs ≡ true → Holds rs (suc g)
  Holds-suc [] g e h k = absurd (false≢true k)
  Holds-suc (r ∷ rs) g e h k = (h, e)

  of-record : (p : ℕ → Bool) (t : ℕ) (r : R) → record_test v p t r ≡ true
      → (v.fits r ≡ true) × (same_bits p (v.bit r) t 0 ≡ true)
  of-record p t r e = and_split (v.fits r) (same_bits p (v.bit r) t 0) e

  pub page-of-test : (p : ℕ → Bool) (t f : ℕ) → page_test v p t f ≡ true → Page p t (field_records v f) f
  page-of-test p t zero e = record { begins = refl; fit = refl; ordered = refl; short = omega arith; held = refl }
  page-of-test p t (suc g) e =
      let rs = v.shown g in
      let number = ltb g v.pages in
      let some = non_empty rs in
      let few = leb (length rs) v.capacity in
      let order = sorted v.bit v.bits 0 rs in
      let each = all (record_test v p t) rs in
      let k₁ = and_split number (some && (few && (order && each))) e in
      let k₂ = and_split some (few && (order && each)) k₁.1 in
      let k₃ = and_split few (order && each) k₂.1 in
      let k₄ = and_split order each k₃.1 in
      record {
        begins = all-imp (record_test v p t) (λ r. same_bits p (v.bit r) t 0) (λ r k. (of-record p t r k).1) rs k₄.1;
        fit = all-imp (record_test v p t) v.fits (λ r k. (of-record p t r k).0) rs k₄.1;
        ordered = k₄.0;
        short = leb-true (length rs) v.capacity k₃.0;
        held = Holds-suc rs g refl (ltb-true g v.pages k₁.0) k₂.0;
      }

  pub test-of-page : (p : ℕ → Bool) (t : ℕ) (rs : List R) (f : ℕ) → Page p t rs f → page_test v p t f ≡ true
  test-of-page p t [] f k = rw k.held
  test-of-page p t (r ∷ rs) zero k = absurd k.held
  test-of-page p t (r ∷ rs) (suc g) k =
      rw (
        k.held.1,
        lt-ltb g v.pages k.held.0,
        le-leb (length (r ∷ rs)) v.capacity k.short,
        k.ordered,
      )
      (all-and v.fits (λ x. same_bits p (v.bit x) t 0) (r ∷ rs) k.fit k.begins)

  pub field_records-holds : (rs : List R) (f : ℕ) → Holds rs f → field_records v f ≡ rs
  field_records-holds [] f h = rw h
  field_records-holds (r ∷ rs) zero h = absurd h
  field_records-holds (r ∷ rs) (suc g) h = h.1

  -- ---- words

  -- the words of a region's strings, and their pages, are those of a division
  pub record Shown (p : ℕ → Bool) (t : ℕ) (D : Division R) : Type 0 where
    pub depth : (q : ℕ → Bool) → same_bits p q t 0 ≡ true → depth_field (v.word q) ≡ t + leaf_depth q t D
    pub page : (q : ℕ → Bool) → same_bits p q t 0 ≡ true → Holds (leaf_records q t D) (page_field (v.word q))
    pub same : (q q' : ℕ → Bool) → same_bits p q t 0 ≡ true → same_bits p q' t 0 ≡ true
        → same_bits q q' (leaf_depth q t D) t ≡ true → v.word q ≡ v.word q'

  -- all words of a leaf are one
  pub same_words-true : (n : ℕ) (p : ℕ → Bool) (t x : ℕ) → ((q : ℕ → Bool) → same_bits p q t 0 ≡ true → v.word q ≡ x)
      → same_words v.word n p t x ≡ true
  same_words-true zero p t x h = eq-eqb (v.word p) x (h p (same_bits-refl p t 0))
  same_words-true (suc n) p t x h =
      and_both (same_words v.word n (with_bit p t false) (suc t) x)
      (same_words v.word n (with_bit p t true) (suc t) x)
      (same_words-true n (with_bit p t false) (suc t) x (λ q a. h q (of-side p q t false a).0))
      (same_words-true n (with_bit p t true) (suc t) x (λ q a. h q (of-side p q t true a).0))

  -- in a directory of depth T, whose words depend on the first T bits of a string
  pub word-of-same_words : (T : ℕ) → ((p q : ℕ → Bool) → same_bits p q T 0 ≡ true → v.word p ≡ v.word q)
      → (n : ℕ) (p : ℕ → Bool) (t x : ℕ) → t + n ≡ T → same_words v.word n p t x ≡ true
      → (q : ℕ → Bool) → same_bits p q t 0 ≡ true → v.word q ≡ x
  word-of-same_words T local zero p t x h e q a =
      sym (local p q (rw (sym (add-zero t) ∙ h) at a)) ∙ eqb-true (v.word p) x e
  word-of-same_words T local (suc n) p t x h e q a =
      by_bit (q t) refl (word-of-same_words T local n (with_bit p t false) (suc t) x below k.0 q)
      (word-of-same_words T local n (with_bit p t true) (suc t) x below k.1 q)
    where
      below : suc t + n ≡ T
      below = suc-add t n ∙ sym (add-suc t n) ∙ h

      k : (same_words v.word n (with_bit p t false) (suc t) x ≡ true)
          × (same_words v.word n (with_bit p t true) (suc t) x ≡ true)
      k = and_split (same_words v.word n (with_bit p t false) (suc t) x)
          (same_words v.word n (with_bit p t true) (suc t) x) e

      by_bit : (β : Bool) → q t ≡ β → (same_bits (with_bit p t false) q (suc t) 0 ≡ true → v.word q ≡ x)
          → (same_bits (with_bit p t true) q (suc t) 0 ≡ true → v.word q ≡ x) → v.word q ≡ x
      by_bit false d k₀ k₁ = k₀ (to-side p q t false a d)
      by_bit true d k₀ k₁ = k₁ (to-side p q t true a d)
