-- Free pages by counting: as many pages are in use as leaves have one, exactly if every page without a leaf is free.
-- Assumes nothing.
use Prim.Native.Nat.{ℕ, zero, suc, pred, ◌+◌, ◌≤◌, ◌<◌}
use mathlib.Core.Path.{◌≡◌, refl, sym, ap, ◌∙◌}
use mathlib.Core.Bool.{Bool, true, false, cond, false≢true}
use mathlib.Core.List.{List, [], ◌∷◌, ◌++◌}
use mathlib.Core.Logic.{◌⊎◌, inl, inr}
use native.Mathlib.Omega.{arith}
use lib.ListN.{length}
use Rattle.lists.specs.Filter.{filter, non_empty}
use Rattle.lists.specs.Members.{Member, All, NoRepeat}
use Rattle.lists.proofs.Numbers.{eq-or-ne}
use Rattle.lists.proofs.MemberLaws.{All-imp, All-filter, Member-filter, length-le-members}
use Rattle.region.specs.Strings.{same_bits, empty_string}
use Rattle.region.specs.Division.{Division, divide, leaf_depth, leaf_records, non_empty_leaves}
use Rattle.region.proofs.StringLeafLaws.{same_bits-leaf_depth}
use Rattle.region.proofs.PageLaws.{PagesApart, PagesShared, leaf_pages, length-leaf_pages, All-leaf_pages}
use Rattle.region.proofs.PageLaws.{NoRepeat-leaf_pages}
use Rattle.region.proofs.PageLaws.{Member-leaf_pages}
use Rattle.directory_word.specs.Word.{page_field}
use Rattle.check_test.specs.Walk.{View, pages_in_use}
use Rattle.check_test.proofs.ViewLaws.{Holds, Shown}

Member-or-not : (g : ℕ) (xs : List ℕ) → Member g xs ⊎ (Member g xs → ⊥)
Member-or-not g [] = inr (λ m. m)
Member-or-not g (x ∷ xs) = by-case (eq-or-ne g x) (Member-or-not g xs)
  where
    neither : (g ≡ x → ⊥) → (Member g xs → ⊥) → Member g (x ∷ xs) → ⊥
    neither d n (inl e) = d e
    neither d n (inr m) = n m

    by-case : (g ≡ x) ⊎ (g ≡ x → ⊥) → Member g xs ⊎ (Member g xs → ⊥) → Member g (x ∷ xs) ⊎ (Member g (x ∷ xs) → ⊥)
    by-case (inl e) m = inl (inl e)
    by-case (inr d) (inl m) = inl (inr m)
    by-case (inr d) (inr n) = inr (neither d n)

-- the numbers below k
abbrev below : ℕ → List ℕ
below zero = []
below (suc k) = k ∷ below k

All-below : (k n : ℕ) → k ≤ n → All (λ g. g < n) (below k)
All-below zero n h = tt
All-below (suc k) n h = (omega arith, All-below k n (omega arith))

Member-below : (k g : ℕ) → g < k → Member g (below k)
Member-below zero g h = absurd (omega arith)
Member-below (suc k) g h = by-case (eq-or-ne g k) (Member-below k g)
  where
    by-case : (g ≡ k) ⊎ (g ≡ k → ⊥) → (g < k → Member g (below k)) → Member g (k ∷ below k)
    by-case (inl e) f = inl e
    by-case (inr d) f = inr (f (omega arith))

module _ {R : Type 0} (v : View R) where
  -- ---- the pages in use

  abbrev busy : ℕ → Bool
  busy g = non_empty (v.shown g)

  abbrev used : ℕ → List ℕ
  used k = filter busy (below k)

  length-used : (k : ℕ) → length (used k) ≡ pages_in_use v k
  length-used zero = refl
  length-used (suc k) = by-test (busy k) (length-used k)
    where
      by-test : (β : Bool) → length (used k) ≡ pages_in_use v k
          → length (cond β (k ∷ []) [] ++ used k) ≡ cond β 1 0 + pages_in_use v k
      by-test true e = omega arith
      by-test false e = omega arith

  All-used : (k : ℕ) → All (λ g. (g < k) × (busy g ≡ true)) (used k)
  All-used k = All-filter (λ g. g < k) busy (below k) (All-below k k (omega arith))

  NoRepeat-used : (k : ℕ) → NoRepeat (used k)
  NoRepeat-used zero = tt
  NoRepeat-used (suc k) =
      by-test (busy k)
      (All-imp (λ g. (g < k) × (busy g ≡ true)) (λ g. k ≡ g → ⊥) (λ g h e. omega (arith, h.0)) (used k) (All-used k))
      (NoRepeat-used k)
    where
      by-test : (β : Bool) → All (λ g. k ≡ g → ⊥) (used k) → NoRepeat (used k) → NoRepeat (cond β (k ∷ []) [] ++ used k)
      by-test true h n = (h, n)
      by-test false h n = n

  -- ---- the pages of leaves

  -- the page of the leaf that a string leads to
  abbrev pub page_of : (ℕ → Bool) → ℕ
  page_of q = pred (page_field (v.word q))

  pub Holds-page : (rs : List R) (f : ℕ) → Holds v rs f → non_empty rs ≡ true
      → (f ≡ suc (pred f)) × (pred f < v.pages) × (v.shown (pred f) ≡ rs)
  Holds-page [] f h e = absurd (false≢true e)
  Holds-page (r ∷ rs) zero h e = absurd h
  Holds-page (r ∷ rs) (suc g) h e = (refl, h.0, h.1)

  pub Holds-non_empty : (rs : List R) (g : ℕ) → Holds v rs (suc g) → non_empty rs ≡ true
  Holds-non_empty [] g h = absurd (omega arith)
  Holds-non_empty (r ∷ rs) g h = refl

  -- the leaves of a set
  module _ (n : ℕ) (S : List R) (s : Shown v empty_string 0 (divide v.bit v.capacity n 0 S)) where
    abbrev D : Division R
    D = divide v.bit v.capacity n 0 S

    page-of : (q : ℕ → Bool) → non_empty (leaf_records q 0 D) ≡ true
        → (page_field (v.word q) ≡ suc (page_of q)) × (page_of q < v.pages) × (v.shown (page_of q) ≡ leaf_records q 0 D)
    page-of q e = Holds-page (leaf_records q 0 D) (page_field (v.word q)) (s.page q refl) e

    -- a page shows the records of one leaf only
    pub pages-apart : PagesApart page_of D
    pages-apart p q h h' e =
        by-records (leaf_records p 0 D) refl h
        (sym (page-of q h').2 ∙ ap v.shown (sym e) ∙ (page-of p h).2)
      where
        by-records : (rs : List R) → leaf_records p 0 D ≡ rs → non_empty rs ≡ true → leaf_records q 0 D ≡ leaf_records p 0 D
            → same_bits p q (leaf_depth p 0 D) 0 ≡ true
        by-records [] d k z = absurd (false≢true k)
        by-records (x ∷ xs) d k z = same_bits-leaf_depth v.bit v.capacity p q n 0 S x xs d (z ∙ d)

    pages-shared : PagesShared page_of D
    pages-shared p q h e = ap (λ x. pred (page_field x)) (s.same p q refl refl e)

    All-pages : All (λ g. (p : ℕ → Bool) × (non_empty (leaf_records p 0 D) ≡ true) × (page_of p ≡ g)) (leaf_pages page_of D)
    All-pages = All-leaf_pages page_of D

    -- the pages of leaves are in use
    pages-used : All (λ g. Member g (used v.pages)) (leaf_pages page_of D)
    pages-used = All-imp _ (λ g. Member g (used v.pages)) each (leaf_pages page_of D) All-pages
      where
        each : (g : ℕ) → (p : ℕ → Bool) × (non_empty (leaf_records p 0 D) ≡ true) × (page_of p ≡ g)
            → Member g (used v.pages)
        each g h =
            let k = page-of h.0 h.1 in
            Member-filter busy g (below v.pages) (Member-below v.pages g (rw (← h.2) k.1))
            (rw (← h.2, k.2) h.1)

    -- the page that a word names is that of a leaf
    Member-field : (q : ℕ → Bool) (g : ℕ) → page_field (v.word q) ≡ suc g → Member g (leaf_pages page_of D)
    Member-field q g e =
        let h = Holds-non_empty (leaf_records q 0 D) g (rw e at (s.page q refl)) in
        let d : page_of q ≡ g = ap pred e in
        rw d at (Member-leaf_pages page_of D pages-shared q h)

    -- ---- counting

    -- as many: a page that no word names is free
    pub free-of-count : pages_in_use v v.pages ≡ non_empty_leaves D → (g : ℕ) → g < v.pages
        → ((q : ℕ → Bool) → page_field (v.word q) ≡ suc g → ⊥) → non_empty (v.shown g) ≡ false
    free-of-count e g l h = by-test (busy g) refl
      where
        nobody : All (λ y. g ≡ y → ⊥) (leaf_pages page_of D)
        nobody =
            All-imp _ (λ y. g ≡ y → ⊥)
            (λ y k d. h k.0 ((page-of k.0 k.1).0 ∙ ap suc (k.2 ∙ sym d))) (leaf_pages page_of D) All-pages

        by-test : (β : Bool) → busy g ≡ β → busy g ≡ false
        by-test false d = d
        by-test true d =
            absurd
            (omega (
              arith,
              e,
              length-leaf_pages page_of D,
              length-used v.pages,
              length-le-members (g ∷ leaf_pages page_of D) (used v.pages)
                  (nobody, NoRepeat-leaf_pages page_of D pages-apart)
                  (Member-filter busy g (below v.pages) (Member-below v.pages g l) d, pages-used),
            ))

    -- every page in use is named: as many
    pub count-of-free : ((g : ℕ) → g < v.pages → non_empty (v.shown g) ≡ true
        → ((q : ℕ → Bool) → page_field (v.word q) ≡ suc g → ⊥) → ⊥)
        → pages_in_use v v.pages ≡ non_empty_leaves D
    count-of-free f =
        omega (
          arith,
          length-leaf_pages page_of D,
          length-used v.pages,
          length-le-members (leaf_pages page_of D) (used v.pages) (NoRepeat-leaf_pages page_of D pages-apart) pages-used,
          length-le-members (used v.pages) (leaf_pages page_of D) (NoRepeat-used v.pages)
              (All-imp (λ g. (g < v.pages) × (busy g ≡ true)) (λ g. Member g (leaf_pages page_of D)) each
              (used v.pages) (All-used v.pages)),
        )
      where
        each : (g : ℕ) → (g < v.pages) × (busy g ≡ true) → Member g (leaf_pages page_of D)
        each g h = by-case (Member-or-not g (leaf_pages page_of D))
          where
            by-case : Member g (leaf_pages page_of D) ⊎ (Member g (leaf_pages page_of D) → ⊥)
                → Member g (leaf_pages page_of D)
            by-case (inl m) = m
            by-case (inr n) = absurd (f g h.0 h.1 (λ q e. n (Member-field q g e)))
