-- Laws of what a walk sees in any store: at most 2^T pages, each below P and with a count from 1 to b. Assumes nothing.
use Prim.Native.Nat.{ℕ, zero, suc, ◌*◌, ◌-◌, ◌^◌, ◌≤◌, ◌<◌}
use mathlib.Core.Path.{◌≡◌, refl}
use mathlib.Core.Bool.{Bool, true, false, cond}
use mathlib.Core.List.{List, ◌++◌}
use native.Mathlib.Omega.{arith}
use native.Mathlib.Nat.{pow-suc}
use lib.Dec.{eqb, ltb}
use lib.Pow.{pow_pos}
use lib.ListN.{length, length-append}
use borrow.Author.Tests.{eqb-false, ltb-false}
use Rattle.lists.specs.Members.{All}
use Rattle.lists.proofs.Bools.{cond_cases}
use Rattle.lists.proofs.MemberLaws.{All-append}
use Rattle.shape.specs.Shape.{within}
use Rattle.region.specs.Strings.{with_bit}
use Rattle.page.specs.Page.{count_of, page_at}
use Rattle.directory_word.specs.Word.{page_field, depth_field}
use Rattle.query_seen.specs.Seen.{Seen, nothing, damaged, single, after, noted, met, seen}

-- ---- how many

pub length-noted-le : (P : ℕ) (has : Bool) (fair : ℕ → Bool) (word : ℕ) → length (noted P has fair word).pages ≤ 1
unfolding noted
length-noted-le P has fair word = go has (eqb (page_field word) 0) (ltb P (page_field word)) (fair (page_field word - 1))
  where
    go : (h a b c : Bool)
        → length
        (cond h (cond a nothing (cond b damaged (cond c (single (page_field word - 1)) damaged))) damaged).pages
        ≤ 1
    go false a b c = omega arith
    go true true b c = omega arith
    go true false true c = omega arith
    go true false false true = omega arith
    go true false false false = omega arith

pub length-met-le : (T x word : ℕ) (own below : Seen) (k : ℕ) → length own.pages ≤ k → length below.pages ≤ k
    → length (met T x word own below).pages ≤ k
unfolding met
length-met-le T x word own below k h l =
    go (eqb (depth_field word) x) (ltb (depth_field word) x) (ltb T (depth_field word))
  where
    go : (a b c : Bool) → length (cond a own (cond b damaged (cond c damaged below))).pages ≤ k
    go true b c = h
    go false true c = omega arith
    go false false true = omega arith
    go false false false = l

pub length-after-le : (s u : Seen) (k : ℕ) → length s.pages ≤ k → length u.pages ≤ k
    → length (after s u).pages ≤ k * 2
unfolding after
length-after-le s u k h l = go s.sound
  where
    go : (β : Bool) → length (cond β (record { pages = s.pages ++ u.pages; sound = u.sound }) s).pages ≤ k * 2
    go true = omega (arith, length-append s.pages u.pages)
    go false = omega arith

-- a leaf shows one page at most
abbrev pub OnePage : {A : Type 0} → (ℕ → A → ℕ → Seen) → Type 0
OnePage {A} leaf = (x : ℕ) (p : A) (word : ℕ) → length (leaf x p word).pages ≤ 1

module _ (word : ℕ → (ℕ → Bool) → ℕ) (leaf : ℕ → (ℕ → Bool) → ℕ → Seen) (enter : ℕ → (ℕ → Bool) → Bool) (T : ℕ) where
  -- a side, if it is entered
  abbrev side : Bool → ℕ → (ℕ → Bool) → ℕ → Seen
  side β f p x = cond (enter (suc x) (with_bit p x β)) (seen word leaf enter T f (with_bit p x β) (suc x)) nothing

  pub length-seen-le : OnePage leaf → (f : ℕ) (p : ℕ → Bool) (x : ℕ)
      → length (seen word leaf enter T f p x).pages ≤ 2 ^ f
  unfolding seen
  length-seen-le few zero p x = length-met-le T x (word x p) _ damaged 1 (few x p (word x p)) (omega arith)
  length-seen-le few (suc f) p x =
      rw pow-suc
      (length-met-le T x (word x p) _ _ (2 ^ f * 2) (omega (arith, pow_pos f, few x p (word x p)))
      (length-after-le (side false f p x) (side true f p x) (2 ^ f)
      (one false (length-seen-le few f (with_bit p x false) (suc x)))
      (one true (length-seen-le few f (with_bit p x true) (suc x)))))
    where
      one : (β : Bool) → length (seen word leaf enter T f (with_bit p x β) (suc x)).pages ≤ 2 ^ f
          → length (side β f p x).pages ≤ 2 ^ f
      one β h =
          cond_cases (λ s. length s.pages ≤ 2 ^ f) (enter (suc x) (with_bit p x β)) _ nothing (λ e. h)
          (λ e. omega arith)

-- ---- which

-- a page that may be read: one of the P, with a count of 1 to b
abbrev pub Readable : ℕ → ℕ → List ℕ → ℕ → Type 0
Readable P b bytes g = (g < P) × (within 1 b (count_of (page_at b bytes g)) ≡ true)

-- what holds of each of the P pages that is fair holds of the one that is noted
pub All-noted : (Q : ℕ → Type 0) (P : ℕ) (has : Bool) (fair : ℕ → Bool)
    → ((g : ℕ) → g < P → fair g ≡ true → Q g) → (word : ℕ) → All Q (noted P has fair word).pages
unfolding noted
All-noted Q P false fair each word = tt
All-noted Q P true fair each word =
    go (eqb (page_field word) 0) refl (ltb P (page_field word)) refl (fair (page_field word - 1)) refl
  where
    go : (a : Bool) → eqb (page_field word) 0 ≡ a → (b : Bool) → ltb P (page_field word) ≡ b
        → (c : Bool) → fair (page_field word - 1) ≡ c
        → All Q (cond a nothing (cond b damaged (cond c (single (page_field word - 1)) damaged))).pages
    go true ea b eb c ec = tt
    go false ea true eb c ec = tt
    go false ea false eb false ec = tt
    go false ea false eb true ec =
        let n = eqb-false (page_field word) 0 ea in
        let h = ltb-false P (page_field word) eb in
        (each (page_field word - 1) (omega arith) ec, tt)

module _ (Q : ℕ → Type 0) where
  All-met : (T x word : ℕ) (own below : Seen) → All Q own.pages → All Q below.pages
      → All Q (met T x word own below).pages
  unfolding met
  All-met T x word own below h k = go (eqb (depth_field word) x) (ltb (depth_field word) x) (ltb T (depth_field word))
    where
      go : (a b c : Bool) → All Q (cond a own (cond b damaged (cond c damaged below))).pages
      go true b c = h
      go false true c = tt
      go false false true = tt
      go false false false = k

  All-after : (s u : Seen) → All Q s.pages → All Q u.pages → All Q (after s u).pages
  unfolding after
  All-after s u h k = go s.sound
    where
      go : (β : Bool) → All Q (cond β (record { pages = s.pages ++ u.pages; sound = u.sound }) s).pages
      go true = All-append Q s.pages u.pages h k
      go false = h

  -- what holds of each leaf's page holds of all that are seen
  pub All-seen : (word : ℕ → (ℕ → Bool) → ℕ) (leaf : ℕ → (ℕ → Bool) → ℕ → Seen)
      → ((x : ℕ) (p : ℕ → Bool) (w : ℕ) → All Q (leaf x p w).pages)
      → (enter : ℕ → (ℕ → Bool) → Bool) (T f : ℕ) (p : ℕ → Bool) (x : ℕ)
      → All Q (seen word leaf enter T f p x).pages
  unfolding seen
  All-seen word leaf each enter T zero p x = All-met T x (word x p) _ damaged (each x p (word x p)) tt
  All-seen word leaf each enter T (suc f) p x =
      All-met T x (word x p) _ _ (each x p (word x p))
      (All-after (side word leaf enter T false f p x) (side word leaf enter T true f p x)
      (one false (All-seen word leaf each enter T f (with_bit p x false) (suc x)))
      (one true (All-seen word leaf each enter T f (with_bit p x true) (suc x))))
    where
      one : (β : Bool) → All Q (seen word leaf enter T f (with_bit p x β) (suc x)).pages
          → All Q (side word leaf enter T β f p x).pages
      one β h = cond_cases (λ s. All Q s.pages) (enter (suc x) (with_bit p x β)) _ nothing (λ e. h) (λ e. tt)
