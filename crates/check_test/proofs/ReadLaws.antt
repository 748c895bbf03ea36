-- Yes is right: where the walk passes, what it reads is the division of its own records, which are a set, and words and
-- pages show it. Assumes nothing.
use Prim.Native.Nat.{ℕ, zero, suc, ◌+◌, ◌≤◌, ◌<◌}
use mathlib.Core.Path.{◌≡◌, refl, sym, ap, ◌∙◌}
use mathlib.Core.Bool.{Bool, true, false, ◌&&◌, cond, beq, false≢true, true≢false}
use mathlib.Core.List.{◌++◌, append-nil}
use native.Mathlib.Omega.{arith}
use native.Mathlib.Nat.{zero-add, add-zero, suc-add, add-suc}
use lib.Dec.{leb, ltb, eqb}
use lib.ListN.{length, length-append}
use borrow.Author.Tests.{leb-true, leb-false, ltb-true, eqb-true}
use Rattle.lists.specs.Filter.{all}
use Rattle.lists.proofs.Bools.{and_split, eq-of-beq}
use Rattle.lists.proofs.FilterLaws.{all-imp, all_append, filter-append, filter-all, filter_none}
use Rattle.region.specs.Strings.{same_bits, with_bit}
use Rattle.region.specs.Sets.{before, sorted}
use Rattle.region.specs.Division.{Division, leaf, divided, side, divide, leaf_depth, leaf_records, all_records}
use Rattle.region.proofs.OrderLaws.{sorted-append}
use Rattle.region.proofs.DivideLaws.{divide-leaf, divide-divided}
use Rattle.directory_word.specs.Word.{depth_field, page_field}
use Rattle.check_test.specs.Walk.{View, field_records, page_test, same_words, leaf_test}
use Rattle.check_test.specs.Walk.{read_division}
use Rattle.check_test.specs.Walk.{record_count, region_test}
use Rattle.check_test.proofs.WalkLaws.{read_division-leaf, read_division-divided}
use Rattle.check_test.proofs.WalkLaws.{record_count-divided, region_test-leaf}
use Rattle.check_test.proofs.WalkLaws.{region_test-divided}
use Rattle.check_test.proofs.ViewLaws.{of-side, to-side, Holds, page-of-test, Shown, word-of-same_words}

-- ---- order

-- two records that begin with p and part at its next step
pub before-of-bits : {R : Type 0} (bit : R → ℕ → Bool) (p : ℕ → Bool) (r r' : R) (n t k : ℕ) → k < n
    → same_bits p (bit r) k t ≡ true → same_bits p (bit r') k t ≡ true → bit r (t + k) ≡ false → bit r' (t + k) ≡ true
    → before bit n t r r' ≡ true
before-of-bits bit p r r' zero t k h a a' d d' = absurd (omega arith)
before-of-bits bit p r r' (suc n) t zero h a a' d d' = rw (rw (add-zero t) at d, rw (add-zero t) at d')
before-of-bits bit p r r' (suc n) t (suc k) h a a' d d' =
    let e = and_split (beq (p t) (bit r t)) (same_bits p (bit r) k (suc t)) a in
    let e' = and_split (beq (p t) (bit r' t)) (same_bits p (bit r') k (suc t)) a' in
    step (bit r t) (bit r' t) (eq-of-beq (p t) (bit r t) e.0 ∙ sym (eq-of-beq (p t) (bit r' t) e'.0))
    (before-of-bits bit p r r' n (suc t) k (omega arith) e.1 e'.1
    (rw (suc-add t k, ← add-suc t k) d) (rw (suc-add t k, ← add-suc t k) d'))
  where
    step : (α β : Bool) → α ≡ β → {m : Bool} → m ≡ true → cond (beq α β) m β ≡ true
    step true true z k = k
    step true false z k = absurd (true≢false z)
    step false true z k = absurd (false≢true z)
    step false false z k = k

module _ {R : Type 0} (v : View R) where
  -- ---- one induction for all that follows

  -- what holds of a leaf that passes, and of a divided region whose sides have it, holds of the division read
  pub read_division-cases : (Q : ℕ → (ℕ → Bool) → ℕ → Division R → Type 0)
      → ((n : ℕ) (p : ℕ → Bool) (t : ℕ) → leaf_test v n p t ≡ true
      → Q n p t (leaf (field_records v (page_field (v.word p)))))
      → ((n : ℕ) (p : ℕ → Bool) (t : ℕ) (l u : Division R) → Q n (with_bit p t false) (suc t) l
      → Q n (with_bit p t true) (suc t) u → v.capacity < length (all_records l) + length (all_records u)
      → Q (suc n) p t (divided l u))
      → (n : ℕ) (p : ℕ → Bool) (t : ℕ) → region_test v n p t ≡ true → Q n p t (read_division v n p t)
  read_division-cases Q at_leaf at-divided zero p t e = at_leaf zero p t e
  read_division-cases Q at_leaf at-divided (suc n) p t e =
      by-depth (leb (depth_field (v.word p)) t) refl
      (read_division-cases Q at_leaf at-divided n (with_bit p t false) (suc t))
      (read_division-cases Q at_leaf at-divided n (with_bit p t true) (suc t))
    where
      lower : Division R
      lower = read_division v n (with_bit p t false) (suc t)

      upper : Division R
      upper = read_division v n (with_bit p t true) (suc t)

      Below : Bool → Type 0
      Below β = region_test v n (with_bit p t β) (suc t) ≡ true
          → Q n (with_bit p t β) (suc t) (read_division v n (with_bit p t β) (suc t))

      by-depth : (γ : Bool) → leb (depth_field (v.word p)) t ≡ γ → Below false → Below true
          → Q (suc n) p t (read_division v (suc n) p t)
      by-depth true d k₀ k₁ =
          let h = leb-true (depth_field (v.word p)) t d in
          rw (read_division-leaf v (suc n) p t h) (at_leaf (suc n) p t (sym (region_test-leaf v (suc n) p t h) ∙ e))
      by-depth false d k₀ k₁ =
          let h = leb-false (depth_field (v.word p)) t d in
          let a = region_test v n (with_bit p t false) (suc t) in
          let c = region_test v n (with_bit p t true) (suc t) in
          let m = ltb v.capacity (record_count v (suc n) p t) in
          let k = and_split a (c && m) (sym (region_test-divided v n p t h) ∙ e) in
          let k' = and_split c m k.1 in
          let more : v.capacity < length (all_records lower) + length (all_records upper) =
          rw (record_count-divided v n p t h) at (ltb-true v.capacity (record_count v (suc n) p t) k'.1) in
          rw (read_division-divided v n p t h) (at-divided n p t lower upper (k₀ k.0) (k₁ k'.0) more)

  -- ---- what the division read has, in a directory of depth T

  module _ (T : ℕ) (local : (p q : ℕ → Bool) → same_bits p q T 0 ≡ true → v.word p ≡ v.word q) where
    pub record Read (n : ℕ) (p : ℕ → Bool) (t : ℕ) (D : Division R) : Type 0 where
      pub begins : all (λ r. same_bits p (v.bit r) t 0) (all_records D) ≡ true
      pub fit : all v.fits (all_records D) ≡ true
      pub ordered : t + n ≤ v.bits → sorted v.bit v.bits 0 (all_records D) ≡ true
      pub divides : (m : ℕ) → n ≤ m → divide v.bit v.capacity m t (all_records D) ≡ D
      pub shows : t + n ≡ T → Shown v p t D

    read-leaf : (n : ℕ) (p : ℕ → Bool) (t : ℕ) → leaf_test v n p t ≡ true
        → Read n p t (leaf (field_records v (page_field (v.word p))))
    read-leaf n p t e =
        let x = v.word p in
        let f = page_field x in
        let k₁ = and_split (eqb (depth_field x) t) (page_test v p t f && same_words v.word n p t x) e in
        let k₂ = and_split (page_test v p t f) (same_words v.word n p t x) k₁.1 in
        let k = page-of-test v p t f k₂.0 in
        record {
          begins = k.begins;
          fit = k.fit;
          ordered = λ h. k.ordered;
          divides = λ m h. divide-leaf v.bit v.capacity m t (field_records v f) k.short;
          shows = λ h. shows-leaf n p t h (eqb-true (depth_field x) t k₁.0) k₂.1 k.held;
        }
      where
        shows-leaf : (n : ℕ) (p : ℕ → Bool) (t : ℕ) → t + n ≡ T → depth_field (v.word p) ≡ t
            → same_words v.word n p t (v.word p) ≡ true
            → Holds v (field_records v (page_field (v.word p))) (page_field (v.word p))
            → Shown v p t (leaf (field_records v (page_field (v.word p))))
        shows-leaf n p t h d e k =
            record {
              depth = λ q a. ap depth_field (one q a) ∙ d ∙ sym (add-zero t);
              page = λ q a. rw (one q a) k;
              same = λ q q' a a' z. one q a ∙ sym (one q' a');
            }
          where
            one : (q : ℕ → Bool) → same_bits p q t 0 ≡ true → v.word q ≡ v.word p
            one q a = word-of-same_words v T local n p t (v.word p) h e q a

    module _ (n : ℕ) (p : ℕ → Bool) (t : ℕ) (l u : Division R) (kl : Read n (with_bit p t false) (suc t) l)
        (ku : Read n (with_bit p t true) (suc t) u)
        (more : v.capacity < length (all_records l) + length (all_records u)) where
      abbrev begins : Bool → R → Bool
      begins β r = same_bits (with_bit p t β) (v.bit r) (suc t) 0

      abbrev on : Bool → R → Bool
      on β r = beq β (v.bit r t)

      bit-of : (β : Bool) (r : R) → begins β r ≡ true → v.bit r t ≡ β
      bit-of β r k = (of-side p (v.bit r) t β k).1

      side-lower : side v.bit false t (all_records l ++ all_records u) ≡ all_records l
      side-lower =
          filter-append (on false) (all_records l) (all_records u)
          ∙ rw (
            filter-all (begins false) (on false) (λ r k. rw (bit-of false r k)) (all_records l) kl.begins,
            filter_none (begins true) (on false) (λ r k. rw (bit-of true r k)) (all_records u) ku.begins,
          )
          (append-nil (all_records l))

      side-upper : side v.bit true t (all_records l ++ all_records u) ≡ all_records u
      side-upper =
          filter-append (on true) (all_records l) (all_records u)
          ∙ rw (
            filter_none (begins false) (on true) (λ r k. rw (bit-of false r k)) (all_records l) kl.begins,
            filter-all (begins true) (on true) (λ r k. rw (bit-of true r k)) (all_records u) ku.begins,
          )

      divides-divided : (m : ℕ) → suc n ≤ m
          → divide v.bit v.capacity m t (all_records l ++ all_records u) ≡ divided l u
      divides-divided zero h = absurd (omega arith)
      divides-divided (suc m) h =
          divide-divided v.bit v.capacity m t (all_records l ++ all_records u)
          (omega (arith, length-append (all_records l) (all_records u), more))
          ∙ rw (side-lower, side-upper, kl.divides m (omega arith), ku.divides m (omega arith))

      ordered-divided : t + suc n ≤ v.bits → sorted v.bit v.bits 0 (all_records l ++ all_records u) ≡ true
      ordered-divided h =
          sorted-append v.bit v.bits 0 (all_records l) (all_records u) (kl.ordered (omega arith))
          (ku.ordered (omega arith))
          (all-imp (begins false) (λ r. all (before v.bit v.bits 0 r) (all_records u))
          (λ r k.
          all-imp (begins true) (before v.bit v.bits 0 r) (λ r' k'. parted r r' k k') (all_records u) ku.begins)
          (all_records l) kl.begins)
        where
          parted : (r r' : R) → begins false r ≡ true → begins true r' ≡ true → before v.bit v.bits 0 r r' ≡ true
          parted r r' k k' =
              let a = of-side p (v.bit r) t false k in
              let a' = of-side p (v.bit r') t true k' in
              before-of-bits v.bit p r r' v.bits 0 t (omega arith) a.0 a'.0
              (rw (zero-add t) a.1) (rw (zero-add t) a'.1)

      module _ (h : t + suc n ≡ T) where
        shown-lower : Shown v (with_bit p t false) (suc t) l
        shown-lower = kl.shows (suc-add t n ∙ sym (add-suc t n) ∙ h)

        shown-upper : Shown v (with_bit p t true) (suc t) u
        shown-upper = ku.shows (suc-add t n ∙ sym (add-suc t n) ∙ h)

        depth-divided : (q : ℕ → Bool) → same_bits p q t 0 ≡ true → (β : Bool) → q t ≡ β
            → depth_field (v.word q) ≡ t + leaf_depth q t (divided l u)
        depth-divided q a false e = rw (e, add-suc, ← suc-add) (shown-lower.depth q (to-side p q t false a e))
        depth-divided q a true e = rw (e, add-suc, ← suc-add) (shown-upper.depth q (to-side p q t true a e))

        page-divided : (q : ℕ → Bool) → same_bits p q t 0 ≡ true → (β : Bool) → q t ≡ β
            → Holds v (leaf_records q t (divided l u)) (page_field (v.word q))
        page-divided q a false e = rw e (shown-lower.page q (to-side p q t false a e))
        page-divided q a true e = rw e (shown-upper.page q (to-side p q t true a e))

        same-divided : (q q' : ℕ → Bool) → same_bits p q t 0 ≡ true → same_bits p q' t 0 ≡ true
            → same_bits q q' (leaf_depth q t (divided l u)) t ≡ true → (β : Bool) → q t ≡ β → v.word q ≡ v.word q'
        same-divided q q' a a' z β e = by_bit β e
          where
            k : (beq (q t) (q' t) ≡ true)
                × (same_bits q q' (cond (q t) (leaf_depth q (suc t) u) (leaf_depth q (suc t) l)) (suc t) ≡ true)
            k = and_split (beq (q t) (q' t))
                (same_bits q q' (cond (q t) (leaf_depth q (suc t) u) (leaf_depth q (suc t) l)) (suc t)) z

            d : q' t ≡ q t
            d = eq-of-beq (q t) (q' t) k.0

            by_bit : (β : Bool) → q t ≡ β → v.word q ≡ v.word q'
            by_bit false e =
                shown-lower.same q q' (to-side p q t false a e) (to-side p q' t false a' (d ∙ e)) (rw e at k.1)
            by_bit true e =
                shown-upper.same q q' (to-side p q t true a e) (to-side p q' t true a' (d ∙ e)) (rw e at k.1)

      read-divided : Read (suc n) p t (divided l u)
      read-divided =
          record {
            begins = all_append (λ r. same_bits p (v.bit r) t 0) (all_records l) (all_records u)
                (all-imp (begins false) (λ r. same_bits p (v.bit r) t 0) (λ r k. (of-side p (v.bit r) t false k).0)
                (all_records l) kl.begins)
                (all-imp (begins true) (λ r. same_bits p (v.bit r) t 0) (λ r k. (of-side p (v.bit r) t true k).0)
                (all_records u) ku.begins);
            fit = all_append v.fits (all_records l) (all_records u) kl.fit ku.fit;
            ordered = ordered-divided;
            divides = divides-divided;
            shows = λ h.
                record {
                  depth = λ q a. depth-divided h q a (q t) refl;
                  page = λ q a. page-divided h q a (q t) refl;
                  same = λ q q' a a' z. same-divided h q q' a a' z (q t) refl;
                };
          }

    pub read-of-test : (n : ℕ) (p : ℕ → Bool) (t : ℕ) → region_test v n p t ≡ true → Read n p t (read_division v n p t)
    read-of-test = read_division-cases Read read-leaf read-divided
