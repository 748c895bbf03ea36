-- No is right: where words and pages show the division of a set, the walk passes, and reads that division.
-- Assumes nothing.
use Prim.Native.Nat.{ℕ, zero, suc, ◌+◌, ◌≤◌, ◌<◌}
use mathlib.Core.Path.{◌≡◌, refl, ap, ◌∙◌}
use mathlib.Core.Bool.{Bool, true, false, ◌&&◌, cond, beq}
use mathlib.Core.List.{List}
use native.Mathlib.Omega.{arith}
use native.Mathlib.Nat.{add-zero, suc-add, add-suc}
use lib.Dec.{leb, eqb}
use lib.ListN.{length, length-append}
use borrow.Author.Tests.{leb-true, leb-false, lt-ltb, eq-eqb}
use Rattle.lists.specs.Filter.{all}
use Rattle.lists.proofs.Bools.{and_both, eq-of-beq}
use Rattle.lists.proofs.FilterLaws.{all_filter}
use Rattle.region.specs.Strings.{same_bits, with_bit}
use Rattle.region.specs.Sets.{sorted}
use Rattle.region.specs.Division.{Division, leaf, divided, side, divide, leaf_depth, greatest_depth, all_records}
use Rattle.region.proofs.StringLaws.{same_bits-refl}
use Rattle.region.proofs.OrderLaws.{sorted_filter, sorted-side, length-sorted-le, length-sides}
use Rattle.region.proofs.DivideLaws.{divide-leaf, divide-divided, all_records-divide}
use Rattle.directory_word.specs.Word.{depth_field, page_field}
use Rattle.check_test.specs.Walk.{View, field_records, page_test, same_words, leaf_test}
use Rattle.check_test.specs.Walk.{read_division}
use Rattle.check_test.specs.Walk.{record_count, region_test}
use Rattle.check_test.proofs.WalkLaws.{read_division-leaf, read_division-divided}
use Rattle.check_test.proofs.WalkLaws.{region_test-leaf, region_test-divided}
use Rattle.check_test.proofs.ViewLaws.{of-side, to-side, test-of-page, field_records-holds, Shown, same_words-true}

module _ {R : Type 0} (v : View R) where
  -- ---- a region and its sides

  -- the records of a region, of whose keys m bits are left
  pub record Region (m : ℕ) (p : ℕ → Bool) (t : ℕ) (S : List R) : Type 0 where
    pub left-ordered : sorted v.bit m t S ≡ true
    pub ordered : sorted v.bit v.bits 0 S ≡ true
    pub fit : all v.fits S ≡ true
    pub begins : all (λ r. same_bits p (v.bit r) t 0) S ≡ true

  region-side : (m : ℕ) (p : ℕ → Bool) (t : ℕ) (S : List R) (β : Bool) → Region (suc m) p t S
      → Region m (with_bit p t β) (suc t) (side v.bit β t S)
  region-side m p t S β k =
      record {
        left-ordered = sorted-side v.bit m t S β k.left-ordered;
        ordered = sorted_filter v.bit v.bits 0 (λ r. beq β (v.bit r t)) S k.ordered;
        fit = all_filter v.fits (λ r. beq β (v.bit r t)) v.fits (λ r a e. a) S k.fit;
        begins = all_filter (λ r. same_bits p (v.bit r) t 0) (λ r. beq β (v.bit r t))
            (λ r. same_bits (with_bit p t β) (v.bit r) (suc t) 0)
            (λ r a e. to-side p (v.bit r) t β a (eq-of-beq β (v.bit r t) e)) S k.begins;
      }

  shown-side : (p : ℕ → Bool) (t : ℕ) (l u : Division R) (β : Bool) → Shown v p t (divided l u)
      → Shown v (with_bit p t β) (suc t) (cond β u l)
  shown-side p t l u false s =
      record {
        depth = λ q a. let k = of-side p q t false a in rw (k.1, add-suc, ← suc-add) at (s.depth q k.0);
        page = λ q a. let k = of-side p q t false a in rw k.1 at (s.page q k.0);
        same = λ q q' a a' z.
            let k = of-side p q t false a in
            let k' = of-side p q' t false a' in
            s.same q q' k.0 k'.0 (rw (k.1, k'.1) z);
      }
  shown-side p t l u true s =
      record {
        depth = λ q a. let k = of-side p q t true a in rw (k.1, add-suc, ← suc-add) at (s.depth q k.0);
        page = λ q a. let k = of-side p q t true a in rw k.1 at (s.page q k.0);
        same = λ q q' a a' z.
            let k = of-side p q t true a in
            let k' = of-side p q' t true a' in
            s.same q q' k.0 k'.0 (rw (k.1, k'.1) z);
      }

  -- ---- a leaf, a divided region

  abbrev pub Passes : ℕ → (ℕ → Bool) → ℕ → Division R → Type 0
  Passes n p t D = (region_test v n p t ≡ true) × (read_division v n p t ≡ D)

  leaf-passes : (n m : ℕ) (p : ℕ → Bool) (t : ℕ) (S : List R) → length S ≤ v.capacity → Region m p t S
      → Shown v p t (leaf S) → Passes n p t (leaf S)
  leaf-passes n m p t S h k s =
      (region_test-leaf v n p t no_deeper ∙ passes, read_division-leaf v n p t no_deeper ∙ same)
    where
      x : ℕ
      x = v.word p

      deep : depth_field x ≡ t
      deep = s.depth p (same_bits-refl p t 0) ∙ add-zero t

      no_deeper : depth_field x ≤ t
      no_deeper = omega (arith, deep)

      page : page_test v p t (page_field x) ≡ true
      page = test-of-page v p t S (page_field x)
          (record {
            begins = k.begins;
            fit = k.fit;
            ordered = k.ordered;
            short = h;
            held = s.page p (same_bits-refl p t 0);
          })

      passes : leaf_test v n p t ≡ true
      passes =
          and_both (eqb (depth_field x) t) (page_test v p t (page_field x) && same_words v.word n p t x)
          (eq-eqb (depth_field x) t deep)
          (and_both (page_test v p t (page_field x)) (same_words v.word n p t x) page
          (same_words-true v n p t x (λ q a. s.same q p a (same_bits-refl p t 0) refl)))

      same : leaf (field_records v (page_field x)) ≡ leaf S
      same = ap leaf (field_records-holds v S (page_field x) (s.page p (same_bits-refl p t 0)))

  divided-passes : (n : ℕ) (p : ℕ → Bool) (t : ℕ) (l u : Division R) → Shown v p t (divided l u)
      → v.capacity < length (all_records l) + length (all_records u) → Passes n (with_bit p t false) (suc t) l
      → Passes n (with_bit p t true) (suc t) u → Passes (suc n) p t (divided l u)
  divided-passes n p t l u s h k₀ k₁ =
      let d : depth_field (v.word p) ≡ t + leaf_depth p t (divided l u) = s.depth p (same_bits-refl p t 0) in
      let deeper : t < depth_field (v.word p) = omega arith in
      let D : read_division v (suc n) p t ≡ divided l u =
      read_division-divided v n p t deeper ∙ rw (k₀.1, k₁.1) in
      let more : v.capacity < record_count v (suc n) p t =
      rw D (omega (arith, length-append (all_records l) (all_records u))) in (
        region_test-divided v n p t deeper ∙ rw (k₀.0, k₁.0) (lt-ltb v.capacity (record_count v (suc n) p t) more),
        D,
      )

  -- ---- the division of a set

  abbrev division : ℕ → ℕ → List R → Division R
  division m t S = divide v.bit v.capacity m t S

  few-passes : (n m : ℕ) (p : ℕ → Bool) (t : ℕ) (S : List R) → length S ≤ v.capacity → Region m p t S
      → Shown v p t (division m t S) → Passes n p t (division m t S)
  few-passes n m p t S h k s =
      let e = divide-leaf v.bit v.capacity m t S h in
      rw e (leaf-passes n m p t S h k (rw e at s))

  -- the directory has n steps left and the keys have m
  pub division-passes : (n m : ℕ) (p : ℕ → Bool) (t : ℕ) (S : List R) → 1 ≤ v.capacity → Region m p t S
      → greatest_depth (division m t S) ≤ n → Shown v p t (division m t S) → Passes n p t (division m t S)
  division-passes n zero p t S some k deep s =
      few-passes n zero p t S (omega (arith, length-sorted-le v.bit t S k.left-ordered)) k s
  division-passes zero (suc m) p t S some k deep s = by_size (leb (length S) v.capacity) refl
    where
      by_size : (γ : Bool) → leb (length S) v.capacity ≡ γ → Passes zero p t (division (suc m) t S)
      by_size true e = few-passes zero (suc m) p t S (leb-true (length S) v.capacity e) k s
      by_size false e =
          let d = divide-divided v.bit v.capacity m t S (leb-false (length S) v.capacity e) in
          absurd (let h = rw d at deep in omega arith)
  division-passes (suc n) (suc m) p t S some k deep s =
      by_size (leb (length S) v.capacity) refl
      (division-passes n m (with_bit p t false) (suc t) (side v.bit false t S) some)
      (division-passes n m (with_bit p t true) (suc t) (side v.bit true t S) some)
    where
      half : Bool → Division R
      half β = division m (suc t) (side v.bit β t S)

      Below : Bool → Type 0
      Below β = Region m (with_bit p t β) (suc t) (side v.bit β t S) → greatest_depth (half β) ≤ n
          → Shown v (with_bit p t β) (suc t) (half β) → Passes n (with_bit p t β) (suc t) (half β)

      size : (β : Bool) → length (all_records (half β)) ≡ length (side v.bit β t S)
      size β =
          ap length
          (all_records-divide v.bit v.capacity m (suc t) (side v.bit β t S)
          (sorted-side v.bit m t S β k.left-ordered))

      by_size : (γ : Bool) → leb (length S) v.capacity ≡ γ → Below false → Below true
          → Passes (suc n) p t (division (suc m) t S)
      by_size true e k₀ k₁ = few-passes (suc n) (suc m) p t S (leb-true (length S) v.capacity e) k s
      by_size false e k₀ k₁ =
          let many = leb-false (length S) v.capacity e in
          let d : division (suc m) t S ≡ divided (half false) (half true) =
          divide-divided v.bit v.capacity m t S many in
          let s' : Shown v p t (divided (half false) (half true)) = rw d at s in
          let h : greatest_depth (divided (half false) (half true)) ≤ suc n = rw d at deep in
          rw d
          (divided-passes n p t (half false) (half true) s'
          (omega (arith, size false, size true, length-sides v.bit t S, many))
          (k₀ (region-side m p t S false k) (omega arith) (shown-side p t (half false) (half true) false s'))
          (k₁ (region-side m p t S true k) (omega arith) (shown-side p t (half false) (half true) true s')))
