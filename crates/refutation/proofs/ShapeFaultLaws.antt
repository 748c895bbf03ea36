-- Why each wrong answer of `ShapeFaults` contradicts a promise: the answer is one that `ByShape` tells, or 12, which a
-- load gives before it looks at a shape. Assumes nothing.
use Prim.Native.Nat.{ℕ, zero, suc, ◌≤◌, ◌<◌}
use mathlib.Core.Path.{◌≡◌, refl, sym, ap, subst, ◌∙◌}
use mathlib.Core.Bool.{Bool, true, false, not, cond, false≢true}
use mathlib.Core.Logic.{◌⊎◌, ⊎_elim}
use native.Mathlib.Omega.{arith}
use lib.Dec.{ltb}
use borrow.Author.Tests.{ltb-true, ne_eqb}
use Rattle.lists.proofs.Bools.{and_split}
use Rattle.lists.proofs.Numbers.{lt-or-le}
use Rattle.shape.specs.Refusal.{Answer, accepted, refused, refused_with, first_number}
use Rattle.shape.specs.Shape.{count_fits, width_fits, widths_fit, capacity_fits, in_bounds, lowest_below, bad_width}
use Rattle.shape.specs.Shape.{lowest_bad, shape_conditions, shape_number}
use Rattle.shape.specs.declared.Shape.{Shape}
use Rattle.shape.proofs.AmissLaws.{shape_number-count, widths_fit-of-lowest_bad}
use Rattle.shape.proofs.BoundsLaws.{test-of-all_below, before-lowest_below}
use Rattle.shape.proofs.ShapeLaws.{shape-parts, shape_number-true, in_bounds-of}
use Rattle.refutation.specs.ShapeFaults.{ShapeFaults}
use Rattle.refutation.proofs.ChangeLaws.{refused-not-accepted, refused-not-with, refused-number}
use Rattle.refutation.proofs.ShapeAnswerLaws.{of_shape, ByShape, five-not-fourteen}

-- ---- the number of a shape, by case

three-one : (a b c : Bool) → ◌≡◌ {A = ℕ} (cond (not a) 1 (cond (not b) 14 (cond (not c) 15 0))) 1 → a ≡ false
three-one false b c e = refl
three-one true false c e = absurd (omega arith)
three-one true true false e = absurd (omega arith)
three-one true true true e = absurd (omega arith)

three-fourteen : (a b c : Bool) → ◌≡◌ {A = ℕ} (cond (not a) 1 (cond (not b) 14 (cond (not c) 15 0))) 14
    → (a ≡ true) × (b ≡ false)
three-fourteen false b c e = absurd (omega arith)
three-fourteen true false c e = (refl, refl)
three-fourteen true true false e = absurd (omega arith)
three-fourteen true true true e = absurd (omega arith)

three-fifteen : (a b c : Bool) → ◌≡◌ {A = ℕ} (cond (not a) 1 (cond (not b) 14 (cond (not c) 15 0))) 15 → b ≡ true
three-fifteen false b c e = absurd (omega arith)
three-fifteen true false c e = absurd (omega arith)
three-fifteen true true c e = refl

test-lowest : (n : ℕ) (test : ℕ → Bool) → lowest_below n test < n → test (lowest_below n test) ≡ true
test-lowest zero test l = absurd (omega arith)
test-lowest (suc n) test l = go (test 0) refl l (test-lowest n (λ j. test (suc j)))
  where
    go : (β : Bool) → test 0 ≡ β → cond β 0 (suc (lowest_below n (λ j. test (suc j)))) < suc n
        → (lowest_below n (λ j. test (suc j)) < n → test (suc (lowest_below n (λ j. test (suc j)))) ≡ true)
        → test (cond β 0 (suc (lowest_below n (λ j. test (suc j))))) ≡ true
    go true e k rest = e
    go false e k rest = rest (omega arith)

module _ (s : Shape) where
  count-of-one : shape_number s ≡ 1 → count_fits s ≡ false
  unfolding shape_number shape_conditions first_number
  count-of-one = three-one (count_fits s) (widths_fit s) (capacity_fits s)

  widths-of-fourteen : shape_number s ≡ 14 → (count_fits s ≡ true) × (widths_fit s ≡ false)
  unfolding shape_number shape_conditions first_number
  widths-of-fourteen = three-fourteen (count_fits s) (widths_fit s) (capacity_fits s)

  widths-of-fifteen : shape_number s ≡ 15 → widths_fit s ≡ true
  unfolding shape_number shape_conditions first_number
  widths-of-fifteen = three-fifteen (count_fits s) (widths_fit s) (capacity_fits s)

  -- no width is bad where all fit
  bad_width-none : widths_fit s ≡ true → (j : ℕ) → bad_width s j ≡ true → ⊥
  bad_width-none fit j bad =
      let used = and_split (ltb j s.attributes) (not (width_fits s j)) bad in
      let fits = test-of-all_below (λ i. width_fits s i) s.attributes j fit (ltb-true j s.attributes used.0) in
      false≢true (sym (ap not fits) ∙ used.1)

  -- the attribute that 14 names has a bad width
  bad_width-lowest : shape_number s ≡ 14 → bad_width s (lowest_bad s) ≡ true
  unfolding lowest_bad
  bad_width-lowest e = ⊎_elim (test-lowest 4 (bad_width s)) none (lt-or-le (lowest_bad s) 4)
    where
      none : 4 ≤ lowest_bad s → bad_width s (lowest_bad s) ≡ true
      none l =
          let parts = widths-of-fourteen e in
          absurd (false≢true (sym parts.1 ∙ widths_fit-of-lowest_bad s parts.0 l))

  not-above-lowest : (i : ℕ) → i < lowest_bad s → bad_width s i ≡ true → ⊥
  unfolding lowest_bad
  not-above-lowest i l bad = false≢true (sym (before-lowest_below 4 (bad_width s) i l) ∙ bad)

-- ---- wrong answers

of_shape-later : (n : ℕ) → 2 ≤ n → n ≤ 13 → of_shape n ≡ 0
of_shape-later n l h =
    rw (ne_eqb n 1 (λ e. omega (arith, e)), ne_eqb n 14 (λ e. omega (arith, e)), ne_eqb n 15 (λ e. omega (arith, e)))

module _ {A : Type 0} (s : Shape) (Depth : ℕ → Type 0) (Promised : Answer A → Type 0)
    (told : (answer : Answer A) → Promised answer → (answer ≡ refused 12) ⊎ ByShape s Depth answer) where
  by_number : (n : ℕ) → (n ≡ 12 → ⊥) → Promised (refused n) → ByShape {A = A} s Depth (refused n)
  by_number n apart p = ⊎_elim (λ e. absurd (apart (refused-number e))) (λ b. b) (told (refused n) p)

  by_value : (n x : ℕ) → Promised (refused_with n x) → ByShape {A = A} s Depth (refused_with n x)
  by_value n x p = ⊎_elim (λ e. absurd (refused-not-with 12 n x (sym e))) (λ b. b) (told (refused_with n x) p)

  named : (j : ℕ) → Promised (refused_with 14 j) → (shape_number s ≡ 14) × (j ≡ lowest_bad s)
  named j p = ⊎_elim (λ w. (w.1, w.2)) (λ five. absurd (apart five.0)) (by_value 14 j p)
    where
      apart : ◌≡◌ {A = ℕ} 14 5 → ⊥
      apart e = omega (arith, e)

  one : Promised (refused 1) → shape_number s ≡ 1
  one p = sym (by_number 1 (λ e. omega (arith, e)) p).0

  fifteen : Promised (refused 15) → shape_number s ≡ 15
  fifteen p = sym (by_number 15 (λ e. omega (arith, e)) p).0

  two : Promised (refused 2) → shape_number s ≡ 0
  two p = sym (by_number 2 (λ e. omega (arith, e)) p).0

  carries : (n x : ℕ) → Promised (refused_with n x) → (n ≡ 14 → ⊥) → (n ≡ 5 → ⊥) → ⊥
  carries n x p width five = ⊎_elim (λ w. width w.0) (λ d. five d.0) (by_value n x p)

  differ : {m n : ℕ} → shape_number s ≡ m → shape_number s ≡ n → (m ≡ n → ⊥) → ⊥
  differ e d apart = apart (sym e ∙ d)

  amiss : in_bounds s ≡ false → shape_number s ≡ 0 → ⊥
  amiss bad none = false≢true (sym bad ∙ in_bounds-of s none)

  pub shape-faults : ShapeFaults s Promised
  shape-faults =
      record {
        higher = λ i j l bad p. not-above-lowest s i (omega (arith, (named j p).1)) bad;
        not-bad =
            λ j good p.
            let w = named j p in
            false≢true (sym good ∙ subst (λ k. bad_width s k ≡ true) (sym w.1) (bad_width-lowest s w.0));
        not-lowest = λ j apart p. apart (named j p).1;
        good-as-one = λ good p. differ (one p) (shape_number-true s good) (λ e. omega (arith, e));
        good-as-fourteen = λ good j p. differ (named j p).0 (shape_number-true s good) (λ e. omega (arith, e));
        good-as-fifteen = λ good p. differ (fifteen p) (shape_number-true s good) (λ e. omega (arith, e));
        count-good = λ good p. false≢true (sym (count-of-one s (one p)) ∙ good);
        fourteen-before-one = λ bad j p. differ (named j p).0 (shape_number-count s bad) (λ e. omega (arith, e));
        fifteen-before-one = λ bad p. differ (fifteen p) (shape_number-count s bad) (λ e. omega (arith, e));
        fifteen-before-fourteen = λ j bad p. bad_width-none s (widths-of-fifteen s (fifteen p)) j bad;
        two-before-one = λ bad p. false≢true (sym bad ∙ (shape-parts s (two p)).0);
        two-before-fourteen = λ j bad p. bad_width-none s (shape-parts s (two p)).1 j bad;
        two-before-fifteen = λ bad p. false≢true (sym bad ∙ (shape-parts s (two p)).2);
        later_first = λ bad n l h apart p. amiss bad (sym (by_number n apart p).0 ∙ of_shape-later n l h);
        depth-first =
            λ bad x p.
            ⊎_elim (λ w. five-not-fourteen w.0) (λ five. amiss bad five.1) (by_value 5 x p);
        no-attribute = λ p. (by_number 14 (λ e. omega (arith, e)) p).1 refl;
        one-with-attribute = λ x p. carries 1 x p (λ e. omega (arith, e)) (λ e. omega (arith, e));
        fifteen-with-attribute = λ x p. carries 15 x p (λ e. omega (arith, e)) (λ e. omega (arith, e));
        bad-accepted =
            λ bad r p.
            ⊎_elim (λ e. refused-not-accepted r 12 (sym e)) (amiss bad) (told (accepted r) p);
      }
