-- Laws of the tally as the call check compares it. Assumes nothing.
use Prim.Native.Nat.{ℕ, zero, suc, ◌+◌, ◌<◌}
use mathlib.Core.Path.{◌≡◌, refl, sym, ap, ◌∙◌}
use mathlib.Core.Bool.{true, cond}
use mathlib.Core.List.{List}
use native.Mathlib.Omega.{arith}
use native.Mathlib.Nat.{zero-add, add-zero, add-suc, suc-add}
use lib.Dec.{eqb}
use lib.ListN.{length, get_or, replicate, get_or-replicate}
use lib.Seq.{ext_get_or}
use borrow.Author.Tests.{eqb-true, eq-eqb, ne_eqb}
use Rattle.lists.proofs.Bools.{eq-of-iff}
use Rattle.shape.proofs.BoundsLaws.{test-of-all_below}
use Rattle.region.specs.Division.{Division, leaf, divided, tally}
use Rattle.record.specs.Record.{Record}
use Rattle.record.proofs.KeyLaws.{all_below-of-tests}
use Rattle.store.specs.Sound.{tallies}
use Rattle.check_test.specs.Test.{same_numbers}
use Rattle.check_test.proofs.SoundLaws.{eq-of-same_numbers, same_numbers-refl}
use Rattle.check_counts.specs.Counts.{same_tally}
use Rattle.check_walk.specs.Sums.{leaves_at, Tallied}

-- no leaf of a region is above it
leaves_at-above : (D : Division Record) (x y : ℕ) → y < x → leaves_at D x y ≡ 0
leaves_at-above (leaf rs) x y h = rw (ne_eqb y x (λ e. omega arith))
leaves_at-above (divided l u) x y h =
    omega (arith, leaves_at-above l (suc x) y (omega arith), leaves_at-above u (suc x) y (omega arith))

leaves_at-tally : (D : Division Record) (x y : ℕ) → leaves_at D x (x + y) ≡ tally D y
leaves_at-tally (leaf rs) x y =
    ap (λ β. cond β 1 0)
    (eq-of-iff (eqb (x + y) x) (eqb y 0) (λ e. eq-eqb y 0 (omega (arith, eqb-true (x + y) x e)))
    (λ e. eq-eqb (x + y) x (omega (arith, eqb-true y 0 e))))
leaves_at-tally (divided l u) x zero =
    omega (arith, leaves_at-above l (suc x) (x + 0) (omega arith), leaves_at-above u (suc x) (x + 0) (omega arith))
leaves_at-tally (divided l u) x (suc y) =
    let e : x + suc y ≡ suc x + y = omega arith in
    rw e (cc (leaves_at-tally l (suc x) y, leaves_at-tally u (suc x) y))

length-tallies : (D : Division Record) (x n : ℕ) → length (tallies D x n) ≡ n
length-tallies D x zero = refl
length-tallies D x (suc n) = ap suc (length-tallies D (suc x) n)

get_d-tallies : (D : Division Record) (x n i : ℕ) → i < n → get_or (tallies D x n) i 0 ≡ tally D (x + i)
get_d-tallies D x zero i h = absurd (omega arith)
get_d-tallies D x (suc n) zero h = ap (tally D) (sym (add-zero x))
get_d-tallies D x (suc n) (suc i) h =
    get_d-tallies D (suc x) n i (omega arith) ∙ ap (tally D) (suc-add x i ∙ sym (add-suc x i))

-- the counts of the whole walk are the tally
pub same_numbers-same_tally : (D : Division Record) (leaves counts : List ℕ) → length leaves ≡ 13
    → Tallied D 0 (replicate 13 0) counts → same_numbers leaves (tallies D 0 13) ≡ same_tally leaves counts
same_numbers-same_tally D leaves counts len told =
    eq-of-iff (same_numbers leaves (tallies D 0 13)) (same_tally leaves counts) to from
  where
    count : (x : ℕ) → x < 13 → get_or counts x 0 ≡ get_or (tallies D 0 13) x 0
    count x h =
        let zero-there = get_or-replicate {A = ℕ} 13 x 0 0 h in
        let e : 0 + x ≡ x = zero-add x in
        told x h ∙ ap (λ k. k + leaves_at D 0 x) zero-there ∙ zero-add (leaves_at D 0 x)
        ∙ ap (leaves_at D 0) (sym e) ∙ leaves_at-tally D 0 x ∙ ap (tally D) (sym e) ∙ sym (get_d-tallies D 0 13 x h)

    to : same_numbers leaves (tallies D 0 13) ≡ true → same_tally leaves counts ≡ true
    to e =
        all_below-of-tests 13 (λ x. eqb (get_or leaves x 0) (get_or counts x 0))
        (λ x h. eq-eqb (get_or leaves x 0) (get_or counts x 0)
        (ap (λ (l : List ℕ). get_or l x 0) (eq-of-same_numbers leaves (tallies D 0 13) e) ∙ sym (count x h)))

    from : same_tally leaves counts ≡ true → same_numbers leaves (tallies D 0 13) ≡ true
    from e =
        let same : leaves ≡ tallies D 0 13 =
        ext_get_or 0 leaves (tallies D 0 13) (len ∙ sym (length-tallies D 0 13))
        (λ x h.
        let below : x < 13 = omega (arith, len) in
        eqb-true (get_or leaves x 0) (get_or counts x 0)
        (test-of-all_below (λ x. eqb (get_or leaves x 0) (get_or counts x 0)) 13 x e below) ∙ count x below) in
        ap (λ l. same_numbers l (tallies D 0 13)) same ∙ same_numbers-refl (tallies D 0 13)
