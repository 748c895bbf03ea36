-- Laws of depths in one number: depth x is among those of a tally if the tally has a leaf there, and how a loop puts
-- them together. Assumes nothing.
use Prim.Native.Nat.{ℕ, zero, suc, ◌+◌, ◌*◌, ◌-◌, ◌/◌, ◌%◌, ◌^◌, ◌≤◌, ◌<◌}
use mathlib.Core.Path.{◌≡◌, refl, sym, ap, ◌∙◌}
use mathlib.Core.Bool.{Bool, true, false, not}
use mathlib.Core.List.{List, [], ◌∷◌}
use native.Mathlib.Omega.{arith}
use native.Mathlib.Nat.{pow-suc, zero-div, mod-eq_of_lt}
use borrow.Author.Tests.{le-leb, eq-eqb, ne_eqb}
use lib.Bits.{bit_and, bit_or, and_mask, or_shifted}
use lib.Dec.{eqb, leb}
use lib.ListN.{get_or, drop, length, length-drop}
use lib.Pow.{shr-shr, pow_mono}
use lib.Seq.{drop-cons}
use mir.Val.{bool_byte}
use Rattle.split.specs.Steps.{bit_value}
use Rattle.query_rows.specs.Rows.{tallied_depths, has_depth}

-- ---- a bit's value

pub bit_value-lt : (β : Bool) → bit_value β < 2
bit_value-lt true = omega arith
bit_value-lt false = omega arith

pub eqb-bit_value : (β : Bool) → eqb (bit_value β) 1 ≡ β
eqb-bit_value true = refl
eqb-bit_value false = refl

-- ---- among those of a tally

-- the lowest bit, and the others
low_bit : (β : Bool) (m : ℕ) → ((bit_value β + 2 * m) % 2 ≡ bit_value β) × ((bit_value β + 2 * m) / 2 ≡ m)
low_bit true m = (omega arith, omega arith)
low_bit false m = (omega arith, omega arith)

pub has_depth-tallied_depths : (ns : List ℕ) (x : ℕ) → has_depth (tallied_depths ns) x ≡ leb 1 (get_or ns x 0)
unfolding tallied_depths has_depth
has_depth-tallied_depths [] x = ap (λ n. eqb (n % 2) 1) (zero-div (2 ^ x))
has_depth-tallied_depths (n ∷ ns) zero =
    let low : (bit_value (leb 1 n) + 2 * tallied_depths ns) / 2 ^ 0 % 2 ≡ bit_value (leb 1 n) =
    omega (arith, low_bit (leb 1 n) (tallied_depths ns)) in
    ap (λ m. eqb m 1) low ∙ eqb-bit_value (leb 1 n)
has_depth-tallied_depths (n ∷ ns) (suc x) =
    let all = bit_value (leb 1 n) + 2 * tallied_depths ns in
    let more : suc x ≡ 1 + x = omega arith in
    let next : all / 2 ^ suc x ≡ tallied_depths ns / 2 ^ x =
    ap (λ y. all / 2 ^ y) more ∙ sym (shr-shr all 1 x)
    ∙ ap (λ m. m / 2 ^ x) (low_bit (leb 1 n) (tallied_depths ns)).1 in
    ap (λ m. eqb (m % 2) 1) next ∙ has_depth-tallied_depths ns x

-- as the code tests it
pub has_depth-some : (depths x : ℕ) → (bit_and (depths / 2 ^ x) 1 ≡ 0 → ⊥) → has_depth depths x ≡ true
unfolding has_depth
has_depth-some depths x n =
    let some : depths / 2 ^ x % 2 ≡ 0 → ⊥ = λ z. n (and_mask (depths / 2 ^ x) 1 ∙ z) in
    eq-eqb (depths / 2 ^ x % 2) 1 (omega arith)

pub has_depth-none : (depths x : ℕ) → bit_and (depths / 2 ^ x) 1 ≡ 0 → has_depth depths x ≡ false
unfolding has_depth
has_depth-none depths x h =
    let e : depths / 2 ^ x % 2 ≡ 0 = sym (and_mask (depths / 2 ^ x) 1) ∙ h in
    ne_eqb (depths / 2 ^ x % 2) 1 (λ o. omega arith)

-- ---- put together from the highest on

tallied_depths-lt : (ns : List ℕ) → tallied_depths ns < 2 ^ length ns
unfolding tallied_depths
tallied_depths-lt [] = omega arith
tallied_depths-lt (n ∷ ns) = rw pow-suc (omega (arith, tallied_depths-lt ns, bit_value-lt (leb 1 n)))

-- a bit below twice those so far, as the code puts it there
or-low : (depths n : ℕ) → depths < 2 ^ 13
    → bit_or ((depths * 2) % 2 ^ 64) (bool_byte (not (eqb n 0))) ≡ bit_value (leb 1 n) + 2 * depths
or-low depths n h =
    ap (λ m. bit_or m (bool_byte (not (eqb n 0)))) (mod-eq_of_lt {n = depths * 2} (omega arith))
    ∙ ap (λ β. bit_or (depths * 2) (bool_byte β)) (some n)
    ∙ put (leb 1 n)
  where
    some : (n : ℕ) → not (eqb n 0) ≡ leb 1 n
    some zero = refl
    some (suc n) = rw (ne_eqb (suc n) 0 (λ e. omega arith), le-leb 1 (suc n) (omega arith))

    put : (β : Bool) → bit_or (depths * 2) (bool_byte β) ≡ bit_value β + 2 * depths
    put true = or_shifted depths 1 1 (omega arith) ∙ omega arith
    put false = or_shifted depths 1 0 (omega arith) ∙ omega arith

pub tallied_depths-before : (ns : List ℕ) (x depths : ℕ) → 0 < x → x ≤ length ns → length ns ≤ 13
    → depths ≡ tallied_depths (drop x ns)
    → bit_or ((depths * 2) % 2 ^ 64) (bool_byte (not (eqb (get_or ns (x - 1) 0) 0))) ≡ tallied_depths (drop (x - 1) ns)
unfolding tallied_depths
tallied_depths-before ns x depths above within few e =
    let next : suc (x - 1) ≡ x = omega arith in
    let fits : 2 ^ length (drop x ns) ≤ 2 ^ 13 = pow_mono {j = 13} (omega (arith, length-drop x ns)) in
    let here : tallied_depths (drop (x - 1) ns) ≡ bit_value (leb 1 (get_or ns (x - 1) 0)) + 2 * tallied_depths (drop x ns) =
    ap tallied_depths (drop-cons ns (x - 1) 0 (omega arith) ∙ ap (λ y. get_or ns (x - 1) 0 ∷ drop y ns) next) in
    or-low depths (get_or ns (x - 1) 0) (omega (arith, tallied_depths-lt (drop x ns)))
    ∙ ap (λ d. bit_value (leb 1 (get_or ns (x - 1) 0)) + 2 * d) e
    ∙ sym here
