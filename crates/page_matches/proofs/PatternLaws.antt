-- Laws of patterns: nothing given; four values under a mask; the test of a record's bytes is the
-- query's. Assumes nothing.
use Prim.Native.Nat.{ℕ, zero, suc, ◌+◌, ◌*◌, ◌%◌, ◌^◌, ◌<◌}
use mathlib.Core.Path.{◌≡◌, refl, sym, ap, ◌∙◌}
use mathlib.Core.Bool.{Bool, true, false, ◌&&◌}
use mathlib.Core.List.{List}
use mathlib.Core.Option.{Option, none, some}
use native.Mathlib.Nat.{mod-eq_of_lt}
use native.Mathlib.Omega.{arith}
use lib.Bits.{bit_and, bit_or, and_block, and_mask, and_zero_r, and_le_l, and_le_r, or_add_and}
use lib.Dec.{eqb}
use lib.ListN.{get_or}
use borrow.Author.Tests.{eq-eqb, ne_eqb, eqb-true, eqb-false}
use Rattle.lists.proofs.Bools.{and_split, and_both, eq-of-iff}
use Rattle.shape.specs.Shape.{shape_number}
use Rattle.shape.specs.Key.{value_fits, encode, encode_field, if_given, query_fits}
use Rattle.shape.specs.declared.Shape.{Shape}
use Rattle.shape.proofs.BoundsLaws.{test-of-all_below}
use Rattle.shape.proofs.EncodingLaws.{eqb-field}
use Rattle.record.specs.Record.{matches}
use Rattle.record.specs.Bytes.{number_of, field, record_of}
use Rattle.record.specs.Packed.{packed_key, SixteenBits}
use Rattle.record.proofs.PackedLaws.{packed_key-bytes}
use Rattle.record.proofs.ByteLaws.{AreBytes, number_of-field-lt}
use Rattle.page_matches.specs.declared.Pattern.{Pattern}
use Rattle.page_matches.specs.Pattern.{wanted_mask, wanted_field, masks_of, fields_wanted}
use Rattle.page_matches.specs.Pattern.{pattern_of, gives_nothing, passes}

-- ---- four fields

wanted_mask-lt : (w : Option ℕ) → wanted_mask w < 2 ^ 16
wanted_mask-lt none = omega arith
wanted_mask-lt (some v) = omega arith

wanted_field-lt : (w : Option ℕ) → wanted_field w < 2 ^ 16
wanted_field-lt none = omega arith
wanted_field-lt (some v) = omega arith

pub fields_wanted-lt : (q : List (Option ℕ)) → SixteenBits (fields_wanted q)
fields_wanted-lt q zero = wanted_field-lt (get_or q 0 none)
fields_wanted-lt q (suc zero) = wanted_field-lt (get_or q 1 none)
fields_wanted-lt q (suc (suc zero)) = wanted_field-lt (get_or q 2 none)
fields_wanted-lt q (suc (suc (suc zero))) = wanted_field-lt (get_or q 3 none)
fields_wanted-lt q (suc (suc (suc (suc j)))) = omega arith

pub masks_of-lt : (q : List (Option ℕ)) → SixteenBits (masks_of q)
masks_of-lt q zero = wanted_mask-lt (get_or q 0 none)
masks_of-lt q (suc zero) = wanted_mask-lt (get_or q 1 none)
masks_of-lt q (suc (suc zero)) = wanted_mask-lt (get_or q 2 none)
masks_of-lt q (suc (suc (suc zero))) = wanted_mask-lt (get_or q 3 none)
masks_of-lt q (suc (suc (suc (suc j)))) = omega arith

-- ---- nothing given

-- as the code tests it
pub gives_nothing-or : (p : Pattern) → eqb (bit_or p.mask p.value) 0 ≡ gives_nothing p
unfolding gives_nothing
gives_nothing-or p = eq-of-iff _ _ both none
  where
    both : eqb (bit_or p.mask p.value) 0 ≡ true → (eqb p.mask 0 && eqb p.value 0) ≡ true
    both e =
        let no-bit = eqb-true (bit_or p.mask p.value) 0 e in
        let sum = or_add_and p.mask p.value in
        and_both (eqb p.mask 0) (eqb p.value 0)
        (eq-eqb p.mask 0 (omega (arith, no-bit, sum, and_le_r p.mask p.value)))
        (eq-eqb p.value 0 (omega (arith, no-bit, sum, and_le_l p.mask p.value)))

    none : (eqb p.mask 0 && eqb p.value 0) ≡ true → eqb (bit_or p.mask p.value) 0 ≡ true
    none e =
        let parts = and_split (eqb p.mask 0) (eqb p.value 0) e in
        let sum = or_add_and p.mask p.value in
        eq-eqb (bit_or p.mask p.value) 0
        (omega (arith, sum, eqb-true p.mask 0 parts.0, eqb-true p.value 0 parts.1))

-- ---- one value under a mask

-- what a query says of a field
abbrev meets : Option ℕ → ℕ → Bool
meets w v = if_given (λ x. eqb (x % 2 ^ 16) v) w

and-wanted_mask-lt : (v : ℕ) (w : Option ℕ) → v < 2 ^ 16 → bit_and v (wanted_mask w) < 2 ^ 16
and-wanted_mask-lt v none h = rw (and_zero_r v) (omega arith)
and-wanted_mask-lt v (some x) h = let e : bit_and v 65535 ≡ v % 2 ^ 16 = and_mask v 16 in omega arith

pub eqb_comm : (a b : ℕ) → eqb a b ≡ eqb b a
eqb_comm a b = go (eqb b a) refl
  where
    go : (β : Bool) → eqb b a ≡ β → eqb a b ≡ β
    go true e = eq-eqb a b (sym (eqb-true b a e))
    go false e = ne_eqb a b (λ q. eqb-false b a e (sym q))

meets-mask : (v : ℕ) (w : Option ℕ) → v < 2 ^ 16 → eqb (bit_and v (wanted_mask w)) (wanted_field w) ≡ meets w v
meets-mask v none h = rw (and_zero_r v)
meets-mask v (some x) h =
    ap (λ n. eqb n (x % 2 ^ 16)) (and_mask v 16 ∙ mod-eq_of_lt h) ∙ eqb_comm v (x % 2 ^ 16)

-- ---- one value below others

and_above : (a b r s : ℕ) → r < 2 ^ 16 → s < 2 ^ 16
    → bit_and (r + 2 ^ 16 * a) (s + 2 ^ 16 * b) ≡ bit_and r s + 2 ^ 16 * bit_and a b
and_above a b r s h k =
    let turn : (x y : ℕ) → x + 2 ^ 16 * y ≡ y * 2 ^ 16 + x = λ x y. omega arith in
    ap (λ n. bit_and n (s + 2 ^ 16 * b)) (turn r a)
    ∙ ap (bit_and (a * 2 ^ 16 + r)) (turn s b)
    ∙ and_block 16 a b r s h k
    ∙ sym (turn (bit_and r s) (bit_and a b))

pub eqb-above : (a b r s : ℕ) → r < 2 ^ 16 → s < 2 ^ 16 → eqb (r + 2 ^ 16 * a) (s + 2 ^ 16 * b) ≡ (eqb r s && eqb a b)
eqb-above a b r s h k = go (eqb r s) (eqb a b) refl refl
  where
    go : (β γ : Bool) → eqb r s ≡ β → eqb a b ≡ γ → eqb (r + 2 ^ 16 * a) (s + 2 ^ 16 * b) ≡ (β && γ)
    go true true p q =
        let low = eqb-true r s p in
        let high = eqb-true a b q in
        eq-eqb (r + 2 ^ 16 * a) (s + 2 ^ 16 * b) (omega arith)
    go true false p q =
        let high = eqb-false a b q in
        ne_eqb (r + 2 ^ 16 * a) (s + 2 ^ 16 * b) (λ e. high (omega arith))
    go false γ p q =
        let low = eqb-false r s p in
        ne_eqb (r + 2 ^ 16 * a) (s + 2 ^ 16 * b) (λ e. low (omega arith))

-- one value more, below values that are compared already
meets-above : (a m b v : ℕ) (w : Option ℕ) (β : Bool) → v < 2 ^ 16 → eqb (bit_and a m) b ≡ β
    → eqb (bit_and (v + 2 ^ 16 * a) (wanted_mask w + 2 ^ 16 * m)) (wanted_field w + 2 ^ 16 * b) ≡ (meets w v && β)
meets-above a m b v w β h e =
    ap (λ n. eqb n (wanted_field w + 2 ^ 16 * b)) (and_above a m v (wanted_mask w) h (wanted_mask-lt w))
    ∙ eqb-above (bit_and a m) b (bit_and v (wanted_mask w)) (wanted_field w) (and-wanted_mask-lt v w h) (wanted_field-lt w)
    ∙ (λ i. meets-mask v w h i && e i)

pub and-turn : (a b c d : Bool) → (a && (b && (c && d))) ≡ (((a && b) && c) && d)
and-turn true b c d = and-turn-three b c d
  where
    and-turn-three : (b c d : Bool) → (b && (c && d)) ≡ ((b && c) && d)
    and-turn-three true c d = refl
    and-turn-three false c d = refl
and-turn false b c d = refl

-- ---- the test of a record

-- a field passes exactly if its encoding is the value's
meets-encoded : (s : Shape) → shape_number s ≡ 0 → (j : ℕ) (w : Option ℕ) (f : ℕ) → if_given (value_fits s j) w ≡ true
    → f < 2 ^ 16 → meets w f ≡ if_given (λ v. eqb (encode s j v) (encode_field s j f)) w
meets-encoded s n j none f fits l = refl
meets-encoded s n j (some v) f fits l = sym (eqb-field s n j v f fits l)

-- the test under the mask is the query's
pub passes-matches : (s : Shape) → shape_number s ≡ 0 → (q : List (Option ℕ)) → query_fits s q ≡ true
    → (bytes : List ℕ) → AreBytes bytes → passes (pattern_of q) bytes ≡ matches s q (record_of s bytes)
unfolding passes pattern_of matches packed_key record_of query_fits
passes-matches s n q fits bytes b =
    ap (λ k. eqb (bit_and k (packed_key (masks_of q))) (packed_key (fields_wanted q))) (sym (packed_key-bytes bytes))
    ∙ meets-above _ _ _ (value 0) (given 0) _ (small 0)
    (meets-above _ _ _ (value 1) (given 1) _ (small 1)
    (meets-above _ _ _ (value 2) (given 2) _ (small 2) (meets-mask (value 3) (given 3) (small 3))))
    ∙ and-turn (test 0) (test 1) (test 2) (test 3)
    ∙ (λ i. ((same 0 (omega arith) i && same 1 (omega arith) i) && same 2 (omega arith) i) && same 3 (omega arith) i)
  where
    value : ℕ → ℕ
    value j = number_of (field bytes (2 * j) 2)

    given : ℕ → Option ℕ
    given j = get_or q j none

    test : ℕ → Bool
    test j = meets (given j) (value j)

    small : (j : ℕ) → value j < 2 ^ 16
    small j = number_of-field-lt bytes b (2 * j) 2

    same : (j : ℕ) → j < 4 → test j ≡ if_given (λ v. eqb (encode s j v) (encode_field s j (value j))) (given j)
    same j l =
        meets-encoded s n j (given j) (value j)
        (test-of-all_below (λ i. if_given (value_fits s i) (get_or q i none)) 4 j fits l) (small j)
