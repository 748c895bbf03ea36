-- Laws of keys that fit: none of the four numbers has a bit past its width. Assumes nothing.
use Prim.Native.Nat.{ℕ, ◌*◌, ◌/◌, ◌^◌, ◌<◌}
use mathlib.Core.Path.{◌≡◌, refl, sym, ap, ◌∙◌}
use mathlib.Core.Bool.{Bool, true, false, ◌&&◌}
use mathlib.Core.List.{List}
use native.Mathlib.Omega.{arith}
use native.Mathlib.Nat.{div-lt_iff_lt-mul}
use lib.Bits.{bit_or, or_add_and, and_le_l, and_le_r}
use lib.Dec.{ltb, eqb}
use lib.ListN.{length, get_or}
use lib.Pow.{pow_pos}
use borrow.Author.Tests.{lt-ltb, ltb-true, eq-eqb, eqb-true}
use Rattle.lists.proofs.Bools.{and_split, and_both, eq-of-iff}
use Rattle.shape.specs.Shape.{width_of, widths_of, index_fits}
use Rattle.shape.specs.declared.Shape.{Shape}
use Rattle.shape.proofs.AttributeLaws.{index_fits-four, per_attribute-get_d}

-- a value of w bits has none past them
ltb-shifted : (v w : ℕ) → ltb v (2 ^ w) ≡ eqb (v / 2 ^ w) 0
ltb-shifted v w =
    eq-of-iff _ _
    (λ e.
    let l : v < 1 * 2 ^ w = omega (arith, ltb-true v (2 ^ w) e) in
    eq-eqb (v / 2 ^ w) 0 (omega (arith, (div-lt_iff_lt-mul (pow_pos w)).1 l)))
    (λ e.
    let l : v / 2 ^ w < 1 = omega (arith, eqb-true (v / 2 ^ w) 0 e) in
    lt-ltb v (2 ^ w) (omega (arith, (div-lt_iff_lt-mul (pow_pos w)).0 l)))

zero-of-or : (a b : ℕ) → bit_or a b ≡ 0 → (a ≡ 0) × (b ≡ 0)
zero-of-or a b e = (omega (arith, or_add_and a b, and_le_r a b), omega (arith, or_add_and a b, and_le_l a b))

or-of-zero : (a b : ℕ) → a ≡ 0 → b ≡ 0 → bit_or a b ≡ 0
or-of-zero a b e f = omega (arith, or_add_and a b, and_le_l a b)

eqb-or : (a b : ℕ) → eqb (bit_or a b) 0 ≡ (eqb a 0 && eqb b 0)
eqb-or a b =
    eq-of-iff _ _
    (λ e. let z = zero-of-or a b (eqb-true _ 0 e) in and_both _ _ (eq-eqb a 0 z.0) (eq-eqb b 0 z.1))
    (λ e. let p = and_split _ _ e in eq-eqb _ 0 (or-of-zero a b (eqb-true a 0 p.0) (eqb-true b 0 p.1)))

and-regroup : (a b c d : Bool) → ((a && b) && (c && d)) ≡ (((a && b) && c) && d)
and-regroup false b c d = refl
and-regroup true false c d = refl
and-regroup true true c d = refl

eqb-or-four : (a b c d : ℕ)
    → eqb (bit_or (bit_or a b) (bit_or c d)) 0 ≡ (((eqb a 0 && eqb b 0) && eqb c 0) && eqb d 0)
eqb-or-four a b c d =
    eqb-or (bit_or a b) (bit_or c d)
    ∙ (λ i. eqb-or a b i && eqb-or c d i)
    ∙ and-regroup (eqb a 0) (eqb b 0) (eqb c 0) (eqb d 0)

module _ (s : Shape) (key : List ℕ) (four : length key ≡ 4) where
  -- what the number of attribute j has past its width
  abbrev past : List ℕ → ℕ → ℕ
  past ws j = get_or key j 0 / 2 ^ get_or ws j 0

  pub index_fits-past : (ws : List ℕ) → ws ≡ widths_of s
      → eqb (bit_or (bit_or (past ws 0) (past ws 1)) (bit_or (past ws 2) (past ws 3))) 0 ≡ index_fits (widths_of s) key
  unfolding widths_of
  index_fits-past ws same =
      eqb-or-four (past ws 0) (past ws 1) (past ws 2) (past ws 3)
      ∙ ap (λ v. ((eqb (past v 0) 0 && eqb (past v 1) 0) && eqb (past v 2) 0) && eqb (past v 3) 0) same
      ∙ (λ i. ((fits 0 i && fits 1 i) && fits 2 i) && fits 3 i)
      ∙ sym (index_fits-four (width_of s) (λ j. get_or key j 0))
      ∙ ap (index_fits (widths_of s)) (per_attribute-get_d 0 key four)
    where
      test : ℕ → Bool
      test j = ltb (get_or key j 0) (2 ^ width_of s j)

      fits : (j : ℕ) → eqb (get_or key j 0 / 2 ^ width_of s j) 0 ≡ test j
      fits j = sym (ltb-shifted (get_or key j 0) (width_of s j))
