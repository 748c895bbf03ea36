-- The formula's addresses equal the doubling array. Assumes nothing.
use Prim.Native.Nat.{ℕ, zero, suc, ◌+◌, ◌-◌, ◌^◌, ◌≤◌, ◌<◌}
use mathlib.Core.Path.{◌≡◌, sym, ap, ◌∙◌, subst}
use mathlib.Core.List.{List, []}
use native.Mathlib.Omega.{arith}
use native.Mathlib.Nat.{le_trans}
use lib.ListN.{get_or, length}
use lib.Pow.{pow_mono}
use Rattle.shape.specs.Shape.{Fit, total, shape_number, widths_of}
use Rattle.shape.specs.declared.Shape.{Shape}
use Rattle.shape.proofs.ShapeLaws.{widths_of-fit}
use Rattle.split.specs.Steps.{steps}
use Rattle.split.proofs.StepLaws.{length-steps}
use Rattle.address.specs.Doubling.{In, sides, doubling_array}
use Rattle.address.specs.Map.{EqualsDoublingArray}
use Rattle.address.proofs.DoublingLaws.{length-doubling_array, doubling_array-stays, address-place, address-onto}
use Rattle.address.proofs.DoublingLaws.{address-get_d, address-one-to-one}

module _ (ws : List ℕ) (fit : Fit ws) (whole : length (steps ws) ≡ total ws) where
  stays-more : (n t : ℕ) → t + n ≤ length (steps ws) → (a : ℕ) → a < 2 ^ t
      → get_or (doubling_array ws (t + n)) a [] ≡ get_or (doubling_array ws t) a []
  stays-more zero t h a l = let e : t + zero ≡ t = omega arith in ap (λ u. get_or (doubling_array ws u) a []) e
  stays-more (suc n) t h a l =
      let e : t + suc n ≡ suc (t + n) = omega arith in
      let more : 2 ^ t ≤ 2 ^ (t + n) = pow_mono (omega arith) in
      ap (λ u. get_or (doubling_array ws u) a []) e
      ∙ doubling_array-stays ws fit (t + n) a (omega arith) (le_trans l more)
      ∙ stays-more n t (omega arith) a l

  equals : EqualsDoublingArray ws
  equals = record {
    size = λ t h. length-doubling_array ws fit t (le h);
    in-range = λ t h is b. (address-place ws fit t (le h) is b).0;
    place = λ t h is b. (address-place ws fit t (le h) is b).1;
    one-to-one = λ t h. address-one-to-one ws fit t (le h);
    onto = λ t h a l.
        let r = address-onto ws fit t (le h) a l in
        subst (In (sides ws t))
        (sym (ap (λ x. get_or (doubling_array ws t) x []) (sym r.2) ∙ (address-place ws fit t (le h) r.0 r.1).1))
        r.1;
    inverse = λ t h. address-get_d ws fit t (le h);
    stays = λ t u h k a l.
        let e : u ≡ t + (u - t) = omega arith in
        ap (λ v. get_or (doubling_array ws v) a []) e ∙ stays-more (u - t) t (omega (arith, le k)) a l;
  }
    where
      le : {t : ℕ} → t ≤ total ws → t ≤ length (steps ws)
      le h = omega (arith, whole)

-- for every shape within its bounds
pub equals-doubling_array : (s : Shape) → shape_number s ≡ 0 → EqualsDoublingArray (widths_of s)
unfolding widths_of
equals-doubling_array s n =
    let fit = widths_of-fit s n in
    equals (widths_of s) fit (length-steps _ _ _ _ fit)
