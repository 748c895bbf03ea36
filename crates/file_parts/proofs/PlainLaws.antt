-- Laws of plain files: the widths that are not used, and a file by case. Assumes nothing.
use Prim.Native.Nat.{ℕ, zero, suc, ◌/◌, ◌^◌, ◌≤◌}
use mathlib.Core.Path.{◌≡◌, refl}
use mathlib.Core.Bool.{Bool, true, false, ◌&&◌, ◌||◌}
use mathlib.Core.List.{List, [], ◌∷◌}
use native.Mathlib.Omega.{arith}
use lib.Dec.{ltb, eqb}
use lib.ListN.{get_or, drop}
use borrow.Author.Tests.{eq-eqb, ne_eqb}
use Rattle.std.specs.List.{list_all}
use Rattle.shape.specs.Shape.{all_below, shape_number}
use Rattle.shape.specs.declared.Shape.{Shape}
use Rattle.shape.proofs.BoundsLaws.{attributes-le}
use Rattle.shape.proofs.ShapeLaws.{in_bounds-of}
use Rattle.file.specs.File.{byte_before, file_shape, is_plain}

abbrev pub is_zero : ℕ → Bool
is_zero n = eqb n 0

-- a width that is used, or 0
abbrev pub plain_width : ℕ → List ℕ → ℕ → Bool
plain_width d widths j = ltb j d || eqb (get_or widths j 0) 0

-- four tests, from either end
four : (a b c d : Bool) → (a && (b && (c && (d && true)))) ≡ ((((true && a) && b) && c) && d)
four true true true true = refl
four false b c d = refl
four true false c d = refl
four true true false d = refl
four true true true false = refl

unused : (d : ℕ) (w0 w1 w2 w3 : ℕ) → d ≤ 4
    → list_all is_zero (drop d (w0 ∷ w1 ∷ w2 ∷ w3 ∷ []))
    ≡ all_below 4 (plain_width d (w0 ∷ w1 ∷ w2 ∷ w3 ∷ []))
unused zero w0 w1 w2 w3 h = four (is_zero w0) (is_zero w1) (is_zero w2) (is_zero w3)
unused (suc zero) w0 w1 w2 w3 h = four true (is_zero w1) (is_zero w2) (is_zero w3)
unused (suc (suc zero)) w0 w1 w2 w3 h = four true true (is_zero w2) (is_zero w3)
unused (suc (suc (suc zero))) w0 w1 w2 w3 h = four true true true (is_zero w3)
unused (suc (suc (suc (suc zero)))) w0 w1 w2 w3 h = refl
unused (suc (suc (suc (suc (suc d))))) w0 w1 w2 w3 h = absurd (omega arith)

module _ (file : List ℕ) where
  pub is_plain-last : (byte_before 17 file ≡ 0 → ⊥) → is_plain file ≡ false
  unfolding is_plain
  is_plain-last n = rw (ne_eqb (byte_before 17 file) 0 n)

  -- with the shape that the code has read
  module _ (s : Shape) (same : s ≡ file_shape file) (number : shape_number (file_shape file) ≡ 0) where
    pub plain-bound : s.attributes ≤ 4
    plain-bound =
        let own : shape_number s ≡ 0 = rw same number in
        attributes-le s (in_bounds-of s own)

    pub is_plain-rest : byte_before 17 file ≡ 0
        → is_plain file ≡ (list_all is_zero (drop s.attributes s.widths) && eqb (s.signs / 2 ^ s.attributes) 0)
    unfolding is_plain file_shape
    is_plain-rest e =
        rw (
          same,
          eq-eqb (byte_before 17 file) 0 e,
          unused (file_shape file).attributes (byte_before 23 file) (byte_before 22 file) (byte_before 21 file)
              (byte_before 20 file) (rw same at plain-bound),
        ) refl
