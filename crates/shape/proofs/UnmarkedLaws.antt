-- Laws of a shape without marks: an encoding is the value itself. Assumes nothing.
use Prim.Native.Nat.{ℕ, ◌/◌, ◌%◌, ◌^◌}
use mathlib.Core.Path.{◌≡◌, refl, ap, ◌∙◌}
use mathlib.Core.Bool.{false, ◌&&◌, and-false}
use mathlib.Core.List.{List, [], ◌∷◌}
use mathlib.Core.Option.{Option, none, some}
use native.Mathlib.Nat.{zero-div}
use lib.Dec.{ltb, eqb}
use lib.ListN.{length, get_or}
use Rattle.shape.specs.Key.{marked, bias, encode, encodings, encode_wanted, encoded_wanted}
use Rattle.shape.specs.declared.Shape.{Shape}
use Rattle.shape.proofs.AttributeLaws.{per_attribute-get_d}
use Rattle.shape.proofs.EncodingLaws.{bias-plain, encode-plain}

module _ (s : Shape) (z : s.signs ≡ 0) where
  marked-none : (j : ℕ) → marked s j ≡ false
  unfolding marked
  marked-none j =
      ap (λ signs. ltb j s.attributes && eqb (signs / 2 ^ j % 2) 1) z
      ∙ ap (λ bits. ltb j s.attributes && eqb (bits % 2) 1) (zero-div (2 ^ j))
      ∙ and-false (ltb j s.attributes)

  pub bias-none : (j : ℕ) → bias s j ≡ 0
  bias-none j = bias-plain s j (marked-none j)

  pub encode-none : (j v : ℕ) → encode s j v ≡ v
  encode-none j v = encode-plain s j v (marked-none j)

  pub encode_wanted-none : (j : ℕ) (w : Option ℕ) → encode_wanted s j w ≡ w
  encode_wanted-none j none = refl
  encode_wanted-none j (some v) = ap (λ e. some e) (encode-none j v)

  pub encodings-none : (values : List ℕ) → length values ≡ 4 → encodings s values ≡ values
  unfolding encodings
  encodings-none values four =
      let same : (j : ℕ) → encode s j (get_or values j 0) ≡ get_or values j 0 = λ j. encode-none j (get_or values j 0) in
      (λ i. same 0 i ∷ same 1 i ∷ same 2 i ∷ same 3 i ∷ []) ∙ per_attribute-get_d 0 values four

  pub encoded_wanted-none : (q : List (Option ℕ)) → length q ≡ 4 → encoded_wanted s q ≡ q
  unfolding encoded_wanted
  encoded_wanted-none q four =
      let same : (j : ℕ) → encode_wanted s j (get_or q j none) ≡ get_or q j none = λ j. encode_wanted-none j (get_or q j none) in
      (λ i. same 0 i ∷ same 1 i ∷ same 2 i ∷ same 3 i ∷ []) ∙ per_attribute-get_d none q four
