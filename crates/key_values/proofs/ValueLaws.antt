-- Laws of values from packed encodings: an encoding less its bias, a shape without marks, four results of
-- calls. Assumes nothing.
use Rattle.std.proofs.Common.{◌≡◌, ℕ, ◌+◌, ◌-◌, ◌%◌, ◌^◌, ◌<◌, Bool, true, false, cond, [], ◌∷◌, get_or, sym, refl, ap, ◌∙◌, arith}
use Rattle.shape.specs.Shape.{shape_number}
use Rattle.shape.specs.Key.{per_attribute, marked, bias, decode}
use Rattle.shape.specs.declared.Shape.{Shape}
use Rattle.shape.proofs.AttributeLaws.{get_d-per_attribute}
use Rattle.shape.proofs.EncodingLaws.{bias-plain, bias-lt}
use Rattle.shape.proofs.UnmarkedLaws.{bias-none}
use Rattle.record.specs.Packed.{packed_value, unpacked_key}
use Rattle.record.specs.Lanes.{bias_key}
use Rattle.record.proofs.FieldLaws.{unpacked_key-bias_key}
use Rattle.record.proofs.PackedLaws.{get_d-unpacked_key}

module _ (s : Shape) (n : shape_number s ≡ 0) where
  packed_value-bias_key : (j : ℕ) → j < 4 → packed_value (bias_key s) j ≡ bias s j
  packed_value-bias_key j l =
      sym (get_d-unpacked_key (bias_key s) j l)
      ∙ ap (λ v. get_or v j 0) (unpacked_key-bias_key s n)
      ∙ get_d-per_attribute (bias s) 0 j l

  -- an encoding less its bias, modulo 2^32
  decode-difference : (j e : ℕ) → e < 2 ^ 16 → (e + (2 ^ 32 - bias s j)) % 2 ^ 32 ≡ decode s j e
  unfolding decode
  decode-difference j e l = go (marked s j) refl
    where
      go : (b : Bool) → marked s j ≡ b
          → (e + (2 ^ 32 - bias s j)) % 2 ^ 32 ≡ cond b ((e + (2 ^ 32 - bias s j % 2 ^ 32)) % 2 ^ 32) e
      go true m = omega (arith, bias-lt s n j)
      go false m = omega (arith, bias-plain s j m)

  -- a shape without marks
  pub values-none : s.signs ≡ 0 → (key : ℕ) → unpacked_key key ≡ per_attribute (λ j. decode s j (packed_value key j))
  unfolding unpacked_key
  values-none z key =
      let at : (j : ℕ) → packed_value key j ≡ decode s j (packed_value key j) =
      λ j. omega (arith, bias-none s z j, decode-difference j (packed_value key j) (omega arith)) in
      λ i. at 0 i ∷ at 1 i ∷ at 2 i ∷ at 3 i ∷ []

  module _ (key packed : ℕ) (same : packed ≡ bias_key s) where
    -- an encoding less its bias, as the code has them
    abbrev less : ℕ → ℕ
    less j = (packed_value key j + (2 ^ 32 - packed_value packed j)) % 2 ^ 32

    less-decode : (j : ℕ) → j < 4 → less j ≡ decode s j (packed_value key j)
    less-decode j l =
        ap (λ b. (packed_value key j + (2 ^ 32 - b)) % 2 ^ 32) (ap (λ k. packed_value k j) same ∙ packed_value-bias_key j l)
        ∙ decode-difference j (packed_value key j) (omega arith)

    -- four results of calls
    pub values_listed : (v0 v1 v2 v3 : ℕ) → v0 ≡ less 0 → v1 ≡ less 1 → v2 ≡ less 2 → v3 ≡ less 3
        → v0 ∷ v1 ∷ v2 ∷ v3 ∷ [] ≡ per_attribute (λ j. decode s j (packed_value key j))
    values_listed v0 v1 v2 v3 e0 e1 e2 e3 =
        let at : (j v : ℕ) → j < 4 → v ≡ less j → v ≡ decode s j (packed_value key j) =
        λ j v l e. e ∙ less-decode j l in
        λ i. at 0 v0 (omega arith) e0 i ∷ at 1 v1 (omega arith) e1 i ∷ at 2 v2 (omega arith) e2 i
        ∷ at 3 v3 (omega arith) e3 i ∷ []
