-- Laws of encodings: by mark; a value fits exactly if its encoding does; values from encodings and back; an encoding
-- written into a field of 16 bits and read again, and back; a shape within its bounds. Assumes nothing.
use Prim.Native.Nat.{ℕ, ◌+◌, ◌-◌, ◌/◌, ◌%◌, ◌^◌, ◌≤◌, ◌<◌}
use mathlib.Core.Path.{◌≡◌, refl, sym, ap, ◌∙◌}
use mathlib.Core.Bool.{Bool, true, false, cond, ◌&&◌}
use native.Mathlib.Omega.{arith}
use native.Mathlib.Nat.{mod-eq_of_lt}
use lib.Dec.{ltb, leb, eqb}
use lib.ListN.{get_or}
use lib.Pow.{pow_mono}
use borrow.Author.Tests.{ltb-true, leb-true, lt-ltb, le-ltb, eqb-true, eq-eqb}
use Rattle.lists.proofs.Bools.{and_split, eq-of-iff}
use Rattle.lists.proofs.Numbers.{bit-mod}
use Rattle.shape.specs.Shape.{width_of, shape_number}
use Rattle.shape.specs.Key.{marked, bias, value_fits, encode, decode, encode_field}
use Rattle.shape.specs.declared.Shape.{Shape}
use Rattle.shape.proofs.BoundsLaws.{width-of-in_bounds}
use Rattle.shape.proofs.ShapeLaws.{in_bounds-of, width_of-used, width_of-le}

-- ---- numbers to which h is added and from which it is taken again

module _ (h : ℕ) where
  taken-added : (v : ℕ) → v < 2 ^ 32 → ((v + h) % 2 ^ 32 + (2 ^ 32 - h % 2 ^ 32)) % 2 ^ 32 ≡ v
  taken-added v l = omega arith

  added-taken : (e : ℕ) → e < 2 ^ 32 → ((e + (2 ^ 32 - h % 2 ^ 32)) % 2 ^ 32 + h) % 2 ^ 32 ≡ e
  added-taken e l = omega arith

  -- in the low 16 bits
  low-taken-added : (f : ℕ) → f < 2 ^ 16 → ((f + h) % 2 ^ 16 + (2 ^ 32 - h % 2 ^ 32)) % 2 ^ 32 % 2 ^ 16 ≡ f
  low-taken-added f l = omega arith

  low-added-taken : (e : ℕ) → e < 2 ^ 16 → ((e + (2 ^ 32 - h % 2 ^ 32)) % 2 ^ 32 % 2 ^ 16 + h) % 2 ^ 16 ≡ e
  low-added-taken e l = omega arith

  added-low : (v : ℕ) → (v % 2 ^ 16 + h) % 2 ^ 16 ≡ (v + h) % 2 ^ 32 % 2 ^ 16
  added-low v = omega arith

module _ (s : Shape) (j : ℕ) where
  -- ---- by mark

  -- "A mark past d is ignored"
  pub marked-unused : s.attributes ≤ j → marked s j ≡ false
  unfolding marked
  marked-unused l = rw (le-ltb j s.attributes l)

  -- and makes no difference
  pub marked-same : (t : Shape) → t.attributes ≡ s.attributes
      → t.signs % 2 ^ s.attributes ≡ s.signs % 2 ^ s.attributes → marked t j ≡ marked s j
  unfolding marked
  marked-same t d e = rw d (go (ltb j s.attributes) refl)
    where
      go : (b : Bool) → ltb j s.attributes ≡ b
          → (b && eqb (t.signs / 2 ^ j % 2) 1) ≡ (b && eqb (s.signs / 2 ^ j % 2) 1)
      go true l =
          let below = ltb-true j s.attributes l in
          ap (λ x. eqb x 1)
          (sym (bit-mod s.attributes t.signs j below)
          ∙ ap (λ x. x / 2 ^ j % 2) e
          ∙ bit-mod s.attributes s.signs j below)
      go false l = refl

  pub marked-lt : marked s j ≡ true → j < s.attributes
  unfolding marked
  marked-lt e = ltb-true j s.attributes (and_split (ltb j s.attributes) _ e).0

  pub bias-marked : marked s j ≡ true → bias s j ≡ 2 ^ (width_of s j - 1)
  unfolding bias
  bias-marked m = rw m

  pub bias-plain : marked s j ≡ false → bias s j ≡ 0
  unfolding bias
  bias-plain m = rw m

  pub encode-marked : (v : ℕ) → v < 2 ^ 32 → marked s j ≡ true → encode s j v ≡ (v + bias s j) % 2 ^ 32
  unfolding encode
  encode-marked v l m = rw (m, lt-ltb v (2 ^ 32) l)

  pub encode-plain : (v : ℕ) → marked s j ≡ false → encode s j v ≡ v
  unfolding encode
  encode-plain v m = rw m

  decode-marked : (e : ℕ) → marked s j ≡ true → decode s j e ≡ (e + (2 ^ 32 - bias s j % 2 ^ 32)) % 2 ^ 32
  unfolding decode
  decode-marked e m = rw m

  pub decode-plain : (e : ℕ) → marked s j ≡ false → decode s j e ≡ e
  unfolding decode
  decode-plain e m = rw m

  pub encode_field-sum : (f : ℕ) → f < 2 ^ 16 → encode_field s j f ≡ (f + bias s j) % 2 ^ 16
  unfolding encode_field
  encode_field-sum f l = rw (lt-ltb f (2 ^ 16) l)

  -- ---- values

  -- no greater number is taken for a value
  pub lt-of-encode : (v : ℕ) → encode s j v < 2 ^ 32 → v < 2 ^ 32
  unfolding encode
  lt-of-encode v = go (marked s j) (ltb v (2 ^ 32)) refl
    where
      go : (m b : Bool) → ltb v (2 ^ 32) ≡ b → cond (m && b) ((v + bias s j) % 2 ^ 32) v < 2 ^ 32 → v < 2 ^ 32
      go m true e l = ltb-true v (2 ^ 32) e
      go true false e l = l
      go false false e l = l

  pub value_fits-encode : (v : ℕ) → value_fits s j v ≡ ltb (encode s j v) (2 ^ width_of s j)
  unfolding value_fits
  value_fits-encode v = refl

  pub encode-lt : (v : ℕ) → value_fits s j v ≡ true → encode s j v < 2 ^ width_of s j
  encode-lt v f = ltb-true (encode s j v) (2 ^ width_of s j) (sym (value_fits-encode v) ∙ f)

  pub decode-encode : (v : ℕ) → v < 2 ^ 32 → decode s j (encode s j v) ≡ v
  decode-encode v l = go (marked s j) refl
    where
      go : (b : Bool) → marked s j ≡ b → decode s j (encode s j v) ≡ v
      go true m =
          decode-marked (encode s j v) m
          ∙ ap (λ e. (e + (2 ^ 32 - bias s j % 2 ^ 32)) % 2 ^ 32) (encode-marked v l m)
          ∙ taken-added (bias s j) v l
      go false m = decode-plain (encode s j v) m ∙ encode-plain v m

  -- of an encoding of 32 bits
  pub encode-decode : (e : ℕ) → e < 2 ^ 32 → encode s j (decode s j e) ≡ e
  encode-decode e l = go (marked s j) refl
    where
      go : (b : Bool) → marked s j ≡ b → encode s j (decode s j e) ≡ e
      go true m =
          encode-marked (decode s j e) (omega (arith, decode-marked e m)) m
          ∙ ap (λ v. (v + bias s j) % 2 ^ 32) (decode-marked e m)
          ∙ added-taken (bias s j) e l
      go false m = encode-plain (decode s j e) m ∙ decode-plain e m

  -- ---- fields

  pub encode_field-decode : (e : ℕ) → e < 2 ^ 16 → encode_field s j (decode s j e % 2 ^ 16) ≡ e
  encode_field-decode e l = encode_field-sum (decode s j e % 2 ^ 16) (omega arith) ∙ go (marked s j) refl
    where
      go : (b : Bool) → marked s j ≡ b → (decode s j e % 2 ^ 16 + bias s j) % 2 ^ 16 ≡ e
      go true m =
          ap (λ v. (v % 2 ^ 16 + bias s j) % 2 ^ 16) (decode-marked e m) ∙ low-added-taken (bias s j) e l
      go false m = rw (decode-plain e m, bias-plain m) (omega arith)

  pub decode-encode_field : (f : ℕ) → f < 2 ^ 16 → decode s j (encode_field s j f) % 2 ^ 16 ≡ f
  decode-encode_field f l = ap (λ e. decode s j e % 2 ^ 16) (encode_field-sum f l) ∙ go (marked s j) refl
    where
      go : (b : Bool) → marked s j ≡ b → decode s j ((f + bias s j) % 2 ^ 16) % 2 ^ 16 ≡ f
      go true m =
          ap (λ v. v % 2 ^ 16) (decode-marked ((f + bias s j) % 2 ^ 16) m) ∙ low-taken-added (bias s j) f l
      go false m = rw (decode-plain ((f + bias s j) % 2 ^ 16) m, bias-plain m) (omega arith)

  pub encode_field-lt : (f : ℕ) → f < 2 ^ 16 → encode_field s j f < 2 ^ 16
  encode_field-lt f l = omega (arith, encode_field-sum f l)

  -- no greater number is taken for a field
  pub lt-of-encode_field : (f : ℕ) → encode_field s j f < 2 ^ 16 → f < 2 ^ 16
  unfolding encode_field
  lt-of-encode_field f = go (ltb f (2 ^ 16)) refl
    where
      go : (b : Bool) → ltb f (2 ^ 16) ≡ b → cond b ((f + bias s j) % 2 ^ 16) f < 2 ^ 16 → f < 2 ^ 16
      go true e l = ltb-true f (2 ^ 16) e
      go false e l = l

  -- the low half of a value has the low half of its encoding
  encode_field-low : (v : ℕ) → v < 2 ^ 32 → encode_field s j (v % 2 ^ 16) ≡ encode s j v % 2 ^ 16
  encode_field-low v l = encode_field-sum (v % 2 ^ 16) (omega arith) ∙ go (marked s j) refl
    where
      go : (b : Bool) → marked s j ≡ b → (v % 2 ^ 16 + bias s j) % 2 ^ 16 ≡ encode s j v % 2 ^ 16
      go true m = added-low (bias s j) v ∙ ap (λ e. e % 2 ^ 16) (sym (encode-marked v l m))
      go false m = rw (encode-plain v m, bias-plain m) (omega arith)

  -- two fields have one encoding only if they are one
  pub eqb-encode_field : (f g : ℕ) → f < 2 ^ 16 → g < 2 ^ 16 → eqb (encode_field s j f) (encode_field s j g) ≡ eqb f g
  eqb-encode_field f g h l =
      eq-of-iff _ _
      (λ e.
      eq-eqb f g
      (sym (decode-encode_field f h)
      ∙ ap (λ x. decode s j x % 2 ^ 16) (eqb-true (encode_field s j f) (encode_field s j g) e)
      ∙ decode-encode_field g l))
      (λ e. eq-eqb (encode_field s j f) (encode_field s j g) (ap (encode_field s j) (eqb-true f g e)))

-- ---- a shape within its bounds

module _ (s : Shape) (n : shape_number s ≡ 0) (j : ℕ) where
  pub power_le : 2 ^ width_of s j ≤ 2 ^ 16
  power_le = pow_mono {j = 16} (width_of-le s (in_bounds-of s n) j)

  pub width-marked : marked s j ≡ true → (1 ≤ width_of s j) × (width_of s j ≤ 16)
  width-marked m =
      let l = marked-lt s j m in
      let v = get_or s.widths j 0 in
      let range = width-of-in_bounds s j (in_bounds-of s n) l in
      let positive = leb-true 1 v (and_split (leb 1 v) (leb v 16) range).0 in
      (omega (arith, width_of-used s j l, positive), width_of-le s (in_bounds-of s n) j)

  pub bias-lt : bias s j < 2 ^ 16
  bias-lt = go (marked s j) refl
    where
      go : (b : Bool) → marked s j ≡ b → bias s j < 2 ^ 16
      go true m =
          let w = width-marked m in
          let half : 2 ^ (width_of s j - 1) ≤ 2 ^ 15 = pow_mono {j = 15} (omega (arith, w.1)) in
          omega (arith, bias-marked s j m, half)
      go false m = omega (arith, bias-plain s j m)

  -- the low half of a value that fits is a field that has its encoding
  pub encode_field-value : (v : ℕ) → value_fits s j v ≡ true → encode_field s j (v % 2 ^ 16) ≡ encode s j v
  encode_field-value v f =
      let below = encode-lt s j v f in
      encode_field-low s j v (lt-of-encode s j v (omega (arith, below, power_le)))
      ∙ mod-eq_of_lt {n = encode s j v} (omega (arith, below, power_le))

  -- so that a value and a field may be compared as they are
  pub eqb-field : (v f : ℕ) → value_fits s j v ≡ true → f < 2 ^ 16
      → eqb (encode s j v) (encode_field s j f) ≡ eqb (v % 2 ^ 16) f
  eqb-field v f fits l =
      ap (λ e. eqb e (encode_field s j f)) (sym (encode_field-value v fits))
      ∙ eqb-encode_field s j (v % 2 ^ 16) f (omega arith) l
