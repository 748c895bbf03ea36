-- Laws of the test of a key against four widths: value by value; of two packed keys at once. Assumes nothing.
use Prim.Native.Nat.{ℕ, ◌^◌}
use mathlib.Core.Path.{◌≡◌, refl, sym, ap, ◌∙◌}
use mathlib.Core.Bool.{Bool, true, false, ◌&&◌, and-true}
use mathlib.Core.List.{[], ◌∷◌}
use native.Mathlib.Omega.{arith}
use lib.Bits.{bit_or, or_lt, or_add_and, and_le_l, and_le_r}
use lib.Dec.{ltb}
use borrow.Author.Tests.{lt-ltb, ltb-true}
use Rattle.lists.proofs.Bools.{and_split, and_both, eq-of-iff}
use Rattle.shape.specs.Shape.{index_fits}
use Rattle.record.specs.Packed.{packed_value, unpacked_key}
use Rattle.key_order.proofs.BitLaws.{packed_value-or}

-- ---- by the first value that does not fit

module _ (w0 w1 w2 w3 key : ℕ) where
  abbrev fits : Bool
  fits = index_fits (w0 ∷ w1 ∷ w2 ∷ w3 ∷ []) (unpacked_key key)

  abbrev fits_at : ℕ → ℕ → Bool
  fits_at j w = ltb (packed_value key j) (2 ^ w)

  pub index_fits-first : fits_at 0 w0 ≡ false → false ≡ fits
  unfolding unpacked_key
  index_fits-first e = sym (rw e)

  module _ (e0 : fits_at 0 w0 ≡ true) where
    pub index_fits-second : fits_at 1 w1 ≡ false → false ≡ fits
    unfolding unpacked_key
    index_fits-second e = sym (rw (e0, e))

    module _ (e1 : fits_at 1 w1 ≡ true) where
      pub index_fits-third : fits_at 2 w2 ≡ false → false ≡ fits
      unfolding unpacked_key
      index_fits-third e = sym (rw (e0, e1, e))

      pub index_fits-last : fits_at 2 w2 ≡ true → (β : Bool) → β ≡ fits_at 3 w3 → β ≡ fits
      unfolding unpacked_key
      index_fits-last e β h = sym (rw (e0, e1, e) (and-true (fits_at 3 w3) ∙ sym h))

-- ---- of two packed keys at once

ltb-or : (u v w : ℕ) → ltb (bit_or u v) (2 ^ w) ≡ (ltb u (2 ^ w) && ltb v (2 ^ w))
ltb-or u v w =
    eq-of-iff _ _
    (λ e.
    let h = ltb-true (bit_or u v) (2 ^ w) e in
    let sum = or_add_and u v in
    and_both _ _ (lt-ltb u (2 ^ w) (omega (arith, and_le_r u v))) (lt-ltb v (2 ^ w) (omega (arith, and_le_l u v))))
    (λ e.
    let k = and_split (ltb u (2 ^ w)) (ltb v (2 ^ w)) e in
    lt-ltb (bit_or u v) (2 ^ w) (or_lt w u v (ltb-true u (2 ^ w) k.0) (ltb-true v (2 ^ w) k.1)))

and-pairs : (α β γ δ : Bool) → ((α && β) && (γ && δ)) ≡ ((α && γ) && (β && δ))
and-pairs true true γ δ = refl
and-pairs true false true δ = refl
and-pairs true false false δ = refl
and-pairs false β γ δ = refl

-- one value more
fits_or : (a b w j : ℕ) (ε α β : Bool) → ε ≡ (α && β)
    → (ltb (packed_value (bit_or a b) j) (2 ^ w) && ε)
    ≡ ((ltb (packed_value a j) (2 ^ w) && α) && (ltb (packed_value b j) (2 ^ w) && β))
fits_or a b w j ε α β e =
    let u = packed_value a j in
    let v = packed_value b j in
    (λ i. (ap (λ n. ltb n (2 ^ w)) (packed_value-or a b j) ∙ ltb-or u v w) i && e i)
    ∙ and-pairs (ltb u (2 ^ w)) (ltb v (2 ^ w)) α β

-- the bits that either key has are those of a key within the widths exactly if both keys are
pub index_fits-or : (w0 w1 w2 w3 a b : ℕ)
    → index_fits (w0 ∷ w1 ∷ w2 ∷ w3 ∷ []) (unpacked_key (bit_or a b))
    ≡ (index_fits (w0 ∷ w1 ∷ w2 ∷ w3 ∷ []) (unpacked_key a) && index_fits (w0 ∷ w1 ∷ w2 ∷ w3 ∷ []) (unpacked_key b))
unfolding unpacked_key
index_fits-or w0 w1 w2 w3 a b =
    fits_or a b w0 0 _ _ _ (fits_or a b w1 1 _ _ _ (fits_or a b w2 2 _ _ _ (fits_or a b w3 3 true true true refl)))
