-- Laws of the test of a page's first and last record: it depends on the leaf's string alone; the test under the mask of
-- the fixed bits is the same. Assumes nothing.
use Prim.Native.Nat.{ℕ, ◌-◌, ◌/◌, ◌^◌, ◌≤◌, ◌<◌}
use mathlib.Core.Path.{◌≡◌, ap, ◌∙◌}
use mathlib.Core.Bool.{Bool, true, ◌&&◌}
use mathlib.Core.List.{List}
use mathlib.Core.Logic.{◌↔◌}
use native.Mathlib.Omega.{arith}
use lib.Bits.{bit_and}
use lib.ListN.{get_or, length}
use borrow.Author.Tests.{eq-eqb, eqb-true}
use Rattle.lists.proofs.Bools.{and_split, and_both, eq-of-iff}
use Rattle.shape.specs.Shape.{Fit, total, index_fits}
use Rattle.shape.specs.Key.{per_attribute}
use Rattle.split.specs.Bits.{split_bit}
use Rattle.cell.specs.Cell.{Agree}
use Rattle.region.proofs.StringLaws.{same_bits-comm, same_bits-ext}
use Rattle.record.specs.Packed.{packed_key, packed_value, unpacked_key}
use Rattle.record.proofs.PackedLaws.{get_d-unpacked_key}
use Rattle.page.specs.Fields.{code_at}
use Rattle.page_ends.specs.Ends.{key_begins, ends_begin, fixed_bits, ends_agree}
use Rattle.page_ends.proofs.MaskLaws.{differing, high_bits, AgreeFrom, agree-packed}
use Rattle.page_ends.proofs.BeginLaws.{free_bits, SameFixed, key_begins-same_fixed}

-- ---- by the string

-- only the first x bits of the string count
pub ends_begin-agree : (ws : List ℕ) (bias x : ℕ) (p q : ℕ → Bool) → Agree x p q → (page : List ℕ) (n : ℕ)
    → ends_begin ws bias x p page n ≡ ends_begin ws bias x q page n
unfolding ends_begin key_begins
ends_begin-agree ws bias x p q a page n =
    λ i. begins (unpacked_key (code_at bias page 0)) i && begins (unpacked_key (code_at bias page (n - 1))) i
  where
    begins : (key : List ℕ) → key_begins ws x p key ≡ key_begins ws x q key
    begins key =
        ap (λ β. index_fits ws key && β)
        (same_bits-comm (split_bit ws key) p x 0
        ∙ same_bits-ext p q (split_bit ws key) x 0 (λ s k l. a s (omega arith))
        ∙ same_bits-comm q (split_bit ws key) x 0)

-- ---- by the mask

module _ (ws : List ℕ) (four : length ws ≡ 4) (fit : Fit ws) (x : ℕ) (within : x ≤ total ws)
    (key : ℕ) (fits : index_fits ws (unpacked_key key) ≡ true) where
  -- a record's key, by its values
  begins-values : (k : ℕ) → (key_begins ws x (split_bit ws (unpacked_key key)) (unpacked_key k) ≡ true)
      ↔ ((j : ℕ) → j < 4 → packed_value k j / 2 ^ free_bits ws x j ≡ packed_value key j / 2 ^ free_bits ws x j)
  begins-values k = (λ e j l. (value j l).0 (same.0 e j l), λ v. same.1 (λ j l. (value j l).1 (v j l)))
    where
      same : (key_begins ws x (split_bit ws (unpacked_key key)) (unpacked_key k) ≡ true)
          ↔ SameFixed ws x (unpacked_key k) (unpacked_key key)
      same = key_begins-same_fixed ws four fit x within (unpacked_key k) (unpacked_key key) fits

      value : (j : ℕ) → j < 4
          → (get_or (unpacked_key k) j 0 / 2 ^ free_bits ws x j ≡ get_or (unpacked_key key) j 0 / 2 ^ free_bits ws x j)
          ↔ (packed_value k j / 2 ^ free_bits ws x j ≡ packed_value key j / 2 ^ free_bits ws x j)
      value j l = (
        λ e. rw (get_d-unpacked_key k j l, get_d-unpacked_key key j l) at e,
        λ e. rw (get_d-unpacked_key k j l, get_d-unpacked_key key j l) e,
      )

  -- the leaf of the key's first x split bits: the page's ends begin with it exactly if they agree with the key in the
  -- bits that are fixed there
  pub ends_agree-ends_begin : (bias : ℕ) (page : List ℕ) (n : ℕ)
      → ends_agree bias (fixed_bits ws x) key page n ≡ ends_begin ws bias x (split_bit ws (unpacked_key key)) page n
  unfolding ends_agree ends_begin fixed_bits
  ends_agree-ends_begin bias page n =
      eq-of-iff _ _
      (λ e.
      let m = masked.0 (eqb-true _ 0 e) in
      and_both _ _ ((begins-values first).1 (λ j l. (m j l).0)) ((begins-values last).1 (λ j l. (m j l).1)))
      (λ e.
      let k = and_split _ _ e in
      eq-eqb _ 0 (masked.1 (λ j l. ((begins-values first).0 k.0 j l, (begins-values last).0 k.1 j l))))
    where
      first : ℕ
      first = code_at bias page 0

      last : ℕ
      last = code_at bias page (n - 1)

      masked : (bit_and (differing first last key) (packed_key (per_attribute (high_bits (free_bits ws x)))) ≡ 0)
          ↔ ((j : ℕ) → j < 4 → AgreeFrom (free_bits ws x) first last key j)
      masked = agree-packed (free_bits ws x) (λ j. omega (arith, fit j)) first last key
