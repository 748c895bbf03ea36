-- The two pages of a divided leaf: the halves that its records are carried to, and the one that takes the new record.
-- Assumes nothing.
use Prim.Native.Nat.{ℕ}
use mathlib.Core.Path.{◌≡◌, refl, ap, ◌∙◌}
use mathlib.Core.Bool.{Bool, true, false, cond}
use mathlib.Core.List.{List}
use Rattle.region.specs.Sets.{insert}
use Rattle.region.specs.Division.{side}
use Rattle.change.proofs.SharedLaws.{half_with}

-- carried: page g shows the records with bit 0, page h those with bit 1; then that of r's bit takes r
pub halves-of-carried : {R : Type 0} (bit : R → ℕ → Bool) (W m : ℕ) (r : R) (S : List R) (g h : ℕ)
    (carried shown : ℕ → List R) → carried g ≡ side bit false m S → carried h ≡ side bit true m S
    → shown (cond (bit r m) h g) ≡ insert bit W 0 r (carried (cond (bit r m) h g))
    → shown (cond (bit r m) g h) ≡ carried (cond (bit r m) g h)
    → (β : Bool) → shown (cond β h g) ≡ half_with bit W m r β S
halves-of-carried {R} bit W m r S g h carried shown c₀ c₁ own other β = by_bits (bit r m) refl β
  where
    by_bits : (α : Bool) → bit r m ≡ α → (β : Bool) → shown (cond β h g) ≡ half_with bit W m r β S
    by_bits true e true = rw e ((rw e at own) ∙ ap (insert bit W 0 r) c₁)
    by_bits true e false = rw e ((rw e at other) ∙ c₀)
    by_bits false e true = rw e ((rw e at other) ∙ c₁)
    by_bits false e false = rw e ((rw e at own) ∙ ap (insert bit W 0 r) c₀)
