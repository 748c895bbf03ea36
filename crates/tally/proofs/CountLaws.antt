-- Laws of a tally's counts: their bounds, on every sound store and where code adds; what one turn of each loop does to
-- them. Assumes nothing.
use Prim.Native.Nat.{ℕ, zero, suc, ◌+◌, ◌-◌, ◌^◌, ◌≤◌, ◌<◌}
use mathlib.Core.Path.{◌≡◌, refl, ◌∙◌}
use mathlib.Core.Bool.{Bool, true}
use mathlib.Core.List.{List}
use native.Mathlib.Omega.{arith}
use native.Mathlib.Nat.{le_trans}
use native.Mathlib.Numerals.{add-one}
use lib.Dec.{leb}
use lib.ListN.{get_or, set}
use lib.Pow.{pow_mono}
use lib.Seq.{get_or-set_other}
use borrow.Author.Tests.{leb-true, le-leb, eq-eqb, ne_eqb}
use Rattle.shape.specs.Shape.{all_below}
use Rattle.shape.proofs.BoundsLaws.{all_below-suc, test-of-all_below}
use Rattle.record.specs.Record.{Record}
use Rattle.store.specs.Store.{Store}
use Rattle.store.specs.Sound.{Sound}
use Rattle.change.specs.Divided.{divided_once, divided_tally}
use Rattle.change.specs.Delete.{joined_once, joined_tally, tally_depth}
use Rattle.change.proofs.BoundLaws.{leaves-le}
use Rattle.tally.specs.Tally.{tally_holds}

module _ (leaves : List ℕ) where
  -- ---- tallies that hold

  abbrev pub within : ℕ → Bool
  within x = leb (get_or leaves x 0) (2 ^ x)

  pub tally_holds-of-le : ((x : ℕ) → x < 13 → get_or leaves x 0 ≤ 2 ^ x) → tally_holds leaves ≡ true
  unfolding tally_holds
  tally_holds-of-le h = below 13 (omega arith)
    where
      below : (n : ℕ) → n ≤ 13 → all_below n within ≡ true
      below zero l = refl
      below (suc n) l =
          all_below-suc within n (below n (omega arith)) (le-leb (get_or leaves n 0) (2 ^ n) (h n (omega arith)))

  pub le-of-tally_holds : tally_holds leaves ≡ true → (x : ℕ) → x < 13 → get_or leaves x 0 ≤ 2 ^ x
  unfolding tally_holds
  le-of-tally_holds e x l = leb-true (get_or leaves x 0) (2 ^ x) (test-of-all_below within 13 x e l)

  -- none is over 4,096
  pub small-of-tally_holds : tally_holds leaves ≡ true → (x : ℕ) → x < 13 → get_or leaves x 0 ≤ 4096
  small-of-tally_holds e x l = le_trans (le-of-tally_holds e x l) (pow_mono {j = 12} (omega arith))

  -- ---- divided

  pub get_d-divided_once-past : (x y : ℕ) → suc x < y → get_or (divided_once x leaves) y 0 ≡ get_or leaves y 0
  unfolding divided_once
  get_d-divided_once-past x y l =
      let less : List ℕ = set leaves x (get_or leaves x 0 - 1) in
      get_or-set_other less (x + 1) y (get_or less (x + 1) 0 + 2) 0 (λ e. omega arith)
      ∙ get_or-set_other leaves x y (get_or leaves x 0 - 1) 0 (λ e. omega arith)

  -- the divisions down to depth y are done, and one more
  pub divided_tally-next : (y end : ℕ) → y < end
      → divided_tally (y + 1) (end - (y + 1)) (divided_once y leaves) ≡ divided_tally y (end - y) leaves
  unfolding divided_tally
  divided_tally-next y end l = let left : end - y ≡ suc (end - (y + 1)) = omega arith in rw (left, add-one y) refl

  -- ---- joined

  -- those from depth y + 1 to x + n are done, and one more
  pub joined_tally-next : (x n y : ℕ) → y < x + n
      → joined_once y (joined_tally (suc y) (x + n - suc y) leaves) ≡ joined_tally y (x + n - y) leaves
  unfolding joined_tally
  joined_tally-next x n y l = let left : x + n - y ≡ suc (x + n - suc y) = omega arith in rw left refl

  -- ---- the greatest depth

  pub tally_depth-some : (x : ℕ) → 0 < x → (get_or leaves x 0 ≡ 0 → ⊥) → tally_depth x leaves ≡ x
  unfolding tally_depth
  tally_depth-some zero l n = absurd (omega arith)
  tally_depth-some (suc x) l n = rw (ne_eqb (get_or leaves (suc x) 0) 0 n) refl

  pub tally_depth-none : (x : ℕ) → 0 < x → get_or leaves x 0 ≡ 0 → tally_depth x leaves ≡ tally_depth (x - 1) leaves
  unfolding tally_depth
  tally_depth-none zero l e = absurd (omega arith)
  tally_depth-none (suc x) l e =
      let less : suc x - 1 ≡ x = omega arith in rw (eq-eqb (get_or leaves (suc x) 0) 0 e, less) refl

-- ---- sound stores

pub tally_holds-of-sound : (before : Store) (S : List Record) → Sound before S
    → tally_holds before.state.tally.leaves ≡ true
tally_holds-of-sound before S sound = tally_holds-of-le before.state.tally.leaves (leaves-le before S sound)
