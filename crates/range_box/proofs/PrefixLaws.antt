-- Laws of the first bits of an encoding; a box that fits meets a region exactly if the region's bits lie between the
-- first bits of both ends, in each attribute. Assumes nothing.
use Prim.Native.Nat.{ℕ, zero, suc, ◌+◌, ◌*◌, ◌-◌, ◌/◌, ◌%◌, ◌^◌, ◌≤◌, ◌<◌}
use mathlib.Core.Path.{◌≡◌, refl, sym, ap, ◌∙◌, subst}
use mathlib.Core.Bool.{Bool, true, ◌&&◌}
use mathlib.Core.List.{List}
use mathlib.Core.Option.{Option, none, some}
use native.Mathlib.Omega.{arith}
use lib.Dec.{leb, ltb, eqb}
use lib.ListN.{get_or}
use lib.Pow.{shr-shr, shr_lt}
use borrow.Author.Tests.{ltb-true}
use Rattle.lists.proofs.Bools.{and_split}
use Rattle.shape.specs.Shape.{width_of, widths_of, all_below, shape_number}
use Rattle.shape.specs.Key.{if_given}
use Rattle.shape.specs.Range.{Interval}
use Rattle.shape.specs.declared.Shape.{Shape}
use Rattle.shape.proofs.AttributeLaws.{get_d-widths_of}
use Rattle.shape.proofs.BoundsLaws.{test-of-all_below, all_below-ext}
use Rattle.split.specs.Steps.{bit_value, attribute_depth}
use Rattle.split.specs.Bits.{bit_of}
use Rattle.split.proofs.DepthLaws.{attribute_depth-width}
use Rattle.range_box.specs.Box.{Box, box_fits, number, lowest, highest, meets_interval, meets_at, box_meets}
use Rattle.range_box.specs.Prefix.{first_bits, region_bits, first_meets, first_meets_at}
use Rattle.range_box.proofs.RegionLaws.{lowest-leb, leb-highest}

-- ---- the first bits of an encoding

pub first_bits-zero : (w v : ℕ) → v < 2 ^ w → first_bits w 0 v ≡ 0
first_bits-zero w v h =
    let all : 0 + (w - 0) ≡ w = omega arith in
    let small : v / 2 ^ (w - 0) < 2 ^ 0 = shr_lt 0 (w - 0) (subst (λ m. v < 2 ^ m) (sym all) h) in
    omega arith

digit : (u : ℕ) → u ≡ 2 * (u / 2) + bit_value (eqb (u % 2) 1)
digit u = go (u % 2) (omega arith) refl
  where
    go : (y : ℕ) → y < 2 → u % 2 ≡ y → u ≡ 2 * (u / 2) + bit_value (eqb y 1)
    go zero h e = omega arith
    go (suc zero) h e = omega arith
    go (suc (suc y)) h e = absurd (omega arith)

-- one bit more
pub first_bits-suc : (w h v : ℕ) → h < w → first_bits w (suc h) v ≡ 2 * first_bits w h v + bit_value (bit_of w v h)
first_bits-suc w h v l =
    let up : (w - suc h) + 1 ≡ w - h = omega arith in
    let half : v / 2 ^ (w - suc h) / 2 ≡ v / 2 ^ (w - h) = shr-shr v (w - suc h) 1 ∙ ap (λ m. v / 2 ^ m) up in
    digit (v / 2 ^ (w - suc h)) ∙ ap (λ m. 2 * m + bit_value (bit_of w v h)) half

pub number-bit_of-first : (w v : ℕ) → v < 2 ^ w → (h : ℕ) → h ≤ w → number (bit_of w v) h ≡ first_bits w h v
unfolding number
number-bit_of-first w v f zero l = sym (first_bits-zero w v f)
number-bit_of-first w v f (suc h) l =
    ap (λ m. 2 * m + bit_value (bit_of w v h)) (number-bit_of-first w v f h (omega arith)) ∙ sym (first_bits-suc w h v l)

-- ---- the ends of a box that fits

abbrev below : ℕ → Interval → Bool
below w i = ltb i.low (2 ^ w) && ltb i.high (2 ^ w)

pub ends-below : (s : Shape) (box : Box) → box_fits s box ≡ true → (j : ℕ) → j < 4 → (i : Interval)
    → get_or box j none ≡ some i → (i.low < 2 ^ get_or (widths_of s) j 0) × (i.high < 2 ^ get_or (widths_of s) j 0)
unfolding box_fits
ends-below s box f j l i e =
    let t : below (width_of s j) i ≡ true =
    ap (if_given (below (width_of s j))) (sym e)
    ∙ test-of-all_below (λ k. if_given (below (width_of s k)) (get_or box k none)) 4 j f l in
    let c = and_split (ltb i.low (2 ^ width_of s j)) (ltb i.high (2 ^ width_of s j)) t in
    rw (get_d-widths_of s j l)
    (ltb-true i.low (2 ^ width_of s j) c.0, ltb-true i.high (2 ^ width_of s j) c.1)

-- ---- a region by its first bits

module _ (s : Shape) (n : shape_number s ≡ 0) (box : Box) (fits : box_fits s box ≡ true) where
  abbrev ws : List ℕ
  ws = widths_of s

  pub meets_at-first : (p : ℕ → Bool) (x j : ℕ) → j < 4 → meets_at s box p x j ≡ first_meets_at s box p x j
  meets_at-first p x j l = go (get_or box j none) refl
    where
      go : (o : Option Interval) → get_or box j none ≡ o
          → if_given (meets_interval (lowest s p x j) (highest s p x j)) o
          ≡ if_given (first_meets (get_or ws j 0) (attribute_depth ws x j) (region_bits s p x j)) o
      go none e = refl
      go (some i) e =
          let b = ends-below s box fits j l i e in
          let h : attribute_depth ws x j ≤ get_or ws j 0 = attribute_depth-width ws j x l in
          let low = number-bit_of-first (get_or ws j 0) i.low b.0 (attribute_depth ws x j) h in
          let high = number-bit_of-first (get_or ws j 0) i.high b.1 (attribute_depth ws x j) h in
          ap (λ m. m && leb (lowest s p x j) i.high)
          (leb-highest s n p x j l i.low b.0 ∙ ap (λ m. leb m (region_bits s p x j)) low)
          ∙ ap (λ m. leb (first_bits (get_or ws j 0) (attribute_depth ws x j) i.low) (region_bits s p x j) && m)
          (lowest-leb s n p x j l i.high b.1 ∙ ap (leb (region_bits s p x j)) high)

  -- low / 2^r ≤ the region's bits ≤ high / 2^r in each attribute
  pub box_meets-first : (p : ℕ → Bool) (x : ℕ) → box_meets s box p x ≡ all_below 4 (first_meets_at s box p x)
  unfolding box_meets
  box_meets-first p x = all_below-ext 4 (meets_at s box p x) (first_meets_at s box p x) (λ j l. meets_at-first p x j l)
