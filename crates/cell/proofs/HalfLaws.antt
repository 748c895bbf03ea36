-- Laws of cells one step apart: the half with bit 0, the address of a half; cells are of the whole box.
-- Assumes nothing.
use Prim.Native.Nat.{ℕ, suc, ◌^◌, ◌≤◌, ◌<◌}
use mathlib.Core.Path.{◌≡◌, refl, sym, ap, ◌∙◌}
use mathlib.Core.Bool.{Bool, true, false, false≢true}
use mathlib.Core.List.{List}
use mathlib.Core.Logic.{◌⊎◌, inl, inr}
use native.Mathlib.Omega.{arith}
use native.Mathlib.Nat.{le_trans}
use lib.ListN.{length}
use lib.Pow.{pow_mono}
use Rattle.lists.proofs.Numbers.{lt-or-le}
use Rattle.shape.specs.Shape.{Fit}
use Rattle.split.specs.Steps.{steps}
use Rattle.split.proofs.DepthLaws.{attribute_depth-width}
use Rattle.address.specs.Vectors.{InBox, IndexAt}
use Rattle.address.proofs.SideLaws.{In-sides-get, In-sides-mono, In-sides-all}
use Rattle.address.proofs.DoublingLaws.{address-one-to-one}
use Rattle.region.specs.Strings.{with_bit}
use Rattle.region.proofs.StringLaws.{with_bit-same}
use Rattle.cell.specs.Cell.{cell, cell_address}
use Rattle.cell.proofs.AgreeLaws.{cut, agree-cut, cut-past, agree-sym, agree_trans, agree-le, agree-with_bit}
use Rattle.cell.proofs.CellLaws.{In-cell, cell-zero-bit, cell_agree}
use Rattle.cell.proofs.CellLaws.{cell_address-lt, cell_address-onto, cell_address-same, cell_address-zero-bits}

-- ---- index vectors

pub in_box-cell : (ws : List ℕ) → Fit ws → (t : ℕ) (p : ℕ → Bool) → InBox ws (cell ws t p)
in_box-cell ws fit t p = record {
  fit = fit;
  below = λ r l. le_trans (In-sides-get ws t (In-cell ws t p) r l) (pow_mono (attribute_depth-width ws r t l));
}

module _ (ws : List ℕ) (fit : Fit ws) where
  -- the half with bit 0 has the cell's vector
  pub cell-lower : (t : ℕ) → t < length (steps ws) → (p : ℕ → Bool) → cell ws (suc t) (with_bit p t false) ≡ cell ws t p
  cell-lower t h p =
      cell-zero-bit ws fit t h (with_bit p t false) (with_bit-same p t false)
      ∙ cell_agree ws fit t (with_bit p t false) p (agree-with_bit p t false)

  -- the vector at an address below 2 ^ t is a cell of t bits
  pub cell-index_at : (t : ℕ) → t ≤ length (steps ws) → (a : ℕ) → a < 2 ^ t → (is : List ℕ) → length is ≡ 4
      → IndexAt ws a is → (p : ℕ → Bool) × (cell ws t p ≡ is)
  unfolding cell_address
  cell-index_at t h a l is e at =
      let o = cell_address-onto ws fit t h a l in
      let all = length (steps ws) in (
        o.0,
        address-one-to-one ws fit all (omega arith) (cell ws t o.0) is
            (In-sides-mono ws t all h (In-cell ws t o.0))
            (In-sides-all ws is e (record { fit = fit; below = at.below }))
            (o.1 ∙ sym at.back),
      )

  -- ---- addresses

  module _ (t : ℕ) (h : t < length (steps ws)) where
    -- bit 0 changes no address
    pub cell_address-zero-bit : (p : ℕ → Bool) → p t ≡ false → cell_address ws (suc t) p ≡ cell_address ws t p
    cell_address-zero-bit p e =
        cell_address-zero-bits ws fit t (suc t) (omega arith) h p
        (λ s l u. let d : s ≡ t = omega arith in ap p d ∙ e)

    pub cell_address-cut : (p : ℕ → Bool) → cell_address ws (suc t) (cut t p) ≡ cell_address ws t p
    cell_address-cut p =
        cell_address-zero-bit (cut t p) (cut-past t p t (omega arith))
        ∙ (cell_address-same ws fit t (omega arith) (cut t p) p).1 (agree-cut t p)

    -- an address below 2 ^ t is that of the first t bits
    pub cell_address-below : (p : ℕ → Bool) → cell_address ws (suc t) p < 2 ^ t
        → cell_address ws (suc t) p ≡ cell_address ws t p
    cell_address-below p l =
        let o = cell_address-onto ws fit t (omega arith) (cell_address ws (suc t) p) l in
        let q = o.0 in
        let same = (cell_address-same ws fit (suc t) h (cut t q) p).0 (cell_address-cut q ∙ o.1) in
        let agree = agree_trans t q (cut t q) p (agree-sym t (cut t q) q (agree-cut t q))
        (agree-le t (suc t) (cut t q) p (omega arith) same) in
        sym o.1 ∙ (cell_address-same ws fit t (omega arith) q p).1 agree

    -- a new address has the new bit
    pub bit-cell_address : (p : ℕ → Bool) → 2 ^ t ≤ cell_address ws (suc t) p → p t ≡ true
    bit-cell_address p l = go (p t) refl
      where
        go : (β : Bool) → p t ≡ β → β ≡ true
        go true e = refl
        go false e =
            absurd (omega (arith, l, cell_address-zero-bit p e, cell_address-lt ws fit t (omega arith) p))

    -- and the other way round
    pub cell_address-new : (p : ℕ → Bool) → p t ≡ true → 2 ^ t ≤ cell_address ws (suc t) p
    cell_address-new p e = go (lt-or-le (cell_address ws (suc t) p) (2 ^ t))
      where
        go : (cell_address ws (suc t) p < 2 ^ t) ⊎ (2 ^ t ≤ cell_address ws (suc t) p) → 2 ^ t ≤ cell_address ws (suc t) p
        go (inr l) = l
        go (inl l) =
            let same = (cell_address-same ws fit (suc t) h (cut t p) p).0
            (cell_address-cut p ∙ sym (cell_address-below p l)) in
            absurd (false≢true (sym (cut-past t p t (omega arith)) ∙ same t (omega arith) ∙ e))
