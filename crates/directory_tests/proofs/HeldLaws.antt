-- Laws of the test of a region: the turns of the loop over a mask; a block in which a word differs; a region whose
-- blocks hold the word is one that setting it would not change (`Filled` with the same words before and after).
-- Assumes nothing.
use Prim.Native.Nat.{ℕ, suc, ◌+◌, ◌-◌, ◌≤◌, ◌<◌}
use mathlib.Core.Path.{◌≡◌, refl, sym, ap, ◌∙◌}
use mathlib.Core.Bool.{Bool, true, false, false≢true}
use mathlib.Core.List.{List}
use mathlib.Core.Logic.{◌⊎◌, inl, inr}
use native.Mathlib.Omega.{arith}
use native.Mathlib.Nat.{le_trans}
use lib.Bits.{bit_and, and_self}
use lib.ListN.{get_or, length}
use Rattle.lists.proofs.Numbers.{lt-or-le, eq-or-ne}
use Rattle.shape.specs.Shape.{Fit}
use Rattle.split.specs.Steps.{steps}
use Rattle.address.specs.Address.{address}
use Rattle.pairs.specs.Pairs.{StepPair}
use Rattle.cell.specs.Cell.{cell_address, Agree}
use Rattle.cell.proofs.CellLaws.{cell_address-same}
use Rattle.directory.specs.Directory.{Filled}
use Rattle.address_bits.specs.Bits.{bit_set}
use Rattle.directory.specs.Blocks.{RegionAt, BlockFilled, Among}
use Rattle.cell.proofs.AgreeLaws.{cut, agree-cut, agree-sym, agree_trans, agree-le}
use Rattle.directory.proofs.MaskLaws.{among-le, among-and, among_next}
use Rattle.directory.proofs.BlockLaws.{block_first, block_last, block}
use Rattle.directory.proofs.RegionLaws.{FilledTo, filled_to-end, cell-block_first, cell-block_last}
use Rattle.directory_sibling.proofs.CellLaws.{cell_address-cut-deeper}
use Rattle.directory_tests.specs.Intact.{cell_word, RegionHolds, RegionTold}
use Rattle.directory_tests.specs.Private.{MaskTold, BlockTold, CellsTold, BlocksTold}

-- ---- a mask

-- the words of the numbers from low on are this one
pub record HeldFrom (base mask word low : ℕ) (words : List ℕ) : Type 0 where
  pub own : Among low mask
  pub held : (v : ℕ) → Among v mask → low ≤ v → get_or words (base + v) 0 ≡ word

module _ (base mask word : ℕ) (words : List ℕ) where
  pub held_from-mask : get_or words (base + mask) 0 ≡ word → HeldFrom base mask word mask words
  held_from-mask e = record {
    own = and_self mask;
    held = λ v a l. let d : base + v ≡ base + mask = omega (arith, among-le v mask a) in
        ap (λ x. get_or words x 0) d ∙ e;
  }

  pub held_from-next : (low : ℕ) → HeldFrom base mask word low words
      → get_or words (base + bit_and (low - 1) mask) 0 ≡ word → HeldFrom base mask word (bit_and (low - 1) mask) words
  held_from-next low inv e = record {
    own = among-and (low - 1) mask;
    held = λ v a l. at v a (eq-or-ne v next) (lt-or-le v low) l;
  }
    where
      next : ℕ
      next = bit_and (low - 1) mask

      at : (v : ℕ) → Among v mask → (v ≡ next) ⊎ (v ≡ next → ⊥) → (v < low) ⊎ (low ≤ v) → next ≤ v
          → get_or words (base + v) 0 ≡ word
      at v a (inl d) o l = ap (λ x. get_or words (base + x) 0) d ∙ e
      at v a (inr n) (inl o) l = absurd (n (omega (arith, among_next v low mask inv.own a o)))
      at v a (inr n) (inr o) l = inv.held v a o

  pub mask_told-yes : (low : ℕ) → low ≤ 0 → HeldFrom base mask word low words → MaskTold base mask word words true
  mask_told-yes low l inv = record {
    yes = λ e v a. inv.held v a (omega arith);
    no = λ e. absurd (false≢true (sym e));
  }

  pub mask_told-no : (v : ℕ) → Among v mask → (get_or words (base + v) 0 ≡ word → ⊥) → MaskTold base mask word words false
  mask_told-no v a n = record { yes = λ e. absurd (false≢true e); no = λ e. (v, a, n) }

-- ---- a region

module _ (ws : List ℕ) (t x : ℕ) (p : ℕ → Bool) (word : ℕ) (words : List ℕ) where
  pub region_told-yes : RegionHolds ws t x p word words → RegionTold ws t x p word words true
  region_told-yes h = record { yes = λ e. h; no = λ e. absurd (false≢true (sym e)) }

  pub region_told-no : (q : ℕ → Bool) → Agree x p q → (cell_word ws t words q ≡ word → ⊥)
      → RegionTold ws t x p word words false
  region_told-no q a n = record { yes = λ e. absurd (false≢true e); no = λ e. (q, a, n) }

-- in a directory of depth x the region is one cell
pub filled-cell : (ws : List ℕ) → Fit ws → (x : ℕ) → x ≤ length (steps ws) → (p : ℕ → Bool) (word : ℕ) (words : List ℕ)
    → cell_word ws x words p ≡ word → Filled ws x x p word words words
filled-cell ws fit x h p word words e = record {
  inside = λ q a. ap (λ b. get_or words b 0) (sym ((cell_address-same ws fit x h p q).1 a)) ∙ e;
  outside = λ q a. refl;
  past = λ a l. refl;
  size = refl;
}

-- its own cell differs
module _ (ws : List ℕ) (fit : Fit ws) (x t : ℕ) (h : x ≤ t) (ht : t ≤ length (steps ws)) (word : ℕ)
    (words : List ℕ) where
  -- a cell of fewer bits that differs is one of t bits
  pub differs-deeper : (y : ℕ) → x ≤ y → y ≤ t → (p q : ℕ → Bool) → Agree x p q → (cell_word ws y words q ≡ word → ⊥)
      → (r : ℕ → Bool) × Agree x p r × (cell_word ws t words r ≡ word → ⊥)
  differs-deeper y l b p q a n = (
    cut y q,
    agree_trans x p q (cut y q) a (agree-sym x (cut y q) q (agree-le x y (cut y q) q l (agree-cut y q))),
    λ e. n (ap (λ u. get_or words u 0) (sym (cell_address-cut-deeper ws fit y t b ht q)) ∙ e),
  )

  pub cells_told-own : (is : List ℕ) → (get_or words (address ws is) 0 ≡ word → ⊥) → CellsTold ws is x t word words false
  unfolding cell_address
  cells_told-own is n p e =
      let d = differs-deeper x (omega arith) h p p (λ s l. refl)
      (λ w. n (ap (λ v. get_or words (address ws v) 0) (sym e) ∙ w)) in
      region_told-no ws t x p word words d.0 d.1 d.2

  pub cells_told-blocks : (is : List ℕ) (held : Bool) → get_or words (address ws is) 0 ≡ word
      → BlocksTold ws is x t word words held → CellsTold ws is x t word words held
  unfolding cell_address
  cells_told-blocks is held e b p c = b p c (ap (λ v. get_or words (address ws v) 0) c ∙ e)

-- ---- the turns of the loop over the blocks

pub block_filled : (ws first end : List ℕ) (word : ℕ) (words : List ℕ) (held : Bool) → held ≡ true
    → BlockTold ws first end word words held → BlockFilled ws first end word words words
block_filled ws first end word words held e m =
    record { inside = m.yes e; outside = λ a n. refl; size = refl }

module _ (ws is : List ℕ) (x t word start : ℕ) (words : List ℕ) (r : RegionAt ws is start x t (length words))
    (ht : t ≤ length (steps ws)) (y g : ℕ) (last : List ℕ) (inv : FilledTo ws is x t word y g last words words) where
  abbrev fit : Fit ws
  fit = r.fits.fit

  pub blocks_told-yes : t ≤ y → BlocksTold ws is x t word words true
  blocks_told-yes l p c e =
      let own = filled-cell ws fit x (le_trans r.within ht) p word words e in
      region_told-yes ws t x p word words
      (filled_to-end ws is x t word start words r y g last words inv l p c own).inside

  module _ (s : ℕ) (pair : StepPair ws y s) (next : y < t) (first end : List ℕ) (e : first ≡ bit_set s is)
      (d : end ≡ bit_set s last) where
    -- a word of the block of step y differs
    pub blocks_told-no : (held : Bool) → held ≡ false → BlockTold ws first end word words held
        → BlocksTold ws is x t word words false
    unfolding cell_address
    blocks_told-no held f m p c own =
        let a : cell_address ws (suc y) (block_first x y p) ≡ address ws first =
        ap (address ws) (cell-block_first ws fit y s pair x inv.from p ∙ ap (bit_set s) c ∙ sym e) in
        let b : cell_address ws (suc y) (block_last x y p) ≡ address ws end =
        ap (address ws) (cell-block_last ws fit y s pair x inv.from p ∙ ap (bit_set s) (inv.last-cell p c)
        ∙ sym d) in
        let v = m.no f in
        let mask : Among v.0
        (cell_address ws (suc y) (block_last x y p) - cell_address ws (suc y) (block_first x y p)) =
        rw (a, b) v.1 in
        let o = (block ws fit x y s pair inv.from p).onto v.0 mask in
        let there : cell_address ws (suc y) o.0 ≡ address ws first + v.0 = o.3 ∙ ap (λ u. u + v.0) a in
        let w = differs-deeper ws fit x t r.within ht word words (suc y) (omega (arith, inv.from)) next p o.0
        o.1 (λ h. v.2 (ap (λ u. get_or words u 0) (sym there) ∙ h)) in
        region_told-no ws t x p word words w.0 w.1 w.2
