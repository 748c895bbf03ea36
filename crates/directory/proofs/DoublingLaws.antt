-- Laws of doubling: the cell whose upper half a new address is, and the turns of the loop. Assumes nothing.
use Prim.Native.Nat.{ℕ, suc, ◌+◌, ◌/◌, ◌%◌, ◌^◌, ◌≤◌, ◌<◌}
use mathlib.Core.Path.{◌≡◌, refl, sym, ap, ◌∙◌, subst}
use mathlib.Core.Bool.{Bool}
use mathlib.Core.List.{List}
use mathlib.Core.Logic.{◌⊎◌, inl, inr}
use native.Mathlib.Omega.{arith}
use native.Mathlib.Nat.{le_trans}
use native.Mathlib.Numerals.{add-one}
use lib.ListN.{get_or, length, set, length-set}
use lib.Seq.{get_or-set_same, get_or-set_other}
use Rattle.lists.proofs.Numbers.{eq-or-ne}
use Rattle.shape.specs.Shape.{Fit}
use Rattle.split.specs.Steps.{steps}
use Rattle.address.specs.Address.{address}
use Rattle.address.specs.Vectors.{IndexAt}
use Rattle.address_inverse.specs.Appended.{AppendedBy}
use Rattle.cell.specs.Cell.{cell, cell_address}
use Rattle.cell.proofs.CellLaws.{length-cell, cell_address-lt, cell_address-same}
use Rattle.directory.specs.Directory.{Doubled}
use Rattle.address_bits.specs.Bits.{bit_set, bit_cleared}
use Rattle.directory.specs.Blocks.{UpperHalf}
use Rattle.pairs.proofs.PlaceLaws.{step_pair-lt}
use Rattle.address_bits.proofs.BitLaws.{get_d-bit_set, bit_cleared-bit_set}
use Rattle.cell.proofs.AgreeLaws.{agree-le}
use Rattle.directory.proofs.CellLaws.{cell-bit_set}
use Rattle.cell.proofs.HalfLaws.{cell-index_at, cell_address-below, bit-cell_address}

-- ---- the cell whose upper half step t appended at address a

-- the vector at a is the cell of a string, and without the step's bit that of the string's first t bits
pub record Whole (ws : List ℕ) (t g a : ℕ) (is : List ℕ) : Type 0 where
  pub string : ℕ → Bool
  pub at : cell_address ws (suc t) string ≡ a
  pub high : 2 ^ (g / 4) ≤ get_or is (g % 4) 0
  pub cleared : bit_cleared g is ≡ cell ws t string

pub whole : (ws : List ℕ) (t g a : ℕ) (is : List ℕ) → AppendedBy ws a t g → length is ≡ 4 → IndexAt ws a is
    → Whole ws t g a is
unfolding cell_address
whole ws t g a is by len at = record {
  string = p;
  at = here;
  high = subst (λ v. 2 ^ (g / 4) ≤ get_or v (g % 4) 0) (sym set-bit) (omega (arith, get_d-bit_set g (cell ws t p) room));
  cleared = ap (bit_cleared g) set-bit ∙ bit_cleared-bit_set g (cell ws t p) room;
}
  where
    h : t < length (steps ws)
    h = step_pair-lt ws t g by.pair by.fit

    named : (p : ℕ → Bool) × (cell ws (suc t) p ≡ is)
    named = cell-index_at ws by.fit (suc t) h a (subst (λ n. a < 2 ^ n) (add-one t) by.past) is len at

    p : ℕ → Bool
    p = named.0

    here : cell_address ws (suc t) p ≡ a
    here = ap (address ws) named.1 ∙ at.back

    set-bit : is ≡ bit_set g (cell ws t p)
    set-bit =
        sym named.1
        ∙ cell-bit_set ws by.fit t g by.pair p
        (bit-cell_address ws by.fit t h p (subst (λ x. 2 ^ t ≤ x) (sym here) by.from))

    room : g % 4 < length (cell ws t p)
    room = subst (λ n. g % 4 < n) (sym (length-cell ws t p)) (omega arith)

-- ---- the loop

-- the new addresses below a have their words
pub record DoubledTo (ws : List ℕ) (t : ℕ) (before after : List ℕ) (a : ℕ) : Type 0 where
  pub low : 2 ^ t ≤ a
  pub high : a ≤ 2 ^ suc t
  pub cells : (p : ℕ → Bool) → cell_address ws (suc t) p < a
      → get_or after (cell_address ws (suc t) p) 0 ≡ get_or before (cell_address ws t p) 0
  pub stays : (x : ℕ) → x < 2 ^ t → get_or after x 0 ≡ get_or before x 0
  pub past : (x : ℕ) → a ≤ x → get_or after x 0 ≡ get_or before x 0
  pub size : length after ≡ length before

module _ (ws : List ℕ) (fit : Fit ws) (t : ℕ) (h : t < length (steps ws)) where
  pub doubled_to-none : (words : List ℕ) → DoubledTo ws t words words (2 ^ t)
  doubled_to-none words = record {
    low = omega arith;
    high = omega arith;
    cells = λ p l. ap (λ x. get_or words x 0) (cell_address-below ws fit t h p l);
    stays = λ x l. refl;
    past = λ x l. refl;
    size = refl;
  }

  pub upper_half-lt : (a w : ℕ) → UpperHalf ws t a w → w < 2 ^ t
  upper_half-lt a w u = subst (λ x. x < 2 ^ t) u.2 (cell_address-lt ws fit t (omega arith) u.0)

  module _ (before after : List ℕ) (a : ℕ) (inv : DoubledTo ws t before after a) where
    pub doubled_to-suc : (w : ℕ) → 2 ^ suc t ≤ length before → a < 2 ^ suc t → UpperHalf ws t a w
        → DoubledTo ws t before (set after a (get_or after w 0)) (a + 1)
    doubled_to-suc w room l u = record {
      low = omega (arith, inv.low);
      high = omega arith;
      cells = λ p lp. cells p lp (eq-or-ne (cell_address ws (suc t) p) a);
      stays = λ x lx. other x (λ e. omega (arith, inv.low)) ∙ inv.stays x lx;
      past = λ x lx. other x (λ e. omega arith) ∙ inv.past x (omega arith);
      size = length-set after a (get_or after w 0) ∙ inv.size;
    }
      where
        other : (x : ℕ) → (x ≡ a → ⊥) → get_or (set after a (get_or after w 0)) x 0 ≡ get_or after x 0
        other x ne = get_or-set_other after a x (get_or after w 0) 0 ne

        -- every string whose cell is at a has the same first t bits
        whole-at : (p : ℕ → Bool) → cell_address ws (suc t) p ≡ a → cell_address ws t p ≡ w
        whole-at p e =
            let same = (cell_address-same ws fit (suc t) h p u.0).0 (e ∙ sym u.1) in
            (cell_address-same ws fit t (omega arith) p u.0).1 (agree-le t (suc t) p u.0 (omega arith) same) ∙ u.2

        cells : (p : ℕ → Bool) → cell_address ws (suc t) p < a + 1
            → (cell_address ws (suc t) p ≡ a) ⊎ (cell_address ws (suc t) p ≡ a → ⊥)
            → get_or (set after a (get_or after w 0)) (cell_address ws (suc t) p) 0 ≡ get_or before (cell_address ws t p) 0
        cells p lp (inl e) =
            ap (λ x. get_or (set after a (get_or after w 0)) x 0) e
            ∙ get_or-set_same after a (get_or after w 0) 0 (omega (arith, inv.size))
            ∙ inv.stays w (upper_half-lt a w u)
            ∙ ap (λ x. get_or before x 0) (sym (whole-at p e))
        cells p lp (inr ne) = other (cell_address ws (suc t) p) ne ∙ inv.cells p (omega arith)

    pub doubled_to-end : 2 ^ suc t ≤ a → Doubled ws t before after
    doubled_to-end l = record {
      cells = λ p. inv.cells p (le_trans (cell_address-lt ws fit (suc t) h p) l);
      stays = inv.stays;
      past = λ x lx. inv.past x (omega (arith, inv.high));
      size = inv.size;
    }
