-- Laws of the test before the directory is halved: one step, by the addresses that it appended; the steps in a row.
-- Assumes nothing.
use Prim.Native.Nat.{ℕ, suc, ◌+◌, ◌^◌, ◌≤◌, ◌<◌}
use mathlib.Core.Path.{◌≡◌, sym, ap, ◌∙◌}
use mathlib.Core.Bool.{Bool, true, false, false≢true}
use mathlib.Core.List.{List}
use mathlib.Core.Logic.{◌⊎◌, inl, inr}
use native.Mathlib.Omega.{arith}
use native.Mathlib.Nat.{le_trans}
use native.Mathlib.Numerals.{add-one}
use lib.ListN.{get_or, length}
use Rattle.lists.proofs.Numbers.{eq-or-ne}
use Rattle.shape.specs.Shape.{Fit}
use Rattle.split.specs.Steps.{steps}
use Rattle.cell.specs.Cell.{cell_address, Agree}
use Rattle.cell.proofs.CellLaws.{cell_address-lt, cell_address-same}
use Rattle.directory.specs.Blocks.{UpperHalf}
use Rattle.cell.proofs.AgreeLaws.{agree-le}
use Rattle.cell.proofs.HalfLaws.{cell_address-below}
use Rattle.directory_tests.specs.Intact.{cell_word, Folds, FoldTold}
use Rattle.directory_tests.specs.Private.{PairTold, StepTold}

-- ---- one step

-- the cells of s + 1 bits at addresses below a have the word of their first s, but for the cell at `own`
pub record FoldedTo (ws : List ℕ) (s own : ℕ) (words : List ℕ) (a : ℕ) : Type 0 where
  pub low : 2 ^ s ≤ a
  pub high : a ≤ 2 ^ suc s
  pub cells : (q : ℕ → Bool) → cell_address ws (suc s) q < a → (cell_address ws s q ≡ own → ⊥)
      → cell_word ws (suc s) words q ≡ cell_word ws s words q

module _ (ws : List ℕ) (fit : Fit ws) (s own : ℕ) (h : s < length (steps ws)) (words : List ℕ) where
  pub folded_to-none : FoldedTo ws s own words (2 ^ s)
  folded_to-none = record {
    low = omega arith;
    high = omega arith;
    cells = λ q l n. ap (λ x. get_or words x 0) (cell_address-below ws fit s h q l);
  }

  module _ (a : ℕ) (inv : FoldedTo ws s own words a) where
    pub folded_to-suc : (w : ℕ) → a < 2 ^ suc s → UpperHalf ws s a w → (held : Bool) → held ≡ true
        → PairTold a w own words held → FoldedTo ws s own words (a + 1)
    folded_to-suc w l u held e told = record {
      low = omega (arith, inv.low);
      high = omega arith;
      cells = λ q lq n. cells q lq n (eq-or-ne (cell_address ws (suc s) q) a);
    }
      where
        -- every string whose cell is at a has the same first s bits
        whole-at : (q : ℕ → Bool) → cell_address ws (suc s) q ≡ a → cell_address ws s q ≡ w
        whole-at q d =
            let same = (cell_address-same ws fit (suc s) h q u.0).0 (d ∙ sym u.1) in
            (cell_address-same ws fit s (omega arith) q u.0).1 (agree-le s (suc s) q u.0 (omega arith) same) ∙ u.2

        cells : (q : ℕ → Bool) → cell_address ws (suc s) q < a + 1 → (cell_address ws s q ≡ own → ⊥)
            → (cell_address ws (suc s) q ≡ a) ⊎ (cell_address ws (suc s) q ≡ a → ⊥)
            → cell_word ws (suc s) words q ≡ cell_word ws s words q
        cells q lq n (inl d) =
            ap (λ x. get_or words x 0) d
            ∙ told.yes e (λ o. n (whole-at q d ∙ o))
            ∙ ap (λ x. get_or words x 0) (sym (whole-at q d))
        cells q lq n (inr ne) = inv.cells q (omega arith) n

    pub step_told-yes : 2 ^ suc s ≤ a → StepTold ws s own words true
    step_told-yes l = record {
      yes = λ e q n. inv.cells q (le_trans (cell_address-lt ws fit (suc s) h q) l) n;
      no = λ e. absurd (false≢true (sym e));
    }

  pub step_told-no : (a w : ℕ) → UpperHalf ws s a w → (held : Bool) → held ≡ false → PairTold a w own words held
      → StepTold ws s own words false
  step_told-no a w u held e told = record {
    yes = λ d. absurd (false≢true d);
    no = λ d. (
      u.0,
      λ o. (told.no e).0 (sym u.2 ∙ o),
      λ same. (told.no e).1 (ap (λ x. get_or words x 0) (sym u.1) ∙ same ∙ ap (λ x. get_or words x 0) u.2),
    );
  }

-- ---- the steps in a row

module _ (ws : List ℕ) (fit : Fit ws) (u t : ℕ) (p : ℕ → Bool) (words : List ℕ) (s : ℕ) (inv : Folds ws u s p words)
    (from : u ≤ s) (l : s < t) (h : t ≤ length (steps ws)) (own : ℕ) (at : own ≡ cell_address ws s p) (held : Bool)
    (told : StepTold ws s own words held) where
  -- the cell left out is that of p's first s bits
  agrees : (q : ℕ → Bool) → cell_address ws s q ≡ own → Agree s p q
  agrees q e = (cell_address-same ws fit s (omega arith) p q).0 (sym (e ∙ at))

  pub folds-suc : held ≡ true → Folds ws u (s + 1) p words
  folds-suc e =
      rw add-one (λ q n. told.yes e q (λ o. n (agree-le u s p q from (agrees q o))) ∙ inv q n)

  pub fold_told-no : held ≡ false → FoldTold ws u t p words false
  fold_told-no e =
      let d = told.no e in
      record {
        yes = λ f. absurd (false≢true f);
        no = λ f. (
          s,
          from,
          l,
          (
            d.0,
            (λ a. d.1 ((cell_address-same ws fit s (omega arith) d.0 p).1 (λ k m. sym (a k m)) ∙ sym at)),
            d.2,
          ),
        );
      }
