-- Laws of setting a region: its own cell, the index vectors of the blocks that follow, the turns of the loop.
-- Assumes nothing.
use Prim.Native.Nat.{ℕ, suc, ◌+◌, ◌-◌, ◌/◌, ◌%◌, ◌^◌, ◌≤◌, ◌<◌}
use mathlib.Core.Path.{◌≡◌, refl, sym, ap, ◌∙◌, subst}
use mathlib.Core.Bool.{Bool, true}
use mathlib.Core.List.{List, [], ◌∷◌}
use native.Mathlib.Omega.{arith}
use native.Mathlib.Nat.{le_trans}
use native.Mathlib.Numerals.{add-one}
use lib.ListN.{get_or, length, set, length-set}
use lib.Pow.{pow_mono}
use lib.Seq.{get_or-set_same, get_or-set_other}
use Rattle.shape.specs.Shape.{Fit}
use Rattle.split.specs.Steps.{steps}
use Rattle.split.proofs.StepLaws.{length-steps}
use Rattle.address.specs.Address.{address}
use Rattle.pairs.specs.Pairs.{StepPair, StepsBefore}
use Rattle.address_formula.specs.LatestPair.{latest_pair}
use Rattle.address.specs.Vectors.{InBox}
use Rattle.cell.specs.Cell.{cell, cell_address, Agree}
use Rattle.cell.proofs.CellLaws.{cell_agree, cell-zero-bits}
use Rattle.cell.proofs.CellLaws.{cell_address-lt, cell_address-same, cell_address-zero-bits}
use Rattle.directory.specs.Directory.{DirectoryFits, Filled}
use Rattle.address_bits.specs.Bits.{bit_set}
use Rattle.directory.specs.Blocks.{RegionAt, BlocksFilled, BlockFits, BlockFilled}
use Rattle.pairs.proofs.PlaceLaws.{step_pair-lt, steps_before-pair}
use Rattle.cell.proofs.AgreeLaws.{cut, agree-cut, cut-past, agree-with_bit, agree-sym, agree_trans, agree-le, agree-suc}
use Rattle.region.proofs.StringLaws.{with_bit-same}
use Rattle.cell.proofs.HalfLaws.{in_box-cell}
use Rattle.directory.proofs.CellLaws.{cell-upper, get_d-cell-lt}
use Rattle.directory.proofs.LatestLaws.{latest_pair-cell}
use Rattle.directory.proofs.BlockLaws.{full, agree-full, full-past, block_first, block_last}
use Rattle.directory.proofs.BlockLaws.{first-le-last, block, filled-block}

pub fits-steps : (w0 w1 w2 w3 t size : ℕ) → DirectoryFits (w0 ∷ w1 ∷ w2 ∷ w3 ∷ []) t size
    → t ≤ length (steps (w0 ∷ w1 ∷ w2 ∷ w3 ∷ []))
fits-steps w0 w1 w2 w3 t size d = subst (λ n. t ≤ n) (sym (length-steps w0 w1 w2 w3 d.fit)) d.deep

-- ---- the region's own cell

module _ (ws : List ℕ) (fit : Fit ws) (x t : ℕ) (h : x ≤ t) (ht : t ≤ length (steps ws)) (p : ℕ → Bool) where
  own-zero-bits : cell_address ws t (cut x p) ≡ cell_address ws x p
  own-zero-bits =
      cell_address-zero-bits ws fit x t h ht (cut x p) (λ s l u. cut-past x p s l)
      ∙ (cell_address-same ws fit x (le_trans h ht) (cut x p) p).1 (agree-cut x p)

  pub own-lt : cell_address ws x p < 2 ^ t
  own-lt = subst (λ a. a < 2 ^ t) own-zero-bits (cell_address-lt ws fit t ht (cut x p))

  -- in a directory of depth x the region is one cell
  filled-own : (word : ℕ) (words : List ℕ) → 2 ^ t ≤ length words
      → let now = set words (cell_address ws x p) word in Filled ws x x p word now now
  filled-own word words room = record {
    inside = λ q a.
        ap (λ b. get_or (set words (cell_address ws x p) word) b 0)
        (sym ((cell_address-same ws fit x (le_trans h ht) p q).1 a))
        ∙ get_or-set_same words (cell_address ws x p) word 0 (omega (arith, own-lt));
    outside = λ q a. refl;
    past = λ a l. refl;
    size = refl;
  }

  -- the rest set after that cell
  filled-rest : (word : ℕ) (before after : List ℕ)
      → Filled ws t x p word (set before (cell_address ws x p) word) after → Filled ws t x p word before after
  filled-rest word before after f = record {
    inside = f.inside;
    outside = λ q a.
        f.outside q a
        ∙ get_or-set_other before (cell_address ws x p) (cell_address ws t q) word 0 (λ e. a (agrees q e));
    past = λ a l. f.past a l ∙ get_or-set_other before (cell_address ws x p) a word 0 (λ e. omega (arith, own-lt));
    size = f.size ∙ length-set before (cell_address ws x p) word;
  }
    where
      agrees : (q : ℕ → Bool) → cell_address ws t q ≡ cell_address ws x p → Agree x p q
      agrees q e =
          let same = (cell_address-same ws fit t ht (cut x p) q).0 (own-zero-bits ∙ sym e) in
          agree_trans x p (cut x p) q (agree-sym x (cut x p) p (agree-cut x p)) (agree-le x t (cut x p) q h same)

  -- that cell, then the rest
  pub filled-region : (word : ℕ) (before after : List ℕ) (own : ℕ) → own ≡ cell_address ws x p → 2 ^ t ≤ length before
      → (let now = set before own word in Filled ws x x p word now now → Filled ws t x p word now after)
      → Filled ws t x p word before after
  filled-region word before after own e room rest =
      let now : ℕ → List ℕ = λ a. set before a word in
      filled-rest word before after
      (subst (λ a. Filled ws t x p word (now a) after) e
      (rest (subst (λ a. Filled ws x x p word (now a) (now a)) (sym e) (filled-own word before room))))

-- ---- the index vectors of a block

module _ (ws : List ℕ) (fit : Fit ws) (y g : ℕ) (pair : StepPair ws y g) where
  module _ (x : ℕ) (h : x ≤ y) (p : ℕ → Bool) where
    pub cell_cut : cell ws y (cut x p) ≡ cell ws x p
    cell_cut =
        cell-zero-bits ws fit x y h (omega (arith, step_pair-lt ws y g pair fit)) (cut x p) (λ s l u. cut-past x p s l)
        ∙ cell_agree ws fit x (cut x p) p (agree-cut x p)

    pub cell-block_first : cell ws (suc y) (block_first x y p) ≡ bit_set g (cell ws x p)
    cell-block_first = cell-upper ws fit y g pair (cut x p) ∙ ap (bit_set g) cell_cut

    pub cell-block_last : cell ws (suc y) (block_last x y p) ≡ bit_set g (cell ws y (full x p))
    cell-block_last = cell-upper ws fit y g pair (full x p)

    -- the last vector of this block, for the next
    pub cell-full-suc : cell ws (suc y) (full x p) ≡ bit_set g (cell ws y (full x p))
    cell-full-suc =
        cell_agree ws fit (suc y) (full x p) (block_last x y p)
        (agree-suc y (full x p) (block_last x y p)
        (agree-sym y (block_last x y p) (full x p) (agree-with_bit (full x p) y true))
        (full-past x p y h ∙ sym (with_bit-same (full x p) y true)))
        ∙ cell-block_last

-- ---- the turns of the loop

-- the region has its cells of y bits, if its own cell had the word at the start; `last` has all bits from x to y − 1
pub record FilledTo (ws is : List ℕ) (x t word y g : ℕ) (last before now : List ℕ) : Type 0 where
  pub from : x ≤ y
  pub within : y ≤ t
  pub place : StepsBefore ws y g
  pub last-cell : (p : ℕ → Bool) → cell ws x p ≡ is → cell ws y (full x p) ≡ last
  pub filled : (p : ℕ → Bool) → cell ws x p ≡ is → Filled ws x x p word before before → Filled ws y x p word before now
  pub size : length now ≡ length before

module _ (ws is : List ℕ) (x t word start : ℕ) (before : List ℕ) (r : RegionAt ws is start x t (length before)) where
  pub filled_to-start : FilledTo ws is x t word x start is before before
  filled_to-start = record {
    from = omega arith;
    within = r.within;
    place = r.place;
    last-cell = λ p e. cell_agree ws r.fits.fit x (full x p) p (agree-full x p) ∙ e;
    filled = λ p e f. f;
    size = refl;
  }

  module _ (y g : ℕ) (last now : List ℕ) (inv : FilledTo ws is x t word y g last before now) where
    pub filled_to-end : t ≤ y → BlocksFilled ws is x t word before now
    filled_to-end l p e f =
        let d : y ≡ t = omega (arith, inv.within) in
        subst (λ n. Filled ws n x p word before now) d (inv.filled p e f)

    -- step y is the pair at place s
    module _ (s : ℕ) (pair : StepPair ws y s) where
      abbrev p : ℕ → Bool
      p = r.string.0

      pub first_small : get_or is (s % 4) 0 < 2 ^ (s / 4)
      first_small =
          subst (λ v. get_or v (s % 4) 0 < 2 ^ (s / 4))
          (cell_cut ws r.fits.fit y s pair x inv.from p ∙ r.string.1)
          (get_d-cell-lt ws r.fits.fit y s pair (cut x p))

      pub last-small : get_or last (s % 4) 0 < 2 ^ (s / 4)
      last-small =
          subst (λ v. get_or v (s % 4) 0 < 2 ^ (s / 4)) (inv.last-cell p r.string.1)
          (get_d-cell-lt ws r.fits.fit y s pair (full x p))

      module _ (next : y < t) (first end : List ℕ) (e : first ≡ bit_set s is) (d : end ≡ bit_set s last) where
        first-is : (q : ℕ → Bool) → cell ws x q ≡ is → cell ws (suc y) (block_first x y q) ≡ first
        first-is q c = cell-block_first ws r.fits.fit y s pair x inv.from q ∙ ap (bit_set s) c ∙ sym e

        last-is : (q : ℕ → Bool) → cell ws x q ≡ is → cell ws (suc y) (block_last x y q) ≡ end
        last-is q c =
            cell-block_last ws r.fits.fit y s pair x inv.from q ∙ ap (bit_set s) (inv.last-cell q c) ∙ sym d

        pub block-fits : BlockFits ws s first end (length now)
        unfolding cell_address
        block-fits =
            let f = first-is p r.string.1 in
            let l = last-is p r.string.1 in
            let deep = step_pair-lt ws y s pair r.fits.fit in
            let low = cell_address-lt ws r.fits.fit (suc y) deep (block_last x y p) in
            let le : 2 ^ suc y ≤ 2 ^ t = pow_mono next in
            let top : 2 ^ t ≤ 2 ^ 12 = pow_mono r.fits.short in
            record {
              low = pair.low;
              first-in = subst (InBox ws) f (in_box-cell ws r.fits.fit (suc y) (block_first x y p));
              last-in = subst (InBox ws) l (in_box-cell ws r.fits.fit (suc y) (block_last x y p));
              first-latest =
                  subst (λ v. latest_pair v ≡ s + 1) f
                  (latest_pair-cell ws r.fits.fit y s pair (block_first x y p) (with_bit-same (cut x p) y true));
              last-latest =
                  subst (λ v. latest_pair v ≡ s + 1) l
                  (latest_pair-cell ws r.fits.fit y s pair (block_last x y p) (with_bit-same (full x p) y true));
              order =
                  subst (λ v. address ws v ≤ address ws end) f
                  (subst (λ v. address ws (cell ws (suc y) (block_first x y p)) ≤ address ws v) l
                  (first-le-last ws r.fits.fit x y s pair inv.from p));
              room = omega (arith, ap (address ws) l, low, r.fits.room, inv.size);
              short = omega (arith, ap (address ws) l, low);
            }

        pub filled_to-suc : (after : List ℕ)
            → BlockFilled ws first end word now after
            → FilledTo ws is x t word (y + 1) (s + 1) end before after
        unfolding cell_address
        filled_to-suc after m = record {
          from = omega (arith, inv.from);
          within = omega arith;
          place = steps_before-pair ws y s pair;
          last-cell = λ q c.
              ap (λ n. cell ws n (full x q)) (add-one y)
              ∙ cell-full-suc ws r.fits.fit y s pair x inv.from q
              ∙ ap (bit_set s) (inv.last-cell q c)
              ∙ sym d;
          filled = λ q c f.
              subst (λ n. Filled ws n x q word before after) (sym (add-one y)) (filled q c (inv.filled q c f));
          size = m.size ∙ inv.size;
        }
          where
            filled : (q : ℕ → Bool) → cell ws x q ≡ is → Filled ws y x q word before now
                → Filled ws (suc y) x q word before after
            filled q c =
                let a = ap (address ws) (first-is q c) in
                let b = ap (address ws) (last-is q c) in
                filled-block ws r.fits.fit x y inv.from (step_pair-lt ws y s pair r.fits.fit) q
                (cell_address ws (suc y) (block_first x y q))
                (cell_address ws (suc y) (block_last x y q) - cell_address ws (suc y) (block_first x y q))
                word before now after (block ws r.fits.fit x y s pair inv.from q) (rw (a, b) m)
