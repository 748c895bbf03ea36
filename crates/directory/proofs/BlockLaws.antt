-- Laws of the block of a region that one step appends: its addresses are those of a mask, and setting them takes a
-- filled region from depth y to y + 1. Assumes nothing.
use Prim.Native.Nat.{ℕ, suc, ◌+◌, ◌*◌, ◌-◌, ◌^◌, ◌≤◌, ◌<◌}
use mathlib.Core.Path.{◌≡◌, refl, sym, ap, ◌∙◌, subst}
use mathlib.Core.Bool.{Bool, true, false, cond}
use mathlib.Core.List.{List}
use native.Mathlib.Omega.{arith}
use lib.Dec.{ltb}
use lib.ListN.{get_or, length}
use borrow.Author.Tests.{lt-ltb, le-ltb}
use Rattle.shape.specs.Shape.{Fit}
use Rattle.split.specs.Steps.{steps, bit_value}
use Rattle.pairs.specs.Pairs.{StepPair}
use Rattle.cell.specs.Cell.{cell_address, Agree}
use Rattle.cell.proofs.CellLaws.{cell_address-lt, cell_address-same}
use Rattle.directory.specs.Directory.{Filled}
use Rattle.directory.specs.Blocks.{Among, MaskFilled}
use Rattle.cell.proofs.AgreeLaws.{cut, agree-cut, cut-past, agree-with_bit, agree-sym, agree_trans, agree-le}
use Rattle.region.specs.Strings.{with_bit}
use Rattle.region.proofs.StringLaws.{with_bit-same}
use Rattle.cell.proofs.HalfLaws.{cell_address-zero-bit, cell_address-new}
use Rattle.directory.proofs.SubsetLaws.{power_sum, power_sum-agree, power_sum-none, power_sum-split, every_bit}
use Rattle.directory.proofs.SubsetLaws.{Distinct, among-power_sum, power_sum-of-among}
use Rattle.directory.proofs.WeightLaws.{weights, cell_address-power_sum, weights-distinct}

-- ---- strings of the region

-- the first x bits, then ones
abbrev pub full : ℕ → (ℕ → Bool) → ℕ → Bool
full x p s = cond (ltb s x) (p s) true

pub agree-full : (x : ℕ) (p : ℕ → Bool) → Agree x (full x p) p
agree-full x p s l = rw (lt-ltb s x l)

pub full-past : (x : ℕ) (p : ℕ → Bool) (s : ℕ) → x ≤ s → full x p s ≡ true
full-past x p s l = rw (le-ltb s x l)

-- the first and the last cell of the block: bit y is 1, the bits from x on are 0, or 1
abbrev pub block_first : ℕ → ℕ → (ℕ → Bool) → ℕ → Bool
block_first x y p = with_bit (cut x p) y true

abbrev pub block_last : ℕ → ℕ → (ℕ → Bool) → ℕ → Bool
block_last x y p = with_bit (full x p) y true

-- the first x bits of p, then r, and 1 from y on
abbrev glued : ℕ → ℕ → (ℕ → Bool) → (ℕ → Bool) → ℕ → Bool
glued x y p r s = cond (ltb s x) (p s) (cond (ltb s y) (r (s - x)) true)

-- ---- the block by a mask

-- the strings that begin with the first x bits of p and have bit y have the addresses base + v, v among the mask
pub record Block (ws : List ℕ) (x y : ℕ) (p : ℕ → Bool) (base mask : ℕ) : Type 0 where
  pub among : (q : ℕ → Bool) → Agree x p q → q y ≡ true
      → (v : ℕ) × (Among v mask) × (cell_address ws (suc y) q ≡ base + v)
  pub onto : (v : ℕ) → Among v mask
      → (q : ℕ → Bool) × (Agree x p q) × (q y ≡ true) × (cell_address ws (suc y) q ≡ base + v)

module _ (ws : List ℕ) (fit : Fit ws) (x y g : ℕ) (pair : StepPair ws y g) (h : x ≤ y) (p : ℕ → Bool) where
  abbrev n : ℕ
  n = y - x

  abbrev E : ℕ → ℕ
  E = weights ws fit y g pair

  -- the exponents and the bits from x on
  abbrev E' : ℕ → ℕ
  E' s = E (x + s)

  abbrev from : (ℕ → Bool) → ℕ → Bool
  from q s = q (x + s)

  distinct : Distinct E' n
  distinct s u l b e = weights-distinct ws fit y g pair (x + s) (x + u) (omega arith) (omega arith) e

  -- the address of a string of the block
  sum : (q : ℕ → Bool) → Agree x p q → q y ≡ true
      → cell_address ws (suc y) q ≡ 2 ^ E y + power_sum E p x + power_sum E' (from q) n
  unfolding power_sum
  sum q a e =
      let d : y ≡ x + n = omega arith in
      cell_address-power_sum ws fit y g pair q e
      ∙ ap (λ β. bit_value β * 2 ^ E y + power_sum E q y) e
      ∙ ap (λ u. 1 * 2 ^ E y + u) (ap (power_sum E q) d ∙ power_sum-split E q x n)
      ∙ omega (arith, power_sum-agree E x p q a)

  cell_address-first : cell_address ws (suc y) (block_first x y p) ≡ 2 ^ E y + power_sum E p x
  cell_address-first =
      sum (block_first x y p) agrees (with_bit-same (cut x p) y true)
      ∙ omega (arith, power_sum-none E' (from (block_first x y p)) n zeros)
    where
      agrees : Agree x p (block_first x y p)
      agrees = agree-sym x (block_first x y p) p
          (agree_trans x (block_first x y p) (cut x p) p
          (agree-le x y (block_first x y p) (cut x p) h (agree-with_bit (cut x p) y true)) (agree-cut x p))

      zeros : Agree n (from (block_first x y p)) (λ s. false)
      zeros s l = agree-with_bit (cut x p) y true (x + s) (omega arith) ∙ cut-past x p (x + s) (omega arith)

  cell_address-last : cell_address ws (suc y) (block_last x y p) ≡ 2 ^ E y + power_sum E p x + power_sum E' every_bit n
  cell_address-last =
      sum (block_last x y p) agrees (with_bit-same (full x p) y true)
      ∙ ap (λ u. 2 ^ E y + power_sum E p x + u) (power_sum-agree E' n (from (block_last x y p)) every_bit all)
    where
      agrees : Agree x p (block_last x y p)
      agrees = agree-sym x (block_last x y p) p
          (agree_trans x (block_last x y p) (full x p) p
          (agree-le x y (block_last x y p) (full x p) h (agree-with_bit (full x p) y true)) (agree-full x p))

      all : Agree n (from (block_last x y p)) every_bit
      all s l = agree-with_bit (full x p) y true (x + s) (omega arith) ∙ full-past x p (x + s) (omega arith)

  pub first-le-last : cell_address ws (suc y) (block_first x y p) ≤ cell_address ws (suc y) (block_last x y p)
  first-le-last = omega (arith, cell_address-first, cell_address-last)

  pub block : Block ws x y p (cell_address ws (suc y) (block_first x y p))
      (cell_address ws (suc y) (block_last x y p) - cell_address ws (suc y) (block_first x y p))
  block = record { among = among; onto = onto }
    where
      mask : cell_address ws (suc y) (block_last x y p) - cell_address ws (suc y) (block_first x y p)
          ≡ power_sum E' every_bit n
      mask = omega (arith, cell_address-first, cell_address-last)

      among : (q : ℕ → Bool) → Agree x p q → q y ≡ true → (v : ℕ)
          × (Among v (cell_address ws (suc y) (block_last x y p) - cell_address ws (suc y) (block_first x y p)))
          × (cell_address ws (suc y) q ≡ cell_address ws (suc y) (block_first x y p) + v)
      among q a e = (
        power_sum E' (from q) n,
        subst (Among (power_sum E' (from q) n)) (sym mask) (among-power_sum E' (from q) n distinct),
        sum q a e ∙ ap (λ u. u + power_sum E' (from q) n) (sym cell_address-first),
      )

      onto : (v : ℕ) → Among v (cell_address ws (suc y) (block_last x y p) - cell_address ws (suc y) (block_first x y p))
          → (q : ℕ → Bool) × (Agree x p q) × (q y ≡ true)
          × (cell_address ws (suc y) q ≡ cell_address ws (suc y) (block_first x y p) + v)
      onto v a =
          let r = power_sum-of-among E' n distinct v (subst (Among v) mask a) in
          let q = glued x y p r.0 in
          let end : q y ≡ true = rw (le-ltb y x h, le-ltb y y (omega arith)) refl in
          let below : Agree x p q = λ s l. rw (lt-ltb s x l) refl in
          let middle : Agree n (from q) r.0 = λ s l.
          let back : x + s - x ≡ s = omega arith in
          rw (le-ltb (x + s) x (omega arith), lt-ltb (x + s) y (omega arith)) (ap r.0 back) in
          let same = power_sum-agree E' n (from q) r.0 middle in
          (q, below, end, sum q below end ∙ omega (arith, same, r.1, cell_address-first))

-- ---- setting the block

module _ (ws : List ℕ) (fit : Fit ws) (x y : ℕ) (h : x ≤ y) (hy : y < length (steps ws)) (p : ℕ → Bool)
    (base mask word : ℕ) (before now after : List ℕ) (b : Block ws x y p base mask)
    (m : MaskFilled base mask word now after) where
  -- an address of the block is new
  new : (v : ℕ) → Among v mask → (2 ^ y ≤ base + v) × (base + v < 2 ^ suc y)
  new v a =
      let o = b.onto v a in (
        subst (λ u. 2 ^ y ≤ u) o.3 (cell_address-new ws fit y hy o.0 o.2),
        subst (λ u. u < 2 ^ suc y) o.3 (cell_address-lt ws fit (suc y) hy o.0),
      )

  -- an address of y bits is no such
  old : (q : ℕ → Bool) → q y ≡ false → get_or after (cell_address ws (suc y) q) 0 ≡ get_or now (cell_address ws y q) 0
  old q e =
      ap (λ u. get_or after u 0) (cell_address-zero-bit ws fit y hy q e)
      ∙ m.outside (cell_address ws y q) (λ v a d. omega (arith, new v a, cell_address-lt ws fit y (omega arith) q))

  pub filled-block : Filled ws y x p word before now → Filled ws (suc y) x p word before after
  filled-block f = record {
    inside = λ q a. inside q a (q y) refl;
    outside = λ q a. outside q a (q y) refl;
    past = λ a l. m.outside a (λ v h d. omega (arith, new v h)) ∙ f.past a (omega arith);
    size = m.size ∙ f.size;
  }
    where
      inside : (q : ℕ → Bool) → Agree x p q → (β : Bool) → q y ≡ β → get_or after (cell_address ws (suc y) q) 0 ≡ word
      inside q a true e = let o = b.among q a e in ap (λ u. get_or after u 0) o.2 ∙ m.inside o.0 o.1
      inside q a false e = old q e ∙ f.inside q a

      outside : (q : ℕ → Bool) → (Agree x p q → ⊥) → (β : Bool) → q y ≡ β
          → get_or after (cell_address ws (suc y) q) 0 ≡ get_or before (cell_address ws (suc y) q) 0
      outside q a true e =
          m.outside (cell_address ws (suc y) q) other
          ∙ f.past (cell_address ws (suc y) q) (cell_address-new ws fit y hy q e)
        where
          other : (v : ℕ) → Among v mask → cell_address ws (suc y) q ≡ base + v → ⊥
          other v among d =
              let o = b.onto v among in
              let same = (cell_address-same ws fit (suc y) hy o.0 q).0 (o.3 ∙ sym d) in
              a (agree_trans x p o.0 q o.1 (agree-le x (suc y) o.0 q (omega arith) same))
      outside q a false e =
          old q e ∙ f.outside q a ∙ ap (λ u. get_or before u 0) (sym (cell_address-zero-bit ws fit y hy q e))
