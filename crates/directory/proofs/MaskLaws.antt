-- Laws of the numbers whose bits are among those of a mask, from the greatest down: v, then (v − 1) & mask; and of the
-- loop that sets their words. Assumes nothing.
use Prim.Native.Nat.{ℕ, zero, suc, ◌+◌, ◌/◌, ◌%◌, ◌^◌, ◌-◌, ◌≤◌, ◌<◌, min}
use mathlib.Core.Path.{◌≡◌, refl, ap, ◌∙◌}
use mathlib.Core.List.{List}
use mathlib.Core.Logic.{◌⊎◌, inl, inr}
use native.Mathlib.Omega.{arith}
use lib.Bits.{bit_and, and_step, and_le_l, and_le_r, and_self}
use lib.ListN.{get_or, length, set, length-set}
use lib.Seq.{get_or-set_same, get_or-set_other}
use Rattle.lists.proofs.Numbers.{lt-or-le, eq-or-ne}
use Rattle.directory.specs.Blocks.{Among, MaskFilled}

-- ---- numbers among a mask

pub among-half : (v m : ℕ) → Among v m → (Among (v / 2) (m / 2)) × (v % 2 ≤ m % 2)
among-half v m e = (
  omega (arith, and_step v m, and_le_l (v / 2) (m / 2), e),
  omega (arith, and_step v m, and_le_l (v / 2) (m / 2), e),
)

pub among-le : (v m : ℕ) → Among v m → v ≤ m
among-le v m e = omega (arith, and_le_r v m, e)

lt-pow : (n : ℕ) → n < 2 ^ n
lt-pow zero = omega arith
lt-pow (suc n) = omega (arith, lt-pow n)

among-and-below : (n a m : ℕ) → a < 2 ^ n → Among (bit_and a m) m
among-and-below zero a m h = let e : a ≡ 0 = omega arith in omega (arith, and_le_l a m, and_le_l (bit_and a m) m)
among-and-below (suc n) a m h =
    let half : bit_and a m / 2 ≡ bit_and (a / 2) (m / 2) = omega (arith, and_step a m) in
    let bit : bit_and a m % 2 ≡ min (a % 2) (m % 2) = omega (arith, and_step a m) in
    omega (
      arith,
      and_step (bit_and a m) m,
      ap (λ u. bit_and u (m / 2)) half,
      among-and-below n (a / 2) (m / 2) (omega arith),
      bit,
    )

pub among-and : (a m : ℕ) → Among (bit_and a m) m
among-and a m = among-and-below a a m (lt-pow a)

-- none is passed over
next-below : (n u v m : ℕ) → v < 2 ^ n → Among v m → Among u m → u < v → u ≤ bit_and (v - 1) m
next-below zero u v m h a b l = absurd (omega arith)
next-below (suc n) u v m h a b l = go (lt-or-le (v % 2) 1) (next-below n (u / 2) (v / 2) (m / 2))
  where
    ha : (Among (v / 2) (m / 2)) × (v % 2 ≤ m % 2)
    ha = among-half v m a

    hb : (Among (u / 2) (m / 2)) × (u % 2 ≤ m % 2)
    hb = among-half u m b

    go : (v % 2 < 1) ⊎ (1 ≤ v % 2)
        → (v / 2 < 2 ^ n → Among (v / 2) (m / 2) → Among (u / 2) (m / 2) → u / 2 < v / 2
        → u / 2 ≤ bit_and (v / 2 - 1) (m / 2))
        → u ≤ bit_and (v - 1) m
    go (inr o) ih =
        let e : (v - 1) / 2 ≡ v / 2 = omega arith in
        omega (arith, and_step (v - 1) m, ap (λ x. bit_and x (m / 2)) e, ha.0)
    go (inl o) ih =
        let e : (v - 1) / 2 ≡ v / 2 - 1 = omega arith in
        let i : u / 2 ≤ bit_and (v / 2 - 1) (m / 2) = ih (omega arith) ha.0 hb.0 (omega arith) in
        omega (arith, and_step (v - 1) m, ap (λ x. bit_and x (m / 2)) e, i, hb.1)

pub among_next : (u v m : ℕ) → Among v m → Among u m → u < v → u ≤ bit_and (v - 1) m
among_next u v m = next-below v u v m (lt-pow v)

-- ---- the loop

-- the words of the numbers from low on are set
pub record MaskFilledFrom (base mask word low : ℕ) (before after : List ℕ) : Type 0 where
  pub own : Among low mask
  pub inside : (v : ℕ) → Among v mask → low ≤ v → get_or after (base + v) 0 ≡ word
  pub outside : (a : ℕ) → ((v : ℕ) → Among v mask → a ≡ base + v → ⊥) → get_or after a 0 ≡ get_or before a 0
  pub size : length after ≡ length before

module _ (base mask word : ℕ) where
  -- the greatest is the mask itself
  pub mask_filled_from-mask : (words : List ℕ) → base + mask < length words
      → MaskFilledFrom base mask word mask (set words (base + mask) word) (set words (base + mask) word)
  mask_filled_from-mask words h = record {
    own = and_self mask;
    inside = λ v a l. let e : base + v ≡ base + mask = omega (arith, among-le v mask a) in
        ap (λ x. get_or (set words (base + mask) word) x 0) e ∙ get_or-set_same words (base + mask) word 0 h;
    outside = λ a n. refl;
    size = refl;
  }

  module _ (low : ℕ) (before after : List ℕ) (inv : MaskFilledFrom base mask word low before after) where
    pub mask_filled_from-next : base + mask < length before → 0 < low
        → MaskFilledFrom base mask word (bit_and (low - 1) mask) before (set after (base + bit_and (low - 1) mask) word)
    mask_filled_from-next h pos = record {
      own = among-and (low - 1) mask;
      inside = λ v a l. at v a (eq-or-ne v next) (lt-or-le v low) l;
      outside = λ a n.
          get_or-set_other after (base + next) a word 0 (λ e. n next (among-and (low - 1) mask) e) ∙ inv.outside a n;
      size = length-set after (base + next) word ∙ inv.size;
    }
      where
        next : ℕ
        next = bit_and (low - 1) mask

        at : (v : ℕ) → Among v mask → (v ≡ next) ⊎ (v ≡ next → ⊥) → (v < low) ⊎ (low ≤ v) → next ≤ v
            → get_or (set after (base + next) word) (base + v) 0 ≡ word
        at v a (inl e) d l =
            ap (λ x. get_or (set after (base + next) word) (base + x) 0) e
            ∙ get_or-set_same after (base + next) word 0 (omega (arith, and_le_r (low - 1) mask, inv.size))
        at v a (inr n) (inl d) l = absurd (n (omega (arith, among_next v low mask inv.own a d)))
        at v a (inr n) (inr d) l =
            get_or-set_other after (base + next) (base + v) word 0 (λ e. n (omega arith)) ∙ inv.inside v a d

  pub mask_filled_from-zero : (low : ℕ) (words after : List ℕ) → low ≤ 0
      → MaskFilledFrom base mask word low (set words (base + mask) word) after → MaskFilled base mask word words after
  mask_filled_from-zero low words after l inv = record {
    inside = λ v a. inv.inside v a (omega arith);
    outside = λ a n. inv.outside a n ∙ get_or-set_other words (base + mask) a word 0 (λ e. n mask (and_self mask) e);
    size = inv.size ∙ length-set words (base + mask) word;
  }
