-- Split order of keys, each given by its four encodings (document 01, "Shape and split steps"). Assumes nothing.
use Rattle.std.specs.Prelude.{ℕ, zero, suc, ◌≤◌, ◌<◌, ◌≡◌, Bool, cond, List}
use Rattle.std.specs.Bool.{beq}
use Rattle.shape.specs.Shape.{total}
use Rattle.split.specs.Bits.{split_bit}
use Rattle.pairs.specs.Pairs.{IsStep, pair_bit}
use Rattle.region.specs.Strings.{same_bits}
use Rattle.region.specs.Sets.{before}
use Rattle.std.specs.declared.cmp.Ordering.{Ordering}
use Rattle.std.specs.declared.cmp.Ordering.TheVariants.{Less, Equal, Greater}

-- how many of the n bits from step t on two strings have in common before they differ
abbrev pub common_bits : (ℕ → Bool) → (ℕ → Bool) → ℕ → ℕ → ℕ
common_bits p q zero t = 0
common_bits p q (suc n) t = cond (beq (p t) (q t)) (suc (common_bits p q n (suc t))) 0

-- the first split step in which two keys differ; W where they do not
unfoldable pub first_step : List ℕ → List ℕ → List ℕ → ℕ
first_step ws x y = common_bits (split_bit ws x) (split_bit ws y) (total ws) 0

-- "Split order compares two keys at their first differing split bit, 0 before 1": how x stands to y
unfoldable pub compared : List ℕ → List ℕ → List ℕ → Ordering
compared ws x y =
    cond (same_bits (split_bit ws x) (split_bit ws y) (total ws) 0) Equal
    (cond (before (split_bit ws) (total ws) 0 x y) Less Greater)

-- g is the place of the first split step in which two keys differ; 64 where they do not
pub record FirstPair (ws x y : List ℕ) (g : ℕ) : Type 0 where
  pub most : g ≤ 64
  pub same-before : (h : ℕ) → h < g → IsStep ws h → pair_bit ws x h ≡ pair_bit ws y h
  pub step-there : g < 64 → IsStep ws g
  pub differ-there : g < 64 → pair_bit ws x g ≡ pair_bit ws y g → ⊥
