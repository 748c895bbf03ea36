-- What a private function's contract cites. Assumes nothing.
use Rattle.std.specs.Prelude.{ℕ, suc, ◌+◌, ◌*◌, ◌-◌, ◌/◌, ◌%◌, ◌^◌, ◌<◌, ◌≤◌, ◌≡◌, Bool, true, false, cond, List, [], ◌∷◌, eqb, get_or}
use Rattle.split.specs.Bits.{bit_of}
use Rattle.record.specs.Packed.{packed_value}

-- a number's bit s, counted from the lowest, is 1
abbrev pub has_bit : ℕ → ℕ → Bool
has_bit s n = eqb (n / 2 ^ s % 2) 1

-- the w bits of a value at the top of 64 bits, in which bit k of the value is bit 63 - k: of 1 in two bits 2^62
abbrev pub top_bits : ℕ → ℕ → ℕ
top_bits w v = (v % 2 ^ w) * 2 ^ (64 - w)

-- bit is the highest bit that is 1 in n
pub record LeadingOne (n bit : ℕ) : Type 0 where
  pub place : ℕ
  pub is-power : bit ≡ 2 ^ place
  pub low : 2 ^ place ≤ n
  pub high : n < 2 ^ suc place

-- of bit, one alone: r is bit or 0, as a has it where d does, and as b has it where not
abbrev pub Chosen : ℕ → ℕ → ℕ → ℕ → ℕ → Type 0
Chosen bit d a b r = (s : ℕ) → bit ≡ 2 ^ s → r ≡ cond (cond (has_bit s d) (has_bit s a) (has_bit s b)) bit 0

-- bit s in the top bits of a key's value of attribute j
abbrev pub key_bit : List ℕ → ℕ → ℕ → ℕ → Bool
key_bit ws key s j = has_bit s (top_bits (get_or ws j 0) (packed_value key j))

-- of four attributes the bit of the first that passes, of the last where none before it does
abbrev pub of_first : (ℕ → Bool) → (ℕ → Bool) → Bool
of_first passes bits = cond (passes 0) (bits 0) (cond (passes 1) (bits 1) (cond (passes 2) (bits 2) (bits 3)))

-- of bit, one alone: r is bit or 0, as the key has it in attribute j, for the first j of which dj has it, or the last
abbrev pub BitOfFirst : List ℕ → ℕ → ℕ → ℕ → ℕ → ℕ → ℕ → Type 0
BitOfFirst ws key bit d0 d1 d2 r =
    (s : ℕ) → bit ≡ 2 ^ s
    → r ≡ cond (of_first (λ j. has_bit s (get_or (d0 ∷ d1 ∷ d2 ∷ []) j 0)) (key_bit ws key s)) bit 0

-- p is the place 4k + j of the first bit k that is 1 in a value v of attribute j, which has w bits; 64 or more for none
pub record FirstBit (w v j p : ℕ) : Type 0 where
  pub most : p ≤ 259
  pub zero-before : (k : ℕ) → k < w → 4 * k + j < p → bit_of w v k ≡ false
  pub attribute-there : p < 64 → p % 4 ≡ j
  pub step-there : p < 64 → p / 4 < w
  pub one-there : p < 64 → bit_of w v (p / 4) ≡ true
