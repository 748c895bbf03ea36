-- Strings of split bits as numbers, and the test of a page by them (document 01, "Shape and split steps": "Split order
-- compares two keys at their first differing split bit"). Assumes nothing.
use Rattle.std.specs.Prelude.{ℕ, zero, suc, ◌+◌, ◌-◌, ◌*◌, ◌/◌, ◌^◌, Bool, true, false, ◌&&◌, List, [], ◌∷◌, leb, ltb, eqb, length}
use Rattle.split.specs.Steps.{bit_value}

-- the n bits from step t on as a number, the first highest: 1, 0, 1 gives 5
abbrev pub code : ℕ → ℕ → (ℕ → Bool) → ℕ
code zero t p = 0
code (suc n) t p = bit_value (p t) * 2 ^ n + code n (suc t) p

-- Records by their codes of W bits, in the leaf of depth x whose string has the code s.
module _ {R : Type 0} (code_of : R → ℕ) (fits : R → Bool) (W b x s : ℕ) where
  -- within the shape, and its first x bits are the leaf's
  abbrev pub record_here : R → Bool
  record_here r = fits r && eqb (code_of r / 2 ^ (W - x)) s

  -- the records after the one with the code c
  abbrev pub chain_after : ℕ → List R → Bool
  chain_after c [] = true
  chain_after c (r ∷ rs) = ltb c (code_of r) && (record_here r && chain_after (code_of r) rs)

  -- one record at least, each before the next
  abbrev pub chain : List R → Bool
  chain [] = false
  chain (r ∷ rs) = record_here r && chain_after (code_of r) rs

  -- and at most b
  abbrev pub page_chain : List R → Bool
  page_chain rs = leb (length rs) b && chain rs
