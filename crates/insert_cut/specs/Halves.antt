-- The halves of a full page and one key more. Assumes nothing.
use Rattle.std.specs.Prelude.{Option, Some, None, ℕ, ◌-◌, ◌≤◌, ◌<◌, ◌≡◌, true, false, cond, List, eqb}
use Rattle.record.specs.Packed.{unpacked_key}
use Rattle.page.specs.Fields.{code_at}
use Rattle.pairs.specs.Pairs.{pair_bit}
use Rattle.page_place.specs.Find.{first_one}
use Rattle.insert_cut.specs.declared.Cut.{Cut}

-- the first and the last packed key, of encodings, of a page of n records and one more, which falls before record i
abbrev pub first_key : ℕ → List ℕ → ℕ → ℕ → ℕ
first_key bias page key i = cond (eqb i 0) key (code_at bias page 0)

abbrev pub last_key : ℕ → List ℕ → ℕ → ℕ → ℕ → ℕ
last_key bias page n key i = cond (eqb i n) key (code_at bias page (n - 1))

-- a page of n records is cut before its first record with bit 1 at the place `pair` of a split step, and the key, which
-- falls before record i, falls into its own half, which has room
pub record HalfMet (ws : List ℕ) (bias : ℕ) (page : List ℕ) (n key i pair : ℕ) (cut : Cut) : Type 0 where
  pub cut_at : cut.start ≡ first_one ws bias pair page n 0
  pub bit-there : cut.bit ≡ pair_bit ws (unpacked_key key) pair
  pub low : cut.bit ≡ false → (i ≤ cut.start) × (cut.place ≡ i)
  pub high : cut.bit ≡ true → (cut.start ≤ i) × (cut.place ≡ i - cut.start)
  pub room : cond cut.bit (n - cut.start) cut.start < n

-- so the page was cut, or it cannot be
abbrev pub Halved : List ℕ → ℕ → List ℕ → ℕ → ℕ → ℕ → ℕ → Option Cut → Type 0
Halved ws bias page n key i pair (Some cut) = HalfMet ws bias page n key i pair cut
Halved ws bias page n key i pair None =
    let start = first_one ws bias pair page n 0 in
    let bit = pair_bit ws (unpacked_key key) pair in
    (bit ≡ false → i ≤ start) → (bit ≡ true → start ≤ i) → cond bit (n - start) start < n → ⊥
