-- Laws of a page cut at its first record with bit 1 at the place of a split step, one for each way that the search for
-- a key's half ends. Assumes nothing.
use Prim.Native.Nat.{ℕ, ◌-◌, ◌≤◌, ◌<◌}
use mathlib.Core.Path.{◌≡◌, refl, sym, subst}
use mathlib.Core.Bool.{Bool, true, false, cond, true≢false, false≢true}
use mathlib.Core.List.{List}
use native.Mathlib.Omega.{arith}
use Rattle.record.specs.Packed.{unpacked_key}
use Rattle.pairs.specs.Pairs.{pair_bit}
use Rattle.page_place.specs.Find.{first_one}
use Rattle.insert_cut.specs.Halves.{HalfMet, Halved}
use Rattle.std.specs.Prelude.{None}

module _ (ws : List ℕ) (bias : ℕ) (page : List ℕ) (n key i pair start : ℕ)
    (es : start ≡ first_one ws bias pair page n 0) where
  abbrev there : Bool
  there = pair_bit ws (unpacked_key key) pair

  -- what room the half of a bit has
  abbrev Room : Bool → Type 0
  Room β = cond β (n - first_one ws bias pair page n 0) (first_one ws bias pair page n 0) < n

  -- ---- the key's bit is 1

  module _ (one : there ≡ true) where
    pub damaged-high : i < start → Halved ws bias page n key i pair None
    damaged-high l low high room = let h = high one in omega arith

    pub damaged-none : start ≡ 0 → Halved ws bias page n key i pair None
    damaged-none z low high room = let h = subst Room one room in omega arith

    pub own-high : start ≤ i → (start ≡ 0 → ⊥) → 1 ≤ n
        → HalfMet ws bias page n key i pair (record { start = start; bit = true; place = i - start })
    own-high l z some =
        record {
          cut_at = es;
          bit-there = sym one;
          low = λ e. absurd (true≢false e);
          high = λ e. (l, refl);
          room = omega arith;
        }

  -- ---- it is 0

  module _ (none : there ≡ false) where
    pub damaged-low : start < i → Halved ws bias page n key i pair None
    damaged-low l low high room = let h = low none in omega arith

    pub damaged-all : start ≡ n → Halved ws bias page n key i pair None
    damaged-all e low high room = let h = subst Room none room in omega arith

    pub own-low : i ≤ start → start < n
        → HalfMet ws bias page n key i pair (record { start = start; bit = false; place = i })
    own-low l h =
        record {
          cut_at = es;
          bit-there = sym none;
          low = λ e. (l, refl);
          high = λ e. absurd (false≢true e);
          room = h;
        }
