-- The same key, as one number. Assumes nothing.
use Prim.Native.Nat.{ℕ, zero, suc, ◌<◌}
use mathlib.Core.Path.{◌≡◌, sym, ap, ◌∙◌}
use mathlib.Core.Bool.{true}
use mathlib.Core.List.{List}
use native.Mathlib.Omega.{arith}
use lib.Dec.{eqb}
use lib.ListN.{get_or}
use borrow.Author.Tests.{eqb-true, eq-eqb}
use Rattle.lists.proofs.Bools.{eq-of-iff}
use Rattle.shape.specs.Key.{per_attribute}
use Rattle.record.specs.Record.{Record, same_key}
use Rattle.record.specs.Packed.{packed_key, SixteenBits, unpacked_key}
use Rattle.record.proofs.KeyLaws.{same_key-of-numbers, numbers-of-same_key}
use Rattle.record.proofs.PackedLaws.{unpacked_key-packed_key}

module _ (key : List ℕ) (r : Record) (b : SixteenBits key) (d : SixteenBits r.key) where
  packed-of-same_key : same_key key r ≡ true → packed_key r.key ≡ packed_key key
  unfolding packed_key
  packed-of-same_key e =
      let same = numbers-of-same_key key r e in
      omega (arith, same 0 (omega arith), same 1 (omega arith), same 2 (omega arith), same 3 (omega arith))

  same_key-of-packed : packed_key r.key ≡ packed_key key → same_key key r ≡ true
  same_key-of-packed e =
      let same = sym (unpacked_key-packed_key key b) ∙ ap unpacked_key (sym e) ∙ unpacked_key-packed_key r.key d in
      same_key-of-numbers key r (by-attribute same)
    where
      by-attribute : per_attribute (λ j. get_or key j 0) ≡ per_attribute (λ j. get_or r.key j 0)
          → (j : ℕ) → j < 4 → get_or key j 0 ≡ get_or r.key j 0
      by-attribute e zero l = ap (λ l. get_or l 0 0) e
      by-attribute e (suc zero) l = ap (λ l. get_or l 1 0) e
      by-attribute e (suc (suc zero)) l = ap (λ l. get_or l 2 0) e
      by-attribute e (suc (suc (suc zero))) l = ap (λ l. get_or l 3 0) e
      by-attribute e (suc (suc (suc (suc j)))) l = absurd (omega arith)

  pub same_key-packed : same_key key r ≡ eqb (packed_key r.key) (packed_key key)
  same_key-packed =
      eq-of-iff _ _ (λ e. eq-eqb (packed_key r.key) (packed_key key) (packed-of-same_key e))
      (λ e. same_key-of-packed (eqb-true (packed_key r.key) (packed_key key) e))
