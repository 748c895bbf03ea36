-- `fresh::marks_below` meets its contract: 2^d fits 32 bits. Assumes nothing.
use Prim.Native.Nat.{ℕ, ◌*◌, ◌%◌, ◌^◌, ◌≤◌}
use mathlib.Core.Path.{◌≡◌, ap}
use native.Mathlib.Omega.{arith}
use lib.Pow.{pow_mono, pow_pos}
use borrow.Author.Rules.{rules}
use Rattle.fresh.proofs.marks_below.Statement.{statement}
use Rattle.fresh.proofs.marks_below.Tie as tie

power : (d : ℕ) → d ≤ 4 → (1 * 2 ^ d) % 4294967296 ≡ 2 ^ d
power d few =
    let most : 2 ^ d ≤ 2 ^ 4 = pow_mono {j = 4} few in
    omega (arith, most)

shl-result : tie.Need-overflow_shl-result
shl-result c = search rules

rem-result : tie.Need-nonzero_rem-result
rem-result c = omega (arith, power c.args.d c.requires, pow_pos c.args.d)

returns : tie.Need-returns
returns c = ap (λ n. c.args.signs % n) (power c.args.d c.requires)

pub marks_below_spec : {M : Type 1} → statement M
marks_below_spec = tie.close (tie.spec shl-result rem-result returns)
