-- `query_rows::multiplier_of` meets its contract: neither shift passes 64 bits. Assumes nothing.
use Prim.Native.Nat.{◌*◌, ◌%◌, ◌^◌}
use mathlib.Core.Path.{◌≡◌}
use native.Mathlib.Omega.{arith}
use lib.Pow.{shl_exact}
use Rattle.lists.proofs.Shifts.{one_shifted}
use Rattle.query_rows.proofs.LaneLaws.{multiplier_lt}
use borrow.Author.Rules.{rules}
use Rattle.query_rows.proofs.multiplier_of.Statement.{statement}
use Rattle.query_rows.proofs.multiplier_of.Tie as tie

shl-result : tie.Need-overflow_shl-result
shl-result c = search rules

shl-result-2 : tie.Need-overflow_shl-result-2
shl-result-2 c = search rules

-- the two terms
terms : (c : tie.Start) → ((65536 * 2 ^ c.args.s) % 2 ^ 64 ≡ 2 ^ 16 * 2 ^ c.args.s)
    × ((1 * 2 ^ c.args.r) % 2 ^ 64 ≡ 2 ^ c.args.r)
terms c = (
  shl_exact {a = 65536} 17 c.args.s 64 (omega arith) (omega (arith, c.requires.0)),
  one_shifted c.args.r (omega (arith, c.requires.1)),
)

add-result : tie.Need-overflow_add-result
add-result c =
    record { fits = omega (arith, terms c, multiplier_lt c.args.s c.args.r c.requires.0 c.requires.1) }

returns : tie.Need-returns
returns c = omega (arith, terms c)

pub multiplier_of_spec : {M : Type 1} → statement M
multiplier_of_spec = tie.close (tie.spec shl-result shl-result-2 add-result returns)
