-- `numbers::one_of` meets its contract: below 2 it is 0 or 1, else 2 or 3. Assumes nothing.
use mathlib.Core.Path.{◌≡◌}
use native.Mathlib.Omega.{arith}
use borrow.Author.Rules.{rules}
use Rattle.numbers.proofs.one_of.Statement.{statement}
use Rattle.numbers.proofs.one_of.Tie as tie

returns : tie.Need-returns-then-j-eq0
returns c = search rules

returns-2 : tie.Need-returns-else-j-eq0
returns-2 c =
    let e : c.args.j ≡ 1 = omega (arith, c.if-j-lt2.true, c.if-j-eq0.false) in rw e

returns-3 : tie.Need-returns-then-j-eq2
returns-3 c = search rules

returns-4 : tie.Need-returns-else-j-eq2
returns-4 c =
    let e : c.args.j ≡ 3 =
    omega (arith, c.if-j-lt2.false, c.if-j-eq2.false, c.requires) in
    rw e

pub one_of_spec : {M : Type 1} → statement M
one_of_spec = tie.close (tie.spec returns returns-2 returns-3 returns-4)
