-- `directory_word::field_of` meets its contract: a mask of 16 ones is `% 2 ^ 16`. Assumes nothing.
use Prim.Native.Nat.{◌%◌, ◌^◌, ◌<◌}
use mathlib.Core.Path.{sym, subst}
use native.Mathlib.Omega.{arith}
use lib.Bits.{and_mask}
use Rattle.directory_word.proofs.field_of.Statement.{statement}
use Rattle.directory_word.proofs.field_of.Tie as tie

returns : tie.Need-returns
returns c =
    let word = c.args.word in
    let below : word % 2 ^ 16 < 65536 = omega arith in
    (and_mask word 16, subst (λ r. r < 65536) (sym (and_mask word 16)) below)

pub field_of_spec : {M : Type 1} → statement M
field_of_spec = tie.close (tie.spec returns)
