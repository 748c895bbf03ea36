-- `directory_tests::halving::pair_folds` meets its contract: by its two tests. Assumes nothing.
use mathlib.Core.Path.{sym}
use mathlib.Core.Bool.{false≢true}
use borrow.Author.Rules.{rules}
use borrow.Author.Tests.{eqb-true, eqb-false}
use Rattle.directory_tests.proofs.halving.pair_folds.Statement.{statement}
use Rattle.directory_tests.proofs.halving.pair_folds.Tie as tie

returns : tie.Need-returns-then-whole-own
returns c = record { yes = λ e n. absurd (n c.if-whole-own.true); no = λ e. absurd (false≢true (sym e)) }

mul-result : tie.Need-offset_bounds-dir-a
mul-result c = search rules

shared-slice-read-result : tie.Need-bounds-dir-a
shared-slice-read-result c = search rules

mul-result-2 : tie.Need-offset_bounds-dir-whole
mul-result-2 c = search rules

shared-slice-read-result-2 : tie.Need-bounds-dir-whole
shared-slice-read-result-2 c = search rules

returns-2 : tie.Need-returns
returns-2 c =
    record { yes = λ e n. eqb-true _ _ e; no = λ e. (c.if-whole-own.false, eqb-false _ _ e) }

pub pair_folds_spec : {M : Type 1} → statement M
pair_folds_spec =
    tie.close
    (tie.spec
    returns
    mul-result
    shared-slice-read-result
    mul-result-2
    shared-slice-read-result-2
    returns-2)
