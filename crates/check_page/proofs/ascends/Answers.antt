-- `check_page::ascends` meets its contract: record k stands behind the one before it, or the test ends. Assumes nothing.
use Rattle.check_page.proofs.AscendLaws.{risen-first, risen-next, risen-stop}
use Rattle.check_page.proofs.ascends.Goals as goal

pub loop-k-init : goal.loop-k-init
loop-k-init g c page bias reads =
    let some = c.requires.bounds.0 in
    risen-first _ _ _ _ some _ (reads 0 _ some c.read-last.ensures)

pub returns-then-not-stands_before : goal.returns-then-not-stands_before
returns-then-not-stands_before g c page bias reads =
    let w = c.args.widths in
    let left = c.loop-k-test.true in
    risen-stop w.w0 w.w1 w.w2 w.w3 _ _ _ _ _ _ (c.loop-k.invariant page bias reads) left _
    (reads _ _ left c.read-key.ensures) c.if-not-stands_before.ensures

pub loop-k-preserved : goal.loop-k-preserved
loop-k-preserved g c page bias reads =
    let w = c.args.widths in
    let left = c.loop-k-test.true in
    risen-next w.w0 w.w1 w.w2 w.w3 _ _ _ _ _ _ (c.loop-k.invariant page bias reads) left _
    (reads _ _ left c.read-key.ensures) c.if-not-stands_before.ensures
