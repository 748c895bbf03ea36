-- `stock_input::run` meets its contract: by the law of one more byte. Assumes nothing.
use Rattle.stock_input.proofs.InputLaws.{running-step}
use Rattle.stock_input.proofs.run.Goals as goal

pub loop-next-preserved : goal.loop-next-preserved
loop-next-preserved c =
    let a = c.args in
    let loop = c.loop-next in
    let call = c.step-here in
    running-step a.piece.now a.from a.progress _ a.text.now loop.next loop.here _ loop.text loop.invariant _ _ _
    c.loop-next-test.true call.ensures.stepped call.ensures.standable call.auto.text
