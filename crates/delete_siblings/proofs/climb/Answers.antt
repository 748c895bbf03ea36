-- One sibling more. Assumes nothing.
use Rattle.std.proofs.Common.{◌∙◌, arith}
use Rattle.delete_siblings.proofs.ClimbLaws.{rising-next}
use Rattle.delete_siblings.proofs.climb.Goals as goal

pub loop-z-preserved : goal.loop-z-preserved
loop-z-preserved c =
    rising-next c.args.state _ _ _ _ _ _ c.loop-z.invariant (omega arith) c.word_beside-word.ensures
    (c.if-word-pack_empty.false ∙ c.pack_empty.ensures)
