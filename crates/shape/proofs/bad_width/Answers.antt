-- The lowest bad width, or none.
use Rattle.std.proofs.Common.{sym, ◌∙◌, arith}
use Rattle.shape.proofs.AmissLaws.{lowest_bad-found, lowest_bad-four}
use Rattle.shape.proofs.bad_width.Goals as goal

pub returns-then-is_bad : goal.returns-then-is_bad
returns-then-is_bad c =
    sym (lowest_bad-found c.args.shape c.loop-j.j (omega arith) (sym c.is_bad.ensures ∙ c.if-is_bad.true)
    c.loop-j.invariant)

pub returns : goal.returns
returns c = sym (lowest_bad-four c.args.shape (λ i l. c.loop-j.invariant i (omega arith)))
