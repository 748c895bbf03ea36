-- `stock_input::step` meets its contract: at most seven fields are counted, and the text ends within what is lent.
-- Assumes nothing.
use Rattle.std.proofs.Common.{arith}
use Rattle.stock_input.proofs.InputLaws.{start-fields, fed-fields, Grown-within}
use Rattle.stock_input.proofs.step.Goals as goal

pub returns-then-byte-eq-NEWLINE-clause-standable : goal.returns-then-byte-eq-NEWLINE-clause-standable
returns-then-byte-eq-NEWLINE-clause-standable c =
    record {
      counted = rw c.begin.ensures start-fields;
      within = Grown-within _ _ _ _ _ (omega arith) c.reply-next.ensures.grown;
    }

pub returns-clause-standable : goal.returns-clause-standable
returns-clause-standable c =
    record {
      counted = rw c.feed.ensures (fed-fields _ _ c.requires.0);
      within = omega arith;
    }
