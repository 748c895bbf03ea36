-- `check_page::stands_before` meets its contract: split order is the order of codes. Assumes nothing.
use Rattle.std.proofs.Common.{ap, ◌∙◌}
use Rattle.std.specs.Ordering.{is_lt}
use Rattle.check_page.proofs.CodeLaws.{is_lt-compared}
use Rattle.check_page.proofs.stands_before.Goals as goal

pub returns : goal.returns
returns c = c.is_lt.ensures ∙ ap is_lt c.compare.ensures ∙ is_lt-compared _ _ _
