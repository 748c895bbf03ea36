-- The half of the record's bit takes it. Assumes nothing.
use Rattle.std.proofs.Common.{arith}
use Rattle.std.proofs.lemmas.Grind.{common_steps}
use Rattle.insert_pages.specs.Inserted.{divided_pages}
use Rattle.insert_pages.proofs.divide_pages.Goals as goal

pub returns : goal.returns
unfolding divided_pages
returns c = grind (arith, common_steps)
