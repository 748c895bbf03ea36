-- The smaller of the whole pages and 4,096.
use Rattle.std.proofs.Common.{rules}
use Rattle.model.specs.Limits.{page_limit_of}
use Rattle.fresh.proofs.page_limit.Goals as goal

pub returns : goal.returns
unfolding page_limit_of
returns c = search rules
