-- `page_ends::ends_agree` meets its contract: the two keys as they are read. Assumes nothing.
use mathlib.Core.Path.{refl}
use Rattle.page_ends.specs.Ends.{ends_agree}
use borrow.Author.Rules.{rules}
use Rattle.page_ends.proofs.ends_agree.Statement.{statement}
use Rattle.page_ends.proofs.ends_agree.Tie as tie

code-at-requires : tie.Need-code_at-requires
code-at-requires c κs = search rules

sub-code-at : tie.Need-overflow_sub-n
sub-code-at c = search rules

code-at-requires-2 : tie.Need-code_at-requires-2
code-at-requires-2 c κs = search rules

returns : tie.Need-returns
unfolding ends_agree
returns c = rw (c.code_at.ensures, c.code_at-2.ensures) refl

pub ends_agree_spec : {M : Type 1} → statement M
ends_agree_spec = tie.close (tie.spec code-at-requires sub-code-at code-at-requires-2 returns)
