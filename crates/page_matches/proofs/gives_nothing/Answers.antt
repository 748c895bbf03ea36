use Rattle.page_matches.proofs.PatternLaws.{gives_nothing-or}
use Rattle.page_matches.proofs.gives_nothing.Goals as goal

pub returns : goal.returns
returns c = gives_nothing-or c.args.pattern
