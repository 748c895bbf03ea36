-- `probe::matching::probe_pattern_of` meets its contract: the pattern of the query that the numbers say. Assumes
-- nothing.
use mathlib.Core.Path.{ap, ◌∙◌}
use Rattle.page_matches.specs.Pattern.{pattern_of}
use borrow.Author.Rules.{rules}
use Rattle.probe.proofs.matching.probe_pattern_of.Statement.{statement}
use Rattle.probe.proofs.matching.probe_pattern_of.Tie as tie

store-query-requires : tie.Need-store_query-requires
store-query-requires c κs = search rules

pattern-of-requires : tie.Need-pattern_of-requires
pattern-of-requires c κs = search rules

returns : tie.Need-returns
returns c = c.pattern_of.ensures ∙ ap pattern_of c.store_query.ensures

pub probe_pattern_of_spec : {M : Type 1} → statement M
probe_pattern_of_spec = tie.close (tie.spec store-query-requires pattern-of-requires returns)
