-- `host_results::store_range` meets its contract: attribute by attribute. Assumes nothing.
use mathlib.Core.Path.{refl}
use Rattle.shape.specs.Range.{range_intervals, intervals_of}
use borrow.Author.Rules.{rules}
use Rattle.host_results.proofs.store_range.Statement.{statement}
use Rattle.host_results.proofs.store_range.Tie as tie

span-at-requires : tie.Need-span_at-a0-requires
span-at-requires c κs = search rules

span-at-requires-2 : tie.Need-span_at-a1-requires
span-at-requires-2 c κs = search rules

span-at-requires-3 : tie.Need-span_at-a2-requires
span-at-requires-3 c κs = search rules

span-at-requires-4 : tie.Need-span_at-a3-requires
span-at-requires-4 c κs = search rules

returns : tie.Need-returns
unfolding range_intervals intervals_of
returns c =
    rw (
      c.span_at-a0.ensures,
      c.span_at-a1.ensures,
      c.span_at-a2.ensures,
      c.span_at-a3.ensures,
    ) refl

pub store_range_spec : {M : Type 1} → statement M
store_range_spec =
    tie.close
    (tie.spec span-at-requires span-at-requires-2 span-at-requires-3 span-at-requires-4 returns)
