-- `query_rows::fill_limits` meets its contract: five stores in a row. Assumes nothing.
use Rattle.query_rows.specs.Rows.{limited}
use borrow.Author.Rules.{rules}
use Rattle.query_rows.proofs.fill_limits.Statement.{statement}
use Rattle.query_rows.proofs.fill_limits.Tie as tie

cast-rows : tie.Need-overflow_cast-rows
cast-rows c = search rules

element-write-rows : tie.Need-bounds-rows-78
element-write-rows c = search rules

cast-rows-2 : tie.Need-overflow_cast-rows-2
cast-rows-2 c = search rules

element-write-rows-2 : tie.Need-bounds-rows-79
element-write-rows-2 c = search rules

cast-rows-3 : tie.Need-overflow_cast-rows-3
cast-rows-3 c = search rules

element-write-rows-3 : tie.Need-bounds-rows-80
element-write-rows-3 c = search rules

tallied-depths-requires : tie.Need-tallied_depths-requires
tallied-depths-requires c κs = search rules

element-write-rows-4 : tie.Need-bounds-rows-81
element-write-rows-4 c = search rules

bias-key-requires : tie.Need-bias_key-requires
bias-key-requires c κs = search rules

element-write-rows-5 : tie.Need-bounds-rows-82
element-write-rows-5 c = search rules

returns : tie.Need-returns
unfolding limited
returns c = rw (c.tallied_depths.ensures, c.bias_key.ensures)

pub fill_limits_spec : {M : Type 1} → statement M
fill_limits_spec =
    tie.close
    (tie.spec
    cast-rows
    element-write-rows
    cast-rows-2
    element-write-rows-2
    cast-rows-3
    element-write-rows-3
    tallied-depths-requires
    element-write-rows-4
    bias-key-requires
    element-write-rows-5
    returns)
