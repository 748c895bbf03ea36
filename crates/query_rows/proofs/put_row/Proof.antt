-- `query_rows::put_row` meets its contract: five stores in a row, and one in the next. Assumes nothing.
use native.Mathlib.Numerals.{add-one}
use borrow.Author.Rules.{rules}
use Rattle.query_rows.proofs.put_row.Statement.{statement}
use Rattle.query_rows.proofs.put_row.Tie as tie

add-fixed : tie.Need-overflow_add-fixed
add-fixed c = search rules

mul-fixed : tie.Need-offset_bounds-rows-at
mul-fixed c = search rules

element-copy-out-fixed : tie.Need-bounds-rows-at
element-copy-out-fixed c = search rules

add-fixed-2 : tie.Need-overflow_add-fixed-2
add-fixed-2 c = search rules

add-a1 : tie.Need-overflow_add-a1
add-a1 c = search rules

add-a2 : tie.Need-overflow_add-a2
add-a2 c = search rules

add-a3 : tie.Need-overflow_add-a3
add-a3 c = search rules

add-a4 : tie.Need-overflow_add-a4
add-a4 c = search rules

mul-rows : tie.Need-offset_bounds-rows-at-2
mul-rows c = search rules

element-write-rows : tie.Need-bounds-rows-at-2
element-write-rows c = search rules

mul-rows-2 : tie.Need-offset_bounds-rows-a1
mul-rows-2 c = search rules

element-write-rows-2 : tie.Need-bounds-rows-a1
element-write-rows-2 c = search rules

mul-rows-3 : tie.Need-offset_bounds-rows-a2
mul-rows-3 c = search rules

element-write-rows-3 : tie.Need-bounds-rows-a2
element-write-rows-3 c = search rules

mul-rows-4 : tie.Need-offset_bounds-rows-a3
mul-rows-4 c = search rules

element-write-rows-4 : tie.Need-bounds-rows-a3
element-write-rows-4 c = search rules

mul-rows-5 : tie.Need-offset_bounds-rows-a4
mul-rows-5 c = search rules

element-write-rows-5 : tie.Need-bounds-rows-a4
element-write-rows-5 c = search rules

add-rows : tie.Need-overflow_add-rows
add-rows c = search rules

mul-rows-6 : tie.Need-offset_bounds-rows-at-3
mul-rows-6 c = search rules

element-write-rows-6 : tie.Need-bounds-rows-at-3
element-write-rows-6 c = search rules

returns : tie.Need-returns
returns c = simp add-one

pub put_row_spec : {M : Type 1} → statement M
put_row_spec =
    tie.close
    (tie.spec
    add-fixed
    mul-fixed
    element-copy-out-fixed
    add-fixed-2
    add-a1
    add-a2
    add-a3
    add-a4
    mul-rows
    element-write-rows
    mul-rows-2
    element-write-rows-2
    mul-rows-3
    element-write-rows-3
    mul-rows-4
    element-write-rows-4
    mul-rows-5
    element-write-rows-5
    add-rows
    mul-rows-6
    element-write-rows-6
    returns)
