-- `page_ends::fixed_bits_before` meets its contract: the depths at a place, value by value. Assumes nothing.
use native.Mathlib.Omega.{arith}
use Rattle.page_ends.proofs.FixedLaws.{fixed_bits-values}
use borrow.Author.Rules.{rules}
use Rattle.page_ends.proofs.fixed_bits_before.Statement.{statement}
use Rattle.page_ends.proofs.fixed_bits_before.Tie as tie

fixed-before-requires : tie.Need-fixed_before-m0-requires
fixed-before-requires c κs = (c.requires.0 0, c.requires.1, omega arith)

fixed-before-requires-2 : tie.Need-fixed_before-m1-requires
fixed-before-requires-2 c κs = (c.requires.0 1, c.requires.1, omega arith)

fixed-before-requires-3 : tie.Need-fixed_before-m2-requires
fixed-before-requires-3 c κs = (c.requires.0 2, c.requires.1, omega arith)

fixed-before-requires-4 : tie.Need-fixed_before-m3-requires
fixed-before-requires-4 c κs = (c.requires.0 3, c.requires.1, omega arith)

add-result : tie.Need-overflow_add-result
add-result c = search rules

add-result-2 : tie.Need-overflow_add-result-2
add-result-2 c = search rules

add-result-3 : tie.Need-overflow_add-result-3
add-result-3 c = search rules

returns : tie.Need-returns
returns c =
    let w = c.args.widths in
    fixed_bits-values w.w0 w.w1 w.w2 w.w3 c.args.g _ _ _ _ c.requires.1
    c.fixed_before-m0.ensures c.fixed_before-m1.ensures c.fixed_before-m2.ensures c.fixed_before-m3.ensures

pub fixed_bits_before_spec : {M : Type 1} → statement M
fixed_bits_before_spec =
    tie.close
    (tie.spec
    fixed-before-requires
    fixed-before-requires-2
    fixed-before-requires-3
    fixed-before-requires-4
    add-result
    add-result-2
    add-result-3
    returns)
