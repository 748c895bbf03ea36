-- `page_ends::free_before` meets its contract: what is free of each attribute. Assumes nothing.
use native.Mathlib.Omega.{arith}
use Rattle.page_ends.proofs.FixedLaws.{free_all, free-le}
use borrow.Author.Rules.{rules}
use Rattle.page_ends.proofs.free_before.Statement.{statement}
use Rattle.page_ends.proofs.free_before.Tie as tie

free-bits-requires : tie.Need-free_bits-f0-requires
free-bits-requires c κs = (c.requires.0 0, c.requires.1, omega arith)

free-bits-requires-2 : tie.Need-free_bits-f1-requires
free-bits-requires-2 c κs = (c.requires.0 1, c.requires.1, omega arith)

free-bits-requires-3 : tie.Need-free_bits-f2-requires
free-bits-requires-3 c κs = (c.requires.0 2, c.requires.1, omega arith)

free-bits-requires-4 : tie.Need-free_bits-f3-requires
free-bits-requires-4 c κs = (c.requires.0 3, c.requires.1, omega arith)

add-result : tie.Need-overflow_add-result
add-result c = search rules

add-result-2 : tie.Need-overflow_add-result-2
add-result-2 c = search rules

add-result-3 : tie.Need-overflow_add-result-3
add-result-3 c = search rules

returns : tie.Need-returns
returns c =
    let w = c.args.widths in (
      free_all w.w0 w.w1 w.w2 w.w3 c.args.g _ _ _ _ c.requires.1 c.free_bits-f0.ensures.0
          c.free_bits-f1.ensures.0 c.free_bits-f2.ensures.0 c.free_bits-f3.ensures.0,
      free-le _ _ _ _ c.free_bits-f0.ensures.1 c.free_bits-f1.ensures.1 c.free_bits-f2.ensures.1
          c.free_bits-f3.ensures.1,
    )

pub free_before_spec : {M : Type 1} → statement M
free_before_spec =
    tie.close
    (tie.spec
    free-bits-requires
    free-bits-requires-2
    free-bits-requires-3
    free-bits-requires-4
    add-result
    add-result-2
    add-result-3
    returns)
