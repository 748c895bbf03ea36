-- `key_order::bit_of_first` meets its contract: three choices, from the last attribute on. Assumes nothing.
use native.Mathlib.Omega.{arith}
use Rattle.shape.specs.Shape.{width_list}
use Rattle.key_order.proofs.ChoiceLaws.{bit_of_first-chosen}
use borrow.Author.Rules.{rules}
use Rattle.key_order.proofs.bit_of_first.Statement.{statement}
use Rattle.key_order.proofs.bit_of_first.Tie as tie

top-bits-requires : tie.Need-top_bits-a3-requires
top-bits-requires c κs = (c.requires 3, omega arith)

top-bits-requires-2 : tie.Need-top_bits-requires
top-bits-requires-2 c κs = (c.requires 2, omega arith)

choose-requires : tie.Need-choose-b2-requires
choose-requires c κs = search rules

top-bits-requires-3 : tie.Need-top_bits-requires-2
top-bits-requires-3 c κs = (c.requires 1, omega arith)

choose-requires-2 : tie.Need-choose-b1-requires
choose-requires-2 c κs = search rules

top-bits-requires-4 : tie.Need-top_bits-requires-3
top-bits-requires-4 c κs = (c.requires 0, omega arith)

choose-requires-3 : tie.Need-choose-requires
choose-requires-3 c κs = search rules

returns : tie.Need-returns
returns c =
    let a = c.args in
    bit_of_first-chosen (width_list a.widths) a.key a.bit a.d0 a.d1 a.d2 _ _ _ _ _ _ _
    c.top_bits-3.ensures c.top_bits-2.ensures c.top_bits.ensures
    c.top_bits-a3.ensures c.choose-b2.ensures c.choose-b1.ensures c.choose.ensures

pub bit_of_first_spec : {M : Type 1} → statement M
bit_of_first_spec =
    tie.close
    (tie.spec
    top-bits-requires
    top-bits-requires-2
    choose-requires
    top-bits-requires-3
    choose-requires-2
    top-bits-requires-4
    choose-requires-3
    returns)
