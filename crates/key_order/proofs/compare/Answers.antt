-- `key_order::compare` meets its contract: of two bits that differ x's tells the order. Assumes nothing.
use Rattle.std.proofs.Common.{sym, ap, ◌∙◌, cond, arith}
use borrow.Author.Tests.{eq-eqb, ne_eqb}
use Rattle.std.specs.declared.cmp.Ordering.TheVariants.{Less, Greater}
use Rattle.key_order.proofs.CompareLaws.{compared-zero, compared-bit}
use Rattle.key_order.proofs.compare.Goals as goal

pub top_bits-d0-requires : goal.top_bits-d0-requires
top_bits-d0-requires c = (c.requires 0, omega arith)

pub top_bits-d1-requires : goal.top_bits-d1-requires
top_bits-d1-requires c = (c.requires 1, omega arith)

pub top_bits-d2-requires : goal.top_bits-d2-requires
top_bits-d2-requires c = (c.requires 2, omega arith)

pub top_bits-d3-requires : goal.top_bits-d3-requires
top_bits-d3-requires c = (c.requires 3, omega arith)

pub returns-then-all-eq0 : goal.returns-then-all-eq0
returns-then-all-eq0 c =
    let a = c.args in
    let w = a.widths in
    sym
    (compared-zero w.w0 w.w1 w.w2 w.w3 c.requires a.x a.y _ _ _ _
    c.top_bits-d0.ensures c.top_bits-d1.ensures c.top_bits-d2.ensures
    c.top_bits-d3.ensures c.if-all-eq0.true)

pub returns-then-bit_of_first-eq0 : goal.returns-then-bit_of_first-eq0
returns-then-bit_of_first-eq0 c =
    let a = c.args in
    let w = a.widths in
    sym
    (compared-bit w.w0 w.w1 w.w2 w.w3 c.requires a.x a.y _ _ _ _
    c.top_bits-d0.ensures c.top_bits-d1.ensures c.top_bits-d2.ensures
    c.top_bits-d3.ensures _ _ c.leading_one.ensures c.bit_of_first.ensures
    ∙ ap (λ β. cond β Less Greater) (eq-eqb _ 0 c.if-bit_of_first-eq0.true))

pub returns : goal.returns
returns c =
    let a = c.args in
    let w = a.widths in
    sym
    (compared-bit w.w0 w.w1 w.w2 w.w3 c.requires a.x a.y _ _ _ _
    c.top_bits-d0.ensures c.top_bits-d1.ensures c.top_bits-d2.ensures
    c.top_bits-d3.ensures _ _ c.leading_one.ensures c.bit_of_first.ensures
    ∙ ap (λ β. cond β Less Greater) (ne_eqb _ 0 c.if-bit_of_first-eq0.false))
