-- The least place of four.
use Rattle.std.proofs.Common.{min, ap, ◌∙◌, arith}
use Rattle.key_order.proofs.PairLaws.{first_pair-of}
use Rattle.key_order.proofs.first_pair.Goals as goal

pub first_bit-p0-requires : goal.first_bit-p0-requires
first_bit-p0-requires c = (c.requires 0, omega arith)

pub first_bit-p1-requires : goal.first_bit-p1-requires
first_bit-p1-requires c = (c.requires 1, omega arith)

pub first_bit-p2-requires : goal.first_bit-p2-requires
first_bit-p2-requires c = (c.requires 2, omega arith)

pub first_bit-p3-requires : goal.first_bit-p3-requires
first_bit-p3-requires c = (c.requires 3, omega arith)

pub returns : goal.returns
returns c =
    let w = c.args.widths in
    let low = c.min.ensures in
    let high = c.min-2.ensures in
    let least = c.min-4.ensures ∙ ap (λ a. min a 64) (c.min-3.ensures ∙ (λ i. min (low i) (high i))) in
    first_pair-of w.w0 w.w1 w.w2 w.w3 c.args.x c.args.y _ _ _ _ _ c.first_bit-p0.ensures c.first_bit-p1.ensures
    c.first_bit-p2.ensures c.first_bit-p3.ensures least
