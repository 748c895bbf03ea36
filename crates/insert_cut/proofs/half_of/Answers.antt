-- Each way that it ends is a law of the cut.
use Rattle.std.proofs.Common.{sym, ◌∙◌, arith}
use Rattle.shape.specs.Shape.{width_list}
use Rattle.key_order.proofs.PairLaws.{pair_bit-unpacked_key}
use Rattle.page_place.proofs.OneLaws.{first_one-le}
use Rattle.insert_cut.proofs.HalvedLaws.{damaged-high, damaged-none, own-high}
use Rattle.insert_cut.proofs.HalvedLaws.{damaged-low, damaged-all, own-low}
use Rattle.insert_cut.proofs.half_of.Goals as goal

-- ---- the key's bit is 1

pub returns-then-i-start : goal.returns-then-i-start
returns-then-i-start c =
    let a = c.args in
    let ws = width_list a.widths in
    damaged-high ws a.bias a.page.now a.n a.key a.i a.pair _ c.first_one-start.ensures
    (pair_bit-unpacked_key ws a.key a.pair ∙ sym c.pair_bit.ensures ∙ c.if-pair_bit.true) c.if-i-start.true

pub returns-then-start-eq0 : goal.returns-then-start-eq0
returns-then-start-eq0 c =
    let a = c.args in
    let ws = width_list a.widths in
    damaged-none ws a.bias a.page.now a.n a.key a.i a.pair _ c.first_one-start.ensures
    (pair_bit-unpacked_key ws a.key a.pair ∙ sym c.pair_bit.ensures ∙ c.if-pair_bit.true) c.if-start-eq0.true

pub returns-then-pair_bit : goal.returns-then-pair_bit
returns-then-pair_bit c =
    let a = c.args in
    let ws = width_list a.widths in
    own-high ws a.bias a.page.now a.n a.key a.i a.pair _ c.first_one-start.ensures
    (pair_bit-unpacked_key ws a.key a.pair ∙ sym c.pair_bit.ensures ∙ c.if-pair_bit.true)
    (omega (arith, c.if-i-start.false)) c.if-start-eq0.false c.requires.le_n.0

-- ---- it is 0

pub returns-then-start-i : goal.returns-then-start-i
returns-then-start-i c =
    let a = c.args in
    let ws = width_list a.widths in
    damaged-low ws a.bias a.page.now a.n a.key a.i a.pair _ c.first_one-start.ensures
    (pair_bit-unpacked_key ws a.key a.pair ∙ sym c.pair_bit.ensures ∙ c.if-pair_bit.false) c.if-start-i.true

pub returns-then-start-n : goal.returns-then-start-n
returns-then-start-n c =
    let a = c.args in
    let ws = width_list a.widths in
    damaged-all ws a.bias a.page.now a.n a.key a.i a.pair _ c.first_one-start.ensures
    (pair_bit-unpacked_key ws a.key a.pair ∙ sym c.pair_bit.ensures ∙ c.if-pair_bit.false) c.if-start-n.true

pub returns : goal.returns
returns c =
    let a = c.args in
    let ws = width_list a.widths in
    own-low ws a.bias a.page.now a.n a.key a.i a.pair _ c.first_one-start.ensures
    (pair_bit-unpacked_key ws a.key a.pair ∙ sym c.pair_bit.ensures ∙ c.if-pair_bit.false)
    (omega (arith, c.if-start-i.false))
    (omega (arith, c.if-start-n.false, c.first_one-start.ensures, first_one-le ws a.bias a.pair a.page.now a.n 0))
