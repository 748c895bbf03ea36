-- `file_rising::is_set` meets its contract: record i may follow those before it, or the test ends. Assumes nothing.
use Rattle.std.proofs.Common.{ap, ◌∙◌, arith}
use Rattle.shape.specs.Shape.{widths_of, index_fits}
use Rattle.shape.proofs.ShapeLaws.{widths-fit}
use Rattle.record.proofs.ByteLaws.{AreBytes}
use Rattle.file_rising.proofs.RisingLaws.{unpacked_key-read, risen-none, risen-next, risen-stop, risen-end}
use Rattle.file_rising.proofs.is_set.Goals as goal

pub loop-i-init : goal.loop-i-init
loop-i-init c = risen-none c.args.shape c.args.file.now

pub may_follow-requires : goal.may_follow-requires
may_follow-requires c = widths-fit c.args.shape _ c.requires.0 c.widths_of-widths.ensures

pub returns-then-not-may_follow : goal.returns-then-not-may_follow
returns-then-not-may_follow c =
    let bytes : AreBytes c.args.file.now = λ k. omega (arith, c.type_inv.file k) in
    risen-stop c.args.shape c.args.file.now _ _ _ c.loop-i.invariant _
    (unpacked_key-read c.args.shape c.args.file.now c.requires.0 bytes _ _ _ c.encodings_at-key.ensures
    c.bias_key-bias.ensures) _ c.widths_of-widths.ensures c.args.n c.loop-i-test.true c.if-not-may_follow.ensures

pub loop-i-preserved : goal.loop-i-preserved
loop-i-preserved c =
    let bytes : AreBytes c.args.file.now = λ k. omega (arith, c.type_inv.file k) in
    risen-next c.args.shape c.args.file.now _ _ _ c.loop-i.invariant _
    (unpacked_key-read c.args.shape c.args.file.now c.requires.0 bytes _ _ _ c.encodings_at-key.ensures
    c.bias_key-bias.ensures) _ c.widths_of-widths.ensures c.if-not-may_follow.ensures

pub returns : goal.returns
returns c =
    c.encodings_fit.ensures
    ∙ ap (index_fits (widths_of c.args.shape)) c.unpack_key.ensures
    ∙ risen-end c.args.shape c.args.file.now _ _ _ c.loop-i.invariant c.args.n c.loop-i.auto.i-end c.loop-i-test.false
