-- `file_scan::scan` meets its contract: by the laws of its turns. Assumes nothing.
use Rattle.std.proofs.Common.{ap, ◌∙◌, arith}
use Rattle.file.specs.File.{encodings_at}
use Rattle.file_scan.proofs.TurnLaws.{scanned-start, scanned-end, scanned-deep, more-le, scanned-wide, scanned-next}
use Rattle.file_scan.proofs.scan.Goals as goal

pub loop-i-init : goal.loop-i-init
loop-i-init c = scanned-start _ _ _ _ _ _ _ 0 c.requires.1

pub returns-then-deepest-next : goal.returns-then-deepest-next
returns-then-deepest-next c =
    let back = c.encodings_at-back.ensures ∙ ap (encodings_at c.args.bias c.args.file.now) c.saturating_sub.ensures in
    scanned-deep _ _ _ _ _ _ _ _ _ _ _ c.loop-i.invariant c.loop-i-test.true _ _ _ c.encodings_at-key.ensures
    back c.depth_at-next.ensures c.if-deepest-next.true

pub overflow_add-leaves : goal.overflow_add-leaves
overflow_add-leaves c =
    let loop = c.loop-i in
    let back = c.encodings_at-back.ensures ∙ ap (encodings_at c.args.bias c.args.file.now) c.saturating_sub.ensures in
    let few =
    more-le _ _ _ _ _ _ _ _ _ _ _ loop.invariant c.loop-i-test.true _ _ _ c.encodings_at-key.ensures
    back c.depth_at-next.ensures _ c.new_leaves-leaves.ensures in
    omega (arith, few, loop.invariant.few, c.loop-i-test.true, c.ranges.n.fits)

pub returns-then-pages-leaves : goal.returns-then-pages-leaves
returns-then-pages-leaves c =
    let loop = c.loop-i in
    let back = c.encodings_at-back.ensures ∙ ap (encodings_at c.args.bias c.args.file.now) c.saturating_sub.ensures in
    scanned-wide _ _ _ _ _ _ _ _ _ _ _ loop.invariant c.loop-i-test.true _ _ _ c.encodings_at-key.ensures
    back c.depth_at-next.ensures _ c.new_leaves-leaves.ensures c.if-deepest-next.false c.if-pages-leaves.true

pub loop-i-preserved : goal.loop-i-preserved
loop-i-preserved c =
    let loop = c.loop-i in
    let back = c.encodings_at-back.ensures ∙ ap (encodings_at c.args.bias c.args.file.now) c.saturating_sub.ensures in
    scanned-next _ _ _ _ _ _ _ _ _ _ _ loop.invariant c.loop-i-test.true _ _ _ c.encodings_at-key.ensures
    back c.depth_at-next.ensures _ c.new_leaves-leaves.ensures c.if-deepest-next.false c.if-pages-leaves.false

pub returns : goal.returns
returns c = scanned-end _ _ _ _ _ _ _ _ _ _ _ c.loop-i.invariant c.loop-i-test.false
