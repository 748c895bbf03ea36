-- Four blocks, which end where the last one does.
use Rattle.std.proofs.Common.{◌≡◌, ◌+◌, ◌-◌, ◌*◌, drop, ap, ◌∙◌, arith}
use Rattle.std.proofs.Math.Seq.{paste}
use Rattle.record.specs.Bytes.{record_size}
use Rattle.record_copy.proofs.CopyLaws.{paste-four}
use Rattle.record_copy.proofs.copy_page.Goals as goal

pub returns : goal.returns
returns c =
    let a = c.args in
    let last = record_size * a.n - 48 in
    let whole : last + 48 ≡ record_size * a.n = omega arith in
    paste-four a.source.now a.target.now a.from a.to last (omega arith) (omega arith) (omega arith) _ _
    c.min-second.ensures c.min-third.ensures _ _ _ _ c.copy_block.ensures c.copy_block-2.ensures
    c.copy_block-3.ensures c.copy_block-4.ensures
    ∙ ap (paste a.target.now a.to (drop a.from a.source.now)) whole
