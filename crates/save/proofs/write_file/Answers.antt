-- A law for each way that the function ends: the file is too long for the output, or all of it fits.
use Rattle.std.proofs.Common.{arith}
use mathlib.Core.List.{flat_map}
use Rattle.query_records.specs.Records.{page_fields}
use Rattle.save.proofs.OutputLaws.{filed-short, filed-fits}
use Rattle.save.proofs.write_file.Goals as goal

pub returns-then-out-size : goal.returns-then-out-size
returns-then-out-size c =
    let a = c.args in
    filed-short a.shape (flat_map (page_fields a.shape.capacity a.pages.now) a.list.now) a.out.now _
    c.count_records-total.ensures.0 c.count_records-total.ensures.1 (omega (arith, c.if-out-size.true))

pub put_end-requires : goal.put_end-requires
put_end-requires c =
    (c.requires.0, c.count_records-total.ensures.1, omega (arith, c.if-out-size.false, c.put_whole.auto.out))

pub returns : goal.returns
returns c =
    let a = c.args in
    filed-fits a.shape (flat_map (page_fields a.shape.capacity a.pages.now) a.list.now) a.out.now _
    c.count_records-total.ensures.0 c.count_records-total.ensures.1 (omega (arith, c.if-out-size.false)) _
    c.put_whole.ensures.bytes _ c.put_end.ensures
