-- `file_rising::may_follow` meets its contract: the first record follows none, and one comparison tells of any other.
-- Assumes nothing.
use Rattle.shape.specs.Shape.{width_list}
use Rattle.record.specs.Packed.{unpacked_key}
use Rattle.file_rising.proofs.RisingLaws.{may_follow-compared}
use Rattle.file_rising.proofs.may_follow.Goals as goal

pub returns-else-i-eq0 : goal.returns-else-i-eq0
returns-else-i-eq0 c =
    let a = c.args in
    let told = may_follow-compared (width_list a.widths) (unpacked_key a.last) (unpacked_key a.key) a.i c.if-i-eq0.false in
    cc
