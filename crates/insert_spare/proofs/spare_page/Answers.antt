use Rattle.std.proofs.Common.{arith}
use Rattle.shape.proofs.ShapeLaws.{capacity-bounds}
use Rattle.pages.proofs.FreeLaws.{free_page-le}
use Rattle.insert_spare.proofs.spare_page.Goals as goal

pub free_page-requires : goal.free_page-requires
free_page-requires c = ((capacity-bounds c.args.state.shape c.requires.shape).1, c.requires.few, c.requires.lent)

-- a page's number is at most P, which is small
pub overflow_cast-result : goal.overflow_cast-result
overflow_cast-result c =
    let s = c.args.state in
    omega (arith, free_page-le s.shape.capacity c.args.pages.now s.limits.pages c.saturating_sub-start.result)
