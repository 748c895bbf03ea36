-- The records of the file join one after the other as the scan says.
use Rattle.std.proofs.Common.{arith}
use Rattle.shape.proofs.ShapeLaws.{widths-fit, capacity-bounds}
use Rattle.file_scan.proofs.StepLaws.{joined-of-scanned}
use Rattle.file_scan.proofs.validate_room.Goals as goal

pub scan-requires : goal.scan-requires
scan-requires c = (
  widths-fit c.args.shape _ c.requires.shape c.widths_of.ensures,
  (capacity-bounds c.args.shape c.requires.shape).0,
  c.requires.lent,
)

pub returns : goal.returns
returns c =
    let a = c.args in
    joined-of-scanned a.shape a.limits a.n a.file.now c.requires (λ i. omega (arith, c.type_inv.file i)) _ _ _
    c.widths_of.ensures c.bias_key.ensures c.scan.ensures
