-- `check_page::codes::first_bits`: the bits before place g are taken; the pairs left fall. Assumes nothing.
use Rattle.std.proofs.Common.{◌-◌}
use Rattle.shape.specs.Shape.{width_list}
use Rattle.record.specs.Packed.{unpacked_key}
use Rattle.check_page.proofs.CodeLaws.{Coded}
use Rattle.check_page.proofs.codes.first_bits.Given as goal

abbrev pub invariant-loop-n : goal.invariant-loop-n
invariant-loop-n l = Coded (width_list l.widths) (unpacked_key l.key) l.x l.code l.n l.g

abbrev pub decreases-loop-n : goal.decreases-loop-n
decreases-loop-n l = 64 - l.g
