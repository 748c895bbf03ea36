-- A directory of less depth fits too. Assumes nothing.
use Rattle.std.proofs.Common.{arith}
use lib.Pow.{pow_mono}
use Rattle.directory_divide.proofs.deepen.Goals as goal

pub double-requires : goal.double-requires
double-requires c =
    let f = c.requires.0 in
    record { fit = f.fit; deep = omega arith; short = omega arith; room = grind (arith, pow_mono) }
