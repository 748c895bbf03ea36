-- Four bits reversed, and the first h of them kept.
use Rattle.directory_cell.proofs.KeyLaws.{sum_bits-few}
use Rattle.directory_cell.proofs.ReverseLaws.{four-lt}
use Rattle.directory_cell.proofs.index_of_few.Goals as goal

pub reversed-four-requires : goal.reversed-four-requires
reversed-four-requires c = four-lt _

pub returns : goal.returns
returns c = sum_bits-few c.args.w c.args.encoding c.args.h c.requires.0 c.requires.2 _ c.reversed-four.ensures.0
