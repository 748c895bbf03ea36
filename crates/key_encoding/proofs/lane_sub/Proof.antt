-- `key_encoding::lane_sub` meets its contract: a set top bit lends to its lane. Assumes nothing.
use Rattle.record.proofs.LaneWordLaws.{word_difference-lanes}
use Rattle.key_encoding.proofs.CodeLaws.{lower-le-tops}
use Rattle.key_encoding.proofs.lane_sub.Statement.{statement}
use Rattle.key_encoding.proofs.lane_sub.Tie as tie

sub-result : tie.Need-overflow_sub-result
sub-result c = lower-le-tops c.args.x c.args.y

returns : tie.Need-returns
returns c = word_difference-lanes c.args.x c.args.y c.ranges.x.fits c.ranges.y.fits

pub lane_sub_spec : {M : Type 1} → statement M
lane_sub_spec = tie.close (tie.spec sub-result returns)
