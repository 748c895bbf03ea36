-- `key_encoding::lane_add` meets its contract: no lane's sum without top bits reaches the next lane. Assumes nothing.
use Rattle.record.proofs.LaneWordLaws.{word_sum-lanes}
use Rattle.key_encoding.proofs.CodeLaws.{lower-sum-lt}
use Rattle.key_encoding.proofs.lane_add.Statement.{statement}
use Rattle.key_encoding.proofs.lane_add.Tie as tie

add-result : tie.Need-overflow_add-result
add-result c = record { fits = lower-sum-lt c.args.x c.args.y }

returns : tie.Need-returns
returns c = word_sum-lanes c.args.x c.args.y c.ranges.x.fits c.ranges.y.fits

pub lane_add_spec : {M : Type 1} → statement M
lane_add_spec = tie.close (tie.spec add-result returns)
