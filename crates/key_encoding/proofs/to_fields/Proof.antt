-- `key_encoding::to_fields` meets its contract: a bias of 0 changes nothing. Assumes nothing.
use Rattle.key_encoding.proofs.CodeLaws.{lane_difference-zero}
use Rattle.std.proofs.Common.{rules}
use Rattle.key_encoding.proofs.to_fields.Statement.{statement}
use Rattle.key_encoding.proofs.to_fields.Tie as tie

returns : tie.Need-returns-then-bias-eq0
returns c =
    lane_difference-zero c.args.key c.args.bias c.ranges.key.fits c.if-bias-eq0.true

lane-sub-requires : tie.Need-lane_sub-requires
lane-sub-requires c κs = search rules

returns-2 : tie.Need-returns
returns-2 c = search rules

pub to_fields_spec : {M : Type 1} → statement M
to_fields_spec = tie.close (tie.spec returns lane-sub-requires returns-2)
