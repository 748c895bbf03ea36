-- `key_encoding::to_encodings` meets its contract: a bias of 0 changes nothing. Assumes nothing.
use Rattle.key_encoding.proofs.CodeLaws.{lane_sum-zero}
use Rattle.std.proofs.Common.{rules}
use Rattle.key_encoding.proofs.to_encodings.Statement.{statement}
use Rattle.key_encoding.proofs.to_encodings.Tie as tie

returns : tie.Need-returns-then-bias-eq0
returns c =
    lane_sum-zero c.args.fields c.args.bias c.ranges.fields.fits c.if-bias-eq0.true

lane-add-requires : tie.Need-lane_add-requires
lane-add-requires c κs = search rules

returns-2 : tie.Need-returns
returns-2 c = search rules

pub to_encodings_spec : {M : Type 1} → statement M
to_encodings_spec = tie.close (tie.spec returns lane-add-requires returns-2)
