-- The siblings from depth m up to z are empty leaves. Assumes nothing.
use Rattle.record.specs.Packed.{unpacked_key}
use Rattle.delete_siblings.proofs.ClimbLaws.{Rising}
use Rattle.delete_siblings.proofs.climb.Given as goal

abbrev pub invariant-loop-z : goal.invariant-loop-z
invariant-loop-z l = Rising l.state l.dir (unpacked_key l.key) l.m l.z
