-- `record_copy::copy_eight` meets its contract: bytes read and written again. Assumes nothing.
use native.Mathlib.Omega.{arith}
use Rattle.record_copy.proofs.CopyLaws.{paste-number}
use borrow.Author.Rules.{rules}
use Rattle.record_copy.proofs.copy_eight.Statement.{statement}
use Rattle.record_copy.proofs.copy_eight.Tie as tie

read64-requires : tie.Need-read64-requires
read64-requires c κs = search rules

write64-requires : tie.Need-write64-requires
write64-requires c κs = search rules

same_length : tie.Need-shape_of-target
same_length c = search rules

returns : tie.Need-returns
returns c =
    let known = c.shared_slice_known-1.given in
    let a = c.args in
    paste-number a.source.now a.target.now a.from a.to _ (λ i. omega (arith, known i)) c.requires.0
    c.read64.ensures _ c.write64.ensures

pub copy_eight_spec : {M : Type 1} → statement M
copy_eight_spec = tie.close (tie.spec read64-requires write64-requires same_length returns)
