-- `record_copy::copy_sixteen` meets its contract: eight bytes twice, read and written again. Assumes nothing.
use Prim.Native.Nat.{◌+◌}
use native.Mathlib.Omega.{arith}
use Rattle.record.proofs.ByteLaws.{AreBytes}
use Rattle.record_copy.proofs.CopyLaws.{paste-number, paste-part}
use borrow.Author.Rules.{rules}
use Rattle.record_copy.proofs.copy_sixteen.Statement.{statement}
use Rattle.record_copy.proofs.copy_sixteen.Tie as tie

read64-requires : tie.Need-read64-low-requires
read64-requires c κs = search rules

add-read64 : tie.Need-overflow_add-from
add-read64 c = search rules

read64-requires-2 : tie.Need-read64-high-requires
read64-requires-2 c κs = search rules

write64-requires : tie.Need-write64-requires
write64-requires c κs = search rules

add-write64 : tie.Need-overflow_add-to
add-write64 c = search rules

write64-requires-2 : tie.Need-write64-requires-2
write64-requires-2 c κs = search rules

same_length : tie.Need-shape_of-target
same_length c = search rules

returns : tie.Need-returns
returns c =
    let a = c.args in
    let bytes = c.shared_slice_known-1.given in
    let are : AreBytes a.source.now = λ i. omega (arith, bytes i) in
    paste-part 8 a.source.now a.target.now a.from a.to 8 8 (omega arith) (omega arith)
    c.requires.0 c.requires.1 _ _
    (paste-number a.source.now a.target.now a.from a.to _ are (omega arith) c.read64-low.ensures _
    c.write64.ensures)
    (paste-number a.source.now _ (a.from + 8) (a.to + 8) _ are (omega arith) c.read64-high.ensures _
    c.write64-2.ensures)

pub copy_sixteen_spec : {M : Type 1} → statement M
copy_sixteen_spec =
    tie.close
    (tie.spec
    read64-requires
    add-read64
    read64-requires-2
    write64-requires
    add-write64
    write64-requires-2
    same_length
    returns)
