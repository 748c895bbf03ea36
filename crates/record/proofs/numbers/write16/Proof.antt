-- `record::numbers::write16` meets its contract: a mask of eight ones is `% 256`. Assumes nothing.
use Prim.Native.Nat.{◌/◌}
use native.Mathlib.Omega.{arith}
use lib.Bits.{and_mask, mask_lt}
use lib.ListN.{length-set}
use Rattle.record.proofs.NumberLaws.{paste-two}
use borrow.Author.Rules.{rules}
use Rattle.record.proofs.numbers.write16.Statement.{statement}
use Rattle.record.proofs.numbers.write16.Tie as tie

cast-bytes : tie.Need-overflow_cast-bytes
cast-bytes c = record { fits = mask_lt c.args.x 8 }

slice-write-bytes : tie.Need-bounds-bytes-at
slice-write-bytes c = search rules

cast-bytes-2 : tie.Need-overflow_cast-bytes-2
cast-bytes-2 c = record { fits = mask_lt (c.args.x / 256) 8 }

add-bytes : tie.Need-overflow_add-bytes
add-bytes c = search rules

slice-write-bytes-2 : tie.Need-bounds-bytes-at-2
slice-write-bytes-2 c = simp length-set (omega arith)

same_length : tie.Need-shape_of-bytes
same_length c = search rules

returns : tie.Need-returns
returns c =
    let a = c.args in
    rw (and_mask a.x 8, and_mask (a.x / 256) 8) (paste-two a.bytes.now a.at _ _ c.requires)

pub write16_spec : {M : Type 1} → statement M
write16_spec =
    tie.close
    (tie.spec
    cast-bytes
    slice-write-bytes
    cast-bytes-2
    add-bytes
    slice-write-bytes-2
    same_length
    returns)
