-- `record_copy::copy_records` meets its contract: the first k bytes are copied, which end within the last block.
-- Falling number: the bytes left. Assumes nothing.
use Prim.Native.Nat.{◌+◌, ◌-◌, ◌*◌, ◌<◌}
use mathlib.Core.Path.{◌≡◌, refl, ap, ◌∙◌}
use native.Mathlib.Omega.{arith}
use lib.ListN.{length, drop}
use lib.Seq.{paste, paste-zero}
use Rattle.record.specs.Bytes.{record_size}
use Rattle.record_copy.proofs.CopyLaws.{paste-part}
use Rattle.record_copy.proofs.copy_records.Statement.{statement}
use Rattle.record_copy.proofs.copy_records.Tie as tie

abbrev invariant-loop : tie.invariant-loop-k
invariant-loop source from target₀ to n size last k₀ target k =
    (k < record_size * n) × (length target ≡ length target₀) × (target ≡ paste target₀ to (drop from source) k)

abbrev decreases-loop : tie.decreases-loop-k
decreases-loop source from target₀ to n size last k₀ target k = record_size * n - k

mul-size : tie.Need-overflow_mul-size invariant-loop decreases-loop
mul-size c = omega arith

copy-few-requires : tie.Need-copy_few-requires invariant-loop decreases-loop
copy-few-requires c κs = (omega arith, omega arith)

same_length : tie.Need-shape_of-target-then-size-lt-BLOCK invariant-loop decreases-loop
same_length c = c.copy_few.auto.target

returns : tie.Need-returns-then-size-lt-BLOCK invariant-loop decreases-loop
returns c = c.copy_few.ensures

copy-page-requires : tie.Need-copy_page-requires invariant-loop decreases-loop
copy-page-requires c κs = (omega arith, omega arith, omega arith, omega arith)

same-length-2 : tie.Need-shape_of-target-then-n-le16 invariant-loop decreases-loop
same-length-2 c = c.copy_page.auto.target

returns-2 : tie.Need-returns-then-n-le16 invariant-loop decreases-loop
returns-2 c = c.copy_page.ensures

loop-holds : tie.Need-loop-k-init invariant-loop decreases-loop
loop-holds c =
    let a = c.args in
    (omega arith, refl, paste-zero a.target.now a.to (drop a.from a.source.now))

add-copy-block : tie.Need-overflow_add-from invariant-loop decreases-loop
add-copy-block c = omega arith

add-copy-block-2 : tie.Need-overflow_add-to invariant-loop decreases-loop
add-copy-block-2 c = omega arith

copy-block-requires : tie.Need-copy_block-requires invariant-loop decreases-loop
copy-block-requires c κs = (omega arith, omega arith)

add-k : tie.Need-overflow_add-k invariant-loop decreases-loop
add-k c = omega arith

loop-less : tie.Need-loop-k-smaller invariant-loop decreases-loop
loop-less c = omega arith

loop-again : tie.Need-loop-k-preserved invariant-loop decreases-loop
loop-again c =
    let block = c.copy_block in
    let loop = c.loop-k in
    let a = c.args in (
      omega arith,
      block.auto.target ∙ loop.invariant.1,
      paste-part 48 a.source.now a.target.now a.from a.to loop.k loop.k (omega arith)
          (omega arith) (omega arith) (omega arith) loop.target _ loop.invariant.2 block.ensures,
    )

add-copy-block-3 : tie.Need-overflow_add-from-2 invariant-loop decreases-loop
add-copy-block-3 c = omega arith

add-copy-block-4 : tie.Need-overflow_add-to-2 invariant-loop decreases-loop
add-copy-block-4 c = omega arith

copy-block-requires-2 : tie.Need-copy_block-requires-2 invariant-loop decreases-loop
copy-block-requires-2 c κs = (omega arith, omega arith)

same-length-3 : tie.Need-shape_of-target invariant-loop decreases-loop
same-length-3 c =
    c.copy_block-2.auto.target ∙ c.loop-k.invariant.1

returns-3 : tie.Need-returns invariant-loop decreases-loop
returns-3 c =
    let block = c.copy_block-2 in
    let loop = c.loop-k in
    let a = c.args in
    let last = record_size * a.n - 48 in
    let whole : last + 48 ≡ record_size * a.n = omega arith in
    paste-part 48 a.source.now a.target.now a.from a.to loop.k last (omega arith)
    (omega arith) (omega arith) (omega arith) loop.target _ loop.invariant.2 block.ensures
    ∙ ap (paste a.target.now a.to (drop a.from a.source.now)) whole

pub copy_records_spec : {M : Type 1} → statement M
copy_records_spec =
    tie.close
    (tie.spec
    invariant-loop
    decreases-loop
    mul-size
    copy-few-requires
    same_length
    returns
    copy-page-requires
    same-length-2
    returns-2
    loop-holds
    add-copy-block
    add-copy-block-2
    copy-block-requires
    add-k
    loop-less
    loop-again
    add-copy-block-3
    add-copy-block-4
    copy-block-requires-2
    same-length-3
    returns-3)
