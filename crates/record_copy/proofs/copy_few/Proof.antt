-- `record_copy::copy_few` meets its contract: the first k bytes are copied, which end within the last eight. Falling
-- number: the bytes left. Assumes nothing.
use Prim.Native.Nat.{◌+◌, ◌-◌, ◌*◌, ◌<◌}
use mathlib.Core.Path.{◌≡◌, refl, sym, ap, ◌∙◌}
use native.Mathlib.Omega.{arith}
use lib.ListN.{length, drop}
use lib.Seq.{paste, paste-zero}
use Rattle.record.specs.Bytes.{record_size}
use Rattle.record_copy.proofs.CopyLaws.{paste-part}
use Rattle.record_copy.proofs.copy_few.Statement.{statement}
use Rattle.record_copy.proofs.copy_few.Tie as tie

abbrev invariant-loop : tie.invariant-loop-k
invariant-loop source from target₀ to n last k₀ target k =
    (k < record_size * n) × (length target ≡ length target₀) × (target ≡ paste target₀ to (drop from source) k)

abbrev decreases-loop : tie.decreases-loop-k
decreases-loop source from target₀ to n last k₀ target k = record_size * n - k

returns : tie.Need-returns-then-n-eq0 invariant-loop decreases-loop
returns c =
    let a = c.args in
    let none : record_size * a.n ≡ 0 = omega arith in
    paste-zero a.target.now a.to (drop a.from a.source.now)
    ∙ ap (paste a.target.now a.to (drop a.from a.source.now)) (sym none)

mul-last : tie.Need-overflow_mul-last invariant-loop decreases-loop
mul-last c = omega arith

sub-last : tie.Need-overflow_sub-last invariant-loop decreases-loop
sub-last c = omega arith

loop-holds : tie.Need-loop-k-init invariant-loop decreases-loop
loop-holds c =
    let a = c.args in
    (omega arith, refl, paste-zero a.target.now a.to (drop a.from a.source.now))

add-copy-eight : tie.Need-overflow_add-from invariant-loop decreases-loop
add-copy-eight c = omega arith

add-copy-eight-2 : tie.Need-overflow_add-to invariant-loop decreases-loop
add-copy-eight-2 c = omega arith

copy-eight-requires : tie.Need-copy_eight-requires invariant-loop decreases-loop
copy-eight-requires c κs = (omega arith, omega arith)

add-k : tie.Need-overflow_add-k invariant-loop decreases-loop
add-k c = omega arith

loop-less : tie.Need-loop-k-smaller invariant-loop decreases-loop
loop-less c = omega arith

loop-again : tie.Need-loop-k-preserved invariant-loop decreases-loop
loop-again c =
    let eight = c.copy_eight in
    let loop = c.loop-k in
    let a = c.args in (
      omega arith,
      eight.auto.target ∙ loop.invariant.1,
      paste-part 8 a.source.now a.target.now a.from a.to loop.k loop.k (omega arith) (omega arith)
          (omega arith) (omega arith) loop.target _ loop.invariant.2 eight.ensures,
    )

add-copy-eight-3 : tie.Need-overflow_add-from-2 invariant-loop decreases-loop
add-copy-eight-3 c = omega arith

add-copy-eight-4 : tie.Need-overflow_add-to-2 invariant-loop decreases-loop
add-copy-eight-4 c = omega arith

copy-eight-requires-2 : tie.Need-copy_eight-requires-2 invariant-loop decreases-loop
copy-eight-requires-2 c κs = (omega arith, omega arith)

same_length : tie.Need-shape_of-target invariant-loop decreases-loop
same_length c = c.copy_eight-2.auto.target ∙ c.loop-k.invariant.1

returns-2 : tie.Need-returns invariant-loop decreases-loop
returns-2 c =
    let eight = c.copy_eight-2 in
    let loop = c.loop-k in
    let a = c.args in
    let last = record_size * a.n - 8 in
    let whole : last + 8 ≡ record_size * a.n = omega arith in
    paste-part 8 a.source.now a.target.now a.from a.to loop.k last (omega arith) (omega arith)
    (omega arith) (omega arith) loop.target _ loop.invariant.2 eight.ensures
    ∙ ap (paste a.target.now a.to (drop a.from a.source.now)) whole

pub copy_few_spec : {M : Type 1} → statement M
copy_few_spec =
    tie.close
    (tie.spec
    invariant-loop
    decreases-loop
    returns
    mul-last
    sub-last
    loop-holds
    add-copy-eight
    add-copy-eight-2
    copy-eight-requires
    add-k
    loop-less
    loop-again
    add-copy-eight-3
    add-copy-eight-4
    copy-eight-requires-2
    same_length
    returns-2)
