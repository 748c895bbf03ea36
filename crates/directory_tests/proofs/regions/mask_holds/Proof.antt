-- `directory_tests::regions::mask_holds` meets its contract: the words of the numbers from v on are this one; v falls.
-- Assumes nothing.
use Prim.Native.Nat.{◌-◌}
use native.Mathlib.Omega.{arith}
use lib.Bits.{and_le_l, and_le_r, and_self}
use Rattle.directory.proofs.MaskLaws.{among-and}
use Rattle.directory_tests.proofs.HeldLaws.{HeldFrom, held_from-mask, held_from-next, mask_told-yes, mask_told-no}
use Rattle.directory_tests.proofs.regions.mask_holds.Statement.{statement}
use Rattle.directory_tests.proofs.regions.mask_holds.Tie as tie

abbrev invariant-loop : tie.invariant-loop-v
invariant-loop base mask word dir v₀ v = HeldFrom base mask word v dir

abbrev decreases-loop : tie.decreases-loop-v
decreases-loop base mask word dir v₀ v = v

add-if1 : tie.Need-overflow_add-base invariant-loop decreases-loop
add-if1 c = record { fits = omega (arith, c.requires.1) }

mul-if1 : tie.Need-offset_bounds-dir-base invariant-loop decreases-loop
mul-if1 c = record { fits = omega (arith, c.requires.1) }

shared-slice-read-if1 : tie.Need-bounds-dir-base invariant-loop decreases-loop
shared-slice-read-if1 c = c.requires.0

returns : tie.Need-returns-then-dir-base invariant-loop decreases-loop
returns c =
    let a = c.args in
    mask_told-no a.base a.mask a.word _ a.mask (and_self a.mask) c.if-dir-base.true

loop-holds : tie.Need-loop-v-init invariant-loop decreases-loop
loop-holds c = held_from-mask _ _ _ _ c.if-dir-base.false

sub-v : tie.Need-overflow_sub-v invariant-loop decreases-loop
sub-v c = omega (arith, c.loop-v-test.true)

add-if2 : tie.Need-overflow_add-base-in-loop-v invariant-loop decreases-loop
add-if2 c =
    record { fits = omega (arith, c.requires.1, and_le_r (c.loop-v.v - 1) c.args.mask) }

mul-if2 : tie.Need-offset_bounds-dir-base-in-loop-v invariant-loop decreases-loop
mul-if2 c =
    record { fits = omega (arith, c.requires.1, and_le_r (c.loop-v.v - 1) c.args.mask) }

shared-slice-read-if2 : tie.Need-bounds-dir-base-in-loop-v invariant-loop decreases-loop
shared-slice-read-if2 c =
    omega (arith, c.requires.0, and_le_r (c.loop-v.v - 1) c.args.mask)

returns-2 : tie.Need-returns-then-dir-base-2 invariant-loop decreases-loop
returns-2 c =
    let a = c.args in
    mask_told-no a.base a.mask a.word _ _ (among-and (c.loop-v.v - 1) a.mask)
    c.if-dir-base-2.true

loop-less : tie.Need-loop-v-smaller invariant-loop decreases-loop
loop-less c =
    let l = c.loop-v in
    let a = c.args in
    omega (arith, c.loop-v-test.true, and_le_l (l.v - 1) a.mask)

loop-again : tie.Need-loop-v-preserved invariant-loop decreases-loop
loop-again c = held_from-next _ _ _ _ _ c.loop-v.invariant c.if-dir-base-2.false

returns-3 : tie.Need-returns invariant-loop decreases-loop
returns-3 c = mask_told-yes _ _ _ _ _ c.loop-v-test.false c.loop-v.invariant

pub mask_holds_spec : {M : Type 1} → statement M
mask_holds_spec =
    tie.close
    (tie.spec
    invariant-loop
    decreases-loop
    add-if1
    mul-if1
    shared-slice-read-if1
    returns
    loop-holds
    sub-v
    add-if2
    mul-if2
    shared-slice-read-if2
    returns-2
    loop-less
    loop-again
    returns-3)
