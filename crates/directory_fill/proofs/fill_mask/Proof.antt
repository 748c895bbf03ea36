-- `directory_fill::fill_mask` meets its contract: the words of the numbers from v on are set; v falls.
-- Assumes nothing.
use Prim.Native.Nat.{◌+◌, ◌-◌, ◌<◌}
use mathlib.Core.Path.{◌≡◌, sym, ◌∙◌, subst}
use native.Mathlib.Omega.{arith}
use lib.Bits.{and_le_l, and_le_r}
use lib.ListN.{length, set, length-set}
use Rattle.directory.proofs.MaskLaws.{MaskFilledFrom, mask_filled_from-mask, mask_filled_from-next, mask_filled_from-zero}
use Rattle.directory_fill.proofs.fill_mask.Statement.{statement}
use Rattle.directory_fill.proofs.fill_mask.Tie as tie

abbrev invariant-loop : tie.invariant-loop-v
invariant-loop base mask word dir₀ v₀ dir v = MaskFilledFrom base mask word v dir₀ dir

abbrev decreases-loop : tie.decreases-loop-v
decreases-loop base mask word dir₀ v₀ dir v = v

-- the first store keeps the length
stored : (s : tie.Start invariant-loop decreases-loop) → let a = s.args in
    length (set a.dir.now (a.base + a.mask) a.word) ≡ length a.dir.now
stored s = length-set s.args.dir.now (s.args.base + s.args.mask) s.args.word

add-dir : tie.Need-overflow_add-dir invariant-loop decreases-loop
add-dir c = record { fits = omega (arith, c.requires.1) }

mul-dir : tie.Need-offset_bounds-dir-base invariant-loop decreases-loop
mul-dir c = record { fits = omega (arith, c.requires.1) }

slice-write-dir : tie.Need-bounds-dir-base invariant-loop decreases-loop
slice-write-dir c = c.requires.0

loop-holds : tie.Need-loop-v-init invariant-loop decreases-loop
loop-holds c = mask_filled_from-mask c.args.base c.args.mask c.args.word c.args.dir.now c.requires.0

sub-v : tie.Need-overflow_sub-v invariant-loop decreases-loop
sub-v c = omega (arith, c.loop-v-test.true)

add-dir-2 : tie.Need-overflow_add-dir-in-loop-v invariant-loop decreases-loop
add-dir-2 c =
    record { fits = omega (arith, c.requires.1, and_le_r (c.loop-v.v - 1) c.args.mask) }

mul-dir-2 : tie.Need-offset_bounds-dir-base-in-loop-v invariant-loop decreases-loop
mul-dir-2 c =
    record { fits = omega (arith, c.requires.1, and_le_r (c.loop-v.v - 1) c.args.mask) }

slice-write-dir-2 : tie.Need-bounds-dir-base-in-loop-v invariant-loop decreases-loop
slice-write-dir-2 c =
    let l = c.loop-v in
    omega (arith, c.requires.0, and_le_r (l.v - 1) c.args.mask, l.invariant.size, stored c.before.before)

loop-less : tie.Need-loop-v-smaller invariant-loop decreases-loop
loop-less c = omega (arith, c.loop-v-test.true, and_le_l (c.loop-v.v - 1) c.args.mask)

loop-again : tie.Need-loop-v-preserved invariant-loop decreases-loop
loop-again c =
    let l = c.loop-v in
    mask_filled_from-next c.args.base c.args.mask c.args.word l.v _ l.dir l.invariant
    (subst (λ n. c.args.base + c.args.mask < n) (sym (stored c.before.before)) c.requires.0) (omega (arith, c.loop-v-test.true))

same_length : tie.Need-shape_of-dir invariant-loop decreases-loop
same_length c = c.loop-v.invariant.size ∙ stored c.before.before

returns : tie.Need-returns invariant-loop decreases-loop
returns c =
    let s = c.args in
    let l = c.loop-v in
    mask_filled_from-zero s.base s.mask s.word l.v s.dir.now l.dir c.loop-v-test.false l.invariant

pub fill_mask_spec : {M : Type 1} → statement M
fill_mask_spec =
    tie.close
    (tie.spec
    invariant-loop
    decreases-loop
    add-dir
    mul-dir
    slice-write-dir
    loop-holds
    sub-v
    add-dir-2
    mul-dir-2
    slice-write-dir-2
    loop-less
    loop-again
    same_length
    returns)
