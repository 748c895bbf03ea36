use Rattle.std.proofs.Common.{◌≡◌, ◌-◌, ◌%◌, ◌^◌, ◌<◌, arith, sym, ap}
use Rattle.record.specs.Packed.{key_in}
use Rattle.page.specs.Fields.{record_field}
use Rattle.page_matches.specs.Mask.{match_mask}
use Rattle.page_matches.proofs.MaskLaws.{match_mask-below}
use Rattle.page_matches.proofs.mask_among.Goals as goal

pub loop-i-init : goal.loop-i-init
unfolding match_mask
loop-i-init g c passed d =
    let none : c.args.k - c.args.k ≡ 0 = omega arith in
    sym (ap (λ m. match_mask passed c.args.page.now m c.args.k % 2 ^ 64) none)

pub loop-i-preserved : goal.loop-i-preserved
loop-i-preserved g c passed d =
    let a = c.args in
    let i = c.loop-i.i in
    let bytes = record_field a.page.now (i - 1) in
    let small : key_in bytes < 2 ^ 64 = omega (arith, c.key_at.ensures, c.key_at.type_inv) in
    match_mask-below passed a.page.now a.k i c.loop-i.mask c.test.result (omega arith) (omega arith)
    (c.loop-i.invariant passed d)
    (d bytes c.test.result small (rw c.key_at.ensures at c.test.ensures))
