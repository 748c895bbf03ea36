-- `query_rows::most_pages`: a step is entered on both sides, or on one. Assumes nothing.
use Rattle.std.proofs.Common.{◌≡◌, ◌-◌, ◌^◌, ◌≤◌, ap, sym}
use native.Mathlib.Omega.{arith}
use lib.Pow.{pow_mono}
use Rattle.query_rows.specs.Rows.{most_pages}
use Rattle.query_rows.proofs.MostLaws.{most_pages-le, counted-free, counted-given}
use Rattle.query_rows.proofs.most_pages.Goals as goal

pub loop-x-init : goal.loop-x-init
unfolding most_pages
loop-x-init c =
    let none : c.args.t - c.args.t ≡ 0 = omega arith in
    sym (ap (λ f. most_pages c.args.rows.now f c.args.t) none)

pub overflow_mul-most : goal.overflow_mul-most
overflow_mul-most c =
    let left = c.args.t - c.loop-x.x in
    let few : 2 ^ left ≤ 2 ^ 12 = pow_mono {i = left} {j = 12} (omega arith) in
    omega (arith, most_pages-le c.args.rows.now left c.loop-x.x)

pub loop-x-preserved-then-rows-x-gt1 : goal.loop-x-preserved-then-rows-x-gt1
loop-x-preserved-then-rows-x-gt1 c =
    counted-free c.args.rows.now c.args.t c.loop-x.x c.loop-x.most (omega arith) (omega arith) c.loop-x.invariant
    c.if-rows-x-gt1.true

pub loop-x-preserved : goal.loop-x-preserved
loop-x-preserved c =
    counted-given c.args.rows.now c.args.t c.loop-x.x c.loop-x.most (omega arith) (omega arith) c.loop-x.invariant
    c.if-rows-x-gt1.false
