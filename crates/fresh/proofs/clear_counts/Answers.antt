-- One page more.
use Rattle.std.proofs.Common.{◌≡◌, ◌*◌, refl, ap, arith}
use Rattle.page.specs.Page.{page_size}
use Rattle.page.proofs.PartLaws.{page-end-le}
use Rattle.store.specs.Fresh.{cleared_counts}
use Rattle.fresh.proofs.CountLaws.{cleared_counts-suc}
use Rattle.fresh.proofs.clear_counts.Goals as goal

pub loop-page-init : goal.loop-page-init
unfolding cleared_counts
loop-page-init c = refl

pub loop-page-preserved : goal.loop-page-preserved
loop-page-preserved c =
    let loop = c.loop-page in
    let args = c.args in
    let end = page-end-le args.b loop.page args.n c.loop-page-test.true in
    let size : c.page_size-size.result ≡ page_size args.b = c.page_size-size.ensures in
    let at : loop.page * c.page_size-size.result ≡ loop.page * page_size args.b = ap (λ s. loop.page * s) size in
    cleared_counts-suc args.b loop.page _ _ args.pages.now loop.pages _ at loop.invariant (omega (arith, size))
    (omega (arith, end, at, size, loop.auto.pages)) c.clear_count.ensures
