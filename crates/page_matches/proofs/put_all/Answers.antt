use Rattle.std.proofs.Common.{arith, sym}
use Rattle.page_matches.proofs.HitLaws.{emit-none, emit-all}
use Rattle.page_matches.proofs.put_all.Goals as goal

pub returns-then-room-total-clause-out_after : goal.returns-then-room-total-clause-out_after
returns-then-room-total-clause-out_after c =
    let a = c.args in
    sym (emit-none a.page.now a.out.now a.n a.total (λ i. omega (arith, c.type_inv.page i)) c.requires.0 (omega arith))

pub returns-clause-out_after : goal.returns-clause-out_after
returns-clause-out_after c =
    let a = c.args in
    emit-all a.page.now a.out.now a.n a.total (λ i. omega (arith, c.type_inv.page i)) c.requires.0
    c.min-fit.result (omega arith) _ c.copy_records.ensures
