use Rattle.std.proofs.Common.{arith, sym}
use Rattle.page_matches.proofs.PutLaws.{emit_one-full, emit_one-put}
use Rattle.page_matches.proofs.put_record.Goals as goal

pub returns-then-place-out : goal.returns-then-place-out
returns-then-place-out c =
    let a = c.args in
    emit_one-put a.page.now a.out.now a.i a.place (λ i. omega (arith, c.type_inv.page i)) c.requires.0
    c.if-place-out.true _ c.key_at.ensures _ c.content_at.ensures _ c.write_record.ensures

pub returns-else-place-out : goal.returns-else-place-out
returns-else-place-out c =
    let a = c.args in sym (emit_one-full a.page.now a.out.now a.i a.place (omega arith))
