-- Each call keeps its promise on the part of the output that is lent to it.
use Rattle.std.proofs.Common.{◌≡◌, ◌+◌, ◌-◌, ◌≤◌, ℕ, length, ap, subst, ◌∙◌, refl, arith}
use borrow.Rule.Slice.PartMut.{mid_len}
use Rattle.store.specs.Store.{store}
use Rattle.replay_encoding.specs.Encoding.{request_size, output_start}
use Rattle.replay.specs.Private.{CallsRan}
use Rattle.replay.proofs.CountLaws.{call_count-as, part-lent}
use Rattle.replay.proofs.RanLaws.{ran-none, ran-more}
use Rattle.replay.proofs.run_calls.Goals as goal

pub loop-i-init : goal.loop-i-init
unfolding output_start
loop-i-init c =
    let a = c.args in
    record {
      within = omega arith;
      begins = refl;
      ran = ran-none (store a.state a.dir.now a.pages.now) a.calls.now a.answers.now a.out.now;
    }

pub run_call-step-requires : goal.run_call-step-requires
run_call-step-requires c =
    let loop = c.loop-i in
    let size = c.request_size.ensures in
    part-lent c.read_request-request.result loop.start _ (length loop.out - loop.start) loop.out
    (ap (λ n. loop.start + n) size.0) (omega (arith, loop.auto.out, loop.invariant.within, size.1))

pub loop-i-preserved : goal.loop-i-preserved
loop-i-preserved c =
    let loop = c.loop-i in
    let a = c.args in
    let request = c.read_request-request in
    let size = c.request_size.ensures in
    let end = loop.start + c.request_size.result in
    let e-size = size.0 ∙ ap (λ n. request_size request.result (n - loop.start)) loop.auto.out in
    let within : end ≤ length loop.out = omega (arith, loop.auto.out, loop.invariant.within, size.1) in
    let whole = c.run_call-step.auto.out ∙ mid_len loop.start end loop.out within in
    let more = ran-more (store a.state a.dir.now a.pages.now)
    (store loop.current loop.dir loop.pages) _ a.calls.now a.answers.now a.out.now
    loop.answers loop.out _ _ loop.i loop.start _ request.result loop.invariant.ran request.ensures
    loop.invariant.begins (ap (λ n. loop.start + n) e-size) c.run_call-step.ensures whole _ c.put_answer.ensures in
    record { within = omega (arith, loop.auto.out, within); begins = more.0; ran = more.1 }

pub returns : goal.returns
returns c =
    let loop = c.loop-i in
    let a = c.args in
    let n = c.min-n.result in
    let all : loop.i ≡ n = omega (arith, loop.auto.i-end, c.loop-i-test.false) in
    subst
    (λ (k : ℕ). CallsRan (store a.state a.dir.now a.pages.now) a.calls.now a.answers.now a.out.now k
    (store loop.current loop.dir loop.pages) loop.answers loop.out)
    (all ∙ call_count-as a.calls.now a.answers.now n c.min-n.ensures) loop.invariant.ran
