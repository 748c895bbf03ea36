-- Each kind of call keeps its promise.
use Rattle.shape.specs.Key.{wanted_values}
use Rattle.shape.specs.Range.{range_intervals}
use Rattle.store.specs.Store.{store}
use Rattle.replay_call.proofs.KeptLaws.{kept-insert, kept-delete, kept-lookup, kept-query, kept-range}
use Rattle.replay_call.proofs.run_call.Goals as goal

pub returns-then-request-eq0 : goal.returns-then-request-eq0
returns-then-request-eq0 c =
    let a = c.args in
    kept-insert (store a.state a.dir.now a.pages.now) a.request a.out.now _ _
    c.changed_step.ensures.1 c.requires _ _ _ _ c.if-request-eq0.true c.changed_step.ensures.0
    c.insert.ensures

pub returns-then-request-eq1 : goal.returns-then-request-eq1
returns-then-request-eq1 c =
    let a = c.args in
    kept-delete (store a.state a.dir.now a.pages.now) a.request a.out.now _ _
    c.changed_step-then-request-eq1.ensures.1 c.requires _ _ _ _ c.if-request-eq1.true
    c.changed_step-then-request-eq1.ensures.0 c.delete.ensures

pub returns-then-request-eq2 : goal.returns-then-request-eq2
returns-then-request-eq2 c =
    let a = c.args in
    kept-lookup (store a.state a.dir.now a.pages.now) a.request a.out.now _ _
    c.found_words-words.ensures c.requires c.if-request-eq2.true c.lookup.ensures

pub returns-then-request-eq3 : goal.returns-then-request-eq3
returns-then-request-eq3 c =
    let a = c.args in
    kept-query (store a.state a.dir.now a.pages.now) a.request a.out.now _ _
    c.listed_words-words.ensures (wanted_values c.query_of.result) _ c.if-request-eq3.true
    c.query_of.ensures c.query.ensures

pub returns : goal.returns
returns c =
    let a = c.args in
    kept-range (store a.state a.dir.now a.pages.now) a.request a.out.now _ _
    c.listed_words-words-2.ensures (range_intervals c.range_of.result) _
    c.if-request-eq0.false c.if-request-eq1.false c.if-request-eq2.false c.if-request-eq3.false
    c.range_of.ensures c.range.ensures
