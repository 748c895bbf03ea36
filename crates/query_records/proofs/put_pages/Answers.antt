-- `query_records::put_pages`: a pattern that gives nothing lets all records through. Assumes nothing.
use Rattle.std.proofs.Common.{length, ap, sym, ◌∙◌}
use Rattle.page_matches.specs.Output.{emit}
use Rattle.query_records.proofs.MatchedLaws.{list_hits-all}
use Rattle.query_records.proofs.put_pages.Goals as goal

pub returns-then-gives_nothing-clause-value : goal.returns-then-gives_nothing-clause-value
returns-then-gives_nothing-clause-value c =
    let a = c.args in
    let nothing = sym c.gives_nothing.ensures ∙ c.if-gives_nothing.true in
    let all = list_hits-all a.capacity a.pages.now a.pattern nothing a.list.now in
    (c.put_whole.ensures.all ∙ ap length all, c.put_whole.ensures.most)

pub returns-then-gives_nothing-clause-out_after : goal.returns-then-gives_nothing-clause-out_after
returns-then-gives_nothing-clause-out_after c =
    let a = c.args in
    let nothing = sym c.gives_nothing.ensures ∙ c.if-gives_nothing.true in
    c.put_whole.ensures.bytes ∙ ap (emit a.out.now 0) (list_hits-all a.capacity a.pages.now a.pattern nothing a.list.now)
