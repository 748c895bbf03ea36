use Rattle.std.proofs.Common.{sym, ap, ◌∙◌}
use Rattle.shape.specs.Range.{span_interval}
use Rattle.range_number.proofs.EndLaws.{get_d-range_intervals}
use Rattle.range_number.proofs.end_at.Goals as goal

pub returns-in-Free : goal.returns-in-Free
returns-in-Free g c wanted d =
    let a = c.args in
    sym
    (ap wanted (get_d-range_intervals a.range a.j c.requires.place ∙ ap span_interval c.in-Free.is) ∙ d.0)

pub returns-in-Within : goal.returns-in-Within
returns-in-Within g c wanted d =
    let a = c.args in
    d.1 (record { low = c.in-Within.low; high = c.in-Within.high }) _ c.end.ensures
    ∙ sym (ap wanted (get_d-range_intervals a.range a.j c.requires.place ∙ ap span_interval c.in-Within.is))
