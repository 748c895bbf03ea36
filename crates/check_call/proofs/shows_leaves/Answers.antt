-- Each test that fails, and the last, is a law of what the walk tells.
use Rattle.std.proofs.Common.{None, Some, sym, ◌∙◌}
use Rattle.check_call.proofs.CheckLaws.{walks-whole, tells-whole, shows-walk-fails, shows-depth-fails}
use Rattle.check_call.proofs.CheckLaws.{shows-tally-fails, shows-pages}
use Rattle.check_call.proofs.shows_leaves.Goals as goal

pub walk-requires : goal.walk-requires
walk-requires c =
    walks-whole c.args.state _ _ c.requires _ c.widths_of-widths.ensures _ c.whole_region.ensures

pub returns-in_default : goal.returns-in_default
returns-in_default c =
    let a = c.args in
    shows-walk-fails a.state a.dir.now a.pages.now _
    (tells-whole a.state a.dir.now a.pages.now _ c.widths_of-widths.ensures _ c.whole_region.ensures None _
    c.in_default.ensures)

pub returns-then-seen-state : goal.returns-then-seen-state
returns-then-seen-state c =
    let a = c.args in
    shows-depth-fails a.state a.dir.now a.pages.now c.in-Some.seen _
    (tells-whole a.state a.dir.now a.pages.now _ c.widths_of-widths.ensures _ c.whole_region.ensures (Some c.in-Some.seen)
    _ c.in-Some.ensures)
    c.if-seen-state.true

pub returns-then-not-same_tally : goal.returns-then-not-same_tally
returns-then-not-same_tally c =
    let a = c.args in
    let tally = c.same_tally.ensures in
    shows-tally-fails a.state a.dir.now a.pages.now c.in-Some.seen _
    (tells-whole a.state a.dir.now a.pages.now _ c.widths_of-widths.ensures _ c.whole_region.ensures (Some c.in-Some.seen)
    _ c.in-Some.ensures)
    c.if-seen-state.false tally.1 (sym tally.0 ∙ c.if-not-same_tally.true)

pub returns : goal.returns
returns c =
    let a = c.args in
    let tally = c.same_tally.ensures in
    shows-pages a.state a.dir.now a.pages.now c.in-Some.seen _
    (tells-whole a.state a.dir.now a.pages.now _ c.widths_of-widths.ensures _ c.whole_region.ensures (Some c.in-Some.seen)
    _ c.in-Some.ensures)
    c.if-seen-state.false tally.1 (sym tally.0 ∙ c.if-not-same_tally.false) _ c.pages_in_use.ensures
