use Rattle.std.proofs.Common.{cond, sym, ap, ◌∙◌}
use Rattle.shape.proofs.AttributeLaws.{get_d-wanted_values}
use Rattle.page_matches.specs.Pattern.{wanted_mask}
use Rattle.page_matches.proofs.mask_at.Goals as goal

pub returns-then-is_given : goal.returns-then-is_given
returns-then-is_given c =
    sym
    (ap wanted_mask (get_d-wanted_values c.args.query c.args.j c.requires)
    ∙ ap (λ b. cond b 65535 0) (sym c.is_given.ensures ∙ c.if-is_given.true))

pub returns-else-is_given : goal.returns-else-is_given
returns-else-is_given c =
    sym
    (ap wanted_mask (get_d-wanted_values c.args.query c.args.j c.requires)
    ∙ ap (λ b. cond b 65535 0) (sym c.is_given.ensures ∙ c.if-is_given.false))
