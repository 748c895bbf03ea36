use Rattle.std.proofs.Common.{◌||◌, not, get_or, sym, ap, ◌∙◌, arith}
use Rattle.std.proofs.Math.Option.{none}
use borrow.Author.Tests.{le-ltb}
use Rattle.shape.specs.Key.{wanted_values, is_given}
use Rattle.shape.proofs.AttributeLaws.{get_d-wanted_values}
use Rattle.query_number.proofs.allowed_at.Goals as goal

pub returns-else-j-shape : goal.returns-else-j-shape
returns-else-j-shape c =
    let a = c.args in
    sym
    (ap (λ b. b || not (is_given (get_or (wanted_values a.query) a.j none)))
    (le-ltb a.j a.shape.attributes (omega (arith, c.if-j-shape.false)))
    ∙ ap (λ w. not (is_given w)) (get_d-wanted_values a.query a.j c.requires)
    ∙ ap not (sym c.is_given.ensures))
