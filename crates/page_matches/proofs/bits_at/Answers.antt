use Rattle.std.proofs.Common.{◌%◌, ◌^◌, sym, ap, ◌∙◌}
use lib.Bits.{and_mask}
use Rattle.shape.proofs.AttributeLaws.{get_d-wanted_values}
use Rattle.page_matches.specs.Pattern.{wanted_field}
use Rattle.page_matches.proofs.bits_at.Goals as goal

pub returns : goal.returns
returns c =
    and_mask c.value_or.result 16
    ∙ ap (λ n. n % 2 ^ 16) c.value_or.ensures
    ∙ sym (ap wanted_field (get_d-wanted_values c.args.query c.args.j c.requires))
