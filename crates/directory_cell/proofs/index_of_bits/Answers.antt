-- Sixteen bits reversed, and the first h of them kept.
use Rattle.std.proofs.Common.{◌-◌, ◌/◌, ◌^◌, ap, ◌∙◌, arith}
use lib.Bits.{and_mask}
use Rattle.std.specs.Int.{reverse_bits_onto}
use Rattle.directory_cell.proofs.KeyLaws.{reverse_bits_onto-low, sum_bits-reversed}
use Rattle.directory_cell.proofs.index_of_bits.Goals as goal

pub returns : goal.returns
returns c =
    let a = c.args in
    let rest = a.encoding / 2 ^ (a.w - a.h) in
    ap (λ n. n / 2 ^ (16 - a.h))
    (c.reverse_bits.ensures ∙ ap (λ n. reverse_bits_onto 16 n 0) (and_mask rest 16) ∙ reverse_bits_onto-low 16 rest 0)
    ∙ sum_bits-reversed a.w a.encoding a.h 16 c.requires.0 (omega arith)
