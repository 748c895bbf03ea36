-- `query_rows::fill_rows`: no step is left after 16 bits. Assumes nothing.
use Rattle.std.proofs.Common.{◌*◌, ◌<◌, length, subst, refl, ◌∙◌}
use native.Mathlib.Omega.{arith}
use lib.ListN.{length-set}
use lib.Seq.{get_or-set_same}
use Rattle.shape.specs.Key.{wanted_values}
use Rattle.split.specs.Steps.{steps_below}
use Rattle.query_rows.specs.Private.{RowsFilled}
use Rattle.query_rows.specs.Rows.{wanted_at}
use Rattle.query_rows.proofs.FilledLaws.{filled_zero, filled_all}
use Rattle.query_rows.proofs.TableLaws.{rows-filled, fit-steps}
use Rattle.query_rows.proofs.fill_rows.Goals as goal

pub fixed_bits_before-requires : goal.fixed_bits_before-requires
fixed_bits_before-requires c =
    let w = c.widths_of-widths.result in (
      (fit-steps c.args.shape w.w0 w.w1 w.w2 w.w3 c.args.t c.requires.shape c.widths_of-widths.ensures
          c.requires.bits).0,
      omega arith,
    )

pub loop-bit-init : goal.loop-bit-init
unfolding steps_below
loop-bit-init c =
    let five : 5 < length c.args.rows.now = omega arith in
    (refl, filled_zero _ _ _ _ (get_or-set_same c.args.rows.now 5 _ 0 five ∙ c.fixed_bits_before.ensures))

pub fill_bit-x-requires : goal.fill_bit-x-requires
fill_bit-x-requires c =
    let w = c.widths_of-widths.result in
    record {
      fit = (fit-steps c.args.shape w.w0 w.w1 w.w2 w.w3 c.args.t c.requires.shape c.widths_of-widths.ensures
          c.requires.bits).0;
      deep = c.requires.deep;
      low = omega arith;
      table-lent = omega (arith, c.loop-bit.invariant.0 ∙ length-set c.args.rows.now 5 _);
      filled = c.loop-bit.invariant.1;
    }

pub returns-after-loop-bit : goal.returns-after-loop-bit
returns-after-loop-bit c =
    let a = c.args in
    let l = c.loop-bit in
    let w = c.widths_of-widths.result in
    let fits = fit-steps a.shape w.w0 w.w1 w.w2 w.w3 a.t c.requires.shape c.widths_of-widths.ensures c.requires.bits in (
      l.invariant.0 ∙ length-set a.rows.now 5 _,
      rows-filled _ _ a.t (4 * l.bit) l.x l.rows
          (subst (λ ws. RowsFilled ws (wanted_at ws (wanted_values a.query)) a.t (4 * l.bit) l.x l.rows)
          c.widths_of-widths.ensures l.invariant.1)
          (filled_all _ _ _ _ _ _ l.invariant.1 fits.1 (omega arith)),
    )
