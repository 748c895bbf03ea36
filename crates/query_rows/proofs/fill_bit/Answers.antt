-- `query_rows::fill_bit`: the pair of bit and attribute z has a row if the attribute has the bit. Assumes nothing.
use Rattle.std.proofs.Common.{ℕ, ◌≡◌, ◌+◌, ◌*◌, ◌/◌, ◌%◌, ◌<◌, ◌≤◌, List, get_or, length, ap, subst, ◌∙◌}
use native.Mathlib.Omega.{arith}
use Rattle.shape.specs.Shape.{width_list}
use Rattle.shape.specs.Key.{wanted_values}
use Rattle.query_rows.specs.Private.{RowsFilled}
use Rattle.query_rows.specs.Rows.{wanted_at}
use Rattle.query_rows.proofs.FilledLaws.{filled-done, filled-skip, fixed-fits, length-stored, filled-step}
use Rattle.query_rows.proofs.fill_bit.Goals as goal
use Rattle.query_rows.proofs.fill_bit.Goals.{then-x-t+then-bit-width_at, else-x-t, else-x-t-via-then-x-t+else-bit-width_at, else-x-t-via-else-x-t}

-- the pair of bit and attribute z, by its place
module _ (bit z : ℕ) (h : z < 4) where
  place-bit : (4 * bit + z) / 4 ≡ bit
  place-bit = omega arith

  place-attribute : (4 * bit + z) % 4 ≡ z
  place-attribute = omega arith

  live : (ws : List ℕ) (w : ℕ) → w ≡ get_or ws z 0 → bit < w → (4 * bit + z) / 4 < get_or ws ((4 * bit + z) % 4) 0
  live ws w e l = rw (place-bit, place-attribute) (omega arith)

  past : (ws : List ℕ) (w : ℕ) → w ≡ get_or ws z 0 → w ≤ bit → get_or ws ((4 * bit + z) % 4) 0 ≤ (4 * bit + z) / 4
  past ws w e l = rw (place-bit, place-attribute) (omega arith)

pub put_row-requires : goal.put_row-requires
put_row-requires c = (
  omega arith,
  fixed-fits _ _ _ _ _ _ c.loop-z.invariant.1 c.if-x-t.true c.requires.fit
      (live c.args.bit _ (omega arith) (width_list c.args.widths) _ c.width_at.ensures c.if-bit-width_at.true) _
      c.row_at.ensures,
)

pub loop-z-preserved : goal.loop-z-preserved
loop-z-preserved c =
    let a = c.args in
    let l = c.loop-z in
    let z : l.z < 4 = omega arith in
    let ws = width_list a.widths in
    let low : 4 * a.bit + l.z < 64 = omega arith in
    let next : 4 * a.bit + l.z + 1 ≡ 4 * a.bit + (l.z + 1) = omega arith in
    let here = l.invariant.1 in
    let lent : 83 ≤ length l.rows = omega arith in (
      elim c.if-x-t.branch [
        | then-x-t+then-bit-width_at w ↦
            length-stored _ _ _ _ _ _ here w.if-x-t.true c.requires.fit
            (live a.bit l.z z ws _ w.width_at.ensures w.if-bit-width_at.true) _ w.row_at.ensures _
            (w.rows-is ∙ w.put_row.ensures)
            ∙ l.invariant.0
        | else-x-t w ↦ ap length w.rows-is ∙ l.invariant.0
      ],
      subst (λ g. RowsFilled ws (wanted_at ws (wanted_values a.query)) a.t g c.if-x-t.x c.if-x-t.rows) next
          (elim c.if-x-t.branch [
            | then-x-t+then-bit-width_at w ↦
                filled-step _ _ _ _ _ _ here w.if-x-t.true c.requires.fit
                (live a.bit l.z z ws _ w.width_at.ensures w.if-bit-width_at.true) _ w.row_at.ensures low
                c.requires.deep lent _ _ (w.rows-is ∙ w.put_row.ensures) w.x-is
            | else-x-t w ↦
                elim w.else-x-t.branch [
                  | else-x-t-via-then-x-t+else-bit-width_at v ↦
                      filled-skip _ _ _ _ _ _ here v.if-x-t.true low
                      (past a.bit l.z z ws _ v.width_at.ensures v.if-bit-width_at.false) _ _ w.rows-is w.x-is
                  | else-x-t-via-else-x-t v ↦ filled-done _ _ _ _ _ _ here v.if-x-t.false low _ _ w.rows-is w.x-is
                ]
          ]),
    )
