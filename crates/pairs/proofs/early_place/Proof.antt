-- `pairs::early_place` meets its contract: d attributes in use have at most 16d steps, and take turns.
-- Assumes nothing.
use native.Mathlib.Omega.{arith}
use Rattle.pairs.proofs.PlaceLaws.{steps-four, steps-three, steps-two, steps-one}
use borrow.Author.Rules.{rules}
use Rattle.pairs.proofs.early_place.Statement.{statement}
use Rattle.pairs.proofs.early_place.Tie as tie

returns : tie.Need-returns-then-widths-ne0
returns c =
    let p = c.requires in
    let w = c.args.widths in (
      omega (arith, p.1, p.0 0, p.0 1, p.0 2, p.0 3),
      steps-four w.w0 w.w1 w.w2 w.w3 c.args.t,
    )

mul-result : tie.Need-overflow_mul-result
mul-result c =
    let p = c.requires in
    record { fits = omega (arith, p.1, p.0 0, p.0 1, p.0 2) }

returns-2 : tie.Need-returns-then-widths-ne0-2
returns-2 c =
    let p = c.requires in
    let w = c.args.widths in (
      omega (arith, p.1, p.0 0, p.0 1, p.0 2),
      steps-three w.w0 w.w1 w.w2 w.w3 c.args.t (omega arith)
          (omega (arith, p.1, p.0 0, p.0 1, p.0 2)),
    )

mul-result-2 : tie.Need-overflow_mul-result-then-widths-ne0-3
mul-result-2 c = search rules

add-result : tie.Need-overflow_add-result
add-result c =
    let p = c.requires in
    record { fits = omega (arith, p.1, p.0 0, p.0 1) }

returns-3 : tie.Need-returns-then-widths-ne0-3
returns-3 c =
    let p = c.requires in
    let w = c.args.widths in (
      omega (arith, p.1, p.0 0, p.0 1),
      steps-two w.w0 w.w1 w.w2 w.w3 c.args.t (omega arith) (omega arith),
    )

mul-result-3 : tie.Need-overflow_mul-result-2
mul-result-3 c =
    let p = c.requires in
    record { fits = omega (arith, p.1, p.0 0) }

returns-4 : tie.Need-returns
returns-4 c =
    let p = c.requires in
    let w = c.args.widths in (
      omega (arith, p.1, p.0 0),
      steps-one w.w0 w.w1 w.w2 w.w3 c.args.t (omega arith) (omega arith) (omega arith),
    )

pub early_place_spec : {M : Type 1} → statement M
early_place_spec =
    tie.close
    (tie.spec
    returns
    mul-result
    returns-2
    mul-result-2
    add-result
    returns-3
    mul-result-3
    returns-4)
