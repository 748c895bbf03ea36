-- `shape::total_of` meets its contract: four widths of at most 16. Assumes nothing.
use native.Mathlib.Omega.{arith}
use Rattle.shape.proofs.total_of.Statement.{statement}
use Rattle.shape.proofs.total_of.Tie as tie

add-result : tie.Need-overflow_add-result
add-result c = record { fits = omega (arith, c.requires 0, c.requires 1) }

add-result-2 : tie.Need-overflow_add-result-2
add-result-2 c =
    let p = c.requires in
    record { fits = omega (arith, p 0, p 1, p 2) }

add-result-3 : tie.Need-overflow_add-result-3
add-result-3 c =
    let p = c.requires in
    record { fits = omega (arith, p 0, p 1, p 2, p 3) }

returns : tie.Need-returns
returns c =
    let p = c.requires in
    (omega arith, omega (arith, p 0, p 1, p 2, p 3))

pub total_of_spec : {M : Type 1} → statement M
total_of_spec = tie.close (tie.spec add-result add-result-2 add-result-3 returns)
