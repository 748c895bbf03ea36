-- `file_scan::depth_at` meets its contract: the test says which case of the depth applies, and a step is 64 at most.
-- Assumes nothing.
use mathlib.Core.Path.{refl}
use native.Mathlib.Omega.{arith}
use borrow.Author.Rules.{rules}
use borrow.Author.Tests.{lt-ltb, le-ltb}
use Rattle.shape.specs.Shape.{width_list}
use Rattle.record.specs.Packed.{unpacked_key}
use Rattle.file_scan.proofs.StepLaws.{first_step-le}
use Rattle.file_scan.proofs.depth_at.Statement.{statement}
use Rattle.file_scan.proofs.depth_at.Tie as tie

returns : tie.Need-returns-then-i-capacity
returns c = rw (lt-ltb c.args.i c.args.capacity c.if-i-capacity.true)

first-step-requires : tie.Need-first_step-requires
first-step-requires c κs = search rules

add-result : tie.Need-overflow_add-result
add-result c =
    let a = c.args in
    omega (
      arith,
      c.first_step.ensures,
      first_step-le (width_list a.widths) (unpacked_key a.back) (unpacked_key a.key) refl c.requires,
    )

returns-2 : tie.Need-returns
returns-2 c =
    let a = c.args in
    rw (le-ltb a.i a.capacity c.if-i-capacity.false) (omega (arith, c.first_step.ensures))

pub depth_at_spec : {M : Type 1} → statement M
depth_at_spec = tie.close (tie.spec returns first-step-requires add-result returns-2)
