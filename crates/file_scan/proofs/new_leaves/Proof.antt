-- `file_scan::new_leaves` meets its contract: each test says one of the cases in which a record starts a leaf.
-- Assumes nothing.
use borrow.Author.Rules.{rules}
use borrow.Author.Tests.{eq-eqb, ne_eqb, lt-ltb, le-ltb, le-leb, lt-leb}
use Rattle.file_scan.proofs.new_leaves.Statement.{statement}
use Rattle.file_scan.proofs.new_leaves.Tie as tie

returns : tie.Need-returns-then-i-eq0
returns c = rw (eq-eqb c.args.i 0 c.if-i-eq0.true)

first-step-requires : tie.Need-first_step-requires
first-step-requires c κs = search rules

returns-2 : tie.Need-returns-then-first_step-depth
returns-2 c =
    let near = c.first_step in
    let a = c.args in
    rw (
      ne_eqb a.i 0 c.if-i-eq0.false,
      ← near.ensures,
      lt-ltb near.result a.depth c.if-first_step-depth.true,
    )

returns-3 : tie.Need-returns-then-i-capacity
returns-3 c =
    let near = c.first_step in
    let a = c.args in
    rw (
      ne_eqb a.i 0 c.if-i-eq0.false,
      ← near.ensures,
      le-ltb near.result a.depth c.if-first_step-depth.false,
      lt-leb a.capacity a.i c.if-i-capacity.true,
    )

first-step-requires-2 : tie.Need-first_step-requires-2
first-step-requires-2 c κs = search rules

returns-4 : tie.Need-returns-then-first_step-depth-2
returns-4 c =
    let far = c.first_step-2 in
    let near = c.first_step in
    let a = c.args in
    rw (
      ne_eqb a.i 0 c.if-i-eq0.false,
      ← near.ensures,
      le-ltb near.result a.depth c.if-first_step-depth.false,
      le-leb a.capacity a.i c.if-i-capacity.false,
      ← far.ensures,
      lt-leb a.depth far.result c.if-first_step-depth-2.true,
    )

returns-5 : tie.Need-returns
returns-5 c =
    let far = c.first_step-2 in
    let near = c.first_step in
    let a = c.args in
    rw (
      ne_eqb a.i 0 c.if-i-eq0.false,
      ← near.ensures,
      le-ltb near.result a.depth c.if-first_step-depth.false,
      le-leb a.capacity a.i c.if-i-capacity.false,
      ← far.ensures,
      le-leb a.depth far.result c.if-first_step-depth-2.false,
    )

pub new_leaves_spec : {M : Type 1} → statement M
new_leaves_spec =
    tie.close
    (tie.spec
    returns
    first-step-requires
    returns-2
    returns-3
    first-step-requires-2
    returns-4
    returns-5)
