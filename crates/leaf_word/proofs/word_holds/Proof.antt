-- `leaf_word::word_holds` meets its contract: depth and page field are as the word's definitions say. Assumes nothing.
use Prim.Native.Nat.{◌≤◌}
use mathlib.Core.Path.{ap, ◌∙◌}
use native.Mathlib.Omega.{arith}
use lib.Dec.{leb}
use Rattle.directory_word.specs.Word.{depth_field}
use Rattle.leaf_word.proofs.HoldLaws.{word_holds-deep, word_holds-none, word_holds-page}
use borrow.Author.Rules.{rules}
use Rattle.leaf_word.proofs.word_holds.Statement.{statement}
use Rattle.leaf_word.proofs.word_holds.Tie as tie

depth-of-requires : tie.Need-depth_of-depth-requires
depth-of-requires c κs = search rules

returns : tie.Need-returns-then-state-depth
returns c =
    let a = c.args in
    word_holds-deep a.state a.word (rw c.depth_of-depth.ensures.0 at c.if-state-depth.true)

cast-if2 : tie.Need-overflow_cast-depth
cast-if2 c = search rules

mul-if2 : tie.Need-offset_bounds-leaves-depth
mul-if2 c = search rules

array-read-if2 : tie.Need-bounds-leaves-depth
array-read-if2 c = search rules

returns-2 : tie.Need-returns-then-leaves-depth-eq0
returns-2 c =
    let depth = c.depth_of-depth.ensures.0 in
    let a = c.args in
    word_holds-none a.state a.word (omega (arith, depth, c.if-state-depth.false)) (rw depth at c.if-leaves-depth-eq0.true)

field-of-requires : tie.Need-field_of-requires
field-of-requires c κs = search rules

returns-3 : tie.Need-returns
returns-3 c =
    let depth = c.depth_of-depth.ensures.0 in
    let a = c.args in
    let deep : depth_field a.word ≤ a.state.deepest = omega (arith, depth, c.if-state-depth.false) in
    ap (λ page. leb page a.state.limits.pages) c.field_of.ensures.0
    ∙ word_holds-page a.state a.word deep (rw depth at c.if-leaves-depth-eq0.false)

pub word_holds_spec : {M : Type 1} → statement M
word_holds_spec =
    tie.close
    (tie.spec
    depth-of-requires
    returns
    cast-if2
    mul-if2
    array-read-if2
    returns-2
    field-of-requires
    returns-3)
