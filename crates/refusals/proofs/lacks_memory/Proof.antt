-- `refusals::lacks_memory` meets its contract: a slice has fewer than 2 ^ 64 words, and page P begins where P pages
-- end. Assumes nothing.
use Prim.Native.Nat.{◌^◌, ◌≤◌, ◌<◌}
use mathlib.Core.Path.{refl}
use native.Mathlib.Omega.{arith}
use native.Mathlib.Nat.{le_trans}
use lib.Pow.{pow_mono}
use borrow.Author.Rules.{rules}
use borrow.Author.Tests.{lt-ltb, le-ltb}
use Rattle.lists.proofs.Shifts.{one_shifted}
use Rattle.shape.proofs.ShapeLaws.{capacity-bounds}
use Rattle.refusals.proofs.lacks_memory.Statement.{statement}
use Rattle.refusals.proofs.lacks_memory.Tie as tie

returns : tie.Need-returns-then-limits-gt63
returns c =
    let depth = c.args.state.limits.depth in
    let more : 2 ^ 64 ≤ 2 ^ depth = pow_mono {i = 64} c.if-limits-gt63.true in
    rw (lt-ltb c.args.words (2 ^ depth) (le_trans c.ranges.words.fits more)) refl

cast-if2 : tie.Need-overflow_cast-limits
cast-if2 c = search rules

shl-if2 : tie.Need-overflow_shl-limits
shl-if2 c = search rules

returns-2 : tie.Need-returns-then-words-limits
returns-2 c =
    let depth = c.args.state.limits.depth in
    let few : c.args.words < 2 ^ depth =
    rw (one_shifted depth (omega (arith, c.if-limits-gt63.false))) at c.if-words-limits.true in
    rw (lt-ltb c.args.words (2 ^ depth) few) refl

cast-page-start : tie.Need-overflow_cast-shape
cast-page-start c = search rules

cast-page-start-2 : tie.Need-overflow_cast-limits-2
cast-page-start-2 c = search rules

page-start-requires : tie.Need-page_start-requires
page-start-requires c κs =
    (omega (arith, (capacity-bounds c.args.state.shape c.requires).1), omega arith)

returns-3 : tie.Need-returns
returns-3 c =
    let depth = c.args.state.limits.depth in
    let enough : 2 ^ depth ≤ c.args.words =
    rw (one_shifted depth (omega (arith, c.if-limits-gt63.false))) at c.if-words-limits.false in
    rw (c.page_start.ensures, le-ltb c.args.words (2 ^ depth) enough) refl

pub lacks_memory_spec : {M : Type 1} → statement M
lacks_memory_spec =
    tie.close
    (tie.spec
    returns
    cast-if2
    shl-if2
    returns-2
    cast-page-start
    cast-page-start-2
    page-start-requires
    returns-3)
