-- `query_walk::note` meets its contract: the tests are those of the definition, and the page lies within the P lent.
-- Assumes nothing.
use Prim.Native.Nat.{ℕ}
use mathlib.Core.Path.{◌≡◌, sym, ◌∙◌}
use mathlib.Core.Bool.{Bool, true}
use native.Mathlib.Omega.{arith}
use borrow.Author.Tests.{not-true, not-false}
use Rattle.query_rows.specs.Rows.{pages_in, tallied_in, has_depth}
use Rattle.query_rows.proofs.DepthLaws.{has_depth-some, has_depth-none}
use Rattle.query_walk.specs.Turns.{page_fair}
use Rattle.query_walk.proofs.WroteLaws.{Wrote-noted-untold, Wrote-noted-none, Wrote-noted-past}
use Rattle.query_walk.proofs.WroteLaws.{Wrote-noted-unfair, Wrote-noted-fair}
use borrow.Author.Rules.{rules}
use Rattle.query_walk.proofs.note.Statement.{statement}
use Rattle.query_walk.proofs.note.Tie as tie

-- its depth is one that the tally has
told : (c : tie.Else-depths-x-eq0)
    → let a = c.args in
    has_depth (tallied_in a.rows.now) a.x ≡ true
told c =
    let a = c.args in
    has_depth-some (tallied_in a.rows.now) a.x c.if-depths-x-eq0.false

-- which pages may be read
abbrev fair : tie.Start → ℕ → Bool
fair s = page_fair s.args.rows.now s.args.pages.now s.args.x s.args.corner

element-copy-out-depths : tie.Need-bounds-rows-81
element-copy-out-depths c = search rules

shr-if1 : tie.Need-overflow_shr-depths
shr-if1 c = search rules

returns : tie.Need-returns-then-depths-x-eq0
returns c =
    let a = c.args in
    Wrote-noted-untold a.list.now a.n (pages_in a.rows.now) _ (fair c.before.before.before.before.before) a.word
    (has_depth-none (tallied_in a.rows.now) a.x c.if-depths-x-eq0.true)

field-of-requires : tie.Need-field_of-field-requires
field-of-requires c κs = search rules

cast-field : tie.Need-overflow_cast-field
cast-field c = search rules

returns-2 : tie.Need-returns-then-field-eq0
returns-2 c =
    let a = c.args in
    Wrote-noted-none a.list.now a.n (pages_in a.rows.now) _ (fair c.before.before.before.before.before.before.before) a.word _ (told c.before.before)
    c.field_of-field.ensures.0 c.if-field-eq0.true

element-copy-out-p : tie.Need-bounds-rows-78
element-copy-out-p c = search rules

returns-3 : tie.Need-returns-then-p-field
returns-3 c =
    let a = c.args in
    Wrote-noted-past a.list.now a.n (pages_in a.rows.now) _ (fair c.before.before.before.before.before.before.before.before.before) a.word _ (told c.before.before.before.before)
    c.field_of-field.ensures.0 c.if-p-field.true

sub-page : tie.Need-overflow_sub-page
sub-page c = search rules

page-fair-requires : tie.Need-page_fair-requires
page-fair-requires c κs =
    let field = c.if-field-eq0.false in
    record { deep = c.requires.deep; lent = c.requires.lent; named = omega (arith, c.if-p-field.false, field) }

returns-4 : tie.Need-returns-then-not-page_fair
returns-4 c =
    let a = c.args in
    Wrote-noted-unfair a.list.now a.n (pages_in a.rows.now) _ (fair c.before.before.before.before.before.before.before.before.before.before.before) a.word _ (told c.before.before.before.before.before.before)
    c.field_of-field.ensures.0 c.if-field-eq0.false c.if-p-field.false
    (sym c.page_fair.ensures ∙ not-true _ c.if-not-page_fair.true-raw)

cast-list : tie.Need-overflow_cast-list
cast-list c = search rules

mul-list : tie.Need-offset_bounds-list-n
mul-list c = search rules

slice-write-list : tie.Need-bounds-list-n
slice-write-list c = search rules

add-result : tie.Need-overflow_add-result
add-result c = search rules

same_length : tie.Need-shape_of-list
same_length c = search rules

returns-5 : tie.Need-returns
returns-5 c =
    let a = c.args in
    Wrote-noted-fair a.list.now a.n (pages_in a.rows.now) _ (fair c.before.before.before.before.before.before.before.before.before.before.before) a.word _ (told c.before.before.before.before.before.before)
    c.field_of-field.ensures.0 c.if-field-eq0.false c.if-p-field.false
    (sym c.page_fair.ensures ∙ not-false _ c.if-not-page_fair.false-raw)

pub note_spec : {M : Type 1} → statement M
note_spec =
    tie.close
    (tie.spec
    element-copy-out-depths
    shr-if1
    returns
    field-of-requires
    cast-field
    returns-2
    element-copy-out-p
    returns-3
    sub-page
    page-fair-requires
    returns-4
    cast-list
    mul-list
    slice-write-list
    add-result
    same_length
    returns-5)
