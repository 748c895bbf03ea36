-- `load::content_holds` meets its contract: the shape's unused bytes and bits first, then the records. Assumes nothing.
use mathlib.Core.Path.{◌≡◌, sym, ap, ◌∙◌}
use mathlib.Core.Bool.{true, false, ◌&&◌}
use native.Mathlib.Omega.{arith}
use borrow.Author.Rules.{rules}
use borrow.Author.Tests.{not-true, not-false}
use Rattle.shape.specs.Shape.{shape_number}
use Rattle.model.specs.Sets.{is_set}
use Rattle.file.specs.File.{file_shape, file_records, is_plain}
use Rattle.file.proofs.WrittenLaws.{end-within}
use Rattle.load.proofs.NumberLaws.{set-read}
use Rattle.load.proofs.content_holds.Statement.{statement}
use Rattle.load.proofs.content_holds.Tie as tie

is-plain-requires : tie.Need-is_plain-requires
is-plain-requires c κs = (end-within c.args.file.now c.requires.0, c.requires.1)

returns : tie.Need-returns-then-not-is_plain
returns c =
    let file = c.args.file.now in
    let plain : is_plain file ≡ false = sym c.is_plain.ensures ∙ not-true _ c.if-not-is_plain.true-raw in
    sym (ap (λ b. b && is_set (file_shape file) (file_records file)) plain)

shape-in-requires : tie.Need-shape_in-requires
shape-in-requires c κs = end-within c.args.file.now c.requires.0

record-count-requires : tie.Need-record_count-requires
record-count-requires c κs = search rules

is-set-requires : tie.Need-is_set-requires
is-set-requires c κs =
    let good = c.requires.1 in
    (ap shape_number c.shape_in.ensures ∙ good, omega (arith, c.record_count.ensures.1))

returns-2 : tie.Need-returns
returns-2 c =
    let file = c.args.file.now in
    let plain : is_plain file ≡ true = sym c.is_plain.ensures ∙ not-false _ c.if-not-is_plain.false-raw in
    c.is_set.ensures
    ∙ set-read file _ c.shape_in.ensures _ c.record_count.ensures.0
    ∙ sym (ap (λ b. b && is_set (file_shape file) (file_records file)) plain)

pub content_holds_spec : {M : Type 1} → statement M
content_holds_spec =
    tie.close
    (tie.spec
    is-plain-requires
    returns
    shape-in-requires
    record-count-requires
    is-set-requires
    returns-2)
