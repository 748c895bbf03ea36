-- `file_parts::is_whole` meets its contract, test by test. Assumes nothing.
use Prim.Native.Nat.{◌≤◌}
use mathlib.Core.Path.{◌≡◌, sym, ap, ◌∙◌}
use mathlib.Core.Bool.{true}
use native.Mathlib.Omega.{arith}
use lib.Dec.{eqb}
use lib.ListN.{length}
use borrow.Author.Rules.{rules}
use borrow.Author.Tests.{not-true, not-false}
use Rattle.shape.specs.Shape.{all_below}
use Rattle.file.specs.File.{end_size, file_size, number_before, file_count}
use Rattle.file_parts.proofs.WholeLaws.{letter_stands, is_whole-short, is_whole-letters, is_whole-shape}
use Rattle.file_parts.proofs.WholeLaws.{is_whole-size, is_whole-length}
use Rattle.file_parts.proofs.is_whole.Statement.{statement}
use Rattle.file_parts.proofs.is_whole.Tie as tie

-- ---- what is known behind each test

long : (c : tie.Else-size-lt-END_SIZE) → end_size ≤ length c.args.file.now
long c = omega arith

stand : (c : tie.Else-not-has_letters) → all_below 4 (letter_stands c.args.file.now) ≡ true
stand c = sym c.has_letters.ensures ∙ not-false _ c.if-not-has_letters.false-raw

shape : (c : tie.Else-number_before)
    → number_before 12 c.args.file.now ≡ end_size
shape c = sym c.number_before.ensures.0 ∙ c.if-number_before.false

counted : (c : tie.After-size_with-counted)
    → c.size_with-counted.result
    ≡ file_size (file_count c.args.file.now)
counted c = c.size_with-counted.ensures ∙ ap file_size c.number_before-2.ensures.0

-- ---- the answers

returns : tie.Need-returns-then-size-lt-END_SIZE
returns c = sym (is_whole-short c.args.file.now c.if-size-lt-END_SIZE.true)

has-letters-requires : tie.Need-has_letters-requires
has-letters-requires c κs = search rules

returns-2 : tie.Need-returns-then-not-has_letters
returns-2 c =
    let file = c.args.file.now in
    sym (is_whole-letters file (long c.before.before) (sym c.has_letters.ensures ∙ not-true _ c.if-not-has_letters.true-raw))

number-before-requires : tie.Need-number_before-requires
number-before-requires c κs = search rules

returns-3 : tie.Need-returns-then-number_before
returns-3 c =
    let file = c.args.file.now in
    sym
    (is_whole-shape file (long c.before.before.before.before) (stand c.before.before)
    (λ e. c.if-number_before.true (c.number_before.ensures.0 ∙ e)))

number-before-requires-2 : tie.Need-number_before-requires-2
number-before-requires-2 c κs = search rules

size-with-requires : tie.Need-size_with-counted-requires
size-with-requires c κs = search rules

number-before-requires-3 : tie.Need-number_before-requires-3
number-before-requires-3 c κs = search rules

returns-4 : tie.Need-returns-then-number_before-counted
returns-4 c =
    let file = c.args.file.now in
    sym
    (is_whole-size file (long c.before.before.before.before.before.before.before.before) (stand c.before.before.before.before.before.before) (shape c.before.before.before.before)
    (λ e. c.if-number_before-counted.true (c.number_before-3.ensures.0 ∙ e ∙ sym (counted c.before.before))))

returns-5 : tie.Need-returns
returns-5 c =
    let file = c.args.file.now in
    let size = sym c.number_before-3.ensures.0 ∙ c.if-number_before-counted.false ∙ counted c.before.before in
    ap (eqb (length file)) (counted c.before.before)
    ∙ sym (is_whole-length file (long c.before.before.before.before.before.before.before.before) (stand c.before.before.before.before.before.before) (shape c.before.before.before.before) size)

pub is_whole_spec : {M : Type 1} → statement M
is_whole_spec =
    tie.close
    (tie.spec
    returns
    has-letters-requires
    returns-2
    number-before-requires
    returns-3
    number-before-requires-2
    size-with-requires
    number-before-requires-3
    returns-4
    returns-5)
