-- `key_encoding::bias_of` meets its contract: a marked attribute has a width of 1 to 16. Assumes nothing.
use Rattle.std.proofs.Common.{◌≡◌, true, sym, ◌∙◌, arith, rules}
use borrow.Author.Tests.{not-true, not-false}
use Rattle.shape.specs.Key.{marked}
use Rattle.shape.proofs.EncodingLaws.{bias-plain}
use Rattle.key_encoding.proofs.CodeLaws.{width_read, bias-shifted}
use Rattle.key_encoding.proofs.bias_of.Statement.{statement}
use Rattle.key_encoding.proofs.bias_of.Tie as tie

-- behind the test the attribute is marked
set : (c : tie.After-widths-1) → let args = c.args in marked args.shape args.j ≡ true
set c = sym c.is_marked.ensures ∙ not-false _ c.if-not-is_marked.false-raw

is-marked-requires : tie.Need-is_marked-requires
is-marked-requires c κs = search rules

returns : tie.Need-returns-then-not-is_marked
returns c =
    let args = c.args in
    sym (bias-plain args.shape args.j (sym c.is_marked.ensures ∙ not-true _ c.if-not-is_marked.true-raw))

mul-result : tie.Need-offset_bounds-widths-j
mul-result c = search rules

array-read-result : tie.Need-bounds-widths-j
array-read-result c = search rules

sub-result : tie.Need-overflow_sub-result
sub-result c =
    (width_read c.args.shape c.args.j c.requires.0 (set c)).0

shl-result : tie.Need-overflow_shl-result
shl-result c =
    omega (arith, (width_read c.args.shape c.args.j c.requires.0 (set c)).1)

returns-2 : tie.Need-returns
returns-2 c =
    bias-shifted c.args.shape c.args.j c.requires.0 (set c)

pub bias_of_spec : {M : Type 1} → statement M
bias_of_spec =
    tie.close
    (tie.spec
    is-marked-requires
    returns
    mul-result
    array-read-result
    sub-result
    shl-result
    returns-2)
