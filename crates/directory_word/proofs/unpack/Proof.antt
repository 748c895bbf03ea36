-- `directory_word::unpack` meets its contract: the test says which law of `leaf_of` applies. Assumes nothing.
use Prim.Native.Nat.{◌-◌}
use mathlib.Core.Path.{sym, ap, ◌∙◌}
use borrow.Author.Rules.{rules}
use Rattle.directory_word.specs.declared.Leaf.TheVariants.{Empty, Page}
use Rattle.directory_word.proofs.LeafLaws.{leaf_of-empty, leaf_of-page}
use Rattle.directory_word.proofs.unpack.Statement.{statement}
use Rattle.directory_word.proofs.unpack.Tie as tie

field-of-requires : tie.Need-field_of-field-requires
field-of-requires c = search rules

depth-of-requires : tie.Need-depth_of-depth-requires
depth-of-requires c = search rules

returns : tie.Need-returns-then-field-eq0
returns c =
    ap Empty c.depth_of-depth.ensures.0
    ∙ sym (leaf_of-empty _ (sym c.field_of-field.ensures.0 ∙ c.if-field-eq0.true))

sub-t5 : tie.Need-overflow_sub-result
sub-t5 c = search rules

returns-2 : tie.Need-returns
returns-2 c =
    let field = c.field_of-field in
    ap (λ x. Page (field.result - 1) x) c.depth_of-depth.ensures.0
    ∙ sym (leaf_of-page _ _ (sym field.ensures.0) c.if-field-eq0.false)

pub unpack_spec : {M : Type 1} → statement M
unpack_spec = tie.close (tie.spec field-of-requires depth-of-requires returns sub-t5 returns-2)
