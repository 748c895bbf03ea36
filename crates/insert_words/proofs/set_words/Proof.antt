-- `insert_words::set_words` meets its contract: the widths are those of the shape. Assumes nothing.
use mathlib.Core.Path.{sym, ap, ◌∙◌, subst}
use native.Mathlib.Nat.{le_refl}
use borrow.Author.Rules.{rules}
use Rattle.split.specs.Bits.{split_bit}
use Rattle.directory_lent.proofs.FitLaws.{directory_fits}
use Rattle.change.specs.Divided.{LeavesSet}
use Rattle.insert_words.proofs.set_words.Statement.{statement}
use Rattle.insert_words.proofs.set_words.Tie as tie

widths-of-requires : tie.Need-widths_of-widths-requires
widths-of-requires c κs = search rules

cast_t : tie.Need-overflow_cast-t
cast_t c = search rules

cast-x : tie.Need-overflow_cast-x
cast-x c = search rules

set-leaves-requires : tie.Need-set_leaves-requires
set-leaves-requires c κs =
    let a = c.args in
    let asked = c.requires.1 in (
      (
        directory_fits a.state _ c.widths_of-widths.ensures _ a.state.deepest c.requires.0 (le_refl _),
        asked.below,
        asked.deep,
      ),
      (
        (asked.page-lt, asked.free-lt),
        asked.bit_is ∙ ap (λ ws. split_bit ws a.encoded a.split.step) (sym c.widths_of-widths.ensures),
      ),
    )

same_length : tie.Need-shape_of-dir
same_length c = search rules

returns : tie.Need-returns
returns c =
    let set = c.set_leaves in
    let a = c.args in
    subst
    (λ ws. LeavesSet ws a.state.deepest a.split.depth a.split.step (split_bit ws a.encoded)
    a.split.page a.free a.dir.now set.new.dir)
    c.widths_of-widths.ensures set.ensures

pub set_words_spec : {M : Type 1} → statement M
set_words_spec =
    tie.close (tie.spec widths-of-requires cast_t cast-x set-leaves-requires same_length returns)
