-- `insert_words::set_word` meets its contract: the widths are those of the shape, the word that of the leaf. Assumes
-- nothing.
use native.Mathlib.Nat.{le_refl}
use native.Mathlib.Omega.{arith}
use borrow.Author.Rules.{rules}
use Rattle.directory_lent.proofs.FitLaws.{directory_fits, filled-shape}
use Rattle.insert_words.proofs.set_word.Statement.{statement}
use Rattle.insert_words.proofs.set_word.Tie as tie

widths-of-requires : tie.Need-widths_of-widths-requires
widths-of-requires c κs = search rules

cast_t : tie.Need-overflow_cast-t
cast_t c = search rules

pack-page-requires : tie.Need-pack_page-word-requires
pack-page-requires c κs =
    (c.requires.2, omega (arith, c.requires.1, c.requires.0.short))

fill-requires : tie.Need-fill-requires
fill-requires c κs =
    (directory_fits c.args.state _ c.widths_of-widths.ensures _ _ c.requires.0 (le_refl _), c.requires.1)

same_length : tie.Need-shape_of-dir
same_length c = search rules

returns : tie.Need-returns
returns c =
    let a = c.args in
    filled-shape a.state _ c.widths_of-widths.ensures _ _ a.encoded _ _ _ _ c.pack_page-word.ensures
    c.fill.ensures

pub set_word_spec : {M : Type 1} → statement M
set_word_spec =
    tie.close (tie.spec widths-of-requires cast_t pack-page-requires fill-requires same_length returns)
