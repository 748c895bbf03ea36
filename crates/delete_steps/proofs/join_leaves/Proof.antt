-- `delete_steps::join_leaves` meets its contract: the new leaf lies within the directory, whose depth is that of the
-- new tally. Assumes nothing.
use mathlib.Core.Path.{refl, ap, ◌∙◌}
use native.Mathlib.Omega.{arith}
use Rattle.shape.specs.Shape.{width_list}
use Rattle.directory_word.specs.Word.{word_of}
use Rattle.directory_word.specs.declared.Leaf.TheVariants.{Page}
use Rattle.change.proofs.DeleteTallyLaws.{tally_depth-le}
use Rattle.directory_lent.proofs.FitLaws.{directory_fits, filled-shape}
use Rattle.delete_steps.proofs.StepLaws.{top-le, kept_page-lt}
use borrow.Author.Rules.{rules}
use Rattle.delete_steps.proofs.join_leaves.Statement.{statement}
use Rattle.delete_steps.proofs.join_leaves.Tie as tie

cast-join-records : tie.Need-overflow_cast-shape
cast-join-records c = search rules

join-records-requires : tie.Need-join_records-kept-requires
join-records-requires c κs = search rules

join-tally-requires : tie.Need-join_tally-tally-requires
join-tally-requires c κs = search rules

cast-greatest-depth : tie.Need-overflow_cast-state
cast-greatest-depth c = search rules

greatest-depth-requires : tie.Need-greatest_depth-depth-requires
greatest-depth-requires c κs = search rules

pack-page-requires : tie.Need-pack_page-word-requires
pack-page-requires c κs =
    let a = c.args in
    let l = c.requires.leaves in
    let pair = c.requires.pair in
    let lt = kept_page-lt a.join.bit a.found.page a.join.other 4096 pair.own.page.number_lt
    pair.page.number_lt in (
      omega (arith, lt, c.join_records-kept.ensures.kept),
      omega (arith, c.requires.lent.short, l.above, l.deep, l.depth-step),
    )

widths-of-requires : tie.Need-widths_of-requires
widths-of-requires c κs = search rules

cast-fill : tie.Need-overflow_cast-join
cast-fill c = search rules

fill-requires : tie.Need-fill-requires
fill-requires c κs =
    let a = c.args in
    let w = c.widths_of in
    let depth = c.greatest_depth-depth in
    let tally = c.join_tally-tally in (
      directory_fits a.state (width_list w.result) w.ensures _ _ c.requires.lent
          (omega (arith, depth.ensures, tally_depth-le tally.result.leaves a.state.deepest)),
      omega (
        arith,
        depth.ensures,
        top-le a.state a.found a.join c.requires.leaves c.requires.lent.short tally.result.leaves
            tally.ensures,
      ),
    )

cast-t22 : tie.Need-overflow_cast-result
cast-t22 c =
    let a = c.args in
    omega (
      arith,
      c.greatest_depth-depth.ensures,
      tally_depth-le c.join_tally-tally.result.leaves a.state.deepest,
      c.requires.lent.short,
    )

same_length : tie.Need-shape_of-dir
same_length c = search rules

same-length-2 : tie.Need-shape_of-pages
same-length-2 c = search rules

returns : tie.Need-returns
returns c =
    let a = c.args in
    let w = c.widths_of in
    let depth = c.greatest_depth-depth in
    let records = c.join_records-kept.ensures in
    record {
      words_are =
          record {
            state = refl;
            tally = c.join_tally-tally.ensures;
            depth = depth.ensures;
            new-leaf =
                filled-shape a.state (width_list w.result) w.ensures depth.result a.join.top
                a.encoded _ _ a.dir.now _
                (c.pack_page-word.ensures
                ∙ ap (λ k. word_of (Page k a.join.top)) records.kept)
                c.fill.ensures;
          };
      bytes-are = records.bytes-are;
    }

pub join_leaves_spec : {M : Type 1} → statement M
join_leaves_spec =
    tie.close
    (tie.spec
    cast-join-records
    join-records-requires
    join-tally-requires
    cast-greatest-depth
    greatest-depth-requires
    pack-page-requires
    widths-of-requires
    cast-fill
    fill-requires
    cast-t22
    same_length
    same-length-2
    returns)
