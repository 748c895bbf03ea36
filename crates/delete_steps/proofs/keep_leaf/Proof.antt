-- `delete_steps::keep_leaf` meets its contract: the region of the leaf is set if the page had one record. Assumes
-- nothing.
use mathlib.Core.Path.{refl}
use native.Mathlib.Omega.{arith}
use Rattle.shape.specs.Shape.{width_list}
use Rattle.directory_lent.proofs.FitLaws.{directory_fits, filled-shape}
use borrow.Author.Rules.{rules}
use Rattle.delete_steps.proofs.keep_leaf.Statement.{statement}
use Rattle.delete_steps.proofs.keep_leaf.Tie as tie

cast-remove-record : tie.Need-overflow_cast-shape
cast-remove-record c = search rules

remove-record-requires : tie.Need-remove_record-requires
remove-record-requires c κs = c.requires.own

same_length : tie.Need-shape_of-pages-then-found-ne1
same_length c = search rules

returns : tie.Need-returns-then-found-ne1
returns c =
    let removed = c.remove_record in
    record {
      words_are = record { emptied = λ e. absurd (c.if-found-ne1.true e); same = λ n. refl };
      bytes-are = removed.ensures;
    }

pack-empty-requires : tie.Need-pack_empty-word-requires
pack-empty-requires c κs =
    let pre = c.requires in
    omega (arith, pre.lent.short, pre.deep)

widths-of-requires : tie.Need-widths_of-requires
widths-of-requires c κs = search rules

cast-fill : tie.Need-overflow_cast-found
cast-fill c = search rules

cast-fill-2 : tie.Need-overflow_cast-state
cast-fill-2 c = search rules

fill-requires : tie.Need-fill-requires
fill-requires c κs =
    let w = c.widths_of in
    (directory_fits c.args.state (width_list w.result) w.ensures _ _ c.requires.lent (omega arith), c.requires.deep)

same-length-2 : tie.Need-shape_of-dir
same-length-2 c = search rules

same-length-3 : tie.Need-shape_of-pages
same-length-3 c = search rules

returns-2 : tie.Need-returns
returns-2 c =
    let a = c.args in
    let filled = c.fill.ensures in
    let word = c.pack_empty-word.ensures in
    let w = c.widths_of in
    record {
      words_are =
          record {
            emptied = λ e.
                filled-shape a.state (width_list w.result) w.ensures a.state.deepest a.found.depth
                a.encoded _ _ a.dir.now _ word filled;
            same = λ n. absurd (n c.if-found-ne1.false);
          };
      bytes-are = c.remove_record.ensures;
    }

pub keep_leaf_spec : {M : Type 1} → statement M
keep_leaf_spec =
    tie.close
    (tie.spec
    cast-remove-record
    remove-record-requires
    same_length
    returns
    pack-empty-requires
    widths-of-requires
    cast-fill
    cast-fill-2
    fill-requires
    same-length-2
    same-length-3
    returns-2)
