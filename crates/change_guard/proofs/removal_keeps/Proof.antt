-- `change_guard::removal_keeps` meets its contract: a law for each number of records; the widths are the shape's.
-- Assumes nothing.
use mathlib.Core.Path.{subst}
use native.Mathlib.Omega.{arith}
use borrow.Author.Rules.{rules}
use Rattle.shape.specs.Shape.{width_list}
use Rattle.split.specs.Bits.{split_bit}
use Rattle.directory_lent.proofs.FitLaws.{directory_fits}
use Rattle.directory_tests.specs.Intact.{RegionTold}
use Rattle.change_guard.proofs.DeleteLaws.{delete_told-many, delete_told-one}
use Rattle.change_guard.proofs.removal_keeps.Statement.{statement}
use Rattle.change_guard.proofs.removal_keeps.Tie as tie

returns : tie.Need-returns-then-found-ne1
returns c = delete_told-many _ _ _ _ c.if-found-ne1.true

pack-page-requires : tie.Need-pack_page-word-requires
pack-page-requires c κs = search rules

widths-of-requires : tie.Need-widths_of-widths-requires
widths-of-requires c κs = search rules

cast-region-holds : tie.Need-overflow_cast-found
cast-region-holds c = search rules

cast-region-holds-2 : tie.Need-overflow_cast-state
cast-region-holds-2 c = search rules

region-holds-requires : tie.Need-region_holds-requires
region-holds-requires c κs =
    let w = c.widths_of-widths in (
      directory_fits c.args.state (width_list w.result) w.ensures _ _ c.requires.lent (omega arith),
      c.requires.deep,
    )

returns-2 : tie.Need-returns
returns-2 c =
    let a = c.args in
    let told = subst
    (λ ws. RegionTold ws a.state.deepest a.found.depth (split_bit ws a.encoded)
    c.pack_page-word.result a.dir.now c.region_holds.result)
    c.widths_of-widths.ensures c.region_holds.ensures in
    delete_told-one _ _ _ a.found _ _ c.pack_page-word.ensures told

pub removal_keeps_spec : {M : Type 1} → statement M
removal_keeps_spec =
    tie.close
    (tie.spec
    returns
    pack-page-requires
    widths-of-requires
    cast-region-holds
    cast-region-holds-2
    region-holds-requires
    returns-2)
