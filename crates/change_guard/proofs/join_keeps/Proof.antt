-- `change_guard::join_keeps` meets its contract: a law for each test that fails, and for the last. Assumes nothing.
use borrow.Author.Rules.{rules}
use borrow.Author.Tests.{not-true, not-false}
use Rattle.change_guard.proofs.DeleteLaws.{delete_told-join}
use Rattle.change_guard.proofs.JoinLaws.{join_told-own, join_told-other, join_told-empties, join_told-folds}
use Rattle.change_guard.proofs.join_keeps.Statement.{statement}
use Rattle.change_guard.proofs.join_keeps.Tie as tie

pack-page-requires : tie.Need-pack_page-own-requires
pack-page-requires c κs = search rules

leaf-whole-requires : tie.Need-leaf_whole-requires
leaf-whole-requires c κs = search rules

returns : tie.Need-returns-then-not-leaf_whole
returns c =
    delete_told-join _ _ _ _ _ _
    (join_told-own _ _ _ c.args.found c.args.join c.requires.leaves.depth-step _
    c.pack_page-own.ensures _ c.leaf_whole.ensures
    (not-true _ c.if-not-leaf_whole.true-raw))

pack-page-requires-2 : tie.Need-pack_page-other-requires
pack-page-requires-2 c κs = search rules

sibling-whole-requires : tie.Need-sibling_whole-requires
sibling-whole-requires c κs = search rules

returns-2 : tie.Need-returns-then-not-sibling_whole
returns-2 c =
    delete_told-join _ _ _ _ _ _
    (join_told-other _ _ _ c.args.found c.args.join c.requires.leaves.depth-step _
    c.pack_page-own.ensures _ c.leaf_whole.ensures
    (not-false _ c.if-not-leaf_whole.false-raw) _ c.pack_page-other.ensures _ c.sibling_whole.ensures
    (not-true _ c.if-not-sibling_whole.true-raw))

empties-whole-requires : tie.Need-empties_whole-requires
empties-whole-requires c κs = search rules

returns-3 : tie.Need-returns-then-not-empties_whole
returns-3 c =
    delete_told-join _ _ _ _ _ _
    (join_told-empties _ _ _ c.args.found c.args.join c.requires.leaves.depth-step _
    c.pack_page-own.ensures _ c.leaf_whole.ensures (not-false _ c.if-not-leaf_whole.false-raw) _
    c.pack_page-other.ensures _ c.sibling_whole.ensures (not-false _ c.if-not-sibling_whole.false-raw) _
    c.empties_whole.ensures (not-true _ c.if-not-empties_whole.true-raw))

joined-depth-requires : tie.Need-joined_depth-requires
joined-depth-requires c κs = search rules

halving-whole-requires : tie.Need-halving_whole-requires
halving-whole-requires c κs = search rules

returns-4 : tie.Need-returns
returns-4 c =
    delete_told-join _ _ _ _ _ _
    (join_told-folds _ _ _ c.args.found c.args.join c.requires.leaves.depth-step _
    c.pack_page-own.ensures _ c.leaf_whole.ensures (not-false _ c.if-not-leaf_whole.false-raw) _
    c.pack_page-other.ensures _ c.sibling_whole.ensures (not-false _ c.if-not-sibling_whole.false-raw) _
    c.empties_whole.ensures (not-false _ c.if-not-empties_whole.false-raw) _
    c.joined_depth.ensures.is _ c.halving_whole.ensures)

pub join_keeps_spec : {M : Type 1} → statement M
join_keeps_spec =
    tie.close
    (tie.spec
    pack-page-requires
    leaf-whole-requires
    returns
    pack-page-requires-2
    sibling-whole-requires
    returns-2
    empties-whole-requires
    returns-3
    joined-depth-requires
    halving-whole-requires
    returns-4)
