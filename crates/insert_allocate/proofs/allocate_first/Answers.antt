-- A free page for an empty leaf that is whole, or none.
use Rattle.std.proofs.Common.{arith}
use Rattle.store.specs.Store.{store}
use Rattle.insert_planned.proofs.MetLaws.{directory-lent}
use Rattle.insert_allocate.proofs.AllocateLaws.{seven-empty, nine-empty, get-planned}
use Rattle.insert_allocate.proofs.allocate_first.Goals as goal

pub spare_page-free-requires : goal.spare_page-free-requires
spare_page-free-requires c = c.requires.asked.pages-lent

pub returns-then-free-limits : goal.returns-then-free-limits
returns-then-free-limits c =
    let a = c.args in
    seven-empty (store a.state a.dir.now a.pages.now) a.encoded _ _ c.spare_page-free.ensures a.depth c.requires
    c.if-free-limits.true

pub pack_empty-requires : goal.pack_empty-requires
pack_empty-requires c =
    let p = c.requires in
    omega (arith, p.depth_le, p.asked.within-limit, p.asked.short)

pub leaf_whole-requires : goal.leaf_whole-requires
leaf_whole-requires c =
    let a = c.args in
    (directory-lent (store a.state a.dir.now a.pages.now) a.encoded c.requires.asked, c.requires.depth_le)

pub returns-then-not-leaf_whole : goal.returns-then-not-leaf_whole
returns-then-not-leaf_whole c =
    let a = c.args in
    nine-empty (store a.state a.dir.now a.pages.now) a.encoded _ _ c.spare_page-free.ensures a.depth c.requires _
    c.pack_empty.ensures _ c.leaf_whole.ensures c.if-not-leaf_whole.true

pub returns : goal.returns
returns c =
    let a = c.args in
    get-planned (store a.state a.dir.now a.pages.now) a.encoded _ _ c.spare_page-free.ensures a.depth c.requires _
    c.pack_empty.ensures _ c.leaf_whole.ensures c.if-free-limits.false c.if-not-leaf_whole.false
