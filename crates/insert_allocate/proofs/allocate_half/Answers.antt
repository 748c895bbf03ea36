-- A free page for a full leaf that is whole, or none.
use Rattle.store.specs.Store.{store}
use Rattle.insert_planned.proofs.MetLaws.{directory-lent}
use Rattle.insert_allocate.proofs.AllocateLaws.{own-word-fits, seven-full, nine-full, divide-planned}
use Rattle.insert_allocate.proofs.allocate_half.Goals as goal

pub spare_page-free-requires : goal.spare_page-free-requires
spare_page-free-requires c = c.requires.asked.pages-lent

pub returns-then-free-limits : goal.returns-then-free-limits
returns-then-free-limits c =
    let a = c.args in
    seven-full (store a.state a.dir.now a.pages.now) a.encoded _ _ c.spare_page-free.ensures _ _ c.requires
    c.if-free-limits.true

pub pack_page-word-requires : goal.pack_page-word-requires
pack_page-word-requires c =
    let a = c.args in
    own-word-fits (store a.state a.dir.now a.pages.now) a.encoded _ _ c.requires

pub leaf_whole-requires : goal.leaf_whole-requires
leaf_whole-requires c =
    let a = c.args in (
      directory-lent (store a.state a.dir.now a.pages.now) a.encoded c.requires.asked,
      c.requires.met.ends-met.met.depth_le,
    )

pub returns-then-not-leaf_whole : goal.returns-then-not-leaf_whole
returns-then-not-leaf_whole c =
    let a = c.args in
    nine-full (store a.state a.dir.now a.pages.now) a.encoded _ _ c.spare_page-free.ensures _ _ c.requires _
    c.pack_page-word.ensures _ c.leaf_whole.ensures c.if-not-leaf_whole.true

pub returns : goal.returns
returns c =
    let a = c.args in
    divide-planned (store a.state a.dir.now a.pages.now) a.encoded _ _ c.spare_page-free.ensures _ _ c.requires _
    c.pack_page-word.ensures _ c.leaf_whole.ensures c.if-free-limits.false c.if-not-leaf_whole.false
