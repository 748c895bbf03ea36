-- `query_walk::note_pages` meets its contract: the walk by rows starts at the empty string, whose region is noted
-- where it is a leaf. Assumes nothing.
use Prim.Native.Nat.{ℕ}
use mathlib.Core.Path.{◌≡◌, sym, ap, ◌∙◌, subst}
use native.Mathlib.Omega.{arith}
use lib.ListN.{get_or, length}
use lib.Pow.{pow_pos}
use borrow.Author.Tests.{eqb-true, eqb-false}
use Rattle.region.specs.Query.{QueryBit}
use Rattle.query_rows.specs.Rows.{deepest_in, Table}
use Rattle.query_seen.specs.Seen.{walk_seen}
use Rattle.query_walk.specs.Turns.{leaf_by, Wrote, Turn}
use Rattle.query_walk.proofs.ReturnLaws.{Wrote-leaf}
use Rattle.query_walk.proofs.PutLaws.{Put-pages, Put-damaged}
use Rattle.query_walk.proofs.StartLaws.{Turn-start, by_rows, by_rows-walk_seen, length-walk_seen-le}
use Rattle.query_walk.proofs.TurnLaws.{leaf-asked}
use Rattle.query_walk.proofs.WroteLaws.{Wrote-same}
use Rattle.query_walk.proofs.note_pages.Statement.{statement}
use Rattle.query_walk.proofs.note_pages.Lts.{then-is_leaf, else-is_leaf}
use Rattle.query_walk.proofs.note_pages.Tie as tie

turn : (s : tie.Start)
    → Turn s.args.rows.now s.args.dir.now (length s.args.pages.now) (length s.args.list.now) 0 0 0 0
turn s =
    Turn-start s.args.state s.args.rows.now s.args.dir.now s.args.pages.now
    (length s.args.list.now) s.requires

-- where the call began
abbrev start : tie.Joined-is_leaf → tie.Start
start c = c.before.before.before.before.before.before

-- what was noted, by one leaf or by the walk
wrote : (c : tie.Joined-is_leaf)
    → let a = (start c).args in
    Wrote a.list.now 0
    (by_rows a.state a.rows.now a.dir.now a.pages.now (length a.list.now) (start c).requires
    (deepest_in a.rows.now))
    c.if-is_leaf.count c.if-is_leaf.list
wrote c =
    let a = (start c).args in
    elim c.if-is_leaf.branch [
      | then-is_leaf w ↦
          Wrote-same w.count-is w.list-is
          (Wrote-leaf a.rows.now a.dir.now (leaf_by a.rows.now a.pages.now) (deepest_in a.rows.now) 0 0 0
          (get_or a.dir.now 0 0) a.list.now 0 _ _
          (eqb-true _ _ (sym c.is_leaf.ensures ∙ w.if-is_leaf.true)) w.note-count.ensures)
      | else-is_leaf w ↦ Wrote-same w.count-is w.list-is w.walk-count.ensures
    ]

same : (c : tie.Joined-is_leaf) → length c.if-is_leaf.list ≡ length (start c).args.list.now
same c =
    elim c.if-is_leaf.branch [
      | then-is_leaf w ↦ ap length w.list-is ∙ w.note-count.auto.list
      | else-is_leaf w ↦ ap length w.list-is ∙ w.walk-count.auto.list
    ]

shared-slice-read-word : tie.Need-bounds-dir-0
shared-slice-read-word c =
    let s = c.before.before.before.before in
    omega (arith, s.requires.words-lent, pow_pos s.args.state.deepest)

is-leaf-requires : tie.Need-is_leaf-requires
is-leaf-requires c κs = tt

note-requires : tie.Need-note-count-requires
note-requires c κs = leaf-asked (turn c.before.before.before.before.before.before.before)

walk-requires : tie.Need-walk-count-requires
walk-requires c κs = (
  turn c.before.before.before.before.before.before.before,
  eqb-false _ _ (sym c.is_leaf.ensures ∙ c.if-is_leaf.false),
)

same_length : tie.Need-shape_of-list-then-count-gt-MOST_PAGES
same_length c = same c.before

-- for each query whose table this is
seen-wrote : (c : tie.Joined-is_leaf) (q : ℕ → QueryBit)
    → let a = (start c).args in
    Table a.state q a.rows.now
    → Wrote a.list.now 0 (walk_seen a.state a.dir.now a.pages.now q) c.if-is_leaf.count c.if-is_leaf.list
seen-wrote c q table =
    let s = start c in
    let a = s.args in
    subst (λ u. Wrote a.list.now 0 u c.if-is_leaf.count c.if-is_leaf.list)
    (by_rows-walk_seen a.state a.rows.now a.dir.now a.pages.now (length a.list.now) s.requires q table)
    (wrote c)

returns : tie.Need-returns-then-count-gt-MOST_PAGES
returns c =
    let s = start c.before in
    let a = s.args in λ q table.
    Put-damaged a.list.now _ _ _ (seen-wrote c.before q table)
    (length-walk_seen-le a.state a.rows.now a.dir.now a.pages.now (length a.list.now) s.requires q table
    ).1
    c.if-count-gt-MOST_PAGES.true

same-length-2 : tie.Need-shape_of-list
same-length-2 c = same c.before

returns-2 : tie.Need-returns
returns-2 c = λ q table.
    Put-pages (start c.before).args.list.now _ _ _ (seen-wrote c.before q table) c.if-count-gt-MOST_PAGES.false

pub note_pages_spec : {M : Type 1} → statement M
note_pages_spec =
    tie.close
    (tie.spec
    shared-slice-read-word
    is-leaf-requires
    note-requires
    walk-requires
    same_length
    returns
    same-length-2
    returns-2)
