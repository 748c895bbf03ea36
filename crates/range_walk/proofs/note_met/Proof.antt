-- `range_walk::note_met` meets its contract: the walk by rows starts at the empty string, whose region is noted where
-- it is a leaf. Assumes nothing.
use Prim.Native.Nat.{ℕ, ◌-◌}
use mathlib.Core.Path.{◌≡◌, sym, ◌∙◌, subst}
use mathlib.Core.Bool.{Bool}
use native.Mathlib.Omega.{arith}
use lib.ListN.{get_or, length}
use lib.Pow.{pow_pos}
use borrow.Author.Tests.{eqb-true, eqb-false}
use Rattle.shape.specs.Shape.{widths_of}
use Rattle.query_rows.specs.Rows.{deepest_in}
use Rattle.query_seen.specs.Seen.{walk_seen_by}
use Rattle.query_walk.specs.Turns.{leaf_by, Wrote, Turn}
use Rattle.query_walk.proofs.PutLaws.{Put-pages, Put-damaged}
use Rattle.query_walk.proofs.StartLaws.{Turn-start}
use Rattle.query_walk.proofs.TurnLaws.{leaf-asked}
use Rattle.query_walk.proofs.WroteLaws.{Wrote-same}
use Rattle.range_walk.specs.Meeting.{TellsMeeting}
use Rattle.range_walk.specs.Private.{meets_by_row}
use Rattle.range_walk.proofs.StartLaws.{met_by_rows, met_by_rows-walk_seen_by, length-walk_seen_by-le}
use Rattle.range_walk.proofs.TurnLaws.{Wrote-leaf}
use Rattle.range_walk.proofs.note_met.Statement.{statement}
use Rattle.range_walk.proofs.note_met.Lts.{then-is_leaf, else-is_leaf}
use Rattle.range_walk.proofs.note_met.Tie as tie

turn : (s : tie.Start)
    → Turn s.args.rows.now s.args.dir.now (length s.args.pages.now) (length s.args.list.now) 0 0 0 0
turn s =
    Turn-start s.args.state s.args.rows.now s.args.dir.now s.args.pages.now
    (length s.args.list.now) s.requires.0

-- where the call began
abbrev start : tie.Joined-is_leaf → tie.Start
start c = c.before.before.before.before.before.before

-- what was noted, by one leaf or by the walk
wrote : (c : tie.Joined-is_leaf)
    → let a = (start c).args in
    Wrote a.list.now 0
    (met_by_rows a.state a.rows.now a.dir.now a.pages.now (length a.list.now) (start c).requires.0
    a.low a.high)
    c.if-is_leaf.count c.if-is_leaf.list
wrote c =
    let a = c.args in
    elim c.if-is_leaf.branch [
      | then-is_leaf w ↦
          Wrote-same w.count-is w.list-is
          (Wrote-leaf a.rows.now a.dir.now (leaf_by a.rows.now a.pages.now)
          (meets_by_row a.rows.now a.low a.high) (deepest_in a.rows.now) 0 0 0
          (get_or a.dir.now 0 0) a.list.now 0 _ _
          (eqb-true _ _ (sym c.is_leaf.ensures ∙ w.if-is_leaf.true)) w.note-count.ensures)
      | else-is_leaf w ↦ Wrote-same w.count-is w.list-is w.walk-count.ensures
    ]

same : (c : tie.Joined-is_leaf) → length c.if-is_leaf.list ≡ length (start c).args.list.now
same c = c.if-is_leaf.long-list

-- for each test that tells which regions meet the box
seen-wrote : (c : tie.Joined-is_leaf) (enter : ℕ → (ℕ → Bool) → Bool)
    → let a = (start c).args in
    TellsMeeting (widths_of a.state.shape) a.state.deepest a.low a.high enter
    → Wrote a.list.now 0 (walk_seen_by a.state a.dir.now a.pages.now enter) c.if-is_leaf.count c.if-is_leaf.list
seen-wrote c enter tells =
    let s = start c in
    let a = s.args in
    subst (λ u. Wrote a.list.now 0 u c.if-is_leaf.count c.if-is_leaf.list)
    (met_by_rows-walk_seen_by a.state a.rows.now a.dir.now a.pages.now (length a.list.now) s.requires.0
    a.low a.high enter tells)
    (wrote c)

shared-slice-read-word : tie.Need-bounds-dir-0
shared-slice-read-word c =
    let s = c.before.before.before.before in
    omega (arith, s.requires.0.words-lent, pow_pos s.args.state.deepest)

is-leaf-requires : tie.Need-is_leaf-requires
is-leaf-requires c κs = tt

note-requires : tie.Need-note-count-requires
note-requires c κs = leaf-asked (turn c.before.before.before.before.before.before.before)

walk-requires : tie.Need-walk-count-requires
walk-requires c κs =
    let s = c.before.before.before.before.before.before.before in
    let a = s.args in
    let all : deepest_in a.rows.now - 0 ≡ a.state.deepest = omega (arith, s.requires.0.table.depth-of) in (
      turn s,
      (
        rw all (omega (arith, s.requires.1)),
        eqb-false _ _ (sym c.is_leaf.ensures ∙ c.if-is_leaf.false),
      ),
    )

same_length : tie.Need-shape_of-list-then-count-gt-MOST_PAGES
same_length c = same c.before

returns : tie.Need-returns-then-count-gt-MOST_PAGES
returns c =
    let s = start c.before in
    let a = s.args in λ enter tells.
    Put-damaged a.list.now _ _ _ (seen-wrote c.before enter tells)
    (length-walk_seen_by-le a.state a.rows.now a.dir.now a.pages.now (length a.list.now) s.requires.0
    enter)
    c.if-count-gt-MOST_PAGES.true

same-length-2 : tie.Need-shape_of-list
same-length-2 c = same c.before

returns-2 : tie.Need-returns
returns-2 c = λ enter tells.
    Put-pages (start c.before).args.list.now _ _ _ (seen-wrote c.before enter tells) c.if-count-gt-MOST_PAGES.false

pub note_met_spec : {M : Type 1} → statement M
note_met_spec =
    tie.close
    (tie.spec
    shared-slice-read-word
    is-leaf-requires
    note-requires
    walk-requires
    same_length
    returns
    same-length-2
    returns-2)
