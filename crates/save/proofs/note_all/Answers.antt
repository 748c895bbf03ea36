-- The rows are those of a query that gives nothing.
use Rattle.std.proofs.Common.{ℕ, ◌≡◌, List, length, subst, arith}
use Rattle.std.proofs.Math.Option.{Option, none}
use Rattle.shape.specs.Shape.{widths_of}
use Rattle.shape.specs.Key.{per_attribute}
use Rattle.shape.proofs.ShapeLaws.{shape_number-true}
use Rattle.store.specs.declared.State.{State}
use Rattle.query_rows.specs.Rows.{Rows, Table, wanted_at, limited}
use Rattle.query_rows.proofs.TableLaws.{rows-free, Table-limited}
use Rattle.list_call.specs.Lent.{LimitsLent}
use Rattle.save.specs.Private.{free_bits}
use Rattle.save.proofs.CallLaws.{walkable-free}
use Rattle.save.proofs.note_all.Goals as goal

-- the table, once the limits are put behind the rows
tabled : (st : State) (words bytes : ℕ) → LimitsLent st words bytes → (query : List (Option ℕ))
    → query ≡ per_attribute (λ j. none) → (rows : List ℕ)
    → Rows (widths_of st.shape) (wanted_at (widths_of st.shape) query) st.deepest rows → length rows ≡ 83
    → (rows' : List ℕ) → rows' ≡ limited st rows → Table st free_bits rows'
tabled st words bytes lent query free rows h long rows' same =
    let ws = widths_of st.shape in
    rw same
    (Table-limited st rows lent.depth-twelve free_bits
    (rows-free ws st.deepest rows (subst (λ v. Rows ws (wanted_at ws v) st.deepest rows) free h)) (omega (arith, long)))

pub fill_limits-requires : goal.fill_limits-requires
fill_limits-requires c = shape_number-true c.args.state.shape c.requires.0.shape

pub note_pages-requires : goal.note_pages-requires
note_pages-requires c =
    let a = c.args in
    walkable-free a.state (length a.dir.now) (length a.pages.now) c.requires.0 _ (length a.list.now)
    (tabled a.state _ _ c.requires.0 _ c.free_query.ensures _ c.fill_rows.ensures.1 c.fill_rows.ensures.0 _
    c.fill_limits.ensures) c.requires.1

pub returns : goal.returns
returns c =
    c.note_pages.ensures free_bits
    (tabled c.args.state _ _ c.requires.0 _ c.free_query.ensures _ c.fill_rows.ensures.1 c.fill_rows.ensures.0 _
    c.fill_limits.ensures)
