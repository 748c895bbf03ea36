-- The range call's walk by rows from the empty string. Assumes nothing.
use Prim.Native.Nat.{ℕ, ◌-◌, ◌≤◌}
use mathlib.Core.Path.{◌≡◌, ap, ◌∙◌}
use mathlib.Core.Bool.{Bool}
use mathlib.Core.List.{List}
use native.Mathlib.Omega.{arith}
use native.Mathlib.Nat.{le_trans}
use lib.ListN.{get_or, length}
use lib.Pow.{pow_mono}
use Rattle.shape.specs.Shape.{widths_of}
use Rattle.region.specs.Strings.{empty_string}
use Rattle.store.specs.declared.State.{State}
use Rattle.store.specs.Store.{word_at}
use Rattle.query_rows.specs.Rows.{deepest_in}
use Rattle.query_rows.proofs.CornerLaws.{Corner-zero}
use Rattle.query_seen.specs.Seen.{Seen, leaf_seen, walk_seen_by}
use Rattle.query_seen.proofs.BoundLaws.{length-noted-le, length-seen-le}
use Rattle.query_walk.specs.Noting.{Walkable}
use Rattle.query_walk.specs.Turns.{leaf_by}
use Rattle.query_walk.proofs.StartLaws.{fits, leaf-alike, from_start}
use Rattle.range_walk.specs.Meeting.{corner_meets, TellsMeeting}
use Rattle.range_walk.specs.Private.{seen_meeting, meets_by_row}
use Rattle.range_walk.proofs.SeenLaws.{seen_meeting-seen}

module _ (st : State) (rows words bytes : List ℕ) (room : ℕ)
    (h : Walkable st rows (length words) (length bytes) room) where
  -- from the zero vector and the zero corner, with the test that the table gives
  abbrev pub met_by_rows : ℕ → ℕ → Seen
  met_by_rows low high =
      seen_meeting rows words (leaf_by rows bytes) (meets_by_row rows low high) (deepest_in rows) (deepest_in rows - 0) 0 0 0
      (get_or words 0 0)

  module _ (low high : ℕ) (enter : ℕ → (ℕ → Bool) → Bool)
      (tells : TellsMeeting (widths_of st.shape) st.deepest low high enter) where
    pub met_by_rows-walk_seen_by : met_by_rows low high ≡ walk_seen_by st words bytes enter
    unfolding walk_seen_by
    met_by_rows-walk_seen_by =
        let T = st.deepest in
        let ws = widths_of st.shape in
        let f = fits st rows words bytes room h in
        from_start st rows words bytes room h
        (λ t f v w. seen_meeting rows words (leaf_by rows bytes) (meets_by_row rows low high) t f 0 v 0 w)
        ∙ seen_meeting-seen ws f.0 h.query T f.1 h.depth-twelve rows h.table.rows_of words
        (leaf_seen st bytes) (leaf_by rows bytes)
        (leaf-alike st rows words bytes room h h.query h.table) enter (meets_by_row rows low high)
        (λ x p k l c. ap (λ mask. corner_meets mask low high k) (h.table.rows_of.fixed x l) ∙ tells x p k l c)
        T 0 empty_string 0 (omega arith) (Corner-zero ws)

  -- at most 2^T pages are seen, whatever is entered
  pub length-walk_seen_by-le : (enter : ℕ → (ℕ → Bool) → Bool)
      → length (walk_seen_by st words bytes enter).pages ≤ 4096
  unfolding walk_seen_by
  length-walk_seen_by-le enter =
      le_trans
      (length-seen-le (λ x p. word_at st.shape x words p) (leaf_seen st bytes) enter st.deepest
      (λ x p w. length-noted-le st.limits.pages _ _ w) st.deepest empty_string 0)
      (pow_mono {j = 12} h.depth-twelve)
