-- The walk by rows sees what the walk over strings sees, from the empty string on. Assumes nothing.
use Prim.Native.Nat.{ℕ, zero, suc, ◌+◌, ◌*◌, ◌-◌, ◌≤◌, ◌<◌}
use mathlib.Core.Path.{◌≡◌, refl, sym, ap, ◌∙◌, subst}
use mathlib.Core.Bool.{Bool, true, false, cond, ◌&&◌}
use mathlib.Core.List.{List}
use native.Mathlib.Omega.{arith}
use native.Mathlib.Nat.{le_trans}
use lib.Pow.{pow_mono}
use lib.ListN.{get_or, length}
use Rattle.shape.specs.Shape.{Fit, widths_of, within}
use Rattle.split.specs.Steps.{steps}
use Rattle.address.specs.Address.{address}
use Rattle.address.proofs.DoublingLaws.{address-zero}
use Rattle.cell.specs.Cell.{cell, cell_address}
use Rattle.cell.proofs.CellLaws.{cell-zero}
use Rattle.region.specs.Strings.{with_bit, empty_string}
use Rattle.region.specs.Query.{QueryBit, free, given, bit_agrees, agrees, query_enters}
use Rattle.region.proofs.QueryLaws.{query_enters-side}
use Rattle.record.specs.Lanes.{bias_key}
use Rattle.page.specs.Page.{count_of, page_at}
use Rattle.store.specs.declared.State.{State}
use Rattle.shape.proofs.ShapeLaws.{shape_number-true, capacity-bounds}
use Rattle.query_rows.specs.Corners.{Corner}
use Rattle.query_rows.specs.Rows.{wanted_number, value_bit, step_row, bit_in, wanted_bit_in, value_in, fixed_in, Rows}
use Rattle.query_rows.specs.Rows.{capacity_in, bias_in, deepest_in, tallied_in, has_depth}
use Rattle.query_rows.specs.Rows.{Table, most_pages}
use Rattle.query_rows.specs.Vectors.{packed, row_address}
use Rattle.query_rows.proofs.CornerLaws.{Corner-lower, Corner-upper, Corner-zero, ends_agree-corner}
use Rattle.query_rows.proofs.DepthLaws.{has_depth-tallied_depths}
use Rattle.query_rows.proofs.MostLaws.{most_pages-le}
use Rattle.query_rows.proofs.TableLaws.{fit-steps}
use Rattle.query_seen.specs.Seen.{Seen, nothing, damaged, after, fair_page, tallied, noted, leaf_seen, met, seen}
use Rattle.query_seen.specs.Seen.{walk_seen_by, walk_seen}
use Rattle.query_seen.proofs.SeenLaws.{after_nothing, nothing-after}
use Rattle.query_walk.specs.Noting.{Walkable}
use Rattle.query_walk.specs.Private.{wanted_sides, seen_by}
use Rattle.query_walk.specs.Turns.{fair_by, leaf_by, Turn}
use Rattle.query_walk.proofs.BoundLaws.{OnePage-leaf_by, length-seen_by-le}
use Rattle.query_walk.proofs.SideLaws.{by-lower, by-upper}

-- ---- by rows and over strings

module _ (ws : List ℕ) (fit : Fit ws) (q : ℕ → QueryBit) (T : ℕ) (bits : T ≤ length (steps ws)) (twelve : T ≤ 12)
    (rows : List ℕ) (table : Rows ws q T rows) (words : List ℕ) (leaf : ℕ → (ℕ → Bool) → ℕ → Seen)
    (leaf_by : ℕ → ℕ → ℕ → Seen)
    -- both see a leaf alike
    (alike : (x : ℕ) (p : ℕ → Bool) (k w : ℕ) → x ≤ T → Corner ws x p k → leaf_by x k w ≡ leaf x p w) where
  abbrev word_over : ℕ → (ℕ → Bool) → ℕ
  word_over x p = get_or words (cell_address ws x p) 0

  abbrev over : ℕ → (ℕ → Bool) → ℕ → Seen
  over = seen word_over leaf (query_enters q) T

  -- the sides that the row's number lets in are those that the query agrees with
  wanted_sides-after : (x : ℕ) (p : ℕ → Bool) → x < T → agrees q p x 0 ≡ true → (s u s' u' : Seen)
      → (query_enters q (suc x) (with_bit p x false) ≡ true → s ≡ s')
      → (query_enters q (suc x) (with_bit p x true) ≡ true → u ≡ u')
      → wanted_sides (wanted_bit_in rows x) s u
      ≡ after (cond (query_enters q (suc x) (with_bit p x false)) s' nothing)
      (cond (query_enters q (suc x) (with_bit p x true)) u' nothing)
  unfolding wanted_sides step_row
  wanted_sides-after x p l e s u s' u' hs hu =
      rw (table.row x 3 l (omega arith), query_enters-side q p x false e, query_enters-side q p x true e)
      (by_bit (q x) (λ d. hs (query_enters-side q p x false e ∙ d)) (λ d. hu (query_enters-side q p x true e ∙ d)))
    where
      by_bit : (w : QueryBit) → (bit_agrees w false ≡ true → s ≡ s') → (bit_agrees w true ≡ true → u ≡ u')
          → wanted_sides (wanted_number w) s u
          ≡ after (cond (bit_agrees w false) s' nothing) (cond (bit_agrees w true) u' nothing)
      by_bit free h k = rw (h refl, k refl)
      by_bit (given false) h k = h refl ∙ sym (after_nothing s')
      by_bit (given true) h k = k refl ∙ sym (nothing-after u')

  seen_by-seen : (f x : ℕ) (p : ℕ → Bool) (k : ℕ) → x + f ≡ T → agrees q p x 0 ≡ true → Corner ws x p k
      → seen_by rows words leaf_by T f x (packed (cell ws x p)) k (word_over x p) ≡ over f p x
  unfolding seen_by seen step_row cell_address
  seen_by-seen zero x p k e a c =
      ap (λ s. met T x (word_over x p) s damaged) (alike x p k (word_over x p) (omega arith) c)
  seen_by-seen (suc f) x p k e a c =
      λ i. met T x (word_over x p) (alike x p k (word_over x p) (omega arith) c i)
      (wanted_sides-after x p inner a _ _ _ _
      (λ d. lower
      ∙ seen_by-seen f (suc x) (with_bit p x false) k (omega arith) d (Corner-lower ws fit x step-lt p k c))
      (λ d. upper
      ∙ seen_by-seen f (suc x) (with_bit p x true) (k + value_bit ws x) (omega arith) d
      (Corner-upper ws fit x step-lt p k c)) i)
    where
      inner : x < T
      inner = omega arith

      step-lt : x < length (steps ws)
      step-lt = omega arith

      by : ℕ → ℕ → ℕ → ℕ → Seen
      by = seen_by rows words leaf_by T f

      lower : by (x + 1) (packed (cell ws x p)) k (word_over x p)
          ≡ by (suc x) (packed (cell ws (suc x) (with_bit p x false))) k (word_over (suc x) (with_bit p x false))
      lower = by-lower ws fit x step-lt p words (λ y v w. by y v k w)

      upper : by (x + 1) (packed (cell ws x p) + bit_in rows x) (k + value_in rows x)
          (get_or words (row_address rows (x * 6) (packed (cell ws x p) + bit_in rows x)) 0)
          ≡ by (suc x) (packed (cell ws (suc x) (with_bit p x true))) (k + value_bit ws x)
          (word_over (suc x) (with_bit p x true))
      upper = by-upper ws fit x step-lt p words by q T rows table inner twelve k

-- ---- from the empty string

module _ (st : State) (rows words bytes : List ℕ) (room : ℕ)
    (h : Walkable st rows (length words) (length bytes) room) where
  abbrev ws : List ℕ
  ws = widths_of st.shape

  pub fits : (Fit ws) × (st.deepest ≤ length (steps ws))
  unfolding widths_of
  fits = fit-steps st.shape _ _ _ _ st.deepest h.shape refl h.depth-bits

  pub Turn-start : Turn rows words (length bytes) room 0 0 0 0
  Turn-start =
      let t = h.table in
      let most = pow_mono {j = 12} h.depth-twelve in
      let all : deepest_in rows - 0 ≡ st.deepest = omega (arith, t.depth-of) in
      record {
        lent = record {
          most-pages = rw t.pages h.most-pages;
          capacity = rw t.capacity (capacity-bounds st.shape (shape_number-true st.shape h.shape)).1;
          pages-lent = rw (t.pages, t.capacity) h.pages-lent;
        };
        depth-twelve = rw t.depth-of h.depth-twelve;
        words-lent = rw t.depth-of h.words-lent;
        widths = ws;
        query = h.query;
        string = empty_string;
        fit = fits.0;
        bits = rw t.depth-of fits.1;
        table = rw t.depth-of t.rows_of;
        vector = sym (ap packed (cell-zero ws empty_string));
        cornered = Corner-zero ws;
        deep = omega arith;
        count = rw all (omega arith);
        left = rw all (omega (arith, h.list-lent));
      }

  -- a walk to depth t with f steps left from the cell of vector v with word w: from the zero vector it starts at the
  -- empty string
  pub from_start : (by : ℕ → ℕ → ℕ → ℕ → Seen)
      → by (deepest_in rows) (deepest_in rows - 0) 0 (get_or words 0 0)
      ≡ by st.deepest st.deepest (packed (cell ws 0 empty_string)) (get_or words (cell_address ws 0 empty_string) 0)
  unfolding cell_address
  from_start by =
      let T = st.deepest in
      let all : T - 0 ≡ T = omega arith in
      let none = cell-zero ws empty_string in
      ap (λ t. by t (t - 0) 0 (get_or words 0 0)) h.table.depth-of
      ∙ ap (λ f. by T f 0 (get_or words 0 0)) all
      ∙ ap (λ v. by T T v (get_or words 0 0)) (sym (ap packed none))
      ∙ ap (λ a. by T T (packed (cell ws 0 empty_string)) (get_or words a 0))
      (sym (ap (address ws) none ∙ address-zero ws))

  -- the walk by rows from the zero vector and the zero corner, to depth T
  abbrev pub by_rows : ℕ → Seen
  by_rows T = seen_by rows words (leaf_by rows bytes) T (T - 0) 0 0 0 (get_or words 0 0)

  length-by_rows-le : (length (by_rows st.deepest).pages ≤ room) × (length (by_rows st.deepest).pages ≤ 4096)
  length-by_rows-le =
      let all : st.deepest - 0 ≡ st.deepest = omega arith in
      let most = pow_mono {j = 12} h.depth-twelve in
      let l = length-seen_by-le rows words (leaf_by rows bytes) st.deepest (OnePage-leaf_by rows bytes)
      (st.deepest - 0)
      0 0 0 (get_or words 0 0) in
      let e = ap (λ f. most_pages rows f 0) all in (
        omega (arith, l, e, h.list-lent),
        omega (arith, l, e, most, most_pages-le rows st.deepest 0),
      )

  -- the table is that of this query
  module _ (q : ℕ → QueryBit) (table : Table st q rows) where
    -- a leaf's page, by its corner
    fair-alike : (x : ℕ) (p : ℕ → Bool) (k : ℕ) → x ≤ st.deepest → Corner ws x p k → (g : ℕ)
        → fair_by (capacity_in rows) (bias_in rows) (fixed_in rows x) k (page_at (capacity_in rows) bytes g)
        ≡ fair_page st.shape bytes x p g
    unfolding fair_page fair_by widths_of
    fair-alike x p k l c g =
        let b = st.shape.capacity in
        let page = page_at b bytes g in
        ap (λ n. fair_by n (bias_in rows) (fixed_in rows x) k (page_at n bytes g)) table.capacity
        ∙ ap (λ h. fair_by b h (fixed_in rows x) k page) table.bias
        ∙ ap (λ m. fair_by b (bias_key st.shape) m k page) (table.rows_of.fixed x l)
        ∙ ap (λ β. within 1 b (count_of page) && β)
        (ends_agree-corner ws fits.0 x p k c refl (le_trans l h.depth-bits) (bias_key st.shape)
        page (count_of page))

    -- and its word
    pub leaf-alike : (x : ℕ) (p : ℕ → Bool) (k w : ℕ) → x ≤ st.deepest → Corner ws x p k
        → leaf_by rows bytes x k w ≡ leaf_seen st bytes x p w
    unfolding tallied
    leaf-alike x p k w l c =
        let has : has_depth (tallied_in rows) x ≡ tallied st.tally x =
        ap (λ d. has_depth d x) table.depths ∙ has_depth-tallied_depths st.tally.leaves x in
        λ i. noted (table.pages i) (has i) (λ g. fair-alike x p k l c g i) w

    pub by_rows-walk_seen : by_rows (deepest_in rows) ≡ walk_seen st words bytes q
    unfolding walk_seen_by
    by_rows-walk_seen =
        let T = st.deepest in
        from_start (λ t f v w. seen_by rows words (leaf_by rows bytes) t f 0 v 0 w)
        ∙ seen_by-seen ws fits.0 q T fits.1 h.depth-twelve rows table.rows_of words (leaf_seen st bytes)
        (leaf_by rows bytes) leaf-alike T 0 empty_string 0 (omega arith) refl (Corner-zero ws)

    -- they have room in the list
    pub length-walk_seen-le : (length (walk_seen st words bytes q).pages ≤ room)
        × (length (walk_seen st words bytes q).pages ≤ 4096)
    length-walk_seen-le =
        subst (λ s. (length s.pages ≤ room) × (length s.pages ≤ 4096))
        (ap by_rows (sym table.depth-of) ∙ by_rows-walk_seen) length-by_rows-le
