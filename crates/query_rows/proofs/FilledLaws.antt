-- Laws of the rows filled so far: none, and one pair more. Assumes nothing.
use Prim.Native.Nat.{ℕ, suc, ◌+◌, ◌*◌, ◌/◌, ◌%◌, ◌^◌, ◌≤◌, ◌<◌}
use mathlib.Core.Path.{◌≡◌, refl, sym, ap, ◌∙◌, subst}
use mathlib.Core.List.{List, [], ◌∷◌}
use mathlib.Core.Logic.{◌⊎◌, inl, inr}
use native.Mathlib.Omega.{arith}
use native.Mathlib.Numerals.{add-one}
use lib.ListN.{get_or, length}
use Rattle.lists.proofs.Numbers.{lt-or-le}
use Rattle.shape.specs.Shape.{Fit}
use Rattle.split.specs.Steps.{steps, step_number, steps_below}
use Rattle.split.proofs.StepLaws.{length-steps_below-step, length-steps_below-skip}
use Rattle.region.specs.Query.{QueryBit}
use Rattle.page_ends.specs.Ends.{fixed_bits}
use lib.Seq.{sets, length-sets}
use Rattle.query_rows.specs.Private.{RowsFilled}
use Rattle.query_rows.specs.Rows.{value_bit, step_row, row_list, fixed_in}
use Rattle.query_rows.proofs.FixedLaws.{fixed_bits-here, fixed_bits-lt}
use Rattle.query_rows.proofs.StoreRunLaws.{get_d_sets_before, get_d-sets-after, get_d_sets}
use Rattle.query_rows.specs.declared.Row.{Row}

-- with the bits that are fixed at depth 0
pub filled_zero : (ws : List ℕ) (q : ℕ → QueryBit) (t : ℕ) (rows : List ℕ) → get_or rows 5 0 ≡ fixed_bits ws 0
    → RowsFilled ws q t 0 0 rows
unfolding steps_below
filled_zero ws q t rows e = record {
  counted = λ l. refl;
  short = omega arith;
  low = omega arith;
  row = λ y i h. absurd (omega arith);
  fixed =
      λ y h.
      let z : 0 ≡ y = omega arith in
      subst (λ n. fixed_in rows n ≡ fixed_bits ws n) z e;
}

module _ (ws : List ℕ) (q : ℕ → QueryBit) (t g x : ℕ) (rows : List ℕ) (inv : RowsFilled ws q t g x rows) where
  -- all rows are there
  pub filled-done : t ≤ x → g < 64 → (later : List ℕ) (y : ℕ) → later ≡ rows → y ≡ x → RowsFilled ws q t (g + 1) y later
  filled-done h l later y el ey =
      rw (el, ey)
      (record {
        counted = λ k. absurd (omega arith);
        short = inv.short;
        low = omega arith;
        row = inv.row;
        fixed = inv.fixed;
      })

  -- after 64 pairs
  pub filled_all : t ≤ length (steps ws) → 64 ≤ g → t ≤ x
  unfolding steps
  filled_all h l = go (lt-or-le x t)
    where
      go : (x < t) ⊎ (t ≤ x) → t ≤ x
      go (inl k) =
          let e : g ≡ 64 = omega (arith, inv.low) in
          absurd (omega (arith, inv.counted k ∙ ap (λ n. length (steps_below ws n)) e))
      go (inr k) = k

  module _ (next : x < t) where
    pub filled-skip : g < 64 → get_or ws (g % 4) 0 ≤ g / 4 → (later : List ℕ) (y : ℕ) → later ≡ rows → y ≡ x
        → RowsFilled ws q t (g + 1) y later
    filled-skip l h later y el ey =
        rw (el, ey)
        (record {
          counted =
              λ k. omega (
                arith,
                inv.counted next,
                length-steps_below-skip ws g h,
                ap (λ n. length (steps_below ws n)) (add-one g),
              );
          short = inv.short;
          low = omega arith;
          row = inv.row;
          fixed = inv.fixed;
        })

    -- the row of the pair at place g
    module _ (fit : Fit ws) (h : g / 4 < get_or ws (g % 4) 0) (row : Row)
        (er : row_list row ≡ step_row ws q (length (steps_below ws g))) where
      here : row_list row ≡ step_row ws q x
      here = er ∙ ap (step_row ws q) (sym (inv.counted next))

      -- one bit more is fixed
      fixed-next : fixed_in rows x + row.value ≡ fixed_bits ws (suc x)
      unfolding step_row step_number
      fixed-next =
          let place : 4 * (g / 4) + g % 4 ≡ g = omega arith in
          let number : step_number ws (g / 4) (g % 4) ≡ x =
          ap (λ n. length (steps_below ws n)) place ∙ sym (inv.counted next) in
          let value : row.value ≡ value_bit ws x = ap (λ l. get_or l 4 0) here in
          let old = inv.fixed x (omega arith) in
          cc (old, value, fixed_bits-here ws fit x (g / 4) (g % 4) (omega arith) h number)

      pub fixed-fits : fixed_in rows x + row.value < 2 ^ 64
      fixed-fits = rw fixed-next (fixed_bits-lt ws (suc x))

      -- the mask of the next row
      abbrev mask : List ℕ
      mask = (fixed_in rows x + row.value) ∷ []

      -- the table with the row in it, and the mask of the next
      abbrev stored : List ℕ
      stored = sets (sets rows (x * 6) (row_list row)) (x * 6 + 11) mask

      pub length-stored : (later : List ℕ) → later ≡ stored → length later ≡ length rows
      length-stored later e =
          ap length e
          ∙ length-sets (sets rows (x * 6) (row_list row)) (x * 6 + 11) mask
          ∙ length-sets rows (x * 6) (row_list row)

      pub filled-step : g < 64 → t ≤ 12 → 83 ≤ length rows → (later : List ℕ) (y : ℕ)
          → later ≡ stored → y ≡ x + 1 → RowsFilled ws q t (g + 1) y later
      filled-step l short lent later z el ez =
          rw ez
          (record {
            counted =
                λ k. omega (
                  arith,
                  inv.counted next,
                  length-steps_below-step ws g h,
                  ap (λ n. length (steps_below ws n)) (add-one g),
                );
            short = omega arith;
            low = omega arith;
            row = λ y i a b. each y i b (lt-or-le y x) a;
            fixed = λ y a. fixed-each y a (lt-or-le y x) (lt-or-le y (x + 1));
          })
        where
          mid : List ℕ
          mid = sets rows (x * 6) (row_list row)

          -- before the next row's mask stands what the row left
          before : (i : ℕ) → i < x * 6 + 11 → get_or later i 0 ≡ get_or mid i 0
          before i c = ap (λ r. get_or r i 0) el ∙ get_d_sets_before mid (x * 6 + 11) mask i c

          each : (y i : ℕ) → i < 5 → (y < x) ⊎ (x ≤ y) → y < x + 1
              → get_or later (y * 6 + i) 0 ≡ get_or (step_row ws q y) i 0
          each y i b (inl c) a =
              before (y * 6 + i) (omega arith)
              ∙ get_d_sets_before rows (x * 6) (row_list row) (y * 6 + i) (omega arith)
              ∙ inv.row y i c b
          each y i b (inr c) a =
              let e : y ≡ x = omega arith in
              before (y * 6 + i) (omega arith)
              ∙ ap (λ u. get_or mid (u * 6 + i) 0) e
              ∙ get_d_sets rows (x * 6) (row_list row) i (omega arith) (omega arith)
              ∙ ap (λ r. get_or r i 0) here
              ∙ ap (λ u. get_or (step_row ws q u) i 0) (sym e)

          fixed-each : (y : ℕ) → y ≤ x + 1 → (y < x) ⊎ (x ≤ y) → (y < x + 1) ⊎ (x + 1 ≤ y)
              → fixed_in later y ≡ fixed_bits ws y
          fixed-each y a (inl c) d =
              before (y * 6 + 5) (omega arith)
              ∙ get_d_sets_before rows (x * 6) (row_list row) (y * 6 + 5) (omega arith)
              ∙ inv.fixed y (omega arith)
          fixed-each y a (inr c) (inl d) =
              before (y * 6 + 5) (omega arith)
              ∙ get_d-sets-after rows (x * 6) (row_list row) (y * 6 + 5) (omega arith)
              ∙ inv.fixed y (omega arith)
          fixed-each y a (inr c) (inr d) =
              let e : y * 6 + 5 ≡ x * 6 + 11 + 0 = omega arith in
              let last : suc x ≡ y = omega arith in
              let room : x * 6 + 11 + 1 ≤ length mid =
              omega (arith, length-sets rows (x * 6) (row_list row)) in
              ap (λ i. get_or later i 0) e
              ∙ ap (λ r. get_or r (x * 6 + 11 + 0) 0) el
              ∙ get_d_sets mid (x * 6 + 11) mask 0 room (omega arith)
              ∙ fixed-next
              ∙ ap (fixed_bits ws) last
