-- Laws of cells in one number: a cell fits; the address of a 1-side from the row of its step. Assumes nothing.
use Prim.Native.Nat.{ℕ, suc, ◌+◌, ◌*◌, ◌/◌, ◌%◌, ◌^◌, ◌≤◌, ◌<◌}
use mathlib.Core.Path.{◌≡◌, refl, sym, ap, ◌∙◌, subst}
use mathlib.Core.Bool.{Bool, true}
use mathlib.Core.List.{List}
use native.Mathlib.Omega.{arith}
use native.Mathlib.Nat.{le_trans}
use lib.Pow.{pow-add, pow_mono, shl_lt}
use lib.ListN.{get_or, length}
use lib.Seq.{get_or-set_same}
use Rattle.shape.specs.Shape.{Fit}
use Rattle.split.specs.Steps.{step, steps, bit_value, attribute_depth}
use Rattle.split.proofs.StepLaws.{StepBelow}
use Rattle.split.proofs.DepthLaws.{attribute_depth-width, step_of, step-here}
use Rattle.address.specs.Address.{formula, address}
use Rattle.address.specs.Doubling.{sides}
use Rattle.address.proofs.SideLaws.{In-sides-get}
use Rattle.address.proofs.AppendLaws.{address-new}
use Rattle.cell.specs.Cell.{cell, cell_address}
use Rattle.cell.proofs.CellLaws.{plus, length-cell, In-cell, cell-suc, cell_agree, cell_address-lt}
use Rattle.region.specs.Strings.{with_bit}
use Rattle.region.specs.Query.{QueryBit}
use Rattle.region.proofs.StringLaws.{with_bit-same, with_bit-other}
use Rattle.query_rows.specs.Rows.{attribute_depths, shift_of, multiplier, step_row, Rows}
use Rattle.query_rows.specs.Vectors.{packed, row_address, Addressable}
use Rattle.query_rows.proofs.LaneLaws.{four_numbers, four_numbers-of, packed-halves, packed_lt, packed-plus}
use Rattle.query_rows.proofs.LaneLaws.{half_address-multiplier, multiplier_lt}
use Rattle.query_rows.proofs.ShiftLaws.{formula-shifted, shift_of-step-le, shift_of-cross}

-- ---- the multipliers in the table

module _ (ws : List ℕ) (t : ℕ) (q : ℕ → QueryBit) (T : ℕ) (rows : List ℕ) (table : Rows ws q T rows) (l : t < T) where
  -- the shifts of a step of attribute z
  abbrev shift : ℕ → ℕ → ℕ
  shift z = shift_of z (attribute_depths ws t)

  multipliers : (z : ℕ) → (step ws t).attribute ≡ z
      → (get_or rows (t * 6) 0 ≡ multiplier (shift z 0) (shift z 1))
      × (get_or rows (t * 6 + 1) 0 ≡ multiplier (shift z 2) (shift z 3))
  unfolding step_row
  multipliers z e =
      let first : t * 6 ≡ t * 6 + 0 = omega arith in (
        ap (λ x. get_or rows x 0) first
            ∙ table.row t 0 l (omega arith)
            ∙ ap (λ y. multiplier (shift y 0) (shift y 1)) e,
        table.row t 1 l (omega arith) ∙ ap (λ y. multiplier (shift y 2) (shift y 3)) e,
      )

  -- what `address_by` asks
  pub Addressable-row : Fit ws → t < length (steps ws) → T ≤ 12 → Addressable rows (t * 6)
  Addressable-row fit h twelve =
      let s = shift (step ws t).attribute in
      let le : (j : ℕ) → s j ≤ 12 = λ j. omega (arith, shift_of-step-le ws fit t h (step ws t).attribute j) in
      let both = multipliers (step ws t).attribute refl in
      record {
        row = omega arith;
        low = rw both.0 (multiplier_lt (s 0) (s 1) (le 0) (le 1));
        high = rw both.1 (multiplier_lt (s 2) (s 3) (le 2) (le 3));
      }

-- ---- cells

module _ (ws : List ℕ) (fit : Fit ws) where
  -- an index fits its lane
  cell-lane : (t : ℕ) (p : ℕ → Bool) (r : ℕ) → r < 4 → get_or (cell ws t p) r 0 < 2 ^ 16
  cell-lane t p r h =
      let deep : attribute_depth ws t r ≤ 16 = omega (arith, attribute_depth-width ws r t h, fit r) in
      le_trans (In-sides-get ws t (In-cell ws t p) r h) (pow_mono deep)

  pub packed-cell-lt : (t : ℕ) (p : ℕ → Bool) → packed (cell ws t p) < 2 ^ 64
  packed-cell-lt t p =
      rw (four_numbers-of (cell ws t p) (length-cell ws t p))
      (packed_lt _ _ _ _ (cell-lane t p 0 (omega arith)) (cell-lane t p 1 (omega arith)) (cell-lane t p 2 (omega arith))
      (cell-lane t p 3 (omega arith)))

  module _ (t : ℕ) (h : t < length (steps ws)) (p : ℕ → Bool) where
    cell-with_bit : (β : Bool) → cell ws t (with_bit p t β) ≡ cell ws t p
    cell-with_bit β = cell_agree ws fit t (with_bit p t β) p (λ s l. with_bit-other p t β s (λ e. omega arith))

    -- a 1-side has the step's bit besides
    pub packed-upper : packed (cell ws (suc t) (with_bit p t true))
        ≡ packed (cell ws t p) + 2 ^ (16 * (step ws t).attribute + (step ws t).bit)
    packed-upper =
        ap packed upper
        ∙ rw (four_numbers-of (cell ws t p) (length-cell ws t p))
        (packed-plus z (1 * 2 ^ k) _ _ _ _ small ∙ rw (pow-add 2 (16 * z) k) (omega arith))
      where
        z : ℕ
        z = (step ws t).attribute

        k : ℕ
        k = (step ws t).bit

        small : z < 4
        small =
            let d = step_of ws t h in
            subst (λ s. s.attribute < 4) (sym (step-here ws fit d.0 d.1 d.2 d.3 d.4)) d.2

        upper : cell ws (suc t) (with_bit p t true) ≡ plus z (1 * 2 ^ k) (cell ws t p)
        upper =
            cell-suc ws fit t h (with_bit p t true)
            ∙ ap (λ v. plus z (bit_value (with_bit p t true t) * 2 ^ k) v) (cell-with_bit true)
            ∙ ap (λ β. plus z (bit_value β * 2 ^ k) (cell ws t p)) (with_bit-same p t true)

    -- a cell whose bit t is 1 has the step's bit
    new-bit : (k z : ℕ) → z < 4 → step ws t ≡ record { bit = k; attribute = z } → p t ≡ true
        → 2 ^ k ≤ get_or (cell ws (suc t) p) z 0
    new-bit k z hz here e =
        let old = cell ws t p in
        let put : cell ws (suc t) p ≡ plus z (bit_value (p t) * 2 ^ k) old =
        subst (λ s. cell ws (suc t) p ≡ plus s.attribute (bit_value (p t) * 2 ^ s.bit) old) here
        (cell-suc ws fit t h p) in
        let value : get_or (cell ws (suc t) p) z 0 ≡ get_or old z 0 + bit_value (p t) * 2 ^ k =
        ap (λ v. get_or v z 0) put
        ∙ get_or-set_same old z (get_or old z 0 + bit_value (p t) * 2 ^ k) 0
        (subst (λ n. z < n) (sym (length-cell ws t p)) hz) in
        let one : bit_value (p t) * 2 ^ k ≡ 1 * 2 ^ k = ap (λ β. bit_value β * 2 ^ k) e in
        omega arith

    -- the address of a cell that step t appended, from the row of the step
    pub row_address-cell : (q : ℕ → QueryBit) (T : ℕ) (rows : List ℕ) → Rows ws q T rows → t < T → T ≤ 12 → p t ≡ true
        → row_address rows (t * 6) (packed (cell ws (suc t) p)) ≡ cell_address ws (suc t) p
    unfolding row_address cell_address sides
    row_address-cell q T rows table l twelve e = at (step_of ws t h)
      where
        is : List ℕ
        is = cell ws (suc t) p

        i : ℕ → ℕ
        i r = get_or is r 0

        is-four : is ≡ four_numbers (i 0) (i 1) (i 2) (i 3)
        is-four = four_numbers-of is (length-cell ws (suc t) p)

        halves : (packed is % 2 ^ 32 ≡ i 0 + 2 ^ 16 * i 1) × (packed is / 2 ^ 32 ≡ i 2 + 2 ^ 16 * i 3)
        halves =
            subst (λ v. (packed v % 2 ^ 32 ≡ i 0 + 2 ^ 16 * i 1) × (packed v / 2 ^ 32 ≡ i 2 + 2 ^ 16 * i 3))
            (sym is-four)
            (packed-halves (i 0) (i 1) (i 2) (i 3) (cell-lane (suc t) p 0 (omega arith))
            (cell-lane (suc t) p 1 (omega arith)))

        -- the first index of a half, shifted as the second
        cross : (r s : ℕ) → r < 4 → attribute_depth ws (suc t) r + s ≤ suc t → i r * 2 ^ s < 2 ^ 16
        cross r s hr m =
            let depth = attribute_depth ws (suc t) r in
            let small : depth + s ≤ 16 = omega arith in
            le_trans (shl_lt depth s (In-sides-get ws (suc t) (In-cell ws (suc t) p) r hr)) (pow_mono small)

        at : StepBelow ws t 64 → row_address rows (t * 6) (packed is) ≡ address ws is
        at (k, z, hz, hk, number, low) =
            let here = step-here ws fit k z hz hk number in
            let s = shift ws t q T rows table l z in
            let row = multipliers ws t q T rows table l z (ap (λ s. s.attribute) here) in
            let new : 2 ^ k ≤ i z = new-bit k z hz here e in
            let sum : (i 0 * 2 ^ s 0 + i 1 * 2 ^ s 1) + (i 2 * 2 ^ s 2 + i 3 * 2 ^ s 3) ≡ address ws is =
            cc (
              formula-shifted (attribute_depth ws t 0) (attribute_depth ws t 1) (attribute_depth ws t 2)
                  (attribute_depth ws t 3) (i 0) (i 1) (i 2) (i 3) z hz,
              ap (formula z (sides ws t)) is-four,
              address-new ws fit k z hz hk number is (In-cell ws (suc t) p) new,
            ) in
            let fits : address ws is < 2 ^ 16 =
            le_trans (cell_address-lt ws fit (suc t) h p) (pow_mono {j = 16} (omega arith)) in
            let deep = shift_of-cross ws fit t h k z hz hk number in
            cc (
              halves.0,
              halves.1,
              row.0,
              row.1,
              half_address-multiplier (i 0) (i 1) (s 0) (s 1) (omega arith) (cross 0 (s 1) (omega arith) deep.0),
              half_address-multiplier (i 2) (i 3) (s 2) (s 3) (omega arith) (cross 2 (s 3) (omega arith) deep.1),
              sum,
            )
