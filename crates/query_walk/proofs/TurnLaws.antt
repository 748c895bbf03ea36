-- Laws of a turn of the walk by rows: what its calls ask. Assumes nothing.
use Prim.Native.Nat.{ℕ, zero, suc, ◌+◌, ◌*◌, ◌-◌, ◌^◌, ◌≤◌, ◌<◌}
use mathlib.Core.Path.{◌≡◌, sym, ap, ◌∙◌, subst}
use mathlib.Core.Bool.{true, false}
use mathlib.Core.List.{List}
use native.Mathlib.Omega.{arith}
use native.Mathlib.Nat.{pow-suc, le_trans}
use native.Mathlib.Numerals.{add-one}
use lib.Pow.{pow_mono, pow_pos}
use lib.ListN.{length}
use borrow.Author.Tests.{ne_eqb}
use Rattle.split.specs.Steps.{steps}
use Rattle.cell.specs.Cell.{cell, cell_address}
use Rattle.cell.proofs.CellLaws.{cell_address-lt}
use Rattle.region.specs.Strings.{with_bit}
use Rattle.region.proofs.StringLaws.{with_bit-same}
use Rattle.directory_word.specs.Word.{depth_field}
use Rattle.query_rows.specs.Corners.{Corner}
use Rattle.query_rows.specs.Rows.{step_row, bit_in, value_in, deepest_in, most_pages}
use Rattle.query_rows.specs.Vectors.{packed, row_address, Addressable}
use Rattle.query_rows.proofs.CornerLaws.{Corner-lower, Corner-upper, Corner-lt}
use Rattle.query_rows.proofs.MostLaws.{most_pages-next, most_pages-pos}
use Rattle.cell.proofs.HalfLaws.{cell-lower}
use Rattle.query_rows.proofs.VectorLaws.{Addressable-row, packed-cell-lt, packed-upper, row_address-cell}
use Rattle.query_walk.specs.Private.{given_side}
use Rattle.query_walk.specs.Turns.{NoteAsked, Turn}

-- ---- a divided region

-- a turn whose word tells of leaves below
pub record Inside (rows words : List ℕ) (bytes room v corner x n word : ℕ) : Type 0 where
  pub turn : Turn rows words bytes room v corner x n
  pub inner : x < deepest_in rows
  pub below : x < depth_field word
  pub within : depth_field word ≤ deepest_in rows

pub inside_of : {rows words : List ℕ} {bytes room v corner x n word : ℕ} → Turn rows words bytes room v corner x n
    → (depth_field word ≡ x → ⊥) → (depth : ℕ) → depth ≡ depth_field word → x ≤ depth → depth ≤ deepest_in rows
    → Inside rows words bytes room v corner x n word
inside_of h d depth e k u = record { turn = h; inner = omega arith; below = omega arith; within = omega arith }

-- what its leaf asks
pub leaf-asked : {rows words : List ℕ} {bytes room v corner x n : ℕ} → Turn rows words bytes room v corner x n
    → NoteAsked rows bytes room x n
leaf-asked {rows = rows} {x = x} h = record {
  deep = omega (arith, h.deep, h.depth-twelve);
  few = omega (arith, h.count, pow_pos (deepest_in rows - x));
  place = omega (arith, h.left, most_pages-pos rows (deepest_in rows - x) x);
  lent = h.lent;
}

module _ {rows words : List ℕ} {bytes room v corner x n word : ℕ}
    (i : Inside rows words bytes room v corner x n word) where
  abbrev h : Turn rows words bytes room v corner x n
  h = i.turn

  abbrev T : ℕ
  T = deepest_in rows

  -- the vector and the corner of the 1-side
  abbrev pub upper_vector : ℕ
  upper_vector = v + bit_in rows x

  abbrev pub upper_corner : ℕ
  upper_corner = corner + value_in rows x

  pub fuel : T - x ≡ suc (T - (x + 1))
  fuel = omega (arith, i.inner)

  pub fuel-halves : 2 ^ (T - x) ≡ 2 ^ (T - (x + 1)) * 2
  fuel-halves = rw (fuel, pow-suc)

  -- what is left below one side is as much at most
  next-left : most_pages rows (T - (x + 1)) (x + 1) ≤ most_pages rows (T - x) x
  next-left =
      subst (λ f. most_pages rows (T - (x + 1)) (x + 1) ≤ most_pages rows f x) (sym fuel)
      (most_pages-next rows (T - (x + 1)) x)

  step-lt : x < length (steps h.widths)
  step-lt = le_trans i.inner h.bits

  -- ---- what the calls ask

  -- the row lies in the table
  pub row-lent : (x < 12) × (x * 6 + 6 ≤ 72)
  row-lent = (omega (arith, i.inner, h.depth-twelve), omega (arith, i.inner, h.depth-twelve))

  pub Turn-lower : Turn rows words bytes room v corner (x + 1) n
  Turn-lower = record {
    lent = h.lent;
    depth-twelve = h.depth-twelve;
    words-lent = h.words-lent;
    widths = h.widths;
    query = h.query;
    string = with_bit h.string x false;
    fit = h.fit;
    bits = h.bits;
    table = h.table;
    vector =
        h.vector
        ∙ ap packed (sym (cell-lower h.widths h.fit x step-lt h.string))
        ∙ ap (λ y. packed (cell h.widths y (with_bit h.string x false))) (sym (add-one x));
    cornered =
        subst (λ y. Corner h.widths y (with_bit h.string x false) corner) (sym (add-one x))
        (Corner-lower h.widths h.fit x step-lt h.string corner h.cornered);
    deep = omega (arith, i.inner);
    count = omega (arith, h.count, fuel-halves);
    left = omega (arith, h.left, next-left);
  }

  upper-vector : upper_vector ≡ packed (cell h.widths (suc x) (with_bit h.string x true))
  unfolding step_row
  upper-vector =
      ap (λ y. y + bit_in rows x) h.vector
      ∙ ap (λ y. packed (cell h.widths x h.string) + y) (h.table.row x 2 i.inner (omega arith))
      ∙ sym (packed-upper h.widths h.fit x step-lt h.string)

  upper-corner : Corner h.widths (suc x) (with_bit h.string x true) upper_corner
  unfolding step_row
  upper-corner =
      subst (λ y. Corner h.widths (suc x) (with_bit h.string x true) (corner + y))
      (sym (h.table.row x 4 i.inner (omega arith)))
      (Corner-upper h.widths h.fit x step-lt h.string corner h.cornered)

  pub upper-corner-fits : upper_corner < 2 ^ 64
  upper-corner-fits =
      Corner-lt h.widths h.fit (suc x) (with_bit h.string x true) upper_corner upper-corner

  -- its vector fits
  pub upper_fits : upper_vector < 2 ^ 64
  upper_fits = rw upper-vector (packed-cell-lt h.widths h.fit (suc x) (with_bit h.string x true))

  pub upper-address : row_address rows (x * 6) upper_vector ≡ cell_address h.widths (suc x) (with_bit h.string x true)
  upper-address =
      ap (row_address rows (x * 6)) upper-vector
      ∙ row_address-cell h.widths h.fit x step-lt (with_bit h.string x true) h.query T rows h.table
      i.inner h.depth-twelve (with_bit-same h.string x true)

  -- its address is one of the directory's
  pub upper-room : (row_address rows (x * 6) upper_vector < length words) × (row_address rows (x * 6) upper_vector < 4096)
  upper-room =
      let lt = cell_address-lt h.widths h.fit (suc x) step-lt (with_bit h.string x true) in
      let most = pow_mono {j = T} i.inner in
      let twelve = pow_mono {j = 12} h.depth-twelve in
      (omega (arith, upper-address, lt, most, h.words-lent), omega (arith, upper-address, lt, most, twelve))

  -- what `address_by` asks
  pub upper-addressable : Addressable rows (x * 6)
  upper-addressable =
      Addressable-row h.widths x h.query T rows h.table i.inner h.fit step-lt h.depth-twelve

  pub Turn-upper : (m size : ℕ) → m + 2 ^ (T - (x + 1)) ≤ 4096 → m + most_pages rows (T - (x + 1)) (x + 1) ≤ size
      → Turn rows words bytes size upper_vector upper_corner (x + 1) m
  Turn-upper m size j k = record {
    lent = h.lent;
    depth-twelve = h.depth-twelve;
    words-lent = h.words-lent;
    widths = h.widths;
    query = h.query;
    string = with_bit h.string x true;
    fit = h.fit;
    bits = h.bits;
    table = h.table;
    vector =
        upper-vector ∙ ap (λ y. packed (cell h.widths y (with_bit h.string x true))) (sym (add-one x));
    cornered =
        subst (λ y. Corner h.widths y (with_bit h.string x true) upper_corner) (sym (add-one x)) upper-corner;
    deep = omega (arith, i.inner);
    count = j;
    left = k;
  }

  pub Turn-upper-first : Turn rows words bytes room upper_vector upper_corner (x + 1) n
  Turn-upper-first = Turn-upper n room (omega (arith, h.count, fuel-halves)) (omega (arith, h.left, next-left))

  -- the side that the query gives
  pub Turn-given : (wanted side low : ℕ) → side ≡ given_side wanted v upper_vector
      → low ≡ given_side wanted corner upper_corner → Turn rows words bytes room side low (x + 1) n
  Turn-given zero side low es el = rw (es, el) Turn-lower
  Turn-given (suc w) side low es el =
      let one : suc w ≡ 0 → ⊥ = λ e. omega arith in rw (es, el, ne_eqb (suc w) 0 one) Turn-upper-first
