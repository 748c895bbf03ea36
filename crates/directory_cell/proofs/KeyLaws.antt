-- Laws of the cell of a key: an index from the first bits of an encoding, taken from the last; the four indices.
-- Assumes nothing.
use Prim.Native.Nat.{ℕ, zero, suc, ◌+◌, ◌*◌, ◌-◌, ◌/◌, ◌%◌, ◌^◌, ◌≤◌, ◌<◌}
use mathlib.Core.Path.{◌≡◌, refl, sym, ap, ◌∙◌}
use mathlib.Core.Bool.{Bool}
use mathlib.Core.List.{List, [], ◌∷◌}
use native.Mathlib.Omega.{arith}
use native.Mathlib.Nat.{le_trans}
use lib.Bits.{bit_and}
use lib.ListN.{get_or, length}
use lib.Pow.{shr-shr}
use Rattle.lists.proofs.Numbers.{pow-double}
use Rattle.std.proofs.lemmas.Nat.{mod-pow-add}
use Rattle.std.specs.Int.{reverse_bits_onto}
use Rattle.shape.specs.Shape.{Fit}
use Rattle.split.specs.Steps.{bit_value, steps_below, attribute_depth}
use Rattle.split.specs.Bits.{bit_of, split_bit}
use Rattle.split.proofs.StepLaws.{depth_before}
use Rattle.split.proofs.DepthLaws.{attribute_depth-width}
use Rattle.split.proofs.BitLaws.{split_bit-step_number}
use Rattle.cell.specs.Cell.{sum_bits, attribute_bit, cell}
use Rattle.cell.proofs.Strings.{sum_bits-agree, bit_value-digit}
use Rattle.directory_cell.specs.Private.{reversed_bits}
use Rattle.pairs.proofs.PlaceLaws.{attribute_depth-place}
use Rattle.directory_cell.proofs.ReverseLaws.{reversed_bits-four}

-- ---- an index from an encoding's bits

-- bits that come behind a number's are shifted out
reverse_bits_onto-shifted : (j n a : ℕ) → reverse_bits_onto j n a / 2 ^ j ≡ a
unfolding reverse_bits_onto
reverse_bits_onto-shifted zero n a = omega arith
reverse_bits_onto-shifted (suc j) n a =
    let e : suc j ≡ j + 1 = omega arith in
    let all = reverse_bits_onto j (n / 2) (a * 2 + n % 2) in
    ap (λ m. all / 2 ^ m) e
    ∙ sym (shr-shr all j 1)
    ∙ ap (λ x. x / 2) (reverse_bits_onto-shifted j (n / 2) (a * 2 + n % 2))
    ∙ omega arith

-- n bits are reversed, whatever is above them
pub reverse_bits_onto-low : (j n a : ℕ) → reverse_bits_onto j (n % 2 ^ j) a ≡ reverse_bits_onto j n a
unfolding reverse_bits_onto
reverse_bits_onto-low zero n a = refl
reverse_bits_onto-low (suc j) n a =
    let e : suc j ≡ j + 1 = omega arith in
    let low : n % 2 ^ suc j ≡ n / 2 % 2 ^ j * 2 + n % 2 = ap (λ k. n % 2 ^ k) e ∙ mod-pow-add n j 1 in
    let half : n % 2 ^ suc j / 2 ≡ n / 2 % 2 ^ j = omega arith in
    let bit : n % 2 ^ suc j % 2 ≡ n % 2 = omega arith in
    (λ i. reverse_bits_onto j (half i) (a * 2 + bit i)) ∙ reverse_bits_onto-low j (n / 2) (a * 2 + n % 2)

-- the first bit apart
pub sum_bits-first : (β : ℕ → Bool) (h : ℕ) → sum_bits β (suc h) ≡ bit_value (β 0) + 2 * sum_bits (λ k. β (suc k)) h
unfolding sum_bits
sum_bits-first β zero = omega arith
sum_bits-first β (suc h) =
    omega (arith, sum_bits-first β h, ap (λ x. bit_value (β (suc h)) * x) (pow-double h))

-- of the first h bits the last k are taken, the others are the low bits of the rest
pub record Taken (w encoding h rest index k : ℕ) : Type 0 where
  pub within : k ≤ h
  pub taken : index ≡ sum_bits (λ m. bit_of w encoding (h - k + m)) k
  pub left : rest ≡ encoding / 2 ^ (w - h + k)

module _ (w encoding h : ℕ) where
  pub taken-zero : Taken w encoding h (encoding / 2 ^ (w - h)) 0 0
  unfolding sum_bits
  taken-zero =
      let e : w - h ≡ w - h + 0 = omega arith in
      record { within = omega arith; taken = refl; left = ap (λ n. encoding / 2 ^ n) e }

  module _ (rest index k : ℕ) (inv : Taken w encoding h rest index k) where
    pub taken-suc : h ≤ w → k < h → Taken w encoding h (rest / 2) (index * 2 + rest % 2) (k + 1)
    taken-suc hw l = record { within = omega arith; taken = sym next; left = half }
      where
        half : rest / 2 ≡ encoding / 2 ^ (w - h + (k + 1))
        half =
            let e : w - h + k + 1 ≡ w - h + (k + 1) = omega arith in
            ap (λ x. x / 2) inv.left ∙ shr-shr encoding (w - h + k) 1 ∙ ap (λ n. encoding / 2 ^ n) e

        first : bit_value (bit_of w encoding (h - suc k + 0)) ≡ rest % 2
        first =
            let e : w - suc (h - suc k + 0) ≡ w - h + k = omega arith in
            bit_value-digit (encoding / 2 ^ (w - suc (h - suc k + 0)) % 2) (omega arith)
            ∙ ap (λ n. encoding / 2 ^ n % 2) e
            ∙ ap (λ x. x % 2) (sym inv.left)

        later : sum_bits (λ m. bit_of w encoding (h - suc k + suc m)) k ≡ index
        later = sum_bits-agree k _ _ same ∙ sym inv.taken
          where
            same : (m : ℕ) → m < k → bit_of w encoding (h - suc k + suc m) ≡ bit_of w encoding (h - k + m)
            same m lm = let e : h - suc k + suc m ≡ h - k + m = omega arith in ap (bit_of w encoding) e

        next : sum_bits (λ m. bit_of w encoding (h - (k + 1) + m)) (k + 1) ≡ index * 2 + rest % 2
        next =
            let e : k + 1 ≡ suc k = omega arith in
            ap (λ n. sum_bits (λ m. bit_of w encoding (h - n + m)) n) e
            ∙ sum_bits-first (λ m. bit_of w encoding (h - suc k + m)) k
            ∙ omega (arith, first, later)

    pub taken-end : h ≤ k → index ≡ sum_bits (bit_of w encoding) h
    taken-end l =
        let e : k ≡ h = omega (arith, inv.within) in
        inv.taken
        ∙ ap (λ n. sum_bits (λ m. bit_of w encoding (h - n + m)) n) e
        ∙ sum_bits-agree h _ _ (λ m lm. let z : h - h + m ≡ m = omega arith in ap (bit_of w encoding) z)

-- the rest reversed behind what is taken, and what is past the first h bits shifted out
reversed-taken : (w encoding h : ℕ) → h ≤ w → (left rest index k n j : ℕ) → Taken w encoding h rest index k → k + left ≡ h
    → n ≡ left + j → reverse_bits_onto n rest index / 2 ^ j ≡ sum_bits (bit_of w encoding) h
unfolding reverse_bits_onto
reversed-taken w encoding h hw zero rest index k n j t e f =
    let g : n ≡ j = omega arith in
    ap (λ m. reverse_bits_onto m rest index / 2 ^ j) g
    ∙ reverse_bits_onto-shifted j rest index
    ∙ taken-end w encoding h rest index k t (omega arith)
reversed-taken w encoding h hw (suc left) rest index k zero j t e f = absurd (omega arith)
reversed-taken w encoding h hw (suc left) rest index k (suc n) j t e f =
    reversed-taken w encoding h hw left (rest / 2) (index * 2 + rest % 2) (k + 1) n j
    (taken-suc w encoding h rest index k t hw (omega arith)) (omega arith) (omega arith)

-- n bits reversed, the first h of them kept
pub sum_bits-reversed : (w encoding h n : ℕ) → h ≤ w → h ≤ n
    → reverse_bits_onto n (encoding / 2 ^ (w - h)) 0 / 2 ^ (n - h) ≡ sum_bits (bit_of w encoding) h
sum_bits-reversed w encoding h n hw l =
    reversed-taken w encoding h hw h _ 0 0 n (n - h) (taken-zero w encoding h) (omega arith) (omega arith)

-- the same of four
pub sum_bits-few : (w encoding h : ℕ) → h ≤ w → h ≤ 4
    → (r : ℕ) → r ≡ reversed_bits (bit_and (encoding / 2 ^ (w - h)) 15) → r / 2 ^ (4 - h) ≡ sum_bits (bit_of w encoding) h
unfolding reverse_bits_onto
sum_bits-few w encoding h hw l r e =
    let rest = encoding / 2 ^ (w - h) in
    let four : r ≡ reverse_bits_onto 4 rest 0 = omega (arith, e, reversed_bits-four rest) in
    ap (λ x. x / 2 ^ (4 - h)) four ∙ sum_bits-reversed w encoding h 4 hw l

-- ---- the four indices

-- a key's bits of attribute j are those of its encoding
sum_bits-split_bit : (ws : List ℕ) → Fit ws → (t : ℕ) (key : List ℕ) (j : ℕ) → j < 4
    → sum_bits (attribute_bit ws (split_bit ws key) j) (attribute_depth ws t j)
    ≡ sum_bits (bit_of (get_or ws j 0) (get_or key j 0)) (attribute_depth ws t j)
sum_bits-split_bit ws fit t key j hj =
    sum_bits-agree (attribute_depth ws t j) _ _
    (λ k l. split_bit-step_number ws fit key k j hj (le_trans l (attribute_depth-width ws j t hj)))

pub cell-split_bit : (ws : List ℕ) → Fit ws → (g : ℕ) (key : List ℕ) (h0 h1 h2 h3 i0 i1 i2 i3 : ℕ) → g ≤ 64
    → h0 ≡ depth_before ws g 0 → h1 ≡ depth_before ws g 1 → h2 ≡ depth_before ws g 2 → h3 ≡ depth_before ws g 3
    → i0 ≡ sum_bits (bit_of (get_or ws 0 0) (get_or key 0 0)) h0 → i1 ≡ sum_bits (bit_of (get_or ws 1 0) (get_or key 1 0)) h1
    → i2 ≡ sum_bits (bit_of (get_or ws 2 0) (get_or key 2 0)) h2 → i3 ≡ sum_bits (bit_of (get_or ws 3 0) (get_or key 3 0)) h3
    → i0 ∷ i1 ∷ i2 ∷ i3 ∷ [] ≡ cell ws (length (steps_below ws g)) (split_bit ws key)
unfolding cell
cell-split_bit ws fit g key h0 h1 h2 h3 i0 i1 i2 i3 low d0 d1 d2 d3 e0 e1 e2 e3 = cc (
  at 0 h0 i0 (omega arith) d0 e0,
  at 1 h1 i1 (omega arith) d1 e1,
  at 2 h2 i2 (omega arith) d2 e2,
  at 3 h3 i3 (omega arith) d3 e3,
)
  where
    t : ℕ
    t = length (steps_below ws g)

    at : (j h i : ℕ) → j < 4 → h ≡ depth_before ws g j → i ≡ sum_bits (bit_of (get_or ws j 0) (get_or key j 0)) h
        → i ≡ sum_bits (attribute_bit ws (split_bit ws key) j) (attribute_depth ws (length (steps_below ws g)) j)
    at j h i hj d e =
        e
        ∙ ap (sum_bits (bit_of (get_or ws j 0) (get_or key j 0))) (d ∙ sym (attribute_depth-place ws g j hj low))
        ∙ sym (sum_bits-split_bit ws fit (length (steps_below ws g)) key j hj)
