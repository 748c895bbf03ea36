-- Laws of sums and differences of packed keys: by masks, all four lanes at once. Assumes nothing.
use Prim.Native.Nat.{ℕ, ◌+◌, ◌-◌, ◌*◌, ◌%◌, ◌^◌, ◌<◌}
use mathlib.Core.Path.{◌≡◌, refl, sym, ap, ◌∙◌}
use mathlib.Core.List.{List}
use native.Mathlib.Omega.{arith}
use lib.ListN.{get_or}
use Rattle.record.specs.Packed.{packed_key, SixteenBits, unpacked_key}
use Rattle.record.specs.Lanes.{sums, differences, lane_sum, lane_difference}
use Rattle.record.proofs.PackedLaws.{packed_key-unpacked_key, unpacked_key-lt}
use Rattle.record.proofs.LaneLaws.{word_sum, word_difference, add-lane, sub-lane}

-- all bits of the lanes but the top ones, and the top ones
abbrev pub lower : ℕ
lower = 9223231297218904063

abbrev pub tops : ℕ
tops = 9223512776490647552

-- lane above lane
abbrev above : ℕ → ℕ → ℕ → ℕ → ℕ
above x0 x1 x2 x3 = (((0 * 2 ^ 16 + x3) * 2 ^ 16 + x2) * 2 ^ 16 + x1) * 2 ^ 16 + x0

packed_key-above : (xs : List ℕ) → packed_key xs ≡ above (get_or xs 0 0) (get_or xs 1 0) (get_or xs 2 0) (get_or xs 3 0)
unfolding packed_key
packed_key-above xs = omega arith

lower-above : lower ≡ above 32767 32767 32767 32767
lower-above = refl

tops_above : tops ≡ above 32768 32768 32768 32768
tops_above = refl

module _ (xs ys : List ℕ) (b : SixteenBits xs) (c : SixteenBits ys) where
  pub word_sum-packed_key : word_sum (packed_key xs) (packed_key ys) lower tops ≡ packed_key (sums xs ys)
  unfolding sums
  word_sum-packed_key =
      let x : ℕ → ℕ = λ j. get_or xs j 0 in
      let y : ℕ → ℕ = λ j. get_or ys j 0 in
      (λ i. word_sum (packed_key-above xs i) (packed_key-above ys i) (lower-above i) (tops_above i))
      ∙ add-lane _ _ _ _ (x 0) (y 0) (b 0) (c 0)
      ∙ ap (λ v. v * 2 ^ 16 + (x 0 + y 0) % 2 ^ 16)
      (add-lane _ _ _ _ (x 1) (y 1) (b 1) (c 1)
      ∙ ap (λ v. v * 2 ^ 16 + (x 1 + y 1) % 2 ^ 16)
      (add-lane _ _ _ _ (x 2) (y 2) (b 2) (c 2)
      ∙ ap (λ v. v * 2 ^ 16 + (x 2 + y 2) % 2 ^ 16) (add-lane 0 0 0 0 (x 3) (y 3) (b 3) (c 3))))
      ∙ sym (packed_key-above (sums xs ys))

  pub word_difference-packed_key : word_difference (packed_key xs) (packed_key ys) lower tops ≡ packed_key (differences xs ys)
  unfolding differences
  word_difference-packed_key =
      let x : ℕ → ℕ = λ j. get_or xs j 0 in
      let y : ℕ → ℕ = λ j. get_or ys j 0 in
      (λ i. word_difference (packed_key-above xs i) (packed_key-above ys i) (lower-above i) (tops_above i))
      ∙ sub-lane _ _ 140735340838911 140739635871744 (x 0) (y 0) (b 0) (c 0) (omega arith)
      ∙ ap (λ v. v * 2 ^ 16 + (x 0 + (2 ^ 16 - y 0)) % 2 ^ 16)
      (sub-lane _ _ 2147450879 2147516416 (x 1) (y 1) (b 1) (c 1) (omega arith)
      ∙ ap (λ v. v * 2 ^ 16 + (x 1 + (2 ^ 16 - y 1)) % 2 ^ 16)
      (sub-lane _ _ 32767 32768 (x 2) (y 2) (b 2) (c 2) (omega arith)
      ∙ ap (λ v. v * 2 ^ 16 + (x 2 + (2 ^ 16 - y 2)) % 2 ^ 16)
      (sub-lane 0 0 0 0 (x 3) (y 3) (b 3) (c 3) (omega arith))))
      ∙ sym (packed_key-above (differences xs ys))

-- ---- of words

module _ (x y : ℕ) (h : x < 2 ^ 64) (l : y < 2 ^ 64) where
  pub word_sum-lanes : word_sum x y lower tops ≡ lane_sum x y
  word_sum-lanes =
      (λ i. word_sum (sym (packed_key-unpacked_key x h) i) (sym (packed_key-unpacked_key y l) i) lower tops)
      ∙ word_sum-packed_key (unpacked_key x) (unpacked_key y) (unpacked_key-lt x) (unpacked_key-lt y)

  pub word_difference-lanes : word_difference x y lower tops ≡ lane_difference x y
  word_difference-lanes =
      (λ i. word_difference (sym (packed_key-unpacked_key x h) i) (sym (packed_key-unpacked_key y l) i) lower tops)
      ∙ word_difference-packed_key (unpacked_key x) (unpacked_key y) (unpacked_key-lt x) (unpacked_key-lt y)
