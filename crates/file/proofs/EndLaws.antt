-- Laws of a file's end: what stands a number of bytes before the end is of the end alone; what is read from an end that
-- was written. Assumes nothing.
use Prim.Native.Nat.{ℕ, ◌+◌, ◌-◌, ◌*◌, ◌%◌, ◌^◌, ◌≤◌, ◌<◌}
use mathlib.Core.Path.{◌≡◌, refl, ap, ◌∙◌}
use mathlib.Core.Bool.{Bool, true, false, ◌||◌}
use mathlib.Core.List.{List, [], ◌∷◌, ◌++◌}
use mathlib.Core.Logic.{◌⊎◌, inl, inr}
use native.Mathlib.Nat.{div-eq_of_lt}
use native.Mathlib.Omega.{arith}
use lib.Dec.{ltb, eqb}
use lib.ListN.{length, get_or, take, length-append}
use lib.Seq.{get_or-append-add, drop-append-add}
use borrow.Author.Tests.{le-leb, lt-ltb, eq-eqb}
use Rattle.lists.proofs.Bools.{and_both}
use Rattle.lists.proofs.Numbers.{lt-or-le}
use Rattle.shape.specs.Shape.{all_below, widths_of}
use Rattle.shape.specs.declared.Shape.{Shape}
use Rattle.shape.proofs.AttributeLaws.{get_d-widths_of}
use Rattle.shape.proofs.BoundsLaws.{all_below-ext}
use Rattle.shape.proofs.ShapeLaws.{width_of-unused}
use Rattle.record.specs.Bytes.{record_size, number_of, field}
use Rattle.record.proofs.ByteLaws.{number_of-little_endian}
use Rattle.model.specs.Limits.{fresh_shape}
use Rattle.model.proofs.LimitLaws.{signs-fresh_shape-lt}
use Rattle.file.specs.File.{letters, end_size, file_size, end_bytes, byte_before, number_before, file_count}
use Rattle.file.specs.File.{file_shape, is_whole, is_plain}

-- ---- of the end alone

module _ (xs ys : List ℕ) where
  from_end : (n : ℕ) → n ≤ length ys → length (xs ++ ys) - n ≡ length xs + (length ys - n)
  from_end n h = omega (arith, length-append xs ys)

  pub byte_before-append : (n : ℕ) → n ≤ length ys → byte_before n (xs ++ ys) ≡ byte_before n ys
  byte_before-append n h =
      ap (λ i. get_or (xs ++ ys) i 0) (from_end n h) ∙ get_or-append-add xs ys (length ys - n) 0

  pub number_before-append : (n : ℕ) → n ≤ length ys → number_before n (xs ++ ys) ≡ number_before n ys
  number_before-append n h =
      ap (λ i. number_of (field (xs ++ ys) i 4)) (from_end n h)
      ∙ ap (λ bytes. number_of (take 4 bytes)) (drop-append-add xs ys (length ys - n))

  module _ (whole : end_size ≤ length ys) where
    pub file_shape-append : file_shape (xs ++ ys) ≡ file_shape ys
    unfolding file_shape
    file_shape-append =
        λ i. record {
          attributes = byte_before-append 24 (omega arith) i;
          widths =
              byte_before-append 23 (omega arith) i
              ∷ byte_before-append 22 (omega arith) i
              ∷ byte_before-append 21 (omega arith) i
              ∷ byte_before-append 20 (omega arith) i
              ∷ [];
          capacity = byte_before-append 19 (omega arith) i;
          signs = byte_before-append 18 (omega arith) i;
        }

    pub is_plain-append : is_plain (xs ++ ys) ≡ is_plain ys
    unfolding is_plain
    is_plain-append = rw (file_shape-append, byte_before-append 17 (omega arith))

    letters-append : all_below 4 (λ i. eqb (byte_before (16 - i) (xs ++ ys)) (get_or letters i 0))
        ≡ all_below 4 (λ i. eqb (byte_before (16 - i) ys) (get_or letters i 0))
    letters-append =
        all_below-ext 4 _ _ (λ i l. ap (λ x. eqb x (get_or letters i 0)) (byte_before-append (16 - i) (omega arith)))

-- ---- an end that was written

module _ (s : Shape) (n : ℕ) where
  pub length-end_bytes : length (end_bytes s n) ≡ end_size
  unfolding end_bytes widths_of
  length-end_bytes = refl

  -- "written 0 where there is no attribute": the shape as Fresh holds it
  pub file_shape-end_bytes : file_shape (end_bytes s n) ≡ fresh_shape s
  unfolding file_shape end_bytes widths_of fresh_shape
  file_shape-end_bytes = refl

  pub file_count-end_bytes : n < 2 ^ 32 → file_count (end_bytes s n) ≡ n
  unfolding end_bytes widths_of
  file_count-end_bytes h = number_of-little_endian 4 n h

  last-end_bytes : byte_before 17 (end_bytes s n) ≡ 0
  unfolding end_bytes widths_of
  last-end_bytes = refl

  letters-end_bytes : all_below 4 (λ i. eqb (byte_before (16 - i) (end_bytes s n)) (get_or letters i 0)) ≡ true
  unfolding end_bytes widths_of
  letters-end_bytes = refl

  shape-distance-end_bytes : number_before 12 (end_bytes s n) ≡ end_size
  unfolding end_bytes widths_of
  shape-distance-end_bytes = refl

  file-distance-end_bytes : file_size n < 2 ^ 32 → number_before 8 (end_bytes s n) ≡ file_size n
  unfolding end_bytes widths_of
  file-distance-end_bytes h = number_of-little_endian 4 (file_size n) h

  -- an unused width is written as 0
  unused-width : (j : ℕ) → j < 4 → (ltb j s.attributes || eqb (get_or (widths_of s) j 0) 0) ≡ true
  unused-width j l = go (lt-or-le j s.attributes)
    where
      or-true : (β : Bool) → (β || true) ≡ true
      or-true true = refl
      or-true false = refl

      go : (j < s.attributes) ⊎ (s.attributes ≤ j)
          → (ltb j s.attributes || eqb (get_or (widths_of s) j 0) 0) ≡ true
      go (inl h) = rw (lt-ltb j s.attributes h)
      go (inr h) = rw (get_d-widths_of s j l, width_of-unused s j h) (or-true (ltb j s.attributes))

  -- nothing stands in its unused bytes and bits
  pub is_plain-end_bytes : is_plain (end_bytes s n) ≡ true
  unfolding is_plain fresh_shape
  is_plain-end_bytes =
      rw (file_shape-end_bytes, last-end_bytes)
      (and_both _ _ (all_below-ext 4 _ (λ j. true) unused-width)
      (rw (div-eq_of_lt {n = s.signs % 2 ^ s.attributes} (signs-fresh_shape-lt s))))

  -- behind n records it is that of a whole file
  pub is_whole-end_bytes : (records : List ℕ) → length records ≡ record_size * n → file_size n < 2 ^ 32
      → is_whole (records ++ end_bytes s n) ≡ true
  unfolding is_whole
  is_whole-end_bytes records e h =
      let file = records ++ end_bytes s n in
      let size : length file ≡ file_size n = omega (arith, length-append records (end_bytes s n), length-end_bytes, e) in
      let within : (k : ℕ) → k ≤ end_size → number_before k file ≡ number_before k (end_bytes s n) =
      λ k l. number_before-append records (end_bytes s n) k (omega (arith, length-end_bytes)) in
      let count : file_count file ≡ n = within 4 (omega arith) ∙ file_count-end_bytes (omega arith) in
      rw count
      (and_both _ _ (le-leb end_size (length file) (omega arith))
      (and_both _ _ (letters-append records (end_bytes s n) (omega (arith, length-end_bytes)) ∙ letters-end_bytes)
      (and_both _ _ (eq-eqb _ _ (within 12 (omega arith) ∙ shape-distance-end_bytes))
      (and_both _ _ (eq-eqb _ _ (within 8 (omega arith) ∙ file-distance-end_bytes h)) (eq-eqb _ _ size)))))
