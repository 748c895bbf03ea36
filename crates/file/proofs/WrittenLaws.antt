-- A file that was read and is written again: a whole and plain file is the file of its shape and its records.
-- Assumes nothing.
use Prim.Native.Nat.{ℕ, zero, suc, ◌+◌, ◌-◌, ◌*◌, ◌≤◌, ◌<◌}
use mathlib.Core.Path.{◌≡◌, refl, sym, ap, ◌∙◌}
use mathlib.Core.Bool.{Bool, true}
use mathlib.Core.List.{List, [], ◌∷◌, ◌++◌}
use native.Mathlib.Omega.{arith}
use lib.Dec.{leb, eqb}
use lib.ListN.{length, get_or, take, drop, length-drop, take-append-drop}
use lib.Seq.{take_all, drop-cons}
use borrow.Author.Tests.{leb-true, eqb-true}
use Rattle.lists.proofs.Bools.{and_split}
use Rattle.shape.specs.Shape.{all_below}
use Rattle.shape.proofs.BoundsLaws.{test-of-all_below}
use Rattle.record.specs.Bytes.{record_size, little_endian, field, records_bytes}
use Rattle.record.proofs.ByteLaws.{AreBytes, little_endian-number_of-field, field-append-field}
use Rattle.page.proofs.PageLaws.{records_bytes-records_from}
use Rattle.page.proofs.FieldLaws.{length-records_from}
use Rattle.model.specs.Limits.{fresh_shape}
use Rattle.file.specs.File.{letters, end_size, file_size, shape_bytes, trailer_bytes, end_bytes, file_of, byte_before}
use Rattle.file.specs.File.{number_before, file_count, file_shape, file_records, is_whole, is_plain}
use Rattle.file.proofs.PlainLaws.{last-plain, fresh_shape-file_shape}

-- a file has the records that its count says
pub length-file_records : (file : List ℕ) → length (file_records file) ≡ file_count file
unfolding file_records
length-file_records file = length-records_from (file_shape file) (file_count file) 0 file

-- ---- bytes before the end

module _ (file : List ℕ) where
  -- n bytes, the first of them k before the end
  abbrev bytes_before : ℕ → ℕ → List ℕ
  bytes_before k n = field file (length file - k) n

  -- one by one
  abbrev listed_before : ℕ → ℕ → List ℕ
  listed_before k zero = []
  listed_before k (suc n) = byte_before k file ∷ listed_before (k - 1) n

  bytes_before-listed : (k n : ℕ) → n ≤ k → k ≤ length file → bytes_before k n ≡ listed_before k n
  bytes_before-listed k zero h l = refl
  bytes_before-listed k (suc n) h l =
      let next : suc (length file - k) ≡ length file - (k - 1) = omega arith in
      ap (take (suc n)) (drop-cons file (length file - k) 0 (omega arith))
      ∙ ap (λ o. byte_before k file ∷ field file o n) next
      ∙ ap (λ bytes. byte_before k file ∷ bytes) (bytes_before-listed (k - 1) n (omega arith) (omega arith))

  -- n bytes and those behind them
  bytes_before-add : (k n m : ℕ) → k + n ≤ length file
      → bytes_before (k + n) n ++ bytes_before k m ≡ bytes_before (k + n) (n + m)
  bytes_before-add k n m h =
      let next : length file - k ≡ length file - (k + n) + n = omega arith in
      ap (λ o. bytes_before (k + n) n ++ field file o m) next ∙ field-append-field file (length file - (k + n)) n m

-- ---- a whole file

module _ (file : List ℕ) (whole : is_whole file ≡ true) where
  abbrev letter : ℕ → Bool
  letter i = eqb (byte_before (16 - i) file) (get_or letters i 0)

  -- the five tests
  tests : (leb end_size (length file) ≡ true) × (all_below 4 letter ≡ true) × (eqb (number_before 12 file) end_size ≡ true)
      × (eqb (number_before 8 file) (file_size (file_count file)) ≡ true)
      × (eqb (length file) (file_size (file_count file)) ≡ true)
  unfolding is_whole
  tests =
      let long = and_split (leb end_size (length file)) _ whole in
      let named = and_split (all_below 4 letter) _ long.1 in
      let shape = and_split (eqb (number_before 12 file) end_size) _ named.1 in
      let size = and_split (eqb (number_before 8 file) (file_size (file_count file))) _ shape.1 in
      (long.0, named.0, shape.0, size.0, size.1)

  pub end-within : end_size ≤ length file
  end-within = leb-true end_size (length file) tests.0

  pub length_whole : length file ≡ file_size (file_count file)
  length_whole = eqb-true (length file) (file_size (file_count file)) tests.4

  bytes_whole : (k n : ℕ) → n ≤ k → k ≤ end_size → bytes_before file k n ≡ listed_before file k n
  bytes_whole k n h l = bytes_before-listed file k n h (omega (arith, end-within))

  letters-whole : letters ≡ bytes_before file 16 4
  letters-whole =
      let byte : (i : ℕ) → i < 4 → byte_before (16 - i) file ≡ get_or letters i 0 =
      λ i l. eqb-true _ _ (test-of-all_below letter 4 i tests.1 l) in
      sym
      (bytes_whole 16 4 (omega arith) (omega arith)
      ∙ (λ i.
      byte 0 (omega arith) i ∷ byte 1 (omega arith) i ∷ byte 2 (omega arith) i ∷ byte 3 (omega arith) i ∷ []))

  -- its last bytes in two parts
  join : (k n m : ℕ) → k + n ≤ end_size
      → bytes_before file (k + n) n ++ bytes_before file k m ≡ bytes_before file (k + n) (n + m)
  join k n m h = bytes_before-add file k n m (omega (arith, end-within))

  -- the bytes of its records and of its end
  parts : take (record_size * file_count file) file ++ bytes_before file end_size end_size ≡ file
  parts =
      let start : length file - end_size ≡ record_size * file_count file = omega (arith, length_whole) in
      let last : length (drop (length file - end_size) file) ≤ end_size =
      omega (arith, length-drop (length file - end_size) file) in
      ap (λ bytes. take (record_size * file_count file) file ++ bytes)
      (take_all end_size (drop (length file - end_size) file) last ∙ ap (λ o. drop o file) start)
      ∙ take-append-drop (record_size * file_count file) file

  module _ (are : AreBytes file) where
    -- a number of the trailer
    number : (k v : ℕ) → 4 ≤ k → k ≤ end_size → number_before k file ≡ v → little_endian 4 v ≡ bytes_before file k 4
    number k v h l e =
        ap (little_endian 4) (sym e)
        ∙ little_endian-number_of-field file are (length file - k) 4 (omega (arith, end-within))

    trailer-whole : trailer_bytes (file_count file) ≡ bytes_before file 16 16
    trailer-whole =
        let to-shape = number 12 end_size (omega arith) (omega arith) (eqb-true _ _ tests.2) in
        let to-file =
        number 8 (file_size (file_count file)) (omega arith) (omega arith) (eqb-true _ _ tests.3) in
        let count = number 4 (file_count file) (omega arith) (omega arith) refl in
        (λ i. letters-whole i ++ (to-shape i ++ (to-file i ++ count i)))
        ∙ ap (λ l. bytes_before file 16 4 ++ (bytes_before file 12 4 ++ l)) (join 4 4 4 (omega arith))
        ∙ ap (λ l. bytes_before file 16 4 ++ l) (join 8 4 8 (omega arith))
        ∙ join 12 4 12 (omega arith)

    -- ---- whose unused bytes and bits are 0

    module _ (plain : is_plain file ≡ true) where
      shape-plain : shape_bytes (file_shape file) ≡ bytes_before file 24 8
      unfolding fresh_shape file_shape
      shape-plain =
          let same = fresh_shape-file_shape file plain in
          let last = sym (last-plain file plain) in
          (λ i.
          byte_before 24 file ∷ ((same i).widths ++ byte_before 19 file ∷ (same i).signs ∷ last i ∷ []))
          ∙ sym (bytes_whole 24 8 (omega arith) (omega arith))

      end_bytes-plain : end_bytes (file_shape file) (file_count file) ≡ bytes_before file end_size end_size
      unfolding end_bytes
      end_bytes-plain = (λ i. shape-plain i ++ trailer-whole i) ∙ join 16 8 16 (omega arith)

      -- it is the file of what is read from it
      pub file_of-file_records : file_of (file_shape file) (file_records file) ≡ file
      unfolding file_of file_records
      file_of-file_records =
          let s = file_shape file in
          let records =
          records_bytes-records_from s file are (file_count file) 0 (omega (arith, length_whole)) in
          ap (λ n. records_bytes s (file_records file) ++ end_bytes s n) (length-file_records file)
          ∙ (λ i. records i ++ end_bytes-plain i)
          ∙ parts
