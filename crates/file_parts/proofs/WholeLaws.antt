-- Laws of whole files: a file by case, test by test; what a whole file is known to be. Assumes nothing.
use Prim.Native.Nat.{ℕ, ◌-◌, ◌≤◌, ◌<◌}
use mathlib.Core.Path.{◌≡◌, sym}
use mathlib.Core.Bool.{Bool, true, false}
use mathlib.Core.List.{List}
use lib.Dec.{leb, eqb}
use lib.ListN.{length, get_or}
use borrow.Author.Tests.{leb-true, eqb-true, le-leb, lt-leb, eq-eqb, ne_eqb}
use Rattle.lists.proofs.Bools.{and_split}
use Rattle.shape.specs.Shape.{all_below}
use Rattle.file.specs.File.{letters, end_size, file_size, byte_before, number_before, file_count, is_whole}

-- letter i stands at its place
abbrev pub letter_stands : List ℕ → ℕ → Bool
letter_stands file i = eqb (byte_before (16 - i) file) (get_or letters i 0)

module _ (file : List ℕ) where
  -- ---- a file by case

  pub is_whole-short : length file < end_size → is_whole file ≡ false
  unfolding is_whole
  is_whole-short h = rw (lt-leb end_size (length file) h)

  module _ (long : end_size ≤ length file) where
    pub is_whole-letters : all_below 4 (letter_stands file) ≡ false → is_whole file ≡ false
    unfolding is_whole
    is_whole-letters e = rw (le-leb end_size (length file) long, e)

    module _ (stand : all_below 4 (letter_stands file) ≡ true) where
      pub is_whole-shape : (number_before 12 file ≡ end_size → ⊥) → is_whole file ≡ false
      unfolding is_whole
      is_whole-shape n = rw (le-leb end_size (length file) long, stand, ne_eqb (number_before 12 file) end_size n)

      module _ (shape : number_before 12 file ≡ end_size) where
        pub is_whole-size : (number_before 8 file ≡ file_size (file_count file) → ⊥) → is_whole file ≡ false
        unfolding is_whole
        is_whole-size n =
            rw (
              le-leb end_size (length file) long,
              stand,
              eq-eqb (number_before 12 file) end_size shape,
              ne_eqb (number_before 8 file) (file_size (file_count file)) n,
            )

        pub is_whole-length : number_before 8 file ≡ file_size (file_count file)
            → is_whole file ≡ eqb (length file) (file_size (file_count file))
        unfolding is_whole
        is_whole-length e =
            rw (
              le-leb end_size (length file) long,
              stand,
              eq-eqb (number_before 12 file) end_size shape,
              eq-eqb (number_before 8 file) (file_size (file_count file)) e,
            )

  -- ---- a whole file

  pub long-of-is_whole : is_whole file ≡ true → end_size ≤ length file
  unfolding is_whole
  long-of-is_whole e = leb-true end_size (length file) (and_split (leb end_size (length file)) _ e).0

  pub length-of-is_whole : is_whole file ≡ true → file_size (file_count file) ≡ length file
  unfolding is_whole
  length-of-is_whole e =
      let parts = (and_split (leb end_size (length file)) _ e).1 in
      let numbers = (and_split (all_below 4 (letter_stands file)) _ parts).1 in
      let sizes = (and_split (eqb (number_before 12 file) end_size) _ numbers).1 in
      let same = (and_split (eqb (number_before 8 file) (file_size (file_count file))) _ sizes).1 in
      sym (eqb-true (length file) (file_size (file_count file)) same)
