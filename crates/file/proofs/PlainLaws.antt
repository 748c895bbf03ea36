-- Laws of a file's shape: where nothing stands in its unused bytes and bits, Fresh would hold it as it is.
-- Assumes nothing.
use Prim.Native.Nat.{ℕ, ◌/◌, ◌^◌, ◌<◌}
use mathlib.Core.Path.{◌≡◌, refl, sym}
use mathlib.Core.Bool.{Bool, true, false, cond, ◌||◌}
use mathlib.Core.List.{List, [], ◌∷◌}
use native.Mathlib.Nat.{mod-eq_of_lt, lt-mul-div-succ}
use native.Mathlib.Omega.{arith}
use lib.Dec.{ltb, eqb}
use lib.ListN.{get_or}
use lib.Pow.{pow_pos}
use borrow.Author.Tests.{eqb-true}
use Rattle.lists.proofs.Bools.{and_split}
use Rattle.shape.specs.Shape.{all_below, width_of, widths_of}
use Rattle.shape.proofs.BoundsLaws.{test-of-all_below}
use Rattle.model.specs.Limits.{fresh_shape}
use Rattle.file.specs.File.{byte_before, file_shape, is_plain}

module _ (file : List ℕ) (plain : is_plain file ≡ true) where
  abbrev plain_width : ℕ → Bool
  plain_width j = ltb j (file_shape file).attributes || eqb (get_or (file_shape file).widths j 0) 0

  -- the three tests
  parts : (eqb (byte_before 17 file) 0 ≡ true) × (all_below 4 plain_width ≡ true)
      × (eqb ((file_shape file).signs / 2 ^ (file_shape file).attributes) 0 ≡ true)
  unfolding is_plain
  parts =
      let first = and_split (eqb (byte_before 17 file) 0) _ plain in
      let others = and_split (all_below 4 plain_width) _ first.1 in
      (first.0, others.0, others.1)

  -- "a last shape byte"
  pub last-plain : byte_before 17 file ≡ 0
  last-plain = eqb-true (byte_before 17 file) 0 parts.0

  -- "an unused width"
  pub width-plain : (j : ℕ) → j < 4 → width_of (file_shape file) j ≡ get_or (file_shape file).widths j 0
  width-plain j l =
      go (ltb j (file_shape file).attributes) (get_or (file_shape file).widths j 0)
      (test-of-all_below plain_width 4 j parts.1 l)
    where
      go : (β : Bool) (w : ℕ) → (β || eqb w 0) ≡ true → cond β w 0 ≡ w
      go true w e = refl
      go false w e = sym (eqb-true w 0 e)

  -- "a mark bit without an attribute"
  pub signs-plain : (file_shape file).signs < 2 ^ (file_shape file).attributes
  signs-plain =
      let none : (file_shape file).signs / 2 ^ (file_shape file).attributes ≡ 0 = eqb-true _ 0 parts.2 in
      let above = lt-mul-div-succ (file_shape file).signs (pow_pos (file_shape file).attributes) in
      omega (arith, rw none at above)

  -- so Fresh holds the shape as it stands in the file
  pub fresh_shape-file_shape : fresh_shape (file_shape file) ≡ file_shape file
  unfolding fresh_shape widths_of file_shape
  fresh_shape-file_shape =
      λ i. record {
        attributes = (file_shape file).attributes;
        widths =
            width-plain 0 (omega arith) i
            ∷ width-plain 1 (omega arith) i
            ∷ width-plain 2 (omega arith) i
            ∷ width-plain 3 (omega arith) i
            ∷ [];
        capacity = (file_shape file).capacity;
        signs = mod-eq_of_lt {n = (file_shape file).signs} signs-plain i;
      }
