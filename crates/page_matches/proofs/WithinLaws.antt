-- Records whose packed key lies between two others: the test of a record's bytes is that of its values. Assumes
-- nothing.
use Prim.Native.Nat.{ℕ}
use mathlib.Core.Path.{◌≡◌}
use mathlib.Core.Bool.{Bool}
use mathlib.Core.List.{List}
use lib.ListN.{get_or}
use Rattle.shape.specs.Shape.{shape_number, within, all_below}
use Rattle.shape.specs.declared.Shape.{Shape}
use Rattle.record.specs.Record.{Record}
use Rattle.record.specs.Bytes.{record_of}
use Rattle.record.specs.Packed.{packed_key, SixteenBits, unpacked_key}
use Rattle.record.proofs.ByteLaws.{AreBytes}
use Rattle.record.specs.Lanes.{bias_key}
use Rattle.record.proofs.FieldLaws.{unpacked_key-key_in}
use Rattle.record.proofs.PackedLaws.{unpacked_key-packed_key}
use Rattle.key_between.specs.Between.{lies_between}
use Rattle.page_matches.specs.Within.{lies_in}

-- each value of a record's key lies between two ends
abbrev pub key_within : List ℕ → List ℕ → Record → Bool
key_within los his r = all_below 4 (λ j. within (get_or los j 0) (get_or his j 0) (get_or r.key j 0))

module _ (s : Shape) (good : shape_number s ≡ 0) (los his : List ℕ) (low_small : SixteenBits los) (high_small : SixteenBits his) where
  pub lies_in-key_within : (bytes : List ℕ) → AreBytes bytes
      → lies_in (bias_key s) (packed_key los) (packed_key his) bytes ≡ key_within los his (record_of s bytes)
  unfolding lies_in lies_between unpacked_key
  lies_in-key_within bytes b =
      let low = unpacked_key-packed_key los low_small in
      let high = unpacked_key-packed_key his high_small in
      let key = unpacked_key-key_in s good bytes b in
      λ i. all_below 4 (λ j. within (get_or (low i) j 0) (get_or (high i) j 0) (get_or (key i) j 0))
