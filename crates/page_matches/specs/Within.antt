-- Records whose packed key lies between two others, value by value. Assumes nothing.
use Rattle.std.specs.Prelude.{ℕ, Bool, List}
use Rattle.record.specs.Lanes.{lane_sum}
use Rattle.record.specs.Packed.{key_in}
use Rattle.key_between.specs.Between.{lies_between}

-- the encodings of a record's bytes, where a shape adds a bias to its values, lie between two packed keys
unfoldable pub lies_in : ℕ → ℕ → ℕ → List ℕ → Bool
lies_in bias low high bytes = lies_between low high (lane_sum (key_in bytes) bias)
