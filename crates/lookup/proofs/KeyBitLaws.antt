-- The query that a key is agrees with the split bits of its encodings. Assumes nothing.
use Prim.Native.Nat.{ℕ, ◌≤◌, ◌<◌}
use mathlib.Core.Path.{◌≡◌}
use mathlib.Core.Bool.{true}
use mathlib.Core.List.{List}
use mathlib.Core.Option.{some, none}
use native.Mathlib.Omega.{arith}
use lib.ListN.{get_or}
use Rattle.lists.proofs.Bools.{beq-refl}
use Rattle.shape.specs.Shape.{shape_number, widths_of, total}
use Rattle.shape.specs.Key.{encode, encodings}
use Rattle.shape.specs.declared.Shape.{Shape}
use Rattle.shape.proofs.AttributeLaws.{get_d-per_attribute}
use Rattle.shape.proofs.ShapeLaws.{widths_of-fit}
use Rattle.split.specs.Steps.{step}
use Rattle.split.specs.Bits.{bit_of, split_bit}
use Rattle.split.proofs.DepthLaws.{step_of, step-here}
use Rattle.region.specs.Query.{agrees}
use Rattle.record.proofs.KeyLaws.{length-steps-widths_of}
use Rattle.model.specs.Sets.{query_bits}
use Rattle.model.proofs.MatchLaws.{agrees-of-bits}
use Rattle.store.specs.Promises.{key_query}

-- the query that gives every attribute the key's value agrees with all regions of the key
pub agrees-key_query : (s : Shape) (values : List ℕ) → shape_number s ≡ 0 → (x : ℕ) → x ≤ total (widths_of s)
    → agrees (key_query s values) (split_bit (widths_of s) (encodings s values)) x 0 ≡ true
unfolding encodings query_bits split_bit
agrees-key_query s values good x h =
    agrees-of-bits (key_query s values) (split_bit (widths_of s) (encodings s values)) x 0
    (λ t z l.
    let ws = widths_of s in
    let st = step_of ws t (rw (length-steps-widths_of s good) (omega arith)) in
    let j : ℕ = (step ws t).attribute in
    let within : j < 4 = rw (step-here ws (widths_of-fit s good) st.0 st.1 st.2 st.3 st.4) st.2 in
    rw (
      get_d-per_attribute (λ j. some (get_or values j 0)) none j within,
      get_d-per_attribute (λ j. encode s j (get_or values j 0)) 0 j within,
    )
    (beq-refl (bit_of (get_or ws j 0) (encode s j (get_or values j 0)) (step ws t).bit)))
