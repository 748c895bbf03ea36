-- A query as it comes over the C interface: a number that says whether an attribute is given, and its value. Assumes
-- nothing.
use Rattle.std.specs.Prelude.{ℕ, zero, suc, List, get_or}
use Rattle.std.proofs.Math.Option.{Option, none, some}
use Rattle.shape.specs.Key.{per_attribute}

-- what is wanted of an attribute: its value, if the number beside it is not 0
abbrev pub wanted_if : ℕ → ℕ → Option ℕ
wanted_if zero value = none
wanted_if (suc n) value = some value

-- the values that a query gives, by attribute
unfoldable pub wanted_of : List ℕ → List ℕ → List (Option ℕ)
wanted_of given values = per_attribute (λ j. wanted_if (get_or given j 0) (get_or values j 0))
