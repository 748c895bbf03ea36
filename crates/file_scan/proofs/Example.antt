-- The proof table's set, scanned: split bits 0000, 1000, 1001, 1011, at b = 2. It has 3 non-empty leaves, and its
-- greatest depth is 3. Assumes nothing.
use Prim.Native.Nat.{ℕ}
use mathlib.Core.Path.{◌≡◌, refl}
use mathlib.Core.Bool.{Bool, true, false}
use mathlib.Core.List.{List, [], ◌∷◌}
use lib.ListN.{get_or}
use Rattle.shape.specs.Refusal.{first_number}
use Rattle.region.specs.Strings.{list_bit}
use Rattle.key_order.specs.Order.{common_bits}
use Rattle.file_scan.specs.Scan.{depth_at, scan_conditions}

-- a record is its split bits
abbrev keys : List (List Bool)
keys =
    (false ∷ false ∷ false ∷ false ∷ []) ∷ (true ∷ false ∷ false ∷ false ∷ [])
    ∷ (true ∷ false ∷ false ∷ true ∷ []) ∷ (true ∷ false ∷ true ∷ true ∷ []) ∷ []

abbrev step : ℕ → ℕ → ℕ
step i j = common_bits (list_bit (get_or keys i [])) (list_bit (get_or keys j [])) 4 0

-- at a depth limit and a page limit, of the first n
abbrev number : ℕ → ℕ → ℕ → ℕ
number L P n = first_number (scan_conditions step 2 L P n 0 0)

all-accepted : number 3 3 4 ≡ 0
unfolding first_number
all-accepted = refl

-- 1011 would divide the leaf of 1000 and 1001 below depth 2
too-deep : number 2 3 4 ≡ 6
unfolding first_number
too-deep = refl

-- and take a third page
too_many : number 3 2 4 ≡ 7
unfolding first_number
too_many = refl

-- 6 is found first
both : number 2 2 4 ≡ 6
unfolding first_number
both = refl

-- those before it are accepted
three-accepted : number 2 2 3 ≡ 0
unfolding first_number
three-accepted = refl

-- of the last of three records, and of four
depth-of-three : depth_at step 2 2 ≡ 1
depth-of-three = refl

depth-of-four : depth_at step 2 3 ≡ 3
depth-of-four = refl
