-- The replies of document 01's printed run, computed: `ok`, a record, the last line; and numbers in decimal.
-- Assumes nothing.
use mathlib.Core.Path.{◌≡◌, refl}
use mathlib.Core.List.{[], ◌∷◌}
use Rattle.stock_text.specs.Text.{places, decimal, field_text, values_text}
use Rattle.stock_text.specs.Text.{record_text, records_text, refused_text, sum_text}

-- 0, 10 and 2^32 - 1
numbers : (decimal 0 ≡ 48 ∷ [])
    × (decimal 10 ≡ 49 ∷ 48 ∷ [])
    × (decimal 4294967295 ≡ 52 ∷ 50 ∷ 57 ∷ 52 ∷ 57 ∷ 54 ∷ 55 ∷ 50 ∷ 57 ∷ 53 ∷ [])
unfolding decimal places
numbers = (refl, refl, refl)

-- `2 1 13`, `3 1 12`
records : records_text 2 2
    (2 ∷ 0 ∷ 1 ∷ 0 ∷ 0 ∷ 0 ∷ 0 ∷ 0 ∷ 13 ∷ 0 ∷ 0 ∷ 0 ∷ 3 ∷ 0 ∷ 1 ∷ 0 ∷ 0 ∷ 0 ∷ 0 ∷ 0 ∷ 12 ∷ 0 ∷ 0 ∷ 0 ∷ [])
    ≡ 50 ∷ 32 ∷ 49 ∷ 32 ∷ 49 ∷ 51 ∷ 10 ∷ 51 ∷ 32 ∷ 49 ∷ 32 ∷ 49 ∷ 50 ∷ 10 ∷ []
unfolding records_text record_text values_text field_text decimal places
records = refl

-- `= 2 3`
sum : sum_text 2 3 ≡ 61 ∷ 32 ∷ 50 ∷ 32 ∷ 51 ∷ 10 ∷ []
unfolding sum_text field_text decimal places
sum = refl

-- `no 6`
refusal : refused_text 6 ≡ 110 ∷ 111 ∷ 32 ∷ 54 ∷ 10 ∷ []
unfolding refused_text field_text decimal places
refusal = refl
