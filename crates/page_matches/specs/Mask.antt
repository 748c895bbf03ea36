-- The records of a page that pass a test of their bytes, as bits of one number. Assumes nothing.
use Rattle.std.specs.Prelude.{◌≡◌, ℕ, zero, suc, ◌+◌, ◌-◌, ◌*◌, ◌/◌, ◌%◌, ◌^◌, ◌<◌, Bool, cond, List, [], ◌∷◌, ◌++◌, eqb, length}
use Rattle.record.specs.Bytes.{record_size}
use Rattle.record.specs.Packed.{key_in}
use Rattle.page.specs.Fields.{record_field}

-- a test of packed keys that answers as one of a record's bytes does
abbrev pub AnswersAs : (ℕ → Bool → Type 0) → (List ℕ → Bool) → Type 0
AnswersAs post passed = (bytes : List ℕ) (r : Bool) → key_in bytes < 2 ^ 64 → post (key_in bytes) r → r ≡ passed bytes

-- of the k records from record i on: bit j is set if record i + j passes
unfoldable pub match_mask : (List ℕ → Bool) → List ℕ → ℕ → ℕ → ℕ
match_mask test page zero i = 0
match_mask test page (suc k) i = cond (test (record_field page i)) 1 0 + 2 * match_mask test page k (suc i)

-- the records whose bits are set, of the k from record i on
unfoldable pub picked : List ℕ → ℕ → ℕ → ℕ → List (List ℕ)
picked page zero i mask = []
picked page (suc k) i mask = cond (eqb (mask % 2) 1) (record_field page i ∷ []) [] ++ picked page k (suc i) (mask / 2)

-- the records that a page has room for
abbrev pub slots_of : List ℕ → ℕ
slots_of page = (length page - 2) / record_size

-- those whose bits are set
abbrev pub picked_by : ℕ → List ℕ → List (List ℕ)
picked_by mask page = picked page (slots_of page) 0 mask
