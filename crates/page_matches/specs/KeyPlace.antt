-- The place of a key among the records of a page. Assumes nothing.
use Rattle.std.specs.Prelude.{Option, Some, None, ℕ, zero, suc, cond, List, eqb, ltb}
use Rattle.page.specs.Fields.{key_at}

-- the first of the k records from i on that has a packed key; i + k where none has
unfoldable pub key_place : ℕ → List ℕ → ℕ → ℕ → ℕ
key_place key page zero i = i
key_place key page (suc k) i = cond (eqb (key_at page i) key) i (key_place key page k (suc i))

-- a place below n; none for another number
abbrev pub place_below : ℕ → ℕ → Option ℕ
place_below n i = cond (ltb i n) (Some i) None
