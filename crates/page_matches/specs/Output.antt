-- The output of a query or a range (document 01, "Calls"): "It writes 12-byte records into the output while whole ones
-- fit, other output bytes untouched". Records are given as their bytes. Assumes nothing.
use Rattle.std.specs.Prelude.{ℕ, suc, ◌+◌, ◌*◌, Bool, cond, List, [], ◌∷◌, leb, length}
use Rattle.std.proofs.Math.Seq.{paste}
use Rattle.lists.specs.Filter.{filter}
use Rattle.record.specs.Bytes.{record_size}
use Rattle.page.specs.Fields.{fields_from}

-- the records that pass a test of their bytes, of the n of a page
unfoldable pub hits : (List ℕ → Bool) → ℕ → List ℕ → List (List ℕ)
hits test n page = filter test (fields_from n 2 page)

-- a record written into the output as its record i, if it fits
unfoldable pub emit_one : ℕ → List ℕ → List ℕ → List ℕ
emit_one i bytes out =
    cond (leb (record_size * i + record_size) (length out)) (paste out (record_size * i) bytes record_size) out

-- records written into the output from its record i on
unfoldable pub emit : List ℕ → ℕ → List (List ℕ) → List ℕ
emit out i [] = out
emit out i (bytes ∷ rest) = emit (emit_one i bytes out) (suc i) rest
