-- What the steps of a save ask and leave. Assumes nothing.
use Rattle.std.specs.Prelude.{ℕ, ◌*◌, ◌≤◌, ◌≡◌, Bool, cond, List, ltb, length}
use Rattle.std.proofs.Math.Seq.{paste}
use Rattle.shape.specs.Refusal.{Answer, accepted, refused}
use Rattle.shape.specs.declared.Shape.{Shape}
use Rattle.region.specs.Query.{QueryBit, free}
use Rattle.record.specs.Bytes.{record_size}
use Rattle.page_matches.specs.Output.{emit}
use Rattle.file.specs.File.{end_size, file_size, end_bytes}

-- the bits of a query that gives nothing
abbrev pub free_bits : ℕ → QueryBit
free_bits t = free

-- the file of some records, given as their bytes, written from the output's first byte on
unfoldable pub with_file : Shape → List (List ℕ) → List ℕ → List ℕ
with_file s fs out = paste (emit out 0 fs) (record_size * length fs) (end_bytes s (length fs)) end_size

-- it does not fit
abbrev pub is_short : List (List ℕ) → List ℕ → Bool
is_short fs out = ltb (length out) (file_size (length fs))

-- the file of some records, as many as pages hold at most, was written if it fits
pub record Filed (s : Shape) (fs : List (List ℕ)) (out : List ℕ) (answer : Answer ℕ) (out' : List ℕ) : Type 0 where
  pub few : length fs ≤ 65536
  pub replied : answer ≡ cond (is_short fs out) (refused 2) (accepted (file_size (length fs)))
  pub left : out' ≡ cond (is_short fs out) out (with_file s fs out)
