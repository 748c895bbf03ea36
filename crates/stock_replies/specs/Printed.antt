-- What a query's answer needs to be printed. Only the code's contracts cite it. Assumes nothing.
use Rattle.std.specs.Prelude.{ℕ, ◌*◌, ◌≤◌, List, length}
use Rattle.shape.specs.Refusal.{Answer, accepted, refused, refused_with}
use Rattle.record.specs.Bytes.{record_size}
use Rattle.model.specs.Model.{Reply, changed, found, listed}
use Rattle.stock_replies.specs.Replies.{output_records}

-- the records that were written are within the output, and at most 256
abbrev pub Printable : ℕ → Answer Reply → List ℕ → Type 0
Printable d (refused n) out = Unit {0}
Printable d (refused_with n x) out = Unit {0}
Printable d (accepted (changed depth)) out = Unit {0}
Printable d (accepted (found content reads depth)) out = Unit {0}
Printable d (accepted (listed written total reads)) out =
    (d ≤ 4) × (written ≤ output_records) × (record_size * written ≤ length out)
