-- The replies to the store's answers (document 01, "Proof table and the printed run"). Assumes nothing.
use Rattle.std.specs.Prelude.{ℕ, ◌+◌, ◌*◌, List, ◌++◌}
use Rattle.shape.specs.Refusal.{Answer, accepted, refused, refused_with}
use Rattle.model.specs.Model.{Reply, changed, found, listed}
use Rattle.record.specs.Bytes.{record_size}
use Rattle.stock_text.specs.Text.{line_size, ok_text, refused_text, records_text, sum_text}

-- "It lends .. 256 output records."
abbrev pub output_records : ℕ
output_records = 256

-- the bytes of that output
abbrev pub output_size : ℕ
output_size = output_records * record_size

-- the bytes that the longest reply is given: a line for each of the records, and one for the sum
abbrev pub reply_size : ℕ
reply_size = (output_records + 1) * line_size

-- "It prints `ok`, `no` and the number", and neither depth nor attribute
abbrev pub answer_text : {A : Type 0} → Answer A → List ℕ
answer_text (accepted x) = ok_text
answer_text (refused n) = refused_text n
answer_text (refused_with n x) = refused_text n

-- "for `list`, the records (values, payload), then `=`, total, reads"
abbrev pub listed_text : ℕ → Answer Reply → List ℕ → List ℕ
listed_text d (refused n) out = refused_text n
listed_text d (refused_with n x) out = refused_text n
listed_text d (accepted (listed written total reads)) out = records_text d written out ++ sum_text total reads
listed_text d (accepted (changed depth)) out = ok_text
listed_text d (accepted (found content reads depth)) out = ok_text
