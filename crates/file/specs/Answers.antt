-- What save answers: document 01's number, or the file's bytes; 14 with the attribute that it names (document 02, request
-- 7). Assumes nothing.
use Rattle.std.specs.Prelude.{ℕ, Result}
use Rattle.shape.specs.Refusal.{Answer, answer_of}
use Rattle.shape.specs.declared.refusal.Refusal.{Refusal}

-- "returns their number"
abbrev pub saved_answer : Result ℕ Refusal → Answer ℕ
saved_answer r = answer_of (λ n. n) r
