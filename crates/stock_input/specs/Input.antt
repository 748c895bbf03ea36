-- What the program makes of its input, byte by byte (document 01, "Proof table and the printed run"): "reads lines from
-- standard input", and prints the reply to each. Assumes nothing.
use Rattle.std.specs.Prelude.{ℕ, zero, suc, ◌+◌, ◌≤◌, ◌<◌, ◌≡◌, Bool, ◌&&◌, List, ◌++◌, ◌⊎◌, eqb, get_or, length, take}
use Rattle.stock_line.specs.LineBytes.{start, fed, ended}
use Rattle.stock_line.specs.declared.Reading.{Reading}
use Rattle.stock_command.specs.Asked.{asked}
use Rattle.stock_command.specs.declared.session.Session.{Session}
use Rattle.stock_replies.specs.Replies.{reply_size}
use Rattle.stock_console.specs.Console.{StockMemory, Replied}
use Rattle.stock_input.specs.declared.Progress.{Progress}

-- what was read of the line that has not ended, the session, the memory, and the text that is to be printed
pub record Standing : Type 0 where
  pub reading : Reading
  pub session : Session
  pub memory : StockMemory
  pub text : List ℕ

-- the same of a progress, with the memory and the text that are lent
abbrev pub standing : Progress → StockMemory → List ℕ → Standing
standing p m text = record { reading = p.reading; session = p.session; memory = m; text = take p.end text }

-- a newline ends the line: what it asks is done, and the reply stands behind the text
pub record LineEnded (before after : Standing) : Type 0 where
  pub bytes : List ℕ
  pub replied : Replied (asked before.session (ended before.reading)) before.session before.memory bytes
      after.session after.memory
  pub text-is : after.text ≡ before.text ++ bytes
  pub reading-is : after.reading ≡ start

-- any other byte is one of the line
pub record ByteRead (c : ℕ) (before after : Standing) : Type 0 where
  pub reading-is : after.reading ≡ fed before.reading c
  pub session-is : after.session ≡ before.session
  pub memory-is : after.memory ≡ before.memory
  pub text-is : after.text ≡ before.text

abbrev pub Stepped : ℕ → Standing → Standing → Type 0
Stepped c before after = ((c ≡ 10) × LineEnded before after) ⊎ ((c ≡ 10 → ⊥) × ByteRead c before after)

-- n bytes of a list were read, from place `from` on
abbrev pub Ran : List ℕ → ℕ → ℕ → Standing → Standing → Type 0
Ran bytes from zero before after = after ≡ before
Ran bytes from (suc n) before after =
    (between : Standing) × Ran bytes from n before between × Stepped (get_or bytes (from + n) 0) between after

-- whether nothing was read of a line
abbrev pub nothing_read : Reading → Bool
nothing_read r = eqb r.fields 0 && eqb r.word 1

-- "It prints": no byte past the text, and at most 7 fields counted
pub record Standable (p : Progress) (text : List ℕ) : Type 0 where
  pub counted : p.reading.fields ≤ 7
  pub within : p.end ≤ length text

-- a run over a piece came from one place to another; it stops before the end only where less than one longest reply is
-- free, and reads a byte where there is room
pub record RunPromise (piece : List ℕ) (from : ℕ) (p : Progress) (m : StockMemory) (text : List ℕ) (next : ℕ)
    (p' : Progress) (m' : StockMemory) (text' : List ℕ) : Type 0 where
  pub count : ℕ
  pub next-is : next ≡ from + count
  pub next-within : next ≤ length piece
  pub ran : Ran piece from count (standing p m text) (standing p' m' text')
  pub stands : Standable p' text'
  pub moves : from < length piece → p.end + reply_size ≤ length text → from < next
