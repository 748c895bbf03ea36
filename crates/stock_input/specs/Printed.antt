-- The replies that the program prints, by the bytes of the lines (document 01, "Proof table and the printed run"): each
-- newline ends a line, "A line of another form .. is a bad line". Assumes nothing.
use Rattle.std.specs.Prelude.{ℕ, zero, suc, ◌+◌, ◌≡◌, List, [], ◌∷◌, ◌++◌, ◌⊎◌, get_or}
use Rattle.stock_line.specs.Line.{LineShown}
use Rattle.stock_line.specs.declared.Line.{Line}
use Rattle.stock_command.specs.Asked.{asked}
use Rattle.stock_command.specs.declared.session.Session.{Session}
use Rattle.stock_console.specs.Console.{StockMemory, Replied}

-- the bytes of the line that has not ended, the session, the memory, and the text that is to be printed
pub record Printed : Type 0 where
  pub part : List ℕ
  pub session : Session
  pub memory : StockMemory
  pub text : List ℕ

-- a newline ends the line: what its bytes show is done, and the reply stands behind the text
pub record LinePrinted (before after : Printed) : Type 0 where
  pub line : Line
  pub shown : LineShown before.part line
  pub bytes : List ℕ
  pub replied : Replied (asked before.session line) before.session before.memory bytes
      after.session after.memory
  pub text-is : after.text ≡ before.text ++ bytes
  pub part-is : after.part ≡ []

-- any other byte is one of the line
pub record BytePrinted (c : ℕ) (before after : Printed) : Type 0 where
  pub part-is : after.part ≡ before.part ++ c ∷ []
  pub session-is : after.session ≡ before.session
  pub memory-is : after.memory ≡ before.memory
  pub text-is : after.text ≡ before.text

-- n bytes of a list, from place `from` on
abbrev pub PrintedFrom : List ℕ → ℕ → ℕ → Printed → Printed → Type 0
PrintedFrom bytes from zero before after = after ≡ before
PrintedFrom bytes from (suc n) before after =
    let c = get_or bytes (from + n) 0 in
    (between : Printed) × PrintedFrom bytes from n before between
    × (((c ≡ 10) × LinePrinted between after) ⊎ ((c ≡ 10 → ⊥) × BytePrinted c between after))
