-- Laws of what the program lends. Assumes nothing.
use Prim.Native.Nat.{ℕ}
use mathlib.Core.Path.{◌≡◌, ◌∙◌}
use mathlib.Core.List.{List}
use lib.ListN.{length}
use Rattle.stock.specs.Lends.{Lends}

-- after calls that leave every length as it was
pub lends-same : {words bytes output words' bytes' output' : List ℕ} → Lends words bytes output
    → length words' ≡ length words → length bytes' ≡ length bytes → length output' ≡ length output
    → Lends words' bytes' output'
lends-same l w b o =
    record {
      words-lent = w ∙ l.words-lent;
      bytes-lent = b ∙ l.bytes-lent;
      output-lent = o ∙ l.output-lent;
    }
