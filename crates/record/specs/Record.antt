-- Records and their split bits (document 01, "Shape and split steps", "Lent memory"). Assumes nothing.
use Rattle.std.specs.Prelude.{ℕ, Bool, List, eqb, get_or}
use Rattle.std.proofs.Math.Option.{Option, none}
use Rattle.shape.specs.Shape.{widths_of, all_below}
use Rattle.shape.specs.Key.{encode, if_given}
use Rattle.shape.specs.declared.Shape.{Shape}
use Rattle.split.specs.Bits.{split_bit}
use Rattle.record.specs.declared.Content.{Content}

-- a record: the four encodings of its key, and its content
pub record Record : Type 0 where
  pub key : List ℕ
  pub content : Content

-- split bit t of a record
abbrev pub record_bit : Shape → Record → ℕ → Bool
record_bit s r t = split_bit (widths_of s) r.key t

-- the same key
abbrev pub same_key : List ℕ → Record → Bool
same_key key r = all_below 4 (λ j. eqb (get_or key j 0) (get_or r.key j 0))

-- "a record matches if it has the query's value in every given attribute"
unfoldable pub matches : Shape → List (Option ℕ) → Record → Bool
matches s q r = all_below 4 (λ j. if_given (λ v. eqb (encode s j v) (get_or r.key j 0)) (get_or q j none))
