-- `file_parts::shape_in` meets its contract: each number is a byte of the file. Assumes nothing.
use mathlib.Core.List.{[], ◌∷◌}
use borrow.Author.Rules.{rules}
use Rattle.file.specs.File.{file_shape}
use Rattle.file_parts.proofs.shape_in.Statement.{statement}
use Rattle.file_parts.proofs.shape_in.Tie as tie

byte-before-requires : tie.Need-byte_before-requires
byte-before-requires c κs = search rules

sub-byte-before : tie.Need-overflow_sub-byte_before
sub-byte-before c = search rules

byte-before-requires-2 : tie.Need-byte_before-requires-2
byte-before-requires-2 c κs = search rules

sub-byte-before-2 : tie.Need-overflow_sub-byte_before-2
sub-byte-before-2 c = search rules

byte-before-requires-3 : tie.Need-byte_before-requires-3
byte-before-requires-3 c κs = search rules

sub-byte-before-3 : tie.Need-overflow_sub-byte_before-3
sub-byte-before-3 c = search rules

byte-before-requires-4 : tie.Need-byte_before-requires-4
byte-before-requires-4 c κs = search rules

byte-before-requires-5 : tie.Need-byte_before-requires-5
byte-before-requires-5 c κs = search rules

byte-before-requires-6 : tie.Need-byte_before-requires-6
byte-before-requires-6 c κs = search rules

byte-before-requires-7 : tie.Need-byte_before-requires-7
byte-before-requires-7 c κs = search rules

returns : tie.Need-returns
unfolding file_shape
returns c =
    λ i. record {
      attributes = c.byte_before-5.ensures i;
      widths =
          c.byte_before.ensures i
          ∷ c.byte_before-2.ensures i
          ∷ c.byte_before-3.ensures i
          ∷ c.byte_before-4.ensures i
          ∷ [];
      capacity = c.byte_before-6.ensures i;
      signs = c.byte_before-7.ensures i;
    }

pub shape_in_spec : {M : Type 1} → statement M
shape_in_spec =
    tie.close
    (tie.spec
    byte-before-requires
    sub-byte-before
    byte-before-requires-2
    sub-byte-before-2
    byte-before-requires-3
    sub-byte-before-3
    byte-before-requires-4
    byte-before-requires-5
    byte-before-requires-6
    byte-before-requires-7
    returns)
