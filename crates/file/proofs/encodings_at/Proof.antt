-- `file::encodings_at` meets its contract: the fields and the bias, value by value. Assumes nothing.
use Prim.Native.Nat.{◌*◌}
use mathlib.Core.Path.{sym, ap, ◌∙◌}
use Rattle.record.specs.Bytes.{record_size}
use Rattle.record.specs.Lanes.{lane_sum}
use Rattle.record.proofs.PackedLaws.{key_in-field}
use borrow.Author.Rules.{rules}
use Rattle.file.proofs.encodings_at.Statement.{statement}
use Rattle.file.proofs.encodings_at.Tie as tie

mul-read-key : tie.Need-overflow_mul-i
mul-read-key c = search rules

read-key-requires : tie.Need-read_key-requires
read-key-requires c κs = search rules

to-encodings-requires : tie.Need-to_encodings-requires
to-encodings-requires c κs = search rules

returns : tie.Need-returns
returns c =
    let a = c.args in
    c.to_encodings.ensures
    ∙ ap (λ k. lane_sum k a.bias)
    (c.read_key.ensures ∙ sym (key_in-field a.file.now (record_size * a.i)))

pub encodings_at_spec : {M : Type 1} → statement M
encodings_at_spec = tie.close (tie.spec mul-read-key read-key-requires to-encodings-requires returns)
