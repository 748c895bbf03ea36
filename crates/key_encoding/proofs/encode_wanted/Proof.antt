-- `key_encoding::encode_wanted` meets its contract, variant by variant. Assumes nothing.
use Rattle.std.proofs.Common.{sym, ap, ◌∙◌, rules}
use mathlib.Core.Option.{some}
use Rattle.shape.specs.Key.{wanted_value, encode_wanted}
use Rattle.shape.proofs.AttributeLaws.{get_d-wanted_values}
use Rattle.key_encoding.proofs.encode_wanted.Statement.{statement}
use Rattle.key_encoding.proofs.encode_wanted.Tie as tie

mul-attribute : tie.Need-offset_bounds-query-j
mul-attribute c = search rules

element-copy-out-attribute : tie.Need-bounds-query-j
element-copy-out-attribute c = search rules

enum_told : tie.Need-enum_told-1
enum_told c = search rules

enum-known-wanted : tie.Need-enum_known-wanted
enum-known-wanted c = search rules

encode-value-requires : tie.Need-encode_value-requires
encode-value-requires c κs = search rules

returns : tie.Need-returns-in-Free
returns c =
    sym
    (ap (encode_wanted c.args.shape c.args.j) (get_d-wanted_values c.args.query c.args.j c.requires.1)
    ∙ ap (λ w. encode_wanted c.args.shape c.args.j (wanted_value w)) c.in-Free.is)

returns-2 : tie.Need-returns-in-Given
returns-2 c =
    ap (λ e. some e) c.encode_value.ensures
    ∙ sym
    (ap (encode_wanted c.args.shape c.args.j) (get_d-wanted_values c.args.query c.args.j c.requires.1)
    ∙ ap (λ w. encode_wanted c.args.shape c.args.j (wanted_value w)) c.in-Given.is)

pub encode_wanted_spec : {M : Type 1} → statement M
encode_wanted_spec =
    tie.close
    (tie.spec
    mul-attribute
    element-copy-out-attribute
    enum_told
    enum-known-wanted
    encode-value-requires
    returns
    returns-2)
