-- `replay_encoding::read_request` meets its contract, word by word. Assumes nothing.
use Rattle.replay_encoding.proofs.EncodingLaws.{request_at-read}
use borrow.Author.Rules.{rules}
use Rattle.replay_encoding.proofs.read_request.Statement.{statement}
use Rattle.replay_encoding.proofs.read_request.Tie as tie

mul_at : tie.Need-overflow_mul-at
mul_at c = search rules

mul-t4 : tie.Need-offset_bounds-calls-at
mul-t4 c = search rules

shared-slice-read-t6 : tie.Need-bounds-calls-at
shared-slice-read-t6 c = search rules

add-four-words : tie.Need-overflow_add-at
add-four-words c = search rules

four-words-requires : tie.Need-four_words-requires
four-words-requires c κs = search rules

add-four-words-2 : tie.Need-overflow_add-at-2
add-four-words-2 c = search rules

four-words-requires-2 : tie.Need-four_words-requires-2
four-words-requires-2 c κs = search rules

add-t11 : tie.Need-overflow_add-result
add-t11 c = search rules

mul-t12 : tie.Need-offset_bounds-calls-at-2
mul-t12 c = search rules

shared-slice-read-t14 : tie.Need-bounds-calls-at-2
shared-slice-read-t14 c = search rules

add-t15 : tie.Need-overflow_add-result-2
add-t15 c = search rules

mul-t16 : tie.Need-offset_bounds-calls-at-3
mul-t16 c = search rules

shared-slice-read-t18 : tie.Need-bounds-calls-at-3
shared-slice-read-t18 c = search rules

add-four-words-3 : tie.Need-overflow_add-at-3
add-four-words-3 c = search rules

four-words-requires-3 : tie.Need-four_words-requires-3
four-words-requires-3 c κs = search rules

returns : tie.Need-returns
returns c =
    let a = c.args in
    request_at-read a.calls.now _ _ _ a.i c.four_words.ensures c.four_words-2.ensures
    c.four_words-3.ensures

pub read_request_spec : {M : Type 1} → statement M
read_request_spec =
    tie.close
    (tie.spec
    mul_at
    mul-t4
    shared-slice-read-t6
    add-four-words
    four-words-requires
    add-four-words-2
    four-words-requires-2
    add-t11
    mul-t12
    shared-slice-read-t14
    add-t15
    mul-t16
    shared-slice-read-t18
    add-four-words-3
    four-words-requires-3
    returns)
