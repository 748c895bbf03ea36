-- `replay_encoding::put_answer` meets its contract: four writes in a row. Assumes nothing.
use Prim.Native.Nat.{◌*◌}
use native.Mathlib.Omega.{arith}
use lib.ListN.{length-set}
use Rattle.replay_encoding.proofs.EncodingLaws.{four-sets}
use borrow.Author.Rules.{rules}
use Rattle.replay_encoding.proofs.put_answer.Statement.{statement}
use Rattle.replay_encoding.proofs.put_answer.Tie as tie

mul_at : tie.Need-overflow_mul-at
mul_at c = search rules

array-read-answers : tie.Need-bounds-words-0
array-read-answers c = search rules

mul-answers : tie.Need-offset_bounds-answers-at
mul-answers c = search rules

slice-write-answers : tie.Need-bounds-answers-at
slice-write-answers c = search rules

array-read-answers-2 : tie.Need-bounds-words-1
array-read-answers-2 c = search rules

add-answers : tie.Need-overflow_add-answers
add-answers c = search rules

mul-answers-2 : tie.Need-offset_bounds-answers-at-2
mul-answers-2 c = search rules

slice-write-answers-2 : tie.Need-bounds-answers-at-2
slice-write-answers-2 c = simp length-set (omega (arith, c.requires))

array-read-answers-3 : tie.Need-bounds-words-2
array-read-answers-3 c = search rules

add-answers-2 : tie.Need-overflow_add-answers-2
add-answers-2 c = search rules

mul-answers-3 : tie.Need-offset_bounds-answers-at-3
mul-answers-3 c = search rules

slice-write-answers-3 : tie.Need-bounds-answers-at-3
slice-write-answers-3 c = simp length-set (omega (arith, c.requires))

array-read-answers-4 : tie.Need-bounds-words-3
array-read-answers-4 c = search rules

add-answers-3 : tie.Need-overflow_add-answers-3
add-answers-3 c = search rules

mul-answers-4 : tie.Need-offset_bounds-answers-at-4
mul-answers-4 c = search rules

slice-write-answers-4 : tie.Need-bounds-answers-at-4
slice-write-answers-4 c = simp length-set (omega (arith, c.requires))

same_length : tie.Need-shape_of-answers
same_length c = search rules

returns : tie.Need-returns
returns c = four-sets c.args.answers.now c.args.words (4 * c.args.i) c.requires

pub put_answer_spec : {M : Type 1} → statement M
put_answer_spec =
    tie.close
    (tie.spec
    mul_at
    array-read-answers
    mul-answers
    slice-write-answers
    array-read-answers-2
    add-answers
    mul-answers-2
    slice-write-answers-2
    array-read-answers-3
    add-answers-2
    mul-answers-3
    slice-write-answers-3
    array-read-answers-4
    add-answers-3
    mul-answers-4
    slice-write-answers-4
    same_length
    returns)
