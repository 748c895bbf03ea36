-- Wrong Freshes of document 01: each contradicts `FreshPromise`. Assumes nothing.
use mathlib.Core.Path.{◌≡◌, refl, ap, ◌∙◌}
use mathlib.Core.Bool.{true}
use native.Mathlib.Omega.{arith}
use lib.ListN.{get_or}
use Rattle.shape.specs.Refusal.{Answer, is_refused, first_number}
use Rattle.shape.specs.Shape.{shape_conditions}
use Rattle.shape.specs.declared.Shape.{Shape}
use Rattle.model.specs.Limits.{page_limit_of}
use Rattle.store.specs.Store.{Store, Memory}
use Rattle.store.specs.Fresh.{FreshPromise, fresh_refusals, fresh_number, fresh_memory, cleared_counts}
use Rattle.store.proofs.NumberLaws.{answered_by-fresh}
use Rattle.table.specs.Table.{two_two}
use Rattle.refutation.specs.Stores.{ones}
use Rattle.refutation.proofs.ChangeLaws.{refusal-not-accepted}

-- "a Fresh that refuses a good shape with good slices" (review, 5)
pub turned_down : (s : Shape) (m : Memory) (answer : Answer (Unit {0})) (after : Store) → is_refused answer ≡ true
    → fresh_number s m ≡ 0 → FreshPromise s m answer after → ⊥
turned_down s m answer after refusal e p =
    refusal-not-accepted tt answer refusal (p.answered-as ∙ answered_by-fresh s m e)

-- 8 words and 3 pages with the proof table's shape are good
ones-good : fresh_number two_two ones ≡ 0
unfolding fresh_refusals shape_conditions first_number
ones-good = refl

pub turned-down-ones : (answer : Answer (Unit {0})) (after : Store) → is_refused answer ≡ true
    → FreshPromise two_two ones answer after → ⊥
turned-down-ones answer after refusal = turned_down two_two ones answer after refusal ones-good

-- "sets the count of each of the P pages and word 0 to 0": the last count stays, word 0 stays, another byte is cleared
module _ (answer : Answer (Unit {0})) (after : Store) (p : FreshPromise two_two ones answer after) where
  memory-after : after.memory ≡ fresh_memory two_two ones
  memory-after = rw ones-good at p.memory-as

  pub keeps-count : get_or after.memory.bytes 52 0 ≡ 1 → ⊥
  unfolding fresh_memory cleared_counts page_limit_of
  keeps-count e =
      let byte : get_or after.memory.bytes 52 0 ≡ 0 = ap (λ m. get_or m.bytes 52 0) memory-after in
      omega (arith, byte, e)

  pub keeps-word : get_or after.memory.words 0 0 ≡ 1 → ⊥
  unfolding fresh_memory
  keeps-word e =
      let word : get_or after.memory.words 0 0 ≡ 0 = ap (λ m. get_or m.words 0 0) memory-after in
      omega (arith, word, e)

  pub clears-more : get_or after.memory.bytes 2 0 ≡ 0 → ⊥
  unfolding fresh_memory cleared_counts page_limit_of
  clears-more e =
      let byte : get_or after.memory.bytes 2 0 ≡ 1 = ap (λ m. get_or m.bytes 2 0) memory-after in
      omega (arith, byte, e)
