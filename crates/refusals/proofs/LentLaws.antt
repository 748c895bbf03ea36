-- Laws of the early refusals: what they leave; the same numbers in the words of the promises. Assumes nothing.
use Prim.Native.Nat.{ℕ, ◌^◌}
use mathlib.Core.Path.{◌≡◌, refl, sym, ap, subst, ◌∙◌}
use mathlib.Core.Bool.{Bool, true, false, not, cond, ◌||◌}
use mathlib.Core.List.{List, [], ◌∷◌, ◌++◌}
use native.Mathlib.Omega.{arith}
use lib.ListN.{length}
use borrow.Author.Tests.{le-ltb, ltb-false}
use Rattle.std.specs.Prelude.{Result, Err}
use Rattle.shape.specs.Refusal.{Condition, accepted, answered_by, first_number, refusal, told, tested}
use Rattle.shape.specs.declared.refusal.Refusal.{Refusal}
use Rattle.shape.specs.Shape.{shape_conditions}
use Rattle.shape.specs.Key.{key_fits}
use Rattle.shape.proofs.RefusalLaws.{accepted-answered_by, first_number-shape}
use Rattle.shape.proofs.ShapeLaws.{shape_number-first}
use Rattle.shape.proofs.TestLaws.{told-append}
use Rattle.model.specs.Model.{key_conditions}
use Rattle.model.proofs.ConditionLaws.{first_number-zero, numbered, numbered-shape, first_number-rest}
use Rattle.model.proofs.ConditionLaws.{first_number-none}
use Rattle.store.specs.Store.{store, lent_conditions, pages_size}
use Rattle.store.specs.Promises.{lent_number, key_refusals, key_number}
use Rattle.store.specs.declared.State.{State}
use Rattle.refusals.specs.Lengths.{lacks_memory, lent_by, MemoryLent, lent_number_by, key_number_by}

or_split : (a b : Bool) → (a || b) ≡ false → (a ≡ false) × (b ≡ false)
or_split false b e = (refl, e)
or_split true b e = absurd (let z : ◌≡◌ {A = ℕ} 0 1 = cc in omega arith)

module _ (st : State) (words bytes : ℕ) where
  -- ---- 1, 14, 15 and 2

  -- what the test of the shape tells, the call tells
  pub shape_first : (test : Result (Unit {0}) Refusal) (r : Refusal) → tested test ≡ answered_by (shape_conditions st.shape) (tt {0})
      → test ≡ Err r → told r ≡ answered_by (lent_by st words bytes) (tt {0})
  unfolding lent_by
  shape_first test r e is =
      told-append tt r (shape_conditions st.shape) (refusal 2 (lacks_memory st words bytes) ∷ []) tt
      (subst (λ t. tested t ≡ answered_by (shape_conditions st.shape) tt) is e)

  pub lent_number_by-none : MemoryLent st words bytes → lent_number_by st words bytes ≡ 0
  unfolding lent_number_by lent_by first_number
  lent_number_by-none m =
      first_number-shape st.shape (refusal 2 (lacks_memory st words bytes) ∷ []) m.shape
      ∙ rw (le-ltb words (2 ^ st.limits.depth) m.words-lent, le-ltb bytes (pages_size st) m.pages-lent)

  -- ---- what they leave

  pub memory_lent : lent_number_by st words bytes ≡ 0 → MemoryLent st words bytes
  unfolding lent_number_by lent_by
  memory_lent e =
      let parts = first_number-none (shape_conditions st.shape) (refusal 2 (lacks_memory st words bytes) ∷ [])
      (numbered-shape st.shape) e in
      let lent = or_split _ _ (first_number-zero 1 (lacks_memory st words bytes) [] parts.1).0 in
      record {
        shape = shape_number-first st.shape parts.0;
        words-lent = ltb-false words (2 ^ st.limits.depth) lent.0;
        pages-lent = ltb-false bytes (pages_size st) lent.1;
      }

  -- the same of the test
  pub memory_lent-passed : accepted (tt {0}) ≡ answered_by (lent_by st words bytes) (tt {0}) → MemoryLent st words bytes
  unfolding lent_number_by
  memory_lent-passed e = memory_lent (accepted-answered_by tt tt (lent_by st words bytes) e)

  -- ---- 1, 14, 15 and 2 before other conditions

  numbered-lent_by : numbered (lent_by st words bytes) ≡ true
  unfolding lent_by shape_conditions
  numbered-lent_by = refl

  module _ (others : List Condition) where
    pub first_number-others : lent_number_by st words bytes ≡ 0
        → first_number (lent_by st words bytes ++ others) ≡ first_number others
    unfolding lent_number_by
    first_number-others e = first_number-rest (lent_by st words bytes) others numbered-lent_by e

    -- none of all holds
    pub memory_lent-before : first_number (lent_by st words bytes ++ others) ≡ 0
        → MemoryLent st words bytes × (first_number others ≡ 0)
    unfolding lent_number_by
    memory_lent-before e =
        let parts = first_number-none (lent_by st words bytes) others numbered-lent_by e in
        (memory_lent parts.0, parts.1)

  -- ---- 3

  module _ (values : List ℕ) where
    module _ (n : lent_number_by st words bytes ≡ 0) where
      pub key_number_by-key : key_number_by st words bytes values ≡ cond (not (key_fits st.shape values)) 3 0
      unfolding key_number_by first_number
      key_number_by-key = first_number-others (key_conditions st.shape values) n

      pub key_number_by-fits : key_fits st.shape values ≡ true → 0 ≡ key_number_by st words bytes values
      key_number_by-fits f = sym (key_number_by-key ∙ ap (λ b. cond (not b) 3 0) f)

-- ---- in the words of the promises

pub lent_number-by : (st : State) (words bytes : List ℕ)
    → lent_number (store st words bytes) ≡ lent_number_by st (length words) (length bytes)
unfolding lent_conditions lent_number_by lent_by
lent_number-by st words bytes = refl

pub key_number-by : (st : State) (words bytes values : List ℕ)
    → key_number (store st words bytes) values ≡ key_number_by st (length words) (length bytes) values
unfolding key_refusals lent_conditions key_number_by lent_by
key_number-by st words bytes values = refl
