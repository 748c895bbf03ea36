-- Laws of Fresh's promise: its refusals; what is promised of a refused and of an accepted call. Assumes nothing.
use Prim.Native.Nat.{ℕ, zero, suc, ◌<◌}
use mathlib.Core.Path.{◌≡◌, refl, sym, ap, ◌∙◌}
use mathlib.Core.Bool.{true, false, cond, false≢true}
use mathlib.Core.List.{List, [], ◌∷◌}
use native.Mathlib.Omega.{arith}
use lib.ListN.{length, set, replicate}
use Rattle.shape.specs.Refusal.{accepted, refusal, told, first_number, answered_by}
use Rattle.shape.specs.Shape.{shape_number, shape_conditions}
use Rattle.shape.specs.declared.Shape.{Shape}
use Rattle.shape.specs.declared.refusal.Refusal.{Refusal}
use Rattle.shape.specs.declared.refusal.Refusal.TheVariants as why
use Rattle.shape.proofs.RefusalLaws.{first_number-shape, answered_by-first}
use Rattle.shape.proofs.TestLaws.{told-append, told-suc}
use Rattle.model.specs.Limits.{page_limit_of, depth_limit_of, fresh_shape}
use Rattle.store.specs.Fresh.{FreshPromise, fresh_refusals, fresh_number, fresh_state, fresh_memory, cleared_counts, no_state}
use Rattle.store.specs.Store.{memory, store}
use Rattle.store.specs.declared.State.{State}
use Rattle.store.proofs.NumberLaws.{answered_by-fresh}
use Rattle.store.specs.declared.Tally.{Tally}
use Rattle.fresh.specs.Memory.{lacks_word_or_page}

-- where memory is not lacking, there is word 0
pub word-of-lent : (s : Shape) (words bytes : ℕ) → lacks_word_or_page s words bytes ≡ false → 0 < words
word-of-lent s zero bytes e = absurd (false≢true (sym e))
word-of-lent s (suc words) bytes e = omega arith

module _ (s : Shape) (words bytes : List ℕ) where
  -- ---- the refusals

  pub told-shape : (r : Refusal) → told r ≡ answered_by (shape_conditions s) (tt {0})
      → told r ≡ answered_by (fresh_refusals s (memory words bytes)) (tt {0})
  unfolding fresh_refusals
  told-shape r e =
      told-append tt r (shape_conditions s) (refusal 2 (lacks_word_or_page s (length words) (length bytes)) ∷ []) tt e

  pub told-lacks : shape_number s ≡ 0 → lacks_word_or_page s (length words) (length bytes) ≡ true
      → told why.Memory ≡ answered_by (fresh_refusals s (memory words bytes)) (tt {0})
  unfolding fresh_refusals
  told-lacks n e = answered_by-first s tt 1 (lacks_word_or_page s (length words) (length bytes)) [] n e

  -- a shape within its bounds leaves the number to the lent memory
  fresh_number-shape : shape_number s ≡ 0
      → fresh_number s (memory words bytes) ≡ cond (lacks_word_or_page s (length words) (length bytes)) 2 0
  unfolding fresh_refusals first_number
  fresh_number-shape n = first_number-shape s (refusal 2 (lacks_word_or_page s (length words) (length bytes)) ∷ []) n

  pub fresh_number-none : shape_number s ≡ 0 → lacks_word_or_page s (length words) (length bytes) ≡ false
      → fresh_number s (memory words bytes) ≡ 0
  fresh_number-none n e = fresh_number-shape n ∙ ap (λ β. cond β 2 0) e

  -- ---- the promise

  pub promise-refused : (r : Refusal) → told r ≡ answered_by (fresh_refusals s (memory words bytes)) (tt {0})
      → FreshPromise s (memory words bytes) (told r) (store no_state words bytes)
  promise-refused r e =
      let some = told-suc tt r (fresh_refusals s (memory words bytes)) e in
      record { answered-as = e; state-as = rw some.1 refl; memory-as = rw some.1 refl }

  -- the state from its parts
  pub fresh_state-of : (shape : Shape) (tally : Tally) (pages depth : ℕ) → shape ≡ fresh_shape s
      → tally.leaves ≡ 1 ∷ replicate 12 0 → pages ≡ page_limit_of s (length bytes)
      → depth ≡ depth_limit_of s (length words)
      → record { shape = shape; limits = record { pages = pages; depth = depth }; deepest = 0; tally = tally }
      ≡ fresh_state s (memory words bytes)
  unfolding fresh_state
  fresh_state-of shape tally pages depth h t p d = rw (h, ← t, p, d)

  pub promise-accepted : (state : State) (words' bytes' : List ℕ) → fresh_number s (memory words bytes) ≡ 0
      → state ≡ fresh_state s (memory words bytes) → words' ≡ set words 0 0
      → bytes' ≡ cleared_counts s.capacity (page_limit_of s (length bytes)) bytes
      → FreshPromise s (memory words bytes) (accepted tt) (store state words' bytes')
  unfolding fresh_memory
  promise-accepted state words' bytes' e t w b =
      record {
        answered-as = sym (answered_by-fresh s (memory words bytes) e);
        state-as = rw e t;
        memory-as = rw (e, w, b) refl;
      }
