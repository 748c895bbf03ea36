-- Laws of the range's early refusals. Assumes nothing.
use Prim.Native.Nat.{ℕ}
use mathlib.Core.Path.{◌≡◌, refl, sym, ap, ◌∙◌}
use mathlib.Core.Bool.{Bool, true, false, not, cond, ◌&&◌}
use mathlib.Core.List.{List}
use mathlib.Core.Option.{Option}
use native.Mathlib.Omega.{arith}
use lib.ListN.{length}
use Rattle.shape.specs.Refusal.{Answer, accepted, refused, answered_by, first_number}
use Rattle.shape.specs.Refusal.{refusal_number, refusal_value, told}
use Rattle.shape.specs.Key.{names_unused, query_fits}
use Rattle.shape.specs.Range.{Interval, range_fits, range_rises}
use Rattle.shape.specs.declared.Shape.{Shape}
use Rattle.shape.specs.declared.refusal.Refusal.{Refusal}
use Rattle.shape.proofs.RefusalLaws.{accepted-answered_by, accepted-refused, refused_by-refuses}
use Rattle.shape.proofs.TestLaws.{told-behind, passed-behind}
use Rattle.model.specs.Model.{query_conditions, range_conditions}
use Rattle.store.specs.Store.{store, lent_conditions}
use Rattle.store.specs.Promises.{range_refusals, range_number}
use Rattle.store.specs.declared.State.{State}
use Rattle.refusals.specs.Lengths.{lent_by, MemoryLent}
use Rattle.refusals.proofs.LentLaws.{memory_lent-before}
use Rattle.query_number.specs.Number.{query_by, query_number_by}
use Rattle.query_number.proofs.EarlyLaws.{parts-of-query_number_by}
use Rattle.range_number.specs.Ends.{low_ends, high_ends}
use Rattle.range_number.specs.Number.{range_by, range_number_by}
use Rattle.range_number.proofs.EndLaws.{names_unused-low_ends, range_fits-ends}

module _ (st : State) (words bytes : ℕ) (r : List (Option Interval)) where
  abbrev s : Shape
  s = st.shape

  -- ---- 8 and 3 of the low ends, then the rest

  abbrev rest : Bool → Bool → Answer (Unit {0})
  rest high rises = cond (not high) (refused 3) (cond (not rises) (refused 10) (accepted tt))

  range_by-ends : answered_by (range_conditions s r) (tt {0})
      ≡ cond (names_unused s (low_ends r)) (refused 8)
      (rest (query_fits s (low_ends r) && query_fits s (high_ends r)) (range_rises s r))
  unfolding answered_by
  range_by-ends =
      λ i. cond (sym (names_unused-low_ends s r) i) (refused 8) (rest (range_fits-ends s r i) (range_rises s r))

  module _ (q : List (Option ℕ)) (same : q ≡ low_ends r) where
    -- the query of the low ends is refused: so is the range
    pub told-low : (why : Refusal) → told why ≡ answered_by (query_by st words bytes q) (tt {0})
        → told why ≡ answered_by (range_by st words bytes r) (tt {0})
    unfolding answered_by
    told-low why e =
        told-behind tt why (lent_by st words bytes) (query_conditions s (low_ends r)) (range_conditions s r) tt
        (λ l. go (names_unused s (low_ends r)) (query_fits s (low_ends r)) (query_fits s (high_ends r)) (range_rises s r) l
        ∙ sym range_by-ends) (e ∙ ap (λ k. answered_by (query_by st words bytes k) tt) same)
      where
        go : (u d h g : Bool) → told why ≡ cond u (refused 8) (cond (not d) (refused 3) (accepted (tt {0})))
            → told why ≡ cond u (refused 8) (rest (d && h) g)
        go true d h g l = l
        go false true h g l = refused_by-refuses tt (refusal_number why) (refusal_value why) (sym l)
        go false false h g l = l

    -- it is passed: its values fit, and the rest decides
    module _ (passed : accepted (tt {0}) ≡ answered_by (query_by st words bytes q) (tt {0})) where
      low : accepted (tt {0}) ≡ answered_by (query_by st words bytes (low_ends r)) (tt {0})
      low = passed ∙ ap (λ k. answered_by (query_by st words bytes k) tt) same

      both : (accepted (tt {0}) ≡ answered_by (query_conditions s (low_ends r)) (tt {0}))
          × (answered_by (range_by st words bytes r) (tt {0}) ≡ answered_by (range_conditions s r) (tt {0}))
      both = passed-behind tt (lent_by st words bytes) (query_conditions s (low_ends r)) (range_conditions s r) tt low

      pub range_by-rest : answered_by (range_by st words bytes r) (tt {0})
          ≡ rest (query_fits s (high_ends r)) (range_rises s r)
      unfolding answered_by
      range_by-rest =
          both.1 ∙ range_by-ends
          ∙ go (names_unused s (low_ends r)) (query_fits s (low_ends r)) (query_fits s (high_ends r)) (range_rises s r) both.0
        where
          go : (u d h g : Bool) → accepted (tt {0}) ≡ cond u (refused 8) (cond (not d) (refused 3) (accepted (tt {0})))
              → cond u (refused 8) (rest (d && h) g) ≡ rest h g
          go true d h g l = accepted-refused tt 8 l
          go false true h g l = refl
          go false false h g l = accepted-refused tt 3 l

      pub parts-low : MemoryLent st words bytes × (query_fits s (low_ends r) ≡ true)
      unfolding query_number_by
      parts-low =
          parts-of-query_number_by st words bytes (low_ends r)
          (accepted-answered_by tt tt (query_by st words bytes (low_ends r)) low)

  -- ---- no early refusal

  rest-none : (u f g : Bool) → ◌≡◌ {A = ℕ} (cond u 8 (cond (not f) 3 (cond (not g) 10 0))) 0 → (f ≡ true) × (g ≡ true)
  rest-none true f g e = absurd (omega arith)
  rest-none false true true e = (refl, refl)
  rest-none false true false e = absurd (omega arith)
  rest-none false false g e = absurd (omega arith)

  pub parts-of-range_number_by : range_number_by st words bytes r ≡ 0
      → MemoryLent st words bytes × (range_fits s r ≡ true) × (range_rises s r ≡ true)
  unfolding range_number_by first_number
  parts-of-range_number_by e =
      let parts = memory_lent-before st words bytes (range_conditions s r) e in
      let ends = rest-none (names_unused s r) (range_fits s r) (range_rises s r) parts.1 in
      (parts.0, ends.0, ends.1)

pub range_number-by : (st : State) (words bytes : List ℕ) (r : List (Option Interval))
    → range_number (store st words bytes) r ≡ range_number_by st (length words) (length bytes) r
unfolding range_refusals lent_conditions range_number_by lent_by
range_number-by st words bytes r = refl
