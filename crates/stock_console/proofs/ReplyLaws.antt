-- Laws of what a query's answer needs to be printed. Assumes nothing.
use Prim.Native.Nat.{ℕ, zero, suc, ◌*◌, ◌≤◌}
use mathlib.Core.Path.{◌≡◌, refl, ap}
use mathlib.Core.Bool.{true, false, not, false≢true}
use mathlib.Core.List.{List}
use mathlib.Core.Logic.{⊎_elim}
use mathlib.Core.Option.{Option}
use native.Mathlib.Omega.{arith}
use lib.ListN.{length}
use borrow.Author.Tests.{not-false}
use Rattle.shape.specs.Refusal.{Answer, accepted, refused, refused_with, is_refused}
use Rattle.shape.specs.Shape.{count_fits, shape_conditions}
use Rattle.shape.proofs.BoundsLaws.{within-le}
use Rattle.shape.proofs.RefusalLaws.{accepted-answered_by}
use Rattle.record.specs.Bytes.{record_size}
use Rattle.model.specs.Model.{Reply, changed, found, listed}
use Rattle.model.proofs.ConditionLaws.{first_number-zero}
use Rattle.store.specs.Store.{store, lent_conditions}
use Rattle.store.specs.Promises.{query_refusals, query_number, QueryPromise}
use Rattle.store.specs.declared.State.{State}
use Rattle.stock_replies.specs.Replies.{output_records, output_size}
use Rattle.stock_replies.specs.Printed.{Printable}

module _ (state : State) (words bytes : List ℕ) (q : List (Option ℕ)) where
  -- no refusal 1 among the early ones: d is at most 4
  d-of-query_number : query_number (store state words bytes) q ≡ 0 → state.shape.attributes ≤ 4
  unfolding query_refusals lent_conditions shape_conditions
  d-of-query_number e =
      within-le 1 4 state.shape.attributes
      (not-false _ (first_number-zero 0 (not (count_fits state.shape)) _ e).0)

  module _ (out out' : List ℕ) (short : length out ≤ output_size) where
    -- how many records an answer wrote
    abbrev written_in : Answer Reply → ℕ
    written_in (refused n) = 0
    written_in (refused_with n x) = 0
    written_in (accepted (changed depth)) = 0
    written_in (accepted (found content reads depth)) = 0
    written_in (accepted (listed written total reads)) = written

    pub printable : (answer : Answer Reply) → QueryPromise (store state words bytes) q out answer out'
        → Printable state.shape.attributes answer out'
    printable (refused n) promise = tt
    printable (refused_with n x) promise = tt
    printable (accepted (changed depth)) promise = tt
    printable (accepted (found content reads depth)) promise = tt
    printable (accepted (listed written total reads)) promise = by_number (query_number (store state words bytes) q) refl
      where
        by_number : (n : ℕ) → query_number (store state words bytes) q ≡ n
            → (state.shape.attributes ≤ 4) × (written ≤ output_records) × (record_size * written ≤ length out')
        by_number (suc n) e =
            let none =
            accepted-answered_by _ _ (query_refusals (store state words bytes) q)
            (promise.listed-as.early-refused n e (listed 0 0 0)) in
            absurd (omega (arith, none, e))
        by_number zero e =
            ⊎_elim
            (λ w.
            let same : written ≡ w.0 = ap written_in w.3 in
            let fits : record_size * written ≤ length out = rw same w.5 in
            (d-of-query_number e, omega (arith, fits), omega (arith, fits, promise.listed-as.output-length)))
            (λ h. let z : false ≡ true = ap is_refused h in absurd (false≢true z))
            (promise.listed-as.ordinary e)
