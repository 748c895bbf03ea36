-- Laws of promises of reads: no refusal of a query, a range, a check or a save has the number 5, which carries a depth.
-- Assumes nothing.
use Prim.Native.Nat.{ℕ, zero, suc}
use mathlib.Core.Path.{◌≡◌, refl, sym, ap, ◌∙◌}
use mathlib.Core.Bool.{Bool, true}
use mathlib.Core.List.{List}
use mathlib.Core.Option.{Option}
use mathlib.Core.Logic.{⊎_elim}
use native.Mathlib.Omega.{arith}
use Rattle.shape.specs.Refusal.{Condition, Answer, first_number, RefusedFirst, number_told}
use Rattle.shape.specs.Range.{Interval}
use Rattle.shape.specs.Shape.{shape_conditions}
use Rattle.region.specs.Query.{LeafTest}
use Rattle.record.specs.Record.{Record}
use Rattle.model.specs.Model.{Reply, changed, Outcome}
use Rattle.store.specs.Store.{Store, lent_conditions}
use Rattle.store.specs.Promises.{query_refusals, range_refusals, ListPromise, QueryPromise, RangePromise, CheckPromise}
use Rattle.store.proofs.NumberLaws.{first_number-other}
use Rattle.file.specs.Promises.{SavePromise}
use Rattle.host_results.specs.Result.{NoDepth}
use Rattle.host_results.proofs.ToldLaws.{number_told-answered_by}

-- none of the early conditions has the number, nor has an answer where none of them holds
no_depth : {A : Type 0} (early : List Condition) (x : A) (a : Answer A) → RefusedFirst early a
    → (first_number early ≡ 5 → ⊥) → (first_number early ≡ 0 → NoDepth a) → NoDepth a
no_depth early x a first other late = go (first_number early) refl
  where
    go : (m : ℕ) → first_number early ≡ m → NoDepth a
    go zero e five = late e five
    go (suc m) e five =
        other (sym (number_told-answered_by x early) ∙ ap number_told (sym (first m e x)) ∙ five)

-- of a query or a range
list-no_depth : (early : List Condition) (reads : LeafTest Record) (model : List Record → Outcome) (s : Store)
    (out : List ℕ) (a : Answer Reply) (out' : List ℕ) → (first_number early ≡ 5 → ⊥)
    → ListPromise early reads model s out a out' → NoDepth a
list-no_depth early reads model s out a out' other p =
    no_depth early (changed 0) a p.early-refused other (λ e five.
    ⊎_elim (λ h. let none : number_told a ≡ 0 = ap number_told h.3 in omega arith)
    (λ f. let nine : number_told a ≡ 9 = ap number_told f in omega arith) (p.ordinary e))

pub query-no_depth : (s : Store) (q : List (Option ℕ)) (out : List ℕ) (a : Answer Reply) (out' : List ℕ)
    → QueryPromise s q out a out' → NoDepth a
unfolding query_refusals lent_conditions shape_conditions
query-no_depth s q out a out' p =
    list-no_depth _ _ _ s out a out' (first_number-other 4 (query_refusals s q) refl) p.listed-as

pub range-no_depth : (s : Store) (r : List (Option Interval)) (out : List ℕ) (a : Answer Reply) (out' : List ℕ)
    → RangePromise s r out a out' → NoDepth a
unfolding range_refusals lent_conditions shape_conditions
range-no_depth s r out a out' p = list-no_depth _ _ _ s out a out' (first_number-other 4 (range_refusals s r) refl) p

-- of a store's slices
lent-no_depth : (s : Store) → first_number (lent_conditions s) ≡ 5 → ⊥
unfolding lent_conditions shape_conditions
lent-no_depth s = first_number-other 4 (lent_conditions s) refl

pub check-no_depth : (s : Store) (a : Answer Bool) → CheckPromise s a → NoDepth a
check-no_depth s a p =
    no_depth (lent_conditions s) true a p.early-refused (lent-no_depth s) (λ e five.
    ⊎_elim (λ h. let none : number_told a ≡ 0 = ap number_told h.0 in omega arith)
    (λ h. let none : number_told a ≡ 0 = ap number_told h.0 in omega arith) (p.verdict e))

pub save-no_depth : (s : Store) (out : List ℕ) (a : Answer ℕ) (out' : List ℕ) → SavePromise s out a out' → NoDepth a
save-no_depth s out a out' p =
    no_depth (lent_conditions s) 0 a p.early-refused (lent-no_depth s) (λ e five.
    ⊎_elim (λ h. let none : number_told a ≡ 0 = ap number_told h.3 in omega arith)
    (⊎_elim (λ f. let two : number_told a ≡ 2 = ap number_told f.0 in omega arith)
    (λ f. let nine : number_told a ≡ 9 = ap number_told f in omega arith)) (p.ordinary e))
