-- Demand 3 (document 01, "The plain model of demand 3"): "one statement about the whole list and its answers, and not
-- one for each call". Assumes nothing.
use Rattle.std.specs.Prelude.{ℕ, ◌≤◌, ◌≡◌, List, [], ◌∷◌, length}
use Rattle.shape.specs.Refusal.{accepted}
use Rattle.shape.specs.declared.Shape.{Shape}
use Rattle.record.specs.Record.{Record}
use Rattle.model.specs.Limits.{fixed_by}
use Rattle.model.specs.Model.{Fixed, Call, insert_call, delete_call, lookup_call, query_call, range_call, listed}
use Rattle.model.specs.Model.{Outcome, next, run, last_set}
use Rattle.model.specs.Sets.{reads_bound}
use Rattle.store.specs.Store.{Store, Memory}
use Rattle.store.specs.Sound.{Sound}
use Rattle.store.specs.Fresh.{FreshPromise}
use Rattle.store.specs.Promises.{InsertPromise, DeletePromise, LookupPromise, QueryPromise, RangePromise}

-- ---- runs

-- a call took the store `before` to `after` and gave an outcome, as that call's promise says. "Query, lookup and check
-- write nothing in the store"; a call without an output leaves []
abbrev pub Promised : Store → Call → Outcome → Store → Type 0
Promised before (insert_call values content) o after =
    InsertPromise before values content o.answer after × (o.output ≡ [])
Promised before (delete_call values) o after = DeletePromise before values o.answer after × (o.output ≡ [])
Promised before (lookup_call values) o after =
    LookupPromise before values o.answer × (o.output ≡ []) × (after ≡ before)
Promised before (query_call q out) o after = QueryPromise before q out o.answer o.output × (after ≡ before)
Promised before (range_call r out) o after = RangePromise before r out o.answer o.output × (after ≡ before)

-- calls one after the other, each on the store that the one before left, and the store that the last one left
pub data Run : Store → List Call → List Outcome → Store → Type 0 where
  no_call : {store : Store} → Run store [] [] store
  one_more : {before between after : Store} {c : Call} {cs : List Call} {o : Outcome} {os : List Outcome}
      → Promised before c o between → Run between cs os after → Run before (c ∷ cs) (o ∷ os) after

-- ---- the bound of the reads

-- each accepted query's reads are at most 2 ^ (T − sum of the given attributes' depths), T that of the set S at the
-- call. "The partial-match call keeps its own bound; the range call has only the equality."
abbrev pub ReadsBounded : Fixed → List Record → Call → Outcome → Type 0
ReadsBounded f S (insert_call values content) o = Unit {0}
ReadsBounded f S (delete_call values) o = Unit {0}
ReadsBounded f S (lookup_call values) o = Unit {0}
ReadsBounded f S (query_call q out) o =
    (written total reads : ℕ) → o.answer ≡ accepted (listed written total reads) → reads ≤ reads_bound f.shape q S
ReadsBounded f S (range_call r out) o = Unit {0}

-- the same for every call of a list, S being the model's set before it; each call has its outcome
abbrev pub WithinBounds : Fixed → List Record → List Call → List Outcome → Type 0
WithinBounds f S [] os = Unit {0}
WithinBounds f S (c ∷ cs) [] = ⊥
WithinBounds f S (c ∷ cs) (o ∷ os) = ReadsBounded f S c o × WithinBounds f (next f S c) cs os

-- ---- demand 3

-- "A fresh store is the state and the slices that an accepted Fresh leaves .. The plain model is given that Fresh's
-- shape and slice lengths": any list of calls on it is answered as the model answers it, each query's reads are within
-- the bound, and the store that is left shows the model's set
abbrev pub History : Type 0
History =
    (s : Shape) (m : Memory) (fresh : Store) → FreshPromise s m (accepted tt) fresh
    → (calls : List Call) (outcomes : List Outcome) (after : Store) → Run fresh calls outcomes after
    → (outcomes ≡ run (fixed_by s (length m.words) (length m.bytes)) [] calls)
    × WithinBounds (fixed_by s (length m.words) (length m.bytes)) [] calls outcomes
    × Sound after (last_set (fixed_by s (length m.words) (length m.bytes)) [] calls)
