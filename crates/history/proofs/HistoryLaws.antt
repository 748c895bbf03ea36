-- Demand 3: a call on a store that shows the model's set is answered as the model answers it, and the store after it
-- shows the model's next set; so for a list. Assumes nothing.
use Prim.Native.Nat.{ℕ, zero, suc}
use mathlib.Core.Path.{◌≡◌, refl, sym, ◌∙◌}
use mathlib.Core.Bool.{Bool}
use mathlib.Core.List.{List, [], ◌∷◌, ◌++◌}
use lib.ListN.{length}
use Rattle.shape.specs.Refusal.{Condition, Answer, accepted}
use Rattle.shape.specs.declared.Shape.{Shape}
use Rattle.shape.proofs.RefusalLaws.{accepted-answered_by}
use Rattle.record.specs.Record.{Record}
use Rattle.range_box.specs.Box.{box_of}
use Rattle.model.specs.Limits.{fixed_by}
use Rattle.model.specs.Model.{Fixed, Call, insert_call, delete_call, lookup_call, query_call, range_call, Reply}
use Rattle.model.specs.Model.{Outcome, number_for, output_before, output_after, outcome, next, set_after, run, last_set}
use Rattle.model.specs.Model.{if_accepted}
use Rattle.model.specs.Sets.{reads_bound}
use Rattle.store.specs.Store.{Store, Memory, fixed_of}
use Rattle.store.specs.declared.State.{State}
use Rattle.store.specs.Sound.{Sound}
use Rattle.store.specs.Fresh.{FreshPromise, fresh_refusals, fresh_number, fresh_state, fresh_memory}
use Rattle.store.specs.Promises.{ChangePromise, meeting}
use Rattle.store.proofs.FreshLaws.{fixed_of-fresh_state, sound-of-fresh}
use Rattle.store.proofs.ReadLaws.{sound_where-of-sound, sound_where_read-of-sound}
use Rattle.history.specs.History.{Promised, Run, no_call, one_more, ReadsBounded, WithinBounds, History}

-- ---- one call

-- on a sound store: the model's outcome, the model's set after it, and the bound
record Stepped (before : Store) (S : List Record) (c : Call) (o : Outcome) (after : Store) : Type 0 where
  as-model : o ≡ outcome (fixed_of before.state) S c
  shown : Sound after (next (fixed_of before.state) S c)
  bounded : ReadsBounded (fixed_of before.state) S c o

if_accepted-same : {A : Type 0} (n : ℕ) (x : A) → if_accepted n x x ≡ x
if_accepted-same zero x = refl
if_accepted-same (suc n) x = refl

same_outcome : {a a' : Answer Reply} {out out' : List ℕ} → a ≡ a' → out ≡ out'
    → ◌≡◌ {A = Outcome} (record { answer = a; output = out }) (record { answer = a'; output = out' })
same_outcome e e' = cc

pub same_store : {st st' : State} {m m' : Memory} → st ≡ st' → m ≡ m'
    → ◌≡◌ {A = Store} (record { state = st; memory = m }) (record { state = st'; memory = m' })
same_store e e' = cc

-- the output of a call that has none
no_output : (f : Fixed) (S : List Record) (c : Call) → output_before c ≡ [] → output_after f S c ≡ []
    → (outcome f S c).output ≡ []
unfolding outcome
no_output f S c e e' = rw (e, e') (if_accepted-same (number_for f S c) [])

-- a call that changes no set
pub same_set : (f : Fixed) (S : List Record) (c : Call) → set_after f S c ≡ S → next f S c ≡ S
unfolding next
same_set f S c e = rw e (if_accepted-same (number_for f S c) S)

same-fixed : {joins : Bool} {values : List ℕ} {early : List Condition} {answers : ℕ → List (Answer Reply)}
    {model : List Record → Answer Reply} {next : List Record → List Record} {before after : Store}
    {answer : Answer Reply}
    → ChangePromise joins values early answers model next before answer after
    → fixed_of after.state ≡ fixed_of before.state
same-fixed p = rw (p.shape-kept, p.limits-kept)

-- on any store: the same shape, P and L
fixed_of-promised : (before after : Store) (c : Call) (o : Outcome) → Promised before c o after
    → fixed_of after.state ≡ fixed_of before.state
fixed_of-promised before after (insert_call values content) o p = same-fixed p.0
fixed_of-promised before after (delete_call values) o p = same-fixed p.0
fixed_of-promised before after (lookup_call values) o p = rw p.2
fixed_of-promised before after (query_call q out) o p = rw p.1
fixed_of-promised before after (range_call r out) o p = rw p.1

stepped : (before after : Store) (S : List Record) (c : Call) (o : Outcome) → Promised before c o after → Sound before S
    → Stepped before S c o after
unfolding output_after set_after reads_bound
stepped before after S (insert_call values content) o p h =
    let f = fixed_of before.state in
    let c = insert_call values content in
    record {
      as-model = same_outcome (p.0.answered-as S h) (p.1 ∙ sym (no_output f S c refl refl));
      shown = p.0.shown S h;
      bounded = tt;
    }
stepped before after S (delete_call values) o p h =
    let f = fixed_of before.state in
    let c = delete_call values in
    record {
      as-model = same_outcome (p.0.answered-as S h) (p.1 ∙ sym (no_output f S c refl refl));
      shown = p.0.shown S h;
      bounded = tt;
    }
stepped before after S (lookup_call values) o p h =
    let f = fixed_of before.state in
    let c = lookup_call values in
    let answer-as = p.0.answered-as S (sound_where_read-of-sound before _ S h) in
    record {
      as-model = same_outcome answer-as (p.1 ∙ sym (no_output f S c refl refl));
      shown = rw (p.2, same_set f S c refl) h;
      bounded = tt;
    }
stepped before after S (query_call q out) o p h =
    let f = fixed_of before.state in
    let sound = sound_where_read-of-sound before _ S h in
    let as-model = p.0.listed-as.answered-as S sound in
    record {
      as-model = same_outcome as-model.0 as-model.1;
      shown = rw (p.1, same_set f S (query_call q out) refl) h;
      bounded = λ written total reads e. rw (← h.deepest) (p.0.bounded S sound written total reads e);
    }
stepped before after S (range_call r out) o p h =
    let f = fixed_of before.state in
    let shape = before.state.shape in
    let as-model = p.0.answered-as S (sound_where-of-sound before (meeting shape (box_of shape r)) S h) in
    record {
      as-model = same_outcome as-model.0 as-model.1;
      shown = rw (p.1, same_set f S (range_call r out) refl) h;
      bounded = tt;
    }

-- ---- a list of calls

-- shape, P and L stay, whatever the store
pub fixed_of-run : {store after : Store} {calls : List Call} {outcomes : List Outcome} → Run store calls outcomes after
    → fixed_of after.state ≡ fixed_of store.state
fixed_of-run no_call = refl
fixed_of-run (one_more {before = before} {between = between} {c = c} {o = o} p r) =
    fixed_of-run r ∙ fixed_of-promised before between c o p

-- from any sound store: the model's outcomes, the bound, and the model's set in the store that is left
pub listed-as : {store after : Store} {calls : List Call} {outcomes : List Outcome} (f : Fixed) (S : List Record)
    → fixed_of store.state ≡ f → Sound store S → Run store calls outcomes after
    → (outcomes ≡ run f S calls) × WithinBounds f S calls outcomes × Sound after (last_set f S calls)
unfolding run
listed-as f S e h no_call = (refl, tt, h)
listed-as f S e h (one_more {before = before} {between = between} {c = c} {cs = cs} {o = o} {os = os} p r) =
    let step : Stepped before S c o between = stepped before between S c o p h in
    let o-as : o ≡ outcome f S c = rw e at step.as-model in
    let bounded : ReadsBounded f S c o = rw e at step.bounded in
    let sound : Sound between (next f S c) = rw e at step.shown in
    let rest = listed-as f (next f S c) (fixed_of-promised before between c o p ∙ e) sound r in
    let all-as : o ∷ os ≡ run f S (c ∷ cs) = cc in
    (all-as, (bounded, rest.1), rest.2)

-- one call more at the end
pub run_more : {before between after : Store} {cs : List Call} {os : List Outcome} (c : Call) (o : Outcome)
    → Run before cs os between → Promised between c o after → Run before (cs ++ c ∷ []) (os ++ o ∷ []) after
run_more c o no_call p = one_more p no_call
run_more c o (one_more q r) p = one_more q (run_more c o r p)

-- ---- demand 3

-- an accepted Fresh met no condition for refusal
fresh-accepted : (s : Shape) (m : Memory) (fresh : Store) → FreshPromise s m (accepted tt) fresh
    → fresh_number s m ≡ 0
fresh-accepted s m fresh p = accepted-answered_by tt tt (fresh_refusals s m) p.answered-as

-- the store that it leaves
fresh-store : (s : Shape) (m : Memory) (fresh : Store) → FreshPromise s m (accepted tt) fresh
    → fresh ≡ record { state = fresh_state s m; memory = fresh_memory s m }
fresh-store s m fresh p =
    let number = fresh-accepted s m fresh p in
    let state : fresh.state ≡ fresh_state s m = rw number at p.state-as in
    let memory : fresh.memory ≡ fresh_memory s m = rw number at p.memory-as in
    same_store state memory

-- what it fixes is what the model is given
pub fixed_of-fresh : (s : Shape) (m : Memory) (fresh : Store) → FreshPromise s m (accepted tt) fresh
    → fixed_of fresh.state ≡ fixed_by s (length m.words) (length m.bytes)
fixed_of-fresh s m fresh p = rw (fresh-store s m fresh p) (fixed_of-fresh_state s m)

pub history : History
history s m fresh p calls outcomes after r =
    let f = fixed_by s (length m.words) (length m.bytes) in
    let sound : Sound fresh [] = rw (fresh-store s m fresh p) (sound-of-fresh s m (fresh-accepted s m fresh p)) in
    listed-as f [] (fixed_of-fresh s m fresh p) sound r
