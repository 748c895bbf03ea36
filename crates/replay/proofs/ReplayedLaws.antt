-- Laws of a replay: a refused Fresh or load, and the calls run on the store that an accepted one leaves. Assumes
-- nothing.
use Prim.Native.Nat.{ℕ, suc, ◌*◌}
use mathlib.Core.Path.{◌≡◌, refl, sym, ap, subst, ◌∙◌}
use mathlib.Core.Bool.{true, false≢true}
use mathlib.Core.List.{List, [], ◌++◌}
use mathlib.Core.Option.{Option, none, some}
use native.Mathlib.Omega.{arith}
use lib.ListN.{length, drop}
use Rattle.shape.specs.Refusal.{Condition, accepted, is_refused, first_number, answered_by}
use Rattle.shape.specs.Refusal.{refused_by, refusal_number, refusal_value, told}
use Rattle.shape.specs.declared.refusal.Refusal.{Refusal}
use Rattle.shape.specs.declared.Shape.{Shape}
use Rattle.shape.proofs.RefusalLaws.{accepted-answered_by}
use Rattle.record.specs.Record.{Record}
use Rattle.model.specs.Model.{Fixed, Outcome}
use Rattle.store.specs.Store.{Store, Memory, fixed_of}
use Rattle.store.specs.Sound.{Sound}
use Rattle.store.specs.Fresh.{FreshPromise, fresh_refusals, no_state}
use Rattle.history.specs.History.{WithinBounds, no_call}
use Rattle.history.proofs.HistoryLaws.{same_store, listed-as, fixed_of-run, fixed_of-fresh, history}
use Rattle.store.proofs.NumberLaws.{answered_by-fresh}
use Rattle.file.specs.File.{file_records}
use Rattle.file.specs.Loading.{load_refusals}
use Rattle.file.specs.Promises.{LoadPromise}
use Rattle.file.proofs.LoadingLaws.{answered_by-load}
use Rattle.saved.proofs.HistoryFromLaws.{fixed_of-loaded}
use Rattle.replay_encoding.specs.Encoding.{call_count, answer_size, answers_of, outputs_of, output_start}
use Rattle.replay.specs.Private.{CallsRan}
use Rattle.replay.specs.Replayed.{model_calls, ReplayedFrom, Replayed, ReplayedFile}

-- ---- from any start

is_refused-by : (n : ℕ) (o : Option ℕ) → is_refused {A = Unit {0}} (refused_by n o) ≡ true
is_refused-by n none = refl
is_refused-by n (some x) = refl

is_refused-told : (r : Refusal) → is_refused {A = Unit {0}} (told r) ≡ true
is_refused-told r = is_refused-by (refusal_number r) (refusal_value r)

-- the conditions of Fresh or of a load, a set, and what the model is given
module _ (first : List Condition) (f : Fixed) (S : List Record) (m : Memory) (words answers out : List ℕ) where
  from-refused : (r : Refusal) (after : Store) → told r ≡ answered_by {A = Unit {0}} first tt
      → (first_number first ≡ 0 → answered_by {A = Unit {0}} first tt ≡ accepted tt)
      → ((k : ℕ) → first_number first ≡ suc k → after ≡ record { state = no_state; memory = m })
      → ReplayedFrom first f S m words answers out (told r) after answers out
  from-refused r after answered-as passed kept =
      let clash : first_number first ≡ 0 → ⊥ =
      λ e. false≢true (sym (ap is_refused (answered-as ∙ passed e)) ∙ is_refused-told r) in
      record {
        refused_as = λ k e. (answered-as, kept k e, refl, refl);
        accepted-as = λ e. absurd (clash e);
        fixed-as = λ e. absurd (clash e);
        answers-as = λ e. absurd (clash e);
        outputs-as = λ e. absurd (clash e);
        bounded = λ e. absurd (clash e);
        shown = λ e. absurd (clash e);
      }

  from-accepted : (start after : Store) (answers' out' : List ℕ) → accepted tt ≡ answered_by {A = Unit {0}} first tt
      → fixed_of start.state ≡ f → Sound start S
      → CallsRan start words answers out (call_count words answers) after answers' out'
      → ReplayedFrom first f S m words answers out (accepted tt) after answers' out'
  from-accepted start after answers' out' answered-as fixed sound r =
      let cs = model_calls words answers out in
      let model = listed-as f S fixed sound r.ran in
      let zeroth = accepted-answered_by tt tt first answered-as in
      record {
        refused_as = λ n e. absurd (omega (arith, zeroth, e));
        accepted-as = λ e. refl;
        fixed-as = λ e. fixed_of-run r.ran ∙ fixed;
        answers-as = λ e.
            r.answers-as ∙ ap (λ os. answers_of os ++ drop (answer_size * call_count words answers) answers) model.0;
        outputs-as = λ e.
            r.outputs-as
            ∙ ap (λ os. outputs_of os ++ drop (output_start words (length out) (call_count words answers)) out) model.0;
        bounded = λ e. subst (λ (os : List Outcome). WithinBounds f S cs os) model.0 model.1;
        shown = λ e. model.2;
      }

-- ---- from a fresh store

module _ (s : Shape) (m : Memory) (words answers out : List ℕ) where
  pub replayed-refused : (r : Refusal) (after : Store) → FreshPromise s m (told r) after
      → Replayed s m words answers out (told r) after answers out
  replayed-refused r after p =
      from-refused (fresh_refusals s m) _ [] m words answers out r after p.answered-as (answered_by-fresh s m)
      (λ k d. same_store (rw d at p.state-as) (rw d at p.memory-as))

  pub replayed-accepted : (fresh after : Store) (answers' out' : List ℕ) → FreshPromise s m (accepted tt) fresh
      → CallsRan fresh words answers out (call_count words answers) after answers' out'
      → Replayed s m words answers out (accepted tt) after answers' out'
  replayed-accepted fresh after answers' out' p r =
      from-accepted (fresh_refusals s m) _ [] m words answers out fresh after answers' out' p.answered-as
      (fixed_of-fresh s m fresh p) (history s m fresh p [] [] fresh no_call).2 r

-- ---- from a loaded store

module _ (file : List ℕ) (m : Memory) (words answers out : List ℕ) where
  pub replayed-file-refused : (r : Refusal) (after : Store) → LoadPromise file m (told r) after
      → ReplayedFile file m words answers out (told r) after answers out
  replayed-file-refused r after p =
      let e = is_refused-told r in
      from-refused (load_refusals file m) _ (file_records file) m words answers out r after p.answered-as
      (answered_by-load file m) (λ k d. same_store (p.no-state e) (p.memory_kept e))

  pub replayed-file-accepted : (loaded after : Store) (answers' out' : List ℕ)
      → LoadPromise file m (accepted tt) loaded
      → CallsRan loaded words answers out (call_count words answers) after answers' out'
      → ReplayedFile file m words answers out (accepted tt) after answers' out'
  replayed-file-accepted loaded after answers' out' p r =
      from-accepted (load_refusals file m) _ (file_records file) m words answers out loaded after answers' out'
      p.answered-as (fixed_of-loaded file m loaded p) (p.shown refl) r
