-- Demand 3 with saves among the calls: a call is a run of one, and a save is answered by the set that the store shows.
-- Assumes nothing.
use mathlib.Core.Path.{◌≡◌, refl, ap, ◌∙◌}
use mathlib.Core.List.{List, [], ◌∷◌}
use Rattle.record.specs.Record.{Record}
use Rattle.model.specs.Model.{Fixed, Outcome, run}
use Rattle.store.specs.Store.{Store, fixed_of}
use Rattle.store.specs.Sound.{Sound}
use Rattle.store.proofs.ReadLaws.{sound_where-of-sound}
use Rattle.history.specs.History.{Run, no_call, one_more}
use Rattle.history.proofs.HistoryLaws.{listed-as, fixed_of-run, fixed_of-fresh, history}
use Rattle.file.specs.Promises.{every_leaf}
use Rattle.saved.specs.Actions.{Action, call, save, ActionOutcome, called, saved, action_outcome, action_next}
use Rattle.saved.specs.Actions.{action_run, action_set, ActionPromised, ActionsRan, no-action, action-more}
use Rattle.saved.specs.Actions.{ActionBounded, ActionsBounded}
use Rattle.saved.specs.Actions.{SavedHistory}
use Rattle.saved.proofs.HistoryFromLaws.{fixed_of-loaded}

-- an action on a sound store: the model's outcome and set, the bound, and the same shape, P and L
record Acted (f : Fixed) (S : List Record) (x : Action) (o : ActionOutcome) (after : Store) : Type 0 where
  as-model : o ≡ action_outcome f S x
  bounded : ActionBounded f S x o
  shown : Sound after (action_next f S x)
  fixed : fixed_of after.state ≡ f

first : {o o' : Outcome} → ◌≡◌ {A = List Outcome} (o ∷ []) (o' ∷ []) → o ≡ o'
first e = cc

acted : (f : Fixed) (S : List Record) (before after : Store) (x : Action) (o : ActionOutcome)
    → fixed_of before.state ≡ f → Sound before S → ActionPromised before x o after → Acted f S x o after
unfolding action_outcome run
acted f S before after (call c) (called o) e h p =
    let one : Run before (c ∷ []) (o ∷ []) after = one_more p no_call in
    let all = listed-as f S e h one in
    record {
      as-model = ap called (first all.0);
      bounded = all.1.0;
      shown = all.2;
      fixed = fixed_of-run one ∙ e;
    }
acted f S before after (call c) (saved answer out') e h p = absurd p
acted f S before after (save out) (called o) e h p = absurd p
acted f S before after (save out) (saved answer out') e h p =
    let as-file = p.0.saved-as S (sound_where-of-sound before every_leaf S h) in
    record {
      as-model = rw (as-file.0, as-file.1, ap (λ g. g.shape) e);
      bounded = tt;
      shown = rw p.1 h;
      fixed = rw p.1 e;
    }

-- from any sound store
pub actions-as : {store after : Store} {actions : List Action} {outcomes : List ActionOutcome} (f : Fixed)
    (S : List Record) → fixed_of store.state ≡ f → Sound store S → ActionsRan store actions outcomes after
    → (outcomes ≡ action_run f S actions) × ActionsBounded f S actions outcomes × Sound after (action_set f S actions)
unfolding action_run
actions-as f S e h no-action = (refl, tt, h)
actions-as f S e h (action-more {before = before} {between = between} {x = x} {xs = xs} {o = o} {os = os} p r) =
    let action : Acted f S x o between = acted f S before between x o e h p in
    let o-as : o ≡ action_outcome f S x = action.as-model in
    let rest = actions-as f (action_next f S x) action.fixed action.shown r in
    let all-as : o ∷ os ≡ action_run f S (x ∷ xs) = (λ i. o-as i ∷ rest.0 i) in
    (all-as, (action.bounded, rest.1), rest.2)

pub saved-history : SavedHistory
saved-history =
    record {
      from-fresh = λ s m fresh p actions outcomes after r.
          actions-as _ [] (fixed_of-fresh s m fresh p) (history s m fresh p [] [] fresh no_call).2 r;
      from-loaded = λ file m loaded p actions outcomes after r.
          actions-as _ _ (fixed_of-loaded file m loaded p) (p.shown refl) r;
    }
