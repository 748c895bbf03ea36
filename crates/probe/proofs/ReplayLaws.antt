-- Laws of a replay's answer as a number and an attribute. Assumes nothing.
use Prim.Native.Nat.{ℕ, zero, suc}
use mathlib.Core.Path.{◌≡◌, refl, sym, ◌∙◌, subst}
use mathlib.Core.List.{List}
use Rattle.shape.specs.Refusal.{Condition, Answer, accepted, first_number, answered_by, number_told, carried_beside}
use Rattle.shape.specs.declared.Shape.{Shape}
use Rattle.shape.proofs.RefusalLaws.{Named}
use Rattle.record.specs.Record.{Record}
use Rattle.model.specs.Model.{Fixed}
use Rattle.store.specs.Store.{Store, Memory}
use Rattle.host_results.specs.Result.{Keeps}
use Rattle.host_results.proofs.ResultLaws.{keeps-reported}
use Rattle.host_results.proofs.ToldLaws.{reports-told}
use Rattle.replay.specs.Replayed.{ReplayedFrom}

module _ (s : Shape) (first : List Condition) (named : Named s first)
    (done : first_number first ≡ 0 → answered_by {A = Unit {0}} first tt ≡ accepted tt) (f : Fixed) (S : List Record)
    (m : Memory) (words answers out : List ℕ) (after : Store) (answers' out' : List ℕ) where
  abbrev Gives : Answer (Unit {0}) → Type 0
  Gives answer = ReplayedFrom first f S m words answers out answer after answers' out'

  -- a replay answers as Fresh, or the load, does
  replayed-answer : (answer : Answer (Unit {0})) → Gives answer → answer ≡ answered_by first tt
  replayed-answer answer r = by_number (first_number first) refl
    where
      by_number : (n : ℕ) → first_number first ≡ n → answer ≡ answered_by first tt
      by_number zero e = r.accepted-as e ∙ sym (done e)
      by_number (suc n) e = (r.refused_as n e).0

  -- what is replayed, told by a number and an attribute
  pub replayed-told : (answer : Answer (Unit {0})) (number attribute : ℕ)
      → (number ≡ number_told answer) × (attribute ≡ carried_beside 14 answer) → Gives answer
      → Keeps {A = Unit {0}} number attribute tt tt Gives
  replayed-told answer number attribute told r =
      let e = replayed-answer answer r in
      keeps-reported (answered_by first tt) Gives number attribute tt tt (subst Gives e r)
      (reports-told s first named done answer number attribute e told)
