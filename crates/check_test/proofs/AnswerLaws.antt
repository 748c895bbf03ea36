-- The answer of check keeps its promise. Assumes nothing.
use Prim.Native.Nat.{ℕ, suc}
use mathlib.Core.Path.{◌≡◌, refl, sym, ap, ◌∙◌}
use mathlib.Core.Bool.{Bool, true, false, false≢true}
use mathlib.Core.List.{List}
use mathlib.Core.Logic.{◌⊎◌, inl, inr}
use Rattle.shape.specs.Amiss.{refused_for}
use Rattle.shape.specs.Refusal.{accepted}
use Rattle.shape.specs.Shape.{shape_conditions}
use Rattle.shape.specs.declared.Shape.{Shape}
use Rattle.shape.proofs.RefusalLaws.{answered_by-named}
use Rattle.record.specs.Record.{Record}
use Rattle.model.proofs.ConditionLaws.{answered_by-accepted}
use Rattle.store.specs.Store.{Store, lent_conditions}
use Rattle.store.specs.Sound.{Sound}
use Rattle.store.specs.Promises.{lent_number, CheckPromise}
use Rattle.store.proofs.NumberLaws.{named-lent}
use Rattle.check_test.specs.Test.{shown_set, sound_test, check_answer}
use Rattle.check_test.proofs.SoundLaws.{yes-sound, sound-yes}

module _ (store : Store) where
  -- ---- by case

  abbrev s : Shape
  s = store.state.shape

  pub check_answer-refused : (n : ℕ) → lent_number store ≡ suc n → check_answer store ≡ refused_for s (suc n)
  unfolding check_answer
  check_answer-refused n e = answered_by-named s (sound_test store) (lent_conditions store) (named-lent store) n e

  pub check_answer-accepted : lent_number store ≡ 0 → check_answer store ≡ accepted (sound_test store)
  unfolding check_answer lent_conditions shape_conditions
  check_answer-accepted e = answered_by-accepted (sound_test store) (lent_conditions store) refl e

  -- ---- the promise

  pub check-promise : CheckPromise store (check_answer store)
  check-promise =
      record {
        early-refused = λ n e x.
            check_answer-refused n e ∙ sym (answered_by-named s x (lent_conditions store) (named-lent store) n e);
        verdict = λ e. by-test (sound_test store) refl (check_answer-accepted e);
      }
    where
      by-test : (β : Bool) → sound_test store ≡ β → check_answer store ≡ accepted (sound_test store)
          → ((check_answer store ≡ accepted true) × ((S : List Record) × Sound store S))
          ⊎ ((check_answer store ≡ accepted false) × ((S : List Record) → Sound store S → ⊥))
      by-test true d a = inl (a ∙ ap accepted d, (shown_set store, yes-sound store d))
      by-test false d a = inr (a ∙ ap accepted d, λ S h. false≢true (sym d ∙ sound-yes store S h))
