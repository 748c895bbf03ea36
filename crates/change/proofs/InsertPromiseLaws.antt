-- The promise of insert: refused early, with 1, 14, 15, 2, 3 or 11, or that of the record that is added. Assumes
-- nothing.
use Prim.Native.Nat.{ℕ, suc}
use mathlib.Core.Path.{◌≡◌, refl, sym, ap, ◌∙◌}
use mathlib.Core.Bool.{false}
use mathlib.Core.List.{List, ◌++◌}
use Rattle.shape.specs.Amiss.{refused_for}
use Rattle.shape.specs.Refusal.{Condition, Answer, refused, answered}
use Rattle.shape.specs.Shape.{shape_conditions}
use Rattle.shape.proofs.RefusalLaws.{refused_for-other, refused_first-none}
use Rattle.record.specs.declared.Content.{Content}
use Rattle.record.specs.Record.{Record}
use Rattle.model.specs.Model.{Fixed, Reply, insert_call, record_for, key_conditions, payload_conditions, add_conditions}
use Rattle.model.specs.Model.{number_for, reply_to, set_after, outcome, next}
use Rattle.model.specs.Sets.{with_record}
use Rattle.model.proofs.ConditionLaws.{first_number-first, first_number-rest}
use Rattle.model.proofs.AnswerLaws.{answer-insert}
use Rattle.model.proofs.InsertLaws.{outcome-insert-other, next-insert-other}
use Rattle.store.specs.Store.{Store, fixed_of, lent_conditions}
use Rattle.store.specs.Sound.{Sound}
use Rattle.store.specs.Promises.{key_number, insert_refusals, insert_number, insert_answers, AddPromise, InsertPromise}
use Rattle.store.proofs.NumberLaws.{first_number-other, named-insert}
use Rattle.store.proofs.InsertNumberLaws.{insert_number-key, insert_number-zero, insert_number-other}
use Rattle.change.proofs.PromiseLaws.{numbered-lent, lent-of-sound, promise-early}

module _ (before : Store) (values : List ℕ) (content : Content) where
  abbrev f : Fixed
  f = fixed_of before.state

  -- 3, then 11
  abbrev others : List Condition
  others = key_conditions f.shape values ++ payload_conditions content

  -- on a sound store the early number is the model's
  model-number : (S : List Record) → Sound before S → (n : ℕ) → insert_number before values content ≡ suc n
      → number_for f S (insert_call values content) ≡ suc n
  unfolding insert_refusals number_for lent_conditions shape_conditions
  model-number S sound n e =
      first_number-first others (add_conditions f S (record_for f.shape values content)) n
      (sym (first_number-rest (lent_conditions before) others (numbered-lent before) (lent-of-sound before S sound)) ∙ e)

  -- the model has no 14
  not-fourteen : (S : List Record) → number_for f S (insert_call values content) ≡ 14 → ⊥
  unfolding number_for
  not-fourteen S = first_number-other 13 _ refl

  early : (n : ℕ) → insert_number before values content ≡ suc n
      → InsertPromise before values content (refused_for f.shape (suc n)) before
  unfolding next set_after
  early n e =
      promise-early false values (insert_refusals before values content) insert_answers
      (λ S. (outcome f S (insert_call values content)).answer) (λ S. number_for f S (insert_call values content))
      (λ S. with_record f.shape (record_for f.shape values content) S) before
      (named-insert before values content) n
      (λ S sound. let number = model-number S sound n e in (
        refused_for-other f.shape (suc n) (λ d. not-fourteen S (number ∙ d))
            ∙ sym (answer-insert f S values content
            ∙ ap (λ k. answered k (reply_to f S (insert_call values content))) number),
        number,
      )) e

  -- refused with 1, 14, 15, 2 or 3
  pub insert-early : (n : ℕ) → key_number before values ≡ suc n
      → InsertPromise before values content (refused_for f.shape (suc n)) before
  insert-early n e = early n (insert_number-key before values content n e)

  module _ (none : key_number before values ≡ 0) where
    -- with 11
    pub insert-zero : content.payload ≡ 0 → InsertPromise before values content (refused 11) before
    insert-zero e = early 10 (insert_number-zero before values content none e)

    -- or the record is added
    pub insert-added : (content.payload ≡ 0 → ⊥) → (answer : Answer Reply) (after : Store)
        → AddPromise before values content answer after → InsertPromise before values content answer after
    insert-added some answer after p =
        let number = insert_number-other before values content none some in
        record {
          early-refused = refused_first-none f.shape (insert_refusals before values content) number answer;
          unchanged = p.unchanged;
          ordinary = λ e. p.ordinary none;
          shape-kept = p.shape-kept;
          limits-kept = p.limits-kept;
          words-length = p.words-length;
          bytes-length = p.bytes-length;
          words-past = p.words-past;
          bytes_past = p.bytes_past;
          contained = p.contained;
          answered-as = λ S sound. p.answered-as S sound ∙ sym (outcome-insert-other f S values content some);
          shown = λ S sound. rw (next-insert-other f S values content some) (p.shown S sound);
          pages-kept = λ S sound. rw (next-insert-other f S values content some) (p.pages-kept S sound);
          pages-taken = λ S sound. rw (next-insert-other f S values content some) (p.pages-taken S sound);
        }
