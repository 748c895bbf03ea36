-- Laws of changes on a state in lent words: number, attribute and depth tell an answer; an accepted call has a state's
-- words; the promise over the words from that of the call. Assumes nothing.
use Prim.Native.Nat.{ℕ, zero, suc, ◌≤◌, ◌<◌}
use mathlib.Core.Path.{◌≡◌, refl, sym, ap, subst, ◌∙◌}
use mathlib.Core.Bool.{Bool, true, false, false≢true}
use mathlib.Core.List.{List}
use native.Mathlib.Decide.{dec_lt}
use native.Mathlib.Omega.{arith}
use borrow.Author.Tests.{ne_eqb}
use lib.ListN.{length, drop}
use Rattle.lists.specs.Members.{All}
use Rattle.lists.proofs.MemberLaws.{All-member}
use Rattle.shape.specs.Refusal.{Condition, Answer, accepted, refused, refused_with, is_refused, first_number}
use Rattle.shape.specs.Refusal.{number_told, carried_beside}
use Rattle.shape.specs.Shape.{shape_conditions}
use Rattle.shape.specs.declared.Shape.{Shape}
use Rattle.shape.proofs.RefusalLaws.{refused_for-case, Named, for-refused_first}
use Rattle.record.specs.declared.Content.{Content}
use Rattle.record.specs.Record.{Record}
use Rattle.model.specs.Model.{Reply, changed}
use Rattle.store.specs.Fresh.{no_state}
use Rattle.store.specs.Store.{Store, store, lent_conditions}
use Rattle.store.specs.Promises.{key_refusals, key_number, insert_refusals, insert_number, depth_at}
use Rattle.store.specs.Promises.{ChangePromise, InsertPromise, DeletePromise}
use Rattle.store.specs.declared.State.{State}
use Rattle.store.proofs.NumberLaws.{named-key, named-insert, key_number-not-five, insert_number-not-five}
use Rattle.host_state.specs.Image.{state_size, state_in}
use Rattle.host_state.proofs.ImageLaws.{state_in-short}
use Rattle.host_results.specs.Result.{key_answer}
use Rattle.host_results.specs.Settled.{depth_told, Settled}
use Rattle.host_results.proofs.ResultLaws.{numbered_answer-refused}
use Rattle.host_results.proofs.SettledLaws.{is_refused-number_told}
use Rattle.host_results.proofs.ToldLaws.{carried_beside-other}
use Rattle.host_changes.specs.Changes.{LentChangePromise}

-- a refusal's number other than 5 and 14 tells it
key_answer-refused : {A : Type 0} (n attribute depth : ℕ) (x : A) → (n ≡ 0 → ⊥) → (n ≡ 5 → ⊥) → (n ≡ 14 → ⊥)
    → key_answer n attribute depth x ≡ refused n
key_answer-refused zero attribute depth x not-zero other width = absurd (not-zero refl)
key_answer-refused (suc n) attribute depth x not-zero other width =
    rw (ne_eqb n 4 (λ e. other (omega arith))) (numbered_answer-refused (suc n) attribute x not-zero width)

-- 5 alone of the refusals has a depth
depth_told-other : (answer : Answer Reply) (n : ℕ) → number_told answer ≡ suc n → (number_told answer ≡ 5 → ⊥)
    → depth_told answer ≡ 0
depth_told-other (accepted x) n e other = absurd (omega arith)
depth_told-other (refused m) n e other = refl
depth_told-other (refused_with m x) n e other = carried_beside-other {A = Reply} 5 (refused_with m x) other

-- ---- what is asked of a promise

-- number, attribute and depth tell the answer
abbrev Told : Answer Reply → Type 0
Told answer =
    key_answer (number_told answer) (carried_beside 14 answer) (depth_told answer) (changed (depth_told answer)) ≡ answer

-- of the states before and after: a state without attributes is refused, a refused call keeps the state, and number,
-- attribute and depth tell the answer
pub record Judged (Promise : State → Answer Reply → State → Type 0) : Type 0 where
  no-shape : (answer : Answer Reply) (after : State) → Promise no_state answer after → answer ≡ refused 1
  state-kept : (before after : State) (answer : Answer Reply) → Promise before answer after → is_refused answer ≡ true
      → after ≡ before
  told : (before after : State) (answer : Answer Reply) → Promise before answer after → Told answer

module _ {joins : Bool} {values : List ℕ} {early : List Condition} {answers : ℕ → List (Answer Reply)}
    {model : List Record → Answer Reply} {next : List Record → List Record} {before after : Store}
    {answer : Answer Reply} where
  change-told : (s : Shape) → Named s early → (first_number early ≡ 5 → ⊥) → ((x : ℕ) → All Told (answers x))
      → ChangePromise joins values early answers model next before answer after → Told answer
  change-told s named other ordinary p = go (first_number early) refl
    where
      go : (n : ℕ) → first_number early ≡ n → Told answer
      go zero e =
          let depth = depth_at after values in
          All-member Told (answers depth) (ordinary depth) answer (p.ordinary e)
      go (suc n) e =
          subst Told (sym (for-refused_first s early named n e answer (changed 0) p.early-refused))
          (refused_for-case s Told (suc n) (λ w. refl)
          (key_answer-refused (suc n) 0 0 (changed 0) (λ z. omega arith) (λ five. other (e ∙ five))))

module _ (ds bs ds' bs' values : List ℕ) where
  key_number-no_state : key_number (store no_state ds bs) values ≡ 1
  unfolding key_refusals first_number lent_conditions shape_conditions no_state
  key_number-no_state = refl

  insert_number-no_state : (content : Content) → insert_number (store no_state ds bs) values content ≡ 1
  unfolding insert_refusals first_number lent_conditions shape_conditions no_state
  insert_number-no_state content = refl

  pub insert-judged : (content : Content)
      → Judged (λ s answer s'. InsertPromise (store s ds bs) values content answer (store s' ds' bs'))
  insert-judged content =
      record {
        no-shape = λ answer s' p.
            for-refused_first no_state.shape (insert_refusals (store no_state ds bs) values content)
            (named-insert (store no_state ds bs) values content) 0 (insert_number-no_state content) answer (changed 0)
            p.early-refused;
        state-kept = λ s s' answer p e. ap (λ t. t.state) (p.unchanged e);
        told = λ s s' answer. change-told s.shape (named-insert (store s ds bs) values content)
            (insert_number-not-five (store s ds bs) values content)
            (λ x. (refl, (refl, (refl, (refl, (refl, tt))))));
      }

  pub delete-judged : Judged (λ s answer s'. DeletePromise (store s ds bs) values answer (store s' ds' bs'))
  delete-judged =
      record {
        no-shape = λ answer s' p.
            for-refused_first no_state.shape (key_refusals (store no_state ds bs) values)
            (named-key (store no_state ds bs) values) 0 key_number-no_state answer (changed 0) p.early-refused;
        state-kept = λ s s' answer p e. ap (λ t. t.state) (p.unchanged e);
        told = λ s s' answer. change-told s.shape (named-key (store s ds bs) values)
            (key_number-not-five (store s ds bs) values)
            (λ x. (refl, (refl, (refl, tt))));
      }

-- ---- a call on the state that the words show

module _ {Promise : State → Answer Reply → State → Type 0} (judged : Judged Promise) (words : List ℕ) where
  module _ (state : State) (read : state ≡ state_in words) (answer : Answer Reply) (after : State)
      (p : Promise state answer after) where
    -- fewer words than a state has show no shape, so that the call is refused
    pub words-of-done : is_refused answer ≡ false → state_size ≤ length words
    words-of-done done = go (dec_lt (length words) state_size)
      where
        go : Dec (length words < state_size) → state_size ≤ length words
        go (yes short) =
            let none : state ≡ no_state = read ∙ state_in-short words short in
            let one = judged.no-shape answer after (subst (λ s. Promise s answer after) none p) in
            absurd (false≢true (sym done ∙ ap is_refused one))
        go (no long) = omega arith

    -- the promise over the words
    pub promise-settled : (number attribute depth : ℕ) (words' : List ℕ)
        → (number ≡ number_told answer) × (attribute ≡ carried_beside 14 answer) × (depth ≡ depth_told answer)
        → Settled answer after words words' → LentChangePromise Promise words number attribute depth words'
    promise-settled number attribute depth words' same s =
        record {
          promise-kept =
              subst (λ a. Promise (state_in words) a (state_in words')) (sym telling)
              (subst (λ t. Promise t answer (state_in words')) read
              (subst (Promise state answer) (shown (is_refused answer) refl) p));
          depth-if-refused = λ n e other.
              same.2 ∙ depth_told-other answer n (sym same.0 ∙ e) (λ five. other (same.0 ∙ five));
          attribute-if-other = λ other.
              same.1 ∙ carried_beside-other 14 answer (λ width. other (same.0 ∙ width));
          words-kept = λ n e. s.words-refused (is_refused-number_told answer n (sym same.0 ∙ e));
          words-past = past (is_refused answer) refl;
        }
      where
        telling : key_answer number attribute depth (changed depth) ≡ answer
        telling = rw (same.0, same.1, same.2) (judged.told state after answer p)

        -- a refused call leaves the state
        shown : (b : Bool) → is_refused answer ≡ b → after ≡ state_in words'
        shown true e = judged.state-kept state after answer p e ∙ read ∙ ap state_in (sym (s.words-refused e))
        shown false e = sym (s.state-done e)

        past : (b : Bool) → is_refused answer ≡ b → drop state_size words' ≡ drop state_size words
        past true e = ap (drop state_size) (s.words-refused e)
        past false e = s.past-done e
