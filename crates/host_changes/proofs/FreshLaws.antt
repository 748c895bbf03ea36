-- Laws of Fresh on a state in lent words: its conditions; its promise from that of Fresh, for fewer words than a state
-- has and for others, and back. Assumes nothing.
use Prim.Native.Nat.{ℕ, zero, suc, ◌≤◌, ◌<◌}
use mathlib.Core.Path.{◌≡◌, refl, sym, ap, ◌∙◌}
use mathlib.Core.Bool.{Bool, true, false, not, cond, false≢true}
use mathlib.Core.List.{List, [], ◌++◌}
use borrow.Author.Tests.{lt-ltb, le-ltb}
use lib.ListN.{length}
use Rattle.shape.specs.Refusal.{Condition, Answer, accepted, refused, refused_with, is_refused, first_number, answered_by}
use Rattle.shape.specs.Refusal.{number_told, carried_beside}
use Rattle.shape.specs.Shape.{count_fits, widths_fit, capacity_fits, lowest_bad, shape_conditions, widths_of}
use Rattle.shape.specs.declared.Shape.{Shape}
use Rattle.shape.proofs.RefusalLaws.{Named}
use Rattle.model.specs.Limits.{fresh_shape}
use Rattle.model.specs.Model.{if_accepted}
use Rattle.model.proofs.ConditionLaws.{answered_by-accepted}
use Rattle.store.specs.Fresh.{FreshPromise, fresh_refusals, fresh_number, fresh_state, fresh_memory, no_state}
use Rattle.store.specs.Store.{Memory, memory, store}
use Rattle.store.specs.declared.State.{State}
use Rattle.fresh.specs.Memory.{lacks_word_or_page}
use Rattle.host_state.specs.Image.{state_size, state_in, state_put}
use Rattle.host_state.proofs.ImageLaws.{state_in-state_put}
use Rattle.host_results.specs.Result.{numbered_answer, Reports}
use Rattle.host_results.specs.Settled.{Settled}
use Rattle.host_results.proofs.SettledLaws.{is_refused-number_told}
use Rattle.host_results.proofs.ToldLaws.{number_told-answered_by, number_told-numbered_answer, reports-told}
use Rattle.host_changes.specs.Fresh.{lent_fresh_refusals, lent_fresh_number, LentFreshPromise}

-- ---- the conditions

-- the same answer has the same number
number-of-answer : (cs ds : List Condition) → answered_by {A = Unit {0}} cs tt ≡ answered_by ds tt
    → first_number cs ≡ first_number ds
number-of-answer cs ds e = sym (number_told-answered_by tt cs) ∙ ap number_told e ∙ number_told-answered_by tt ds

cond_same : {A : Type 0} (β : Bool) (x : A) → cond β x x ≡ x
cond_same true x = refl
cond_same false x = refl

some-of-three : (a b c : Bool) → (n : ℕ) × (cond a 1 (cond b 14 (cond c 15 2)) ≡ suc n)
some-of-three true b c = (0, refl)
some-of-three false true c = (13, refl)
some-of-three false false true = (14, refl)
some-of-three false false false = (1, refl)

module _ (s : Shape) (words ds bs : List ℕ) where
  abbrev m : Memory
  m = memory ds bs

  named-lent-fresh : Named s (lent_fresh_refusals s words m)
  unfolding lent_fresh_refusals fresh_refusals shape_conditions
  named-lent-fresh = (refl, (refl, (refl, (refl, (refl, tt)))))

  lent-fresh-accepted : lent_fresh_number s words m ≡ 0
      → answered_by {A = Unit {0}} (lent_fresh_refusals s words m) tt ≡ accepted tt
  unfolding lent_fresh_refusals fresh_refusals shape_conditions
  lent-fresh-accepted = answered_by-accepted tt (lent_fresh_refusals s words m) refl

  -- with a state's words, those of Fresh
  answered-long : state_size ≤ length words
      → answered_by {A = Unit {0}} (lent_fresh_refusals s words m) tt ≡ answered_by (fresh_refusals s m) tt
  unfolding lent_fresh_refusals fresh_refusals shape_conditions answered_by
  answered-long h = rw (le-ltb (length words) state_size h) refl

  number-long : state_size ≤ length words → lent_fresh_number s words m ≡ fresh_number s m
  number-long h = number-of-answer (lent_fresh_refusals s words m) (fresh_refusals s m) (answered-long h)

  -- with fewer, those of a Fresh in no memory: 1, 14, 15, then 2
  answered-short : length words < state_size
      → answered_by {A = Unit {0}} (lent_fresh_refusals s words m) tt ≡ answered_by (fresh_refusals s (memory [] [])) tt
  unfolding lent_fresh_refusals fresh_refusals shape_conditions answered_by
  answered-short h =
      rw (lt-ltb (length words) state_size h)
      (ap
      (λ a. cond (not (count_fits s)) (refused 1) (cond (not (widths_fit s)) (refused_with 14 (lowest_bad s))
      (cond (not (capacity_fits s)) (refused 15) a)))
      (cond_same (lacks_word_or_page s (length ds) (length bs)) (refused 2)))

  number_short : length words < state_size → lent_fresh_number s words m ≡ fresh_number s (memory [] [])
  number_short h =
      number-of-answer (lent_fresh_refusals s words m) (fresh_refusals s (memory [] [])) (answered-short h)

  -- a Fresh in no memory is refused
  fresh_number-some : (n : ℕ) × (fresh_number s (memory [] []) ≡ suc n)
  unfolding fresh_refusals shape_conditions first_number
  fresh_number-some = some-of-three (not (count_fits s)) (not (widths_fit s)) (not (capacity_fits s))

  reported-of : (answer : Answer (Unit {0})) (number attribute : ℕ)
      → answer ≡ answered_by (lent_fresh_refusals s words m) tt
      → (number ≡ number_told answer) × (attribute ≡ carried_beside 14 answer)
      → Reports {A = Unit {0}} number attribute tt tt (answered_by (lent_fresh_refusals s words m) tt)
  reported-of = reports-told s (lent_fresh_refusals s words m) named-lent-fresh lent-fresh-accepted

  -- ---- with fewer words than a state has, a Fresh in no memory

  module _ (short : length words < state_size) (answer : Answer (Unit {0})) (after : State) (ds' bs' : List ℕ)
      (p : FreshPromise s (memory [] []) answer (store after ds' bs')) where
    not_done : is_refused answer ≡ true
    not_done =
        is_refused-number_told answer fresh_number-some.0
        (ap number_told p.answered-as ∙ number_told-answered_by tt (fresh_refusals s (memory [] []))
        ∙ fresh_number-some.1)

    pub short-not-done : is_refused answer ≡ false → ⊥
    short-not-done e = false≢true (sym e ∙ not_done)

    -- what is put back in front of words and bytes is nothing
    pub short-settled : (number attribute : ℕ) (words' : List ℕ)
        → (number ≡ number_told answer) × (attribute ≡ carried_beside 14 answer) → Settled answer after words words'
        → LentFreshPromise s words m number attribute words' (memory (ds' ++ ds) (bs' ++ bs))
    short-settled number attribute words' told t =
        let number-as = number_short short ∙ fresh_number-some.1 in
        let none : memory ds' bs' ≡ memory [] [] = rw fresh_number-some.1 at p.memory-as in
        record {
          reported = reported-of answer number attribute (p.answered-as ∙ sym (answered-short short)) told;
          words-as = rw number-as (t.words-refused not_done);
          memory-as = rw number-as (ap (λ n. memory (n.words ++ ds) (n.bytes ++ bs)) none);
        }

  -- ---- with the words of a state

  module _ (long : state_size ≤ length words) (answer : Answer (Unit {0})) (after : State) (ds' bs' : List ℕ)
      (p : FreshPromise s m answer (store after ds' bs')) where
    pub long-settled : (number attribute : ℕ) (words' : List ℕ)
        → (number ≡ number_told answer) × (attribute ≡ carried_beside 14 answer) → Settled answer after words words'
        → LentFreshPromise s words m number attribute words' (memory ds' bs')
    long-settled number attribute words' told t =
        record {
          reported = reported-of answer number attribute same told;
          words-as = settled-as (fresh_number s m) refl;
          memory-as = p.memory-as ∙ ap (λ k. if_accepted k (fresh_memory s m) m) (sym (number-long long));
        }
      where
        same : answer ≡ answered_by (lent_fresh_refusals s words m) tt
        same = p.answered-as ∙ sym (answered-long long)

        settled-as : (n : ℕ) → fresh_number s m ≡ n
            → words' ≡ if_accepted (lent_fresh_number s words m) (state_put (fresh_state s m) words) words
        settled-as zero e =
            let none : lent_fresh_number s words m ≡ 0 = number-long long ∙ e in
            let done : answer ≡ accepted tt = same ∙ lent-fresh-accepted none in
            rw none (t.words-done (ap is_refused done) ∙ ap (λ u. state_put u words) (rw e at p.state-as))
        settled-as (suc n) e =
            let number-as : lent_fresh_number s words m ≡ suc n = number-long long ∙ e in
            let told-as = ap number_told same ∙ number_told-answered_by tt (lent_fresh_refusals s words m) ∙ number-as in
            rw number-as (t.words-refused (is_refused-number_told answer n told-as))

  -- ---- back

  lists-of-fresh : state_in (state_put (fresh_state s m) words) ≡ fresh_state s m
  unfolding fresh_state fresh_shape widths_of
  lists-of-fresh = state_in-state_put (fresh_state s m) words refl refl

  -- with a state's words nothing of Fresh's promise is lost: the words show the state that it returns
  module _ (long : state_size ≤ length words) (number attribute : ℕ) (words' : List ℕ) (m' : Memory) where
    pub fresh-promise-of : LentFreshPromise s words m number attribute words' m'
        → FreshPromise s m (numbered_answer number attribute tt)
        (record { state = if_accepted number (state_in words') no_state; memory = m' })
    fresh-promise-of p =
        record {
          answered-as = answered;
          state-as = shown (fresh_number s m) refl;
          memory-as = p.memory-as ∙ ap (λ k. if_accepted k (fresh_memory s m) m) (number-long long);
        }
      where
        answered : numbered_answer {A = Unit {0}} number attribute tt ≡ answered_by (fresh_refusals s m) tt
        answered = p.reported.answer-as ∙ answered-long long

        same : number ≡ fresh_number s m
        same =
            sym (number_told-numbered_answer number attribute tt) ∙ ap number_told answered
            ∙ number_told-answered_by tt (fresh_refusals s m)

        shown : (k : ℕ) → fresh_number s m ≡ k
            → if_accepted number (state_in words') no_state ≡ if_accepted (fresh_number s m) (fresh_state s m) no_state
        shown zero e =
            ap (λ k. if_accepted k (state_in words') no_state) (same ∙ e)
            ∙ ap state_in
            (p.words-as ∙ ap (λ k. if_accepted k (state_put (fresh_state s m) words) words) (number-long long ∙ e))
            ∙ lists-of-fresh
            ∙ sym (ap (λ k. if_accepted k (fresh_state s m) no_state) e)
        shown (suc k) e =
            ap (λ k. if_accepted k (state_in words') no_state) (same ∙ e)
            ∙ sym (ap (λ k. if_accepted k (fresh_state s m) no_state) e)
