-- Laws of load on a state in lent words: into no memory it is refused; its conditions; its promise from that of load,
-- for fewer words than a state has and for others. Assumes nothing.
use Prim.Native.Nat.{ℕ, zero, suc, ◌≤◌, ◌<◌}
use mathlib.Core.Path.{◌≡◌, refl, sym, ap, subst, ◌∙◌}
use mathlib.Core.Bool.{Bool, true, false, false≢true, cond, not, ◌&&◌}
use mathlib.Core.List.{List, [], ◌++◌}
use native.Mathlib.Omega.{arith}
use borrow.Author.Tests.{lt-ltb, le-ltb}
use lib.ListN.{length, drop}
use Rattle.shape.specs.Refusal.{Condition, Answer, accepted, is_refused, first_number, answered_by}
use Rattle.shape.specs.Refusal.{number_told, carried_beside}
use Rattle.shape.specs.Shape.{shape_number, shape_conditions}
use Rattle.shape.proofs.RefusalLaws.{first_number-shape, first_number-shape-out}
use Rattle.model.specs.Sets.{is_set}
use Rattle.store.specs.Fresh.{fresh_conditions}
use Rattle.store.specs.Store.{Store, Memory, memory, store}
use Rattle.store.specs.declared.State.{State}
use Rattle.file.specs.File.{file_shape, file_records, is_whole, is_plain}
use Rattle.file.specs.Loading.{load_fixed, join_conditions, content_conditions, load_refusals, load_number}
use Rattle.file.specs.Promises.{LoadPromise}
use Rattle.file.proofs.LoadingLaws.{named-load, answered_by-load}
use Rattle.host_state.specs.Image.{state_size}
use Rattle.host_results.specs.Result.{Reports}
use Rattle.host_results.specs.Settled.{Settled}
use Rattle.host_results.proofs.SettledLaws.{is_refused-number_told}
use Rattle.host_results.proofs.ToldLaws.{number_told-answered_by, reports-told}
use Rattle.host_changes.specs.Load.{lent_load_refusals, LentLoadPromise}

-- ---- into no memory

module _ (file : List ℕ) where
  -- 2 and what comes behind it
  abbrev late : List Condition
  late =
      fresh_conditions (file_shape file) (memory [] [])
      ++ join_conditions (load_fixed file (memory [] [])) [] (file_records file)

  content-number : (b : Bool) → cond b 13 (first_number late) ≡ 0 → ⊥
  unfolding first_number
  content-number true e = omega arith
  content-number false e = omega arith

  shape-number : first_number (shape_conditions (file_shape file) ++ (content_conditions file ++ late)) ≡ 0 → ⊥
  unfolding first_number
  shape-number e = go (shape_number (file_shape file)) refl
    where
      go : (n : ℕ) → shape_number (file_shape file) ≡ n → ⊥
      go zero f =
          content-number (not (is_plain file && is_set (file_shape file) (file_records file)))
          (sym (first_number-shape (file_shape file) (content_conditions file ++ late) f) ∙ e)
      go (suc n) f =
          let out : shape_number (file_shape file) ≡ 0 =
          sym (first_number-shape-out (file_shape file) (content_conditions file ++ late) (λ z. omega arith)) ∙ e in
          omega arith

  whole-number : (b : Bool)
      → cond b 12 (first_number (shape_conditions (file_shape file) ++ (content_conditions file ++ late))) ≡ 0 → ⊥
  whole-number true e = omega arith
  whole-number false e = shape-number e

  -- without a directory word there is a refusal
  load_number-none : load_number file (memory [] []) ≡ 0 → ⊥
  unfolding load_refusals first_number
  load_number-none e = whole-number (not (is_whole file)) e

module _ (file words ds bs : List ℕ) where
  abbrev m : Memory
  m = memory ds bs

  -- ---- the conditions

  refusals-short : length words < state_size → lent_load_refusals file words m ≡ load_refusals file (memory [] [])
  unfolding lent_load_refusals
  refusals-short h = rw (lt-ltb (length words) state_size h)

  refusals-long : state_size ≤ length words → lent_load_refusals file words m ≡ load_refusals file m
  unfolding lent_load_refusals
  refusals-long h = rw (le-ltb (length words) state_size h)

  -- ---- what a load into some memory promises

  module _ (lent : Memory) (answer : Answer (Unit {0})) (after : Store) (p : LoadPromise file lent answer after)
      (number attribute : ℕ) (told : (number ≡ number_told answer) × (attribute ≡ carried_beside 14 answer)) where
    number-as : number ≡ load_number file lent
    number-as = told.0 ∙ ap number_told p.answered-as ∙ number_told-answered_by tt (load_refusals file lent)

    reported-of : lent_load_refusals file words m ≡ load_refusals file lent
        → Reports {A = Unit {0}} number attribute tt tt (answered_by (lent_load_refusals file words m) tt)
    reported-of same =
        subst (λ cs. Reports number attribute tt tt (answered_by cs tt)) (sym same)
        (reports-told (file_shape file) (load_refusals file lent) (named-load file lent) (answered_by-load file lent)
        answer number attribute p.answered-as told)

  -- ---- with fewer words than a state has, a load into no memory

  module _ (short : length words < state_size) (answer : Answer (Unit {0})) (after : State) (ds' bs' : List ℕ)
      (p : LoadPromise file (memory [] []) answer (store after ds' bs')) where
    not_done : is_refused answer ≡ true
    not_done = go (load_number file (memory [] [])) refl
      where
        go : (n : ℕ) → load_number file (memory [] []) ≡ n → is_refused answer ≡ true
        go zero e = absurd (load_number-none file e)
        go (suc n) e =
            is_refused-number_told answer n
            (ap number_told p.answered-as ∙ number_told-answered_by tt (load_refusals file (memory [] [])) ∙ e)

    pub short-not-done : is_refused answer ≡ false → ⊥
    short-not-done e = false≢true (sym e ∙ not_done)

    -- what is put back in front of words and bytes is nothing
    pub short-settled : (number attribute : ℕ) (words' : List ℕ)
        → (number ≡ number_told answer) × (attribute ≡ carried_beside 14 answer) → Settled answer after words words'
        → LentLoadPromise file words m number attribute words' (memory (ds' ++ ds) (bs' ++ bs))
    short-settled number attribute words' told t =
        let none : memory ds' bs' ≡ memory [] [] = p.memory_kept not_done in
        let known = number-as (memory [] []) answer (store after ds' bs') p number attribute told in
        let same : words' ≡ words = t.words-refused not_done in
        record {
          reported = reported-of (memory [] []) answer (store after ds' bs') p number attribute told
              (refusals-short short);
          words-kept = λ _ _. same;
          memory_kept = λ _ _. ap (λ n. memory (n.words ++ ds) (n.bytes ++ bs)) none;
          loaded = λ e. absurd (load_number-none file (sym known ∙ e));
          words-past = ap (drop state_size) same;
        }

  -- ---- with the words of a state

  module _ (long : state_size ≤ length words) (answer : Answer (Unit {0})) (after : State) (ds' bs' : List ℕ)
      (p : LoadPromise file m answer (store after ds' bs')) where
    pub long-settled : (number attribute : ℕ) (words' : List ℕ)
        → (number ≡ number_told answer) × (attribute ≡ carried_beside 14 answer) → Settled answer after words words'
        → LentLoadPromise file words m number attribute words' (memory ds' bs')
    long-settled number attribute words' told t =
        record {
          reported = reported-of m answer (store after ds' bs') p number attribute told (refusals-long long);
          words-kept = λ n e. t.words-refused (not_done n e);
          memory_kept = λ n e. p.memory_kept (not_done n e);
          loaded = λ e.
              subst (λ s. LoadPromise file m (accepted tt) (store s ds' bs'))
              (sym (t.state-done (ap is_refused (done e))))
              (subst (λ a. LoadPromise file m a (store after ds' bs')) (done e) p);
          words-past = past (is_refused answer) refl;
        }
      where
        not_done : (n : ℕ) → number ≡ suc n → is_refused answer ≡ true
        not_done n e = is_refused-number_told answer n (sym told.0 ∙ e)

        done : number ≡ 0 → answer ≡ accepted tt
        done e =
            p.answered-as
            ∙ answered_by-load file m (sym (number-as m answer (store after ds' bs') p number attribute told) ∙ e)

        past : (b : Bool) → is_refused answer ≡ b → drop state_size words' ≡ drop state_size words
        past true e = ap (drop state_size) (t.words-refused e)
        past false e = t.past-done e
