-- Wrong programs of document 02, request 7: of each call that is given a shape, by itself, in a state or in a file, the
-- wrong answers of `ShapeFaults` contradict its promise, and so does a change beside 14. On any store, sound or not.
-- Assumes nothing.
use Prim.Native.Nat.{ℕ, zero, suc}
use mathlib.Core.Path.{◌≡◌, refl, ap, ◌∙◌}
use mathlib.Core.Bool.{Bool, true}
use mathlib.Core.List.{List, ◌++◌}
use mathlib.Core.Logic.{inr}
use mathlib.Core.Option.{Option}
use Rattle.shape.specs.Refusal.{Condition, Answer, refused, refused_with, is_refused, first_number, answered_by}
use Rattle.shape.specs.Refusal.{RefusedFirst}
use Rattle.shape.specs.Range.{Interval}
use Rattle.shape.specs.Shape.{lowest_bad, shape_conditions}
use Rattle.shape.specs.declared.Shape.{Shape}
use Rattle.address_calls.specs.Answers.{address_refusals, address_answer, index_refusals, index_answer}
use Rattle.record.specs.declared.Content.{Content}
use Rattle.model.specs.Model.{Reply, changed, if_accepted}
use Rattle.store.specs.Store.{Store, Memory, lent_conditions}
use Rattle.store.specs.Fresh.{FreshPromise, fresh_refusals, fresh_number, fresh_memory}
use Rattle.store.specs.Promises.{key_refusals, insert_refusals, query_refusals, range_refusals, AddPromise}
use Rattle.store.specs.Promises.{InsertPromise, DeletePromise, LookupPromise, QueryPromise, RangePromise, CheckPromise}
use Rattle.file.specs.File.{file_shape, is_whole}
use Rattle.file.specs.Loading.{load_refusals}
use Rattle.file.specs.Promises.{SavePromise, LoadPromise}
use Rattle.refutation.specs.Files.{bad_shape}
use Rattle.refutation.specs.ShapeFaults.{ShapeFaults}
use Rattle.refutation.specs.Stores.{two_bad_widths, bad_capacity, unused_wide, with_shape}
use Rattle.refutation.proofs.FreshRefuted.{turned_down}
use Rattle.refutation.proofs.ShapeAnswerLaws.{NoDepth, by_shape-insert, by_shape-add, by_shape-delete}
use Rattle.refutation.proofs.ShapeAnswerLaws.{by_shape-lookup, by_shape-query, by_shape-range, by_shape-check}
use Rattle.refutation.proofs.ShapeAnswerLaws.{by_shape-save, by_shape-fresh, by_shape-load, by_shape-address}
use Rattle.refutation.proofs.ShapeAnswerLaws.{by_shape-index}
use Rattle.refutation.proofs.ShapeFaultLaws.{shape-faults}

-- ---- wrong answers: "Refused, also in a state passed in"

module _ (store : Store) where
  module _ (values : List ℕ) (after : Store) where
    pub insert-faults : (content : Content)
        → ShapeFaults store.state.shape (λ answer. InsertPromise store values content answer after)
    insert-faults content = shape-faults _ NoDepth _ (λ answer p. inr (by_shape-insert content p))

    pub add-faults : (content : Content)
        → ShapeFaults store.state.shape (λ answer. AddPromise store values content answer after)
    add-faults content = shape-faults _ NoDepth _ (λ answer p. inr (by_shape-add content p))

    pub delete-faults : ShapeFaults store.state.shape (λ answer. DeletePromise store values answer after)
    delete-faults = shape-faults _ _ _ (λ answer p. inr (by_shape-delete p))

  pub lookup-faults : (values : List ℕ) → ShapeFaults store.state.shape (LookupPromise store values)
  lookup-faults values = shape-faults _ _ _ (λ answer p. inr (by_shape-lookup p))

  module _ (out out' : List ℕ) where
    pub query-faults : (q : List (Option ℕ))
        → ShapeFaults store.state.shape (λ answer. QueryPromise store q out answer out')
    query-faults q = shape-faults _ NoDepth _ (λ answer p. inr (by_shape-query q p))

    pub range-faults : (r : List (Option Interval))
        → ShapeFaults store.state.shape (λ answer. RangePromise store r out answer out')
    range-faults r = shape-faults _ NoDepth _ (λ answer p. inr (by_shape-range r p))

    pub save-faults : ShapeFaults store.state.shape (λ answer. SavePromise store out answer out')
    save-faults = shape-faults _ NoDepth _ (λ answer p. inr (by_shape-save p))

  pub check-faults : ShapeFaults store.state.shape (CheckPromise store)
  check-faults = shape-faults _ NoDepth _ (λ answer p. inr (by_shape-check p))

module _ (m : Memory) (after : Store) where
  pub fresh-faults : (s : Shape) → ShapeFaults s (λ answer. FreshPromise s m answer after)
  fresh-faults s = shape-faults s NoDepth _ (λ answer p. inr (by_shape-fresh p))

  -- "The load of a saved store uses the same numbers."
  pub load-faults : (file : List ℕ) → ShapeFaults (file_shape file) (λ answer. LoadPromise file m answer after)
  load-faults file = shape-faults (file_shape file) NoDepth _ (λ answer p. by_shape-load file m p)

module _ (s : Shape) where
  pub address-faults : (is : List ℕ) → ShapeFaults s (λ answer. answer ≡ address_answer s is)
  address-faults is = shape-faults s NoDepth _ (λ answer e. inr (by_shape-address s is answer e))

  pub index-faults : (a : ℕ) → ShapeFaults s (λ answer. answer ≡ index_answer s a)
  index-faults a = shape-faults s NoDepth _ (λ answer e. inr (by_shape-index s a answer e))

-- ---- "All of them return the number and change nothing.": a change beside 14, or any other refusal

module _ (store : Store) where
  module _ (values : List ℕ) (answer : Answer Reply) (after : Store) (refusal : is_refused answer ≡ true) where
    pub insert-changes : (content : Content) → InsertPromise store values content answer after
        → (after ≡ store → ⊥) → ⊥
    insert-changes content p apart = apart (p.unchanged refusal)

    pub delete-changes : DeletePromise store values answer after → (after ≡ store → ⊥) → ⊥
    delete-changes p apart = apart (p.unchanged refusal)

  module _ (out out' : List ℕ) where
    module _ (answer : Answer Reply) (refusal : is_refused answer ≡ true) where
      pub query-writes : (q : List (Option ℕ)) → QueryPromise store q out answer out' → (out' ≡ out → ⊥) → ⊥
      query-writes q p apart = apart (p.listed-as.unchanged refusal)

      pub range-writes : (r : List (Option Interval)) → RangePromise store r out answer out' → (out' ≡ out → ⊥) → ⊥
      range-writes r p apart = apart (p.unchanged refusal)

    pub save-writes : (answer : Answer ℕ) → is_refused answer ≡ true → SavePromise store out answer out'
        → (out' ≡ out → ⊥) → ⊥
    save-writes answer refusal p apart = apart (p.unchanged refusal)

module _ (m : Memory) (answer : Answer (Unit {0})) (after : Store) (refusal : is_refused answer ≡ true) where
  pub fresh-writes : (s : Shape) → FreshPromise s m answer after → (after.memory ≡ m → ⊥) → ⊥
  fresh-writes s p apart = by_number (fresh_number s m) refl
    where
      by_number : (n : ℕ) → fresh_number s m ≡ n → ⊥
      by_number zero e = turned_down s m answer after refusal e p
      by_number (suc n) e = apart (p.memory-as ∙ ap (λ k. if_accepted k (fresh_memory s m) m) e)

  pub load-writes : (file : List ℕ) → LoadPromise file m answer after → (after.memory ≡ m → ⊥) → ⊥
  load-writes file p apart = apart (p.memory_kept refusal)

-- ---- a shape of widths 0, 17 and 5, with b = 0: 14 with attribute 0 is due, whatever else is amiss

module _ {A : Type 0} (answer : Answer A) (apart : answer ≡ refused_with 14 0 → ⊥) where
  not-due : (cs : List Condition) (x : A) → RefusedFirst (shape_conditions two_bad_widths ++ cs) answer → ⊥
  unfolding shape_conditions lowest_bad first_number answered_by
  not-due cs x first = apart (first 13 refl x)

  not-due-of-all : (cs : List Condition) (x : A) → answer ≡ answered_by (shape_conditions two_bad_widths ++ cs) x → ⊥
  unfolding shape_conditions lowest_bad answered_by
  not-due-of-all cs x e = apart e

-- another answer: 14 with 1, 15, 2, 3, 9, or 1 still
module _ (store : Store) where
  module _ (answer : Answer Reply) (apart : answer ≡ refused_with 14 0 → ⊥) where
    module _ (values : List ℕ) where
      pub insert-other : (content : Content) (after : Store)
          → InsertPromise (with_shape two_bad_widths store) values content answer after → ⊥
      unfolding insert_refusals lent_conditions shape_conditions
      insert-other content after p = not-due answer apart _ (changed 0) p.early-refused

      pub delete-other : (after : Store) → DeletePromise (with_shape two_bad_widths store) values answer after → ⊥
      unfolding key_refusals lent_conditions shape_conditions
      delete-other after p = not-due answer apart _ (changed 0) p.early-refused

      pub lookup-other : LookupPromise (with_shape two_bad_widths store) values answer → ⊥
      unfolding key_refusals lent_conditions shape_conditions
      lookup-other p = not-due answer apart _ (changed 0) p.early-refused

    module _ (out out' : List ℕ) where
      pub query-other : (q : List (Option ℕ)) → QueryPromise (with_shape two_bad_widths store) q out answer out' → ⊥
      unfolding query_refusals lent_conditions shape_conditions
      query-other q p = not-due answer apart _ (changed 0) p.listed-as.early-refused

      pub range_other : (r : List (Option Interval)) → RangePromise (with_shape two_bad_widths store) r out answer out' → ⊥
      unfolding range_refusals lent_conditions shape_conditions
      range_other r p = not-due answer apart _ (changed 0) p.early-refused

  pub check-other : (answer : Answer Bool) → (answer ≡ refused_with 14 0 → ⊥)
      → CheckPromise (with_shape two_bad_widths store) answer → ⊥
  unfolding lent_conditions
  check-other answer apart p = not-due answer apart _ true p.early-refused

  pub save-other : (answer : Answer ℕ) → (answer ≡ refused_with 14 0 → ⊥) → (out out' : List ℕ)
      → SavePromise (with_shape two_bad_widths store) out answer out' → ⊥
  unfolding lent_conditions
  save-other answer apart out out' p = not-due answer apart _ 0 p.early-refused

module _ (answer : Answer (Unit {0})) (apart : answer ≡ refused_with 14 0 → ⊥) (m : Memory) (after : Store) where
  pub fresh-other : FreshPromise two_bad_widths m answer after → ⊥
  unfolding fresh_refusals
  fresh-other p = not-due-of-all answer apart _ tt p.answered-as

  pub load-other : LoadPromise bad_shape m answer after → ⊥
  unfolding load_refusals is_whole file_shape answered_by
  load-other p = not-due-of-all answer apart _ tt p.answered-as

pub address-other : (is : List ℕ) (answer : Answer ℕ) → (answer ≡ refused_with 14 0 → ⊥)
    → answer ≡ address_answer two_bad_widths is → ⊥
unfolding address_refusals address_answer
address-other is answer apart e = not-due-of-all answer apart _ _ e

pub index-other : (a : ℕ) (answer : Answer (List ℕ)) → (answer ≡ refused_with 14 0 → ⊥)
    → answer ≡ index_answer two_bad_widths a → ⊥
unfolding index_refusals index_answer
index-other a answer apart e = not-due-of-all answer apart _ _ e

-- ---- b = 17, and a width of 17 past d, in any call

module _ {A : Type 0} {Promised : Answer A → Type 0} where
  module _ (f : ShapeFaults bad_capacity Promised) where
    pub two-for-capacity : Promised (refused 2) → ⊥
    two-for-capacity = f.two-before-fifteen refl

    pub one-for-capacity : Promised (refused 1) → ⊥
    one-for-capacity = f.count-good refl

  module _ (f : ShapeFaults unused_wide Promised) where
    pub unused-named : Promised (refused_with 14 2) → ⊥
    unused-named = f.not-bad 2 refl

    pub one-for-unused : Promised (refused 1) → ⊥
    one-for-unused = f.count-good refl
