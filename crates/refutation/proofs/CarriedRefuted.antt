-- Wrong programs of document 02, requests 6 and 7, on any store, sound or not: a value beside a number that carries
-- none, 5 without a depth, a change beside 5, another depth than that of the word at the key's cell, and another
-- attribute beside 14 than the lowest with a bad width. Assumes nothing.
use Prim.Native.Nat.{ℕ}
use mathlib.Core.Path.{◌≡◌, refl, sym, ap, ◌∙◌}
use mathlib.Core.List.{List}
use mathlib.Core.Logic.{⊎_elim}
use mathlib.Core.Option.{Option}
use lib.ListN.{get_or}
use Rattle.shape.specs.Refusal.{accepted, refused, refused_with}
use Rattle.shape.specs.Range.{Interval}
use Rattle.shape.specs.Shape.{lowest_bad, shape_number}
use Rattle.shape.specs.declared.Shape.{Shape}
use Rattle.address_calls.specs.Answers.{address_answer, index_answer}
use Rattle.record.specs.declared.Content.{Content}
use Rattle.model.specs.Model.{changed, found}
use Rattle.store.specs.Store.{Store, Memory}
use Rattle.store.specs.Fresh.{FreshPromise}
use Rattle.store.specs.Promises.{depth_at, AddPromise, InsertPromise, DeletePromise, LookupPromise, QueryPromise}
use Rattle.store.specs.Promises.{RangePromise, CheckPromise}
use Rattle.store.proofs.NumberLaws.{named-key, named-insert}
use Rattle.file.specs.File.{file_shape}
use Rattle.file.specs.Promises.{SavePromise, LoadPromise}
use Rattle.refutation.proofs.AnswerLaws.{tells-change, tells-lookup}
use Rattle.refutation.proofs.ChangeLaws.{refused-not-with}
use Rattle.refutation.proofs.DoublingRefuted.{refusal-changes-depth, refusal-changes-word}
use Rattle.refutation.proofs.ShapeAnswerLaws.{five-not-fourteen, by_shape-insert, by_shape-add}
use Rattle.refutation.proofs.ShapeAnswerLaws.{by_shape-delete, by_shape-lookup, by_shape-query, by_shape-range}
use Rattle.refutation.proofs.ShapeAnswerLaws.{by_shape-check, by_shape-save, by_shape-fresh, by_shape-load}
use Rattle.refutation.proofs.ShapeAnswerLaws.{by_shape-address, by_shape-index}

-- what every call that is given a shape may carry: 14 names its attribute, the lowest with a bad width, where that is
-- the first thing amiss in the shape
abbrev pub Width : Shape → ℕ → ℕ → Type 0
Width s n x = (n ≡ 14) × (shape_number s ≡ 14) × (x ≡ lowest_bad s)

-- ---- inserts

module _ (store after : Store) (values : List ℕ) (content : Content) (x : ℕ) where
  -- "no other number carries a depth": 4, 6 or any other with a value
  pub insert-carries : (n : ℕ) → InsertPromise store values content (refused_with n x) after
      → (Width store.state.shape n x → ⊥) → ⊥
  insert-carries n p apart = ⊎_elim apart (λ five. five.2) (by_shape-insert content p)

  pub add-carries : (n : ℕ) → AddPromise store values content (refused_with n x) after
      → (Width store.state.shape n x → ⊥) → ⊥
  add-carries n p apart = ⊎_elim apart (λ five. five.2) (by_shape-add content p)

  -- "the depth of the key's leaf afterwards": another than that of the word at the key's cell
  pub insert-other-depth : InsertPromise store values content (accepted (changed x)) after
      → (x ≡ depth_at after values → ⊥) → ⊥
  insert-other-depth p apart =
      apart (tells-change p (named-insert store values content) (refl, (tt, (tt, (tt, (tt, tt))))))

  pub add-other-depth : AddPromise store values content (accepted (changed x)) after
      → (x ≡ depth_at after values → ⊥) → ⊥
  add-other-depth p apart =
      apart (tells-change p (named-key store values) (refl, (tt, (tt, (tt, (tt, tt))))))

-- ---- deletes

module _ (store after : Store) (values : List ℕ) where
  pub delete-other-depth : (x : ℕ) → DeletePromise store values (accepted (changed x)) after
      → (x ≡ depth_at after values → ⊥) → ⊥
  delete-other-depth x p apart =
      apart (tells-change p (named-key store values) (refl, (tt, (tt, tt))))

  -- "number 5 carries the depth": it comes alone
  pub delete-five-alone : DeletePromise store values (refused 5) after → ⊥
  delete-five-alone p = (by_shape-delete p).2 refl

  module _ (n x : ℕ) (p : DeletePromise store values (refused_with n x) after) where
    -- "no other number": 3, 9 or any other with a value
    pub delete-carries : (n ≡ 5 → ⊥) → (Width store.state.shape n x → ⊥) → ⊥
    delete-carries five width = ⊎_elim width (λ d. five d.0) (by_shape-delete p)

    -- "All of them return the number and change nothing.": T, a word or a byte is another
    pub five-changes-depth : (after.state.deepest ≡ store.state.deepest → ⊥) → ⊥
    five-changes-depth = refusal-changes-depth store after (refused_with n x) refl p

    pub five-changes-word : (k : ℕ) → (get_or after.memory.words k 0 ≡ get_or store.memory.words k 0 → ⊥) → ⊥
    five-changes-word = refusal-changes-word store after (refused_with n x) refl p

    pub five-changes-byte : (k : ℕ) → (get_or after.memory.bytes k 0 ≡ get_or store.memory.bytes k 0 → ⊥) → ⊥
    five-changes-byte k apart = apart (ap (λ s. get_or s.memory.bytes k 0) (p.unchanged refl))

  -- "the depth of the present leaf": another than that of the word at the key's cell
  pub five-other-depth : (x : ℕ) → DeletePromise store values (refused_with 5 x) after
      → (x ≡ depth_at store values → ⊥) → ⊥
  five-other-depth x p apart =
      ⊎_elim (λ width. five-not-fourteen width.0)
      (λ five. apart (five.2 ∙ ap (λ s. depth_at s values) (p.unchanged refl))) (by_shape-delete p)

-- ---- lookups

module _ (store : Store) (values : List ℕ) where
  pub lookup-five-alone : LookupPromise store values (refused 5) → ⊥
  lookup-five-alone p = (by_shape-lookup p).2 refl

  module _ (x : ℕ) where
    pub lookup-carries : (n : ℕ) → LookupPromise store values (refused_with n x) → (n ≡ 5 → ⊥)
        → (Width store.state.shape n x → ⊥) → ⊥
    lookup-carries n p five width = ⊎_elim width (λ d. five d.0) (by_shape-lookup p)

    -- another depth than that of the word at the key's cell
    pub lookup-five-other-depth : LookupPromise store values (refused_with 5 x) → (x ≡ depth_at store values → ⊥) → ⊥
    lookup-five-other-depth p apart =
        ⊎_elim (λ width. five-not-fourteen width.0) (λ five. apart five.2) (by_shape-lookup p)

    pub lookup-other-depth : (content : Content) (reads : ℕ)
        → LookupPromise store values (accepted (found content reads x)) → (x ≡ depth_at store values → ⊥) → ⊥
    lookup-other-depth content reads p apart =
        apart (tells-lookup p)

-- ---- "no other number carries a depth": calls without a key

module _ (n x : ℕ) where
  module _ (store : Store) where
    module _ (out out' : List ℕ) where
      pub query-carries : (q : List (Option ℕ)) → QueryPromise store q out (refused_with n x) out'
          → (Width store.state.shape n x → ⊥) → ⊥
      query-carries q p apart = ⊎_elim apart (λ five. five.2) (by_shape-query q p)

      pub range-carries : (r : List (Option Interval)) → RangePromise store r out (refused_with n x) out'
          → (Width store.state.shape n x → ⊥) → ⊥
      range-carries r p apart = ⊎_elim apart (λ five. five.2) (by_shape-range r p)

      pub save-carries : SavePromise store out (refused_with n x) out' → (Width store.state.shape n x → ⊥) → ⊥
      save-carries p apart = ⊎_elim apart (λ five. five.2) (by_shape-save p)

    pub check-carries : CheckPromise store (refused_with n x) → (Width store.state.shape n x → ⊥) → ⊥
    check-carries p apart = ⊎_elim apart (λ five. five.2) (by_shape-check p)

  module _ (m : Memory) (after : Store) where
    pub fresh-carries : (s : Shape) → FreshPromise s m (refused_with n x) after → (Width s n x → ⊥) → ⊥
    fresh-carries s p apart = ⊎_elim apart (λ five. five.2) (by_shape-fresh p)

    pub load-carries : (file : List ℕ) → LoadPromise file m (refused_with n x) after
        → (Width (file_shape file) n x → ⊥) → ⊥
    load-carries file p apart =
        ⊎_elim (λ e. refused-not-with 12 n x (sym e)) (λ shaped. ⊎_elim apart (λ five. five.2) shaped)
        (by_shape-load file m p)

  module _ (s : Shape) where
    pub address-carries : (is : List ℕ) → refused_with n x ≡ address_answer s is → (Width s n x → ⊥) → ⊥
    address-carries is e apart = ⊎_elim apart (λ five. five.2) (by_shape-address s is (refused_with n x) e)

    pub index-carries : (a : ℕ) → refused_with n x ≡ index_answer s a → (Width s n x → ⊥) → ⊥
    index-carries a e apart = ⊎_elim apart (λ five. five.2) (by_shape-index s a (refused_with n x) e)
