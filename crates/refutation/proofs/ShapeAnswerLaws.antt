-- Laws of the answers of calls that are given a shape: 1, 14 and 15 by what is amiss in it; 14 with the lowest
-- attribute that has a bad width, 5 with a depth, no other number with a value. Assumes nothing.
use Prim.Native.Nat.{ℕ, suc}
use mathlib.Core.Path.{◌≡◌, refl, sym, ap, ◌∙◌}
use mathlib.Core.Bool.{Bool, true, false, not, cond, ◌||◌}
use mathlib.Core.List.{List, [], ◌∷◌, ◌++◌}
use mathlib.Core.Logic.{◌⊎◌, inl, inr}
use mathlib.Core.Option.{Option}
use native.Mathlib.Omega.{arith}
use lib.Dec.{eqb}
use borrow.Author.Tests.{eqb-true, eqb-false}
use Rattle.lists.specs.Filter.{all}
use Rattle.lists.specs.Members.{All}
use Rattle.lists.proofs.Bools.{and_split}
use Rattle.shape.specs.Amiss.{refused_for}
use Rattle.shape.specs.Refusal.{Condition, Answer, accepted, refused, refused_with, first_number, answered_by, refusal}
use Rattle.shape.specs.Range.{Interval}
use Rattle.shape.specs.Shape.{count_fits, widths_fit, capacity_fits, lowest_bad, shape_conditions, shape_number}
use Rattle.shape.specs.declared.Shape.{Shape}
use Rattle.shape.proofs.RefusalLaws.{refused_for-case, Named, named-append, named-shape}
use Rattle.address_calls.specs.Answers.{address_refusals, address_answer, index_refusals, index_answer}
use Rattle.region.specs.Query.{LeafTest}
use Rattle.record.specs.declared.Content.{Content}
use Rattle.record.specs.Record.{Record}
use Rattle.model.specs.Model.{Fixed, Reply, Outcome}
use Rattle.model.specs.Sets.{with_record}
use Rattle.model.proofs.ConditionLaws.{answered_by-accepted}
use Rattle.store.specs.Store.{Store, Memory, lent_conditions}
use Rattle.store.specs.Fresh.{FreshPromise, fresh_conditions, fresh_refusals}
use Rattle.store.specs.Promises.{key_refusals, key_number, insert_refusals, query_refusals, range_refusals, depth_at}
use Rattle.store.specs.Promises.{ChangePromise, insert_answers, delete_answers, AddPromise, ListPromise}
use Rattle.store.specs.Promises.{InsertPromise, DeletePromise, LookupPromise, QueryPromise, RangePromise, CheckPromise}
use Rattle.store.proofs.NumberLaws.{first_number-other, named-key, named-insert, named-query, named-range}
use Rattle.file.specs.File.{file_shape, file_records, is_whole}
use Rattle.file.specs.Loading.{load_fixed, join_conditions, content_conditions, load_refusals}
use Rattle.file.specs.Promises.{SavePromise, LoadPromise}
use Rattle.refutation.proofs.AnswerLaws.{of-conditions, of-change, of-lookup, of-list, of-check}
use Rattle.refutation.proofs.AnswerLaws.{of-save, of-fresh, of-load}

-- ---- what an answer says of the shape

-- the shape's number that a number stands for: 1, 14 and 15 themselves; any other none, which is 0
abbrev pub of_shape : ℕ → ℕ
of_shape n = cond (eqb n 1 || (eqb n 14 || eqb n 15)) n 0

-- the shape's number is told, and 14 names the lowest attribute with a bad width; 5 comes with a value x of which
-- `Depth x` holds; no other number carries one
abbrev pub ByShape : {A : Type 0} → Shape → (ℕ → Type 0) → Answer A → Type 0
ByShape s Depth (accepted r) = shape_number s ≡ 0
ByShape s Depth (refused n) = (of_shape n ≡ shape_number s) × (n ≡ 14 → ⊥) × (n ≡ 5 → ⊥)
ByShape s Depth (refused_with n x) =
    ((n ≡ 14) × (shape_number s ≡ 14) × (x ≡ lowest_bad s)) ⊎ ((n ≡ 5) × (shape_number s ≡ 0) × Depth x)

pub five-not-fourteen : ◌≡◌ {A = ℕ} 5 14 → ⊥
five-not-fourteen e = omega (arith, e)

-- no value
abbrev pub NoDepth : ℕ → Type 0
NoDepth x = ⊥

-- ---- conditions

-- of a shape's number, and never 5
abbrev Judges : Shape → List Condition → Type 0
Judges s cs = (of_shape (first_number cs) ≡ shape_number s) × (first_number cs ≡ 5 → ⊥)

-- numbers that are none of the shape's, and not 5
abbrev behind : List Condition → Bool
behind cs = all (λ c. eqb (of_shape c.number) 0) cs

abbrev not_five : List Condition → Bool
not_five cs = all (λ c. not (eqb c.number 5)) cs

of_shape-behind : (cs : List Condition) → behind cs ≡ true → of_shape (first_number cs) ≡ 0
unfolding first_number
of_shape-behind [] e = refl
of_shape-behind (c ∷ cs) e =
    let k = and_split (eqb (of_shape c.number) 0) (behind cs) e in
    go c.holds (eqb-true (of_shape c.number) 0 k.0) (of_shape-behind cs k.1)
  where
    go : (β : Bool) → of_shape c.number ≡ 0 → of_shape (first_number cs) ≡ 0
        → of_shape (cond β c.number (first_number cs)) ≡ 0
    go true one rest = one
    go false one rest = rest

judges : (s : Shape) (cs : List Condition) → behind cs ≡ true → not_five cs ≡ true → Judges s (shape_conditions s ++ cs)
unfolding shape_number shape_conditions first_number
judges s cs others five = (
  row (count_fits s) (widths_fit s) (capacity_fits s) (of_shape-behind cs others),
  first_number-other 4 (shape_conditions s ++ cs) five,
)
  where
    row : (a b c : Bool) → of_shape (first_number cs) ≡ 0
        → of_shape (cond (not a) 1 (cond (not b) 14 (cond (not c) 15 (first_number cs))))
        ≡ cond (not a) 1 (cond (not b) 14 (cond (not c) 15 0))
    row false b c e = refl
    row true false c e = refl
    row true true false e = refl
    row true true true e = e

module _ (s : Shape) (cs : List Condition) (j : Judges s cs) where
  -- an early refusal
  by_shape-for : (A : Type 0) (Depth : ℕ → Type 0) (n : ℕ) → first_number cs ≡ suc n
      → ByShape {A = A} s Depth (refused_for s (suc n))
  by_shape-for A Depth n e =
      refused_for-case s {A = A} (ByShape s Depth) (suc n) (λ w. inl (refl, number w, refl))
      (λ w. (ap of_shape (sym e) ∙ j.0, w, λ five. j.1 (e ∙ five)))
    where
      number : suc n ≡ 14 → shape_number s ≡ 14
      number w = sym j.0 ∙ ap of_shape (e ∙ w)

  -- none
  none-amiss : first_number cs ≡ 0 → shape_number s ≡ 0
  none-amiss e = sym j.0 ∙ ap of_shape e

-- another number, alone, where nothing is amiss
alone : (s : Shape) → shape_number s ≡ 0 → (n : ℕ) → of_shape n ≡ 0 → eqb n 5 ≡ false
    → (of_shape n ≡ shape_number s) × (n ≡ 14 → ⊥) × (n ≡ 5 → ⊥)
alone s none n e five =
    (e ∙ sym none, λ w. let z : ◌≡◌ {A = ℕ} 14 0 = sym (ap of_shape w) ∙ e in omega (arith, z), eqb-false n 5 five)

-- ---- calls on a store

module _ (store : Store) where
  judges-lent : Judges store.state.shape (lent_conditions store)
  unfolding lent_conditions
  judges-lent = judges store.state.shape _ refl refl

  judges-key : (values : List ℕ) → Judges store.state.shape (key_refusals store values)
  unfolding lent_conditions key_refusals shape_conditions
  judges-key values = judges store.state.shape _ refl refl

  judges-insert : (values : List ℕ) (content : Content)
      → Judges store.state.shape (insert_refusals store values content)
  unfolding lent_conditions insert_refusals shape_conditions
  judges-insert values content = judges store.state.shape _ refl refl

  judges-query : (q : List (Option ℕ)) → Judges store.state.shape (query_refusals store q)
  unfolding lent_conditions query_refusals shape_conditions
  judges-query q = judges store.state.shape _ refl refl

  judges-range : (r : List (Option Interval)) → Judges store.state.shape (range_refusals store r)
  unfolding lent_conditions range_refusals shape_conditions
  judges-range r = judges store.state.shape _ refl refl

-- of an insert, or of a record that is added
module _ {early : List Condition} {values : List ℕ} {model : List Record → Answer Reply}
    {next : List Record → List Record} {before after : Store} {answer : Answer Reply}
    (p : ChangePromise false values early insert_answers model next before answer after)
    (named : Named before.state.shape early) (j : Judges before.state.shape early) where
  by_shape-added : ByShape before.state.shape NoDepth answer
  by_shape-added =
      of-change p named (ByShape before.state.shape NoDepth)
      (by_shape-for before.state.shape early j Reply NoDepth) others
    where
      others : first_number early ≡ 0
          → All (ByShape before.state.shape NoDepth) (insert_answers (depth_at after values))
      others e =
          let none = none-amiss before.state.shape early j e in
          let one = alone before.state.shape none in
          (none, (one 4 refl refl, (one 6 refl refl, (one 7 refl refl, (one 9 refl refl, tt)))))

module _ {store after : Store} {values : List ℕ} {answer : Answer Reply} where
  pub by_shape-insert : (content : Content) → InsertPromise store values content answer after
      → ByShape store.state.shape NoDepth answer
  by_shape-insert content p = by_shape-added p (named-insert store values content) (judges-insert store values content)

  pub by_shape-add : (content : Content) → AddPromise store values content answer after
      → ByShape store.state.shape NoDepth answer
  by_shape-add content p = by_shape-added p (named-key store values) (judges-key store values)

  pub by_shape-delete : DeletePromise store values answer after
      → ByShape store.state.shape (λ x. x ≡ depth_at after values) answer
  by_shape-delete p =
      of-change p (named-key store values) (ByShape store.state.shape (λ x. x ≡ depth_at after values))
      (by_shape-for store.state.shape (key_refusals store values) (judges-key store values) Reply _) others
    where
      others : key_number store values ≡ 0
          → All (ByShape store.state.shape (λ x. x ≡ depth_at after values)) (delete_answers (depth_at after values))
      others e =
          let none = none-amiss store.state.shape (key_refusals store values) (judges-key store values) e in
          (none, (inr (refl, none, refl), (alone store.state.shape none 9 refl refl, tt)))

pub by_shape-lookup : {store : Store} {values : List ℕ} {answer : Answer Reply} → LookupPromise store values answer
    → ByShape store.state.shape (λ x. x ≡ depth_at store values) answer
by_shape-lookup {store} {values} p =
    of-lookup (ByShape s (λ x. x ≡ depth_at store values)) (by_shape-for s (key_refusals store values) j Reply _) p
    (λ e content. none-amiss s (key_refusals store values) j e)
    (λ e. inr (refl, none-amiss s (key_refusals store values) j e, refl))
    (λ e. alone s (none-amiss s (key_refusals store values) j e) 9 refl refl)
  where
    s : Shape
    s = store.state.shape

    j : Judges s (key_refusals store values)
    j = judges-key store values

-- of a call that lists records
module _ {early : List Condition} {reads : LeafTest Record} {model : List Record → Outcome} {store : Store}
    {out : List ℕ} {answer : Answer Reply} {out' : List ℕ} (p : ListPromise early reads model store out answer out')
    (named : Named store.state.shape early) (j : Judges store.state.shape early) where
  by_shape-list : ByShape store.state.shape NoDepth answer
  by_shape-list =
      let s = store.state.shape in
      of-list p named (ByShape s NoDepth) (by_shape-for s early j Reply NoDepth)
      (λ e written total reads. none-amiss s early j e) (λ e. alone s (none-amiss s early j e) 9 refl refl)

module _ {store : Store} where
  module _ {out : List ℕ} {answer : Answer Reply} {out' : List ℕ} where
    pub by_shape-query : (q : List (Option ℕ)) → QueryPromise store q out answer out'
        → ByShape store.state.shape NoDepth answer
    by_shape-query q p = by_shape-list p.listed-as (named-query store q) (judges-query store q)

    pub by_shape-range : (r : List (Option Interval)) → RangePromise store r out answer out'
        → ByShape store.state.shape NoDepth answer
    by_shape-range r p = by_shape-list p (named-range store r) (judges-range store r)

  pub by_shape-check : {answer : Answer Bool} → CheckPromise store answer → ByShape store.state.shape NoDepth answer
  by_shape-check p =
      let s = store.state.shape in
      let j = judges-lent store in
      of-check (ByShape s NoDepth) (by_shape-for s (lent_conditions store) j Bool NoDepth) p
      (λ e verdict. none-amiss s (lent_conditions store) j e)

  pub by_shape-save : {out : List ℕ} {answer : Answer ℕ} {out' : List ℕ} → SavePromise store out answer out'
      → ByShape store.state.shape NoDepth answer
  by_shape-save p =
      let s = store.state.shape in
      let j = judges-lent store in
      of-save (ByShape s NoDepth) (by_shape-for s (lent_conditions store) j ℕ NoDepth) p
      (λ e size. none-amiss s (lent_conditions store) j e)
      (λ e. alone s (none-amiss s (lent_conditions store) j e) 2 refl refl)
      (λ e. alone s (none-amiss s (lent_conditions store) j e) 9 refl refl)

-- ---- calls that make a store

judges-fresh : (s : Shape) (m : Memory) → Judges s (fresh_refusals s m)
unfolding fresh_refusals shape_conditions
judges-fresh s m = judges s _ refl refl

pub by_shape-fresh : {s : Shape} {m : Memory} {answer : Answer (Unit {0})} {after : Store}
    → FreshPromise s m answer after → ByShape s NoDepth answer
by_shape-fresh {s} {m} p =
    of-fresh (ByShape s NoDepth) p (by_shape-for s (fresh_refusals s m) (judges-fresh s m) (Unit {0}) NoDepth)
    (none-amiss s (fresh_refusals s m) (judges-fresh s m))

module _ (f : Fixed) where
  behind-join : (S rs : List Record) → behind (join_conditions f S rs) ≡ true
  behind-join S [] = refl
  behind-join S (r ∷ rs) = behind-join (with_record f.shape r S) rs

  not_five-join : (S rs : List Record) → not_five (join_conditions f S rs) ≡ true
  not_five-join S [] = refl
  not_five-join S (r ∷ rs) = not_five-join (with_record f.shape r S) rs

module _ (file : List ℕ) (m : Memory) where
  judges-load : is_whole file ≡ true → Judges (file_shape file) (load_refusals file m)
  unfolding load_refusals first_number
  judges-load whole =
      let s = file_shape file in
      let joining = join_conditions (load_fixed file m) [] (file_records file) in
      let others = content_conditions file ++ (fresh_conditions s m ++ joining) in
      let j =
      judges s others (behind-join (load_fixed file m) [] (file_records file))
      (not_five-join (load_fixed file m) [] (file_records file)) in
      let same : first_number (load_refusals file m) ≡ first_number (shape_conditions s ++ others) =
      ap (λ β. cond (not β) 12 (first_number (shape_conditions s ++ others))) whole in
      (ap of_shape same ∙ j.0, λ five. j.1 (sym same ∙ five))

  not-whole : is_whole file ≡ false → answered_by {A = Unit {0}} (load_refusals file m) tt ≡ refused 12
  unfolding load_refusals answered_by
  not-whole e = rw e

  -- 12 comes first
  pub by_shape-load : {answer : Answer (Unit {0})} {after : Store} → LoadPromise file m answer after
      → (answer ≡ refused 12) ⊎ ByShape (file_shape file) NoDepth answer
  by_shape-load {answer} {after} p = by_whole (is_whole file) refl
    where
      by_whole : (β : Bool) → is_whole file ≡ β → (answer ≡ refused 12) ⊎ ByShape (file_shape file) NoDepth answer
      by_whole false e = inl (p.answered-as ∙ not-whole e)
      by_whole true e =
          let s = file_shape file in
          inr (of-load (ByShape s NoDepth) p (by_shape-for s (load_refusals file m) (judges-load e) (Unit {0}) NoDepth)
          (none-amiss s (load_refusals file m) (judges-load e)))

-- ---- the address map

module _ (s : Shape) where
  by_shape-mapped : {A : Type 0} (x : A) (out : Bool) (answer : Answer A)
      → answer ≡ answered_by (shape_conditions s ++ refusal 3 out ∷ []) x → ByShape s NoDepth answer
  unfolding shape_conditions
  by_shape-mapped {A} x out answer e =
      let cs = shape_conditions s ++ refusal 3 out ∷ [] in
      let j = judges s (refusal 3 out ∷ []) refl refl in
      of-conditions s cs (named-append s (shape_conditions s) (refusal 3 out ∷ []) (named-shape s) (refl, tt)) x
      (ByShape s NoDepth) (by_shape-for s cs j A NoDepth) answer (answered_by-accepted x cs refl) e (none-amiss s cs j)

  pub by_shape-address : (is : List ℕ) (answer : Answer ℕ) → answer ≡ address_answer s is → ByShape s NoDepth answer
  unfolding address_answer address_refusals
  by_shape-address is answer e = by_shape-mapped _ _ answer e

  pub by_shape-index : (a : ℕ) (answer : Answer (List ℕ)) → answer ≡ index_answer s a → ByShape s NoDepth answer
  unfolding index_answer index_refusals
  by_shape-index a answer e = by_shape-mapped _ _ answer e
