-- Laws of the answers of calls, on any store, sound or not: what holds of each early refusal and of each other answer
-- that a call may give holds of its answer. Assumes nothing.
use Prim.Native.Nat.{ℕ, zero, suc}
use mathlib.Core.Path.{◌≡◌, refl, sym, subst}
use mathlib.Core.Bool.{Bool, true, false}
use mathlib.Core.List.{List}
use mathlib.Core.Logic.{⊎_elim}
use Rattle.lists.specs.Members.{All}
use Rattle.lists.proofs.MemberLaws.{All-member}
use Rattle.shape.specs.Amiss.{refused_for}
use Rattle.shape.specs.Refusal.{Condition, Answer, accepted, refused, refused_with, first_number, answered_by}
use Rattle.shape.specs.Refusal.{RefusedFirst}
use Rattle.shape.specs.declared.Shape.{Shape}
use Rattle.shape.proofs.RefusalLaws.{refused_for-case, Named, answered_by-named, for-refused_first}
use Rattle.region.specs.Query.{LeafTest}
use Rattle.record.specs.declared.Content.{Content}
use Rattle.record.specs.Record.{Record}
use Rattle.model.specs.Model.{Reply, changed, found, listed, Outcome}
use Rattle.store.specs.Store.{Store, Memory, lent_conditions}
use Rattle.store.specs.Fresh.{FreshPromise, fresh_refusals, fresh_number}
use Rattle.store.specs.Promises.{lent_number, key_refusals, key_number, depth_at, ChangePromise, LookupPromise}
use Rattle.store.specs.Promises.{ListPromise, CheckPromise}
use Rattle.store.proofs.NumberLaws.{named-lent, named-key, named-fresh, answered_by-fresh}
use Rattle.file.specs.File.{file_shape}
use Rattle.file.specs.Loading.{load_refusals, load_number}
use Rattle.file.specs.Promises.{SavePromise, LoadPromise}
use Rattle.file.proofs.LoadingLaws.{named-load, answered_by-load}

-- ---- a call that is given a shape

module _ {A : Type 0} (s : Shape) (cs : List Condition) (named : Named s cs) (x : A) (P : Answer A → Type 0)
    (told : (n : ℕ) → first_number cs ≡ suc n → P (refused_for s (suc n))) (answer : Answer A) where
  -- refused by one of some conditions, or else as it says
  of-early : RefusedFirst cs answer → (first_number cs ≡ 0 → P answer) → P answer
  of-early first others = by_number (first_number cs) refl
    where
      by_number : (n : ℕ) → first_number cs ≡ n → P answer
      by_number zero e = others e
      by_number (suc n) e = subst P (sym (for-refused_first s cs named n e answer x first)) (told n e)

  -- accepted, if none of them holds
  pub of-conditions : (first_number cs ≡ 0 → answered_by cs x ≡ accepted x) → answer ≡ answered_by cs x
      → (first_number cs ≡ 0 → P (accepted x)) → P answer
  of-conditions none same others = subst P (sym same) (by_number (first_number cs) refl)
    where
      by_number : (n : ℕ) → first_number cs ≡ n → P (answered_by cs x)
      by_number zero e = subst P (sym (none e)) (others e)
      by_number (suc n) e = subst P (sym (answered_by-named s x cs named n e)) (told n e)

-- ---- calls with a key

-- the depth that an accepted call tells is x
abbrev Tells : ℕ → Answer Reply → Type 0
Tells x (accepted (changed y)) = y ≡ x
Tells x (accepted (found content reads y)) = y ≡ x
Tells x (accepted (listed written total reads)) = Unit {0}
Tells x (refused n) = Unit {0}
Tells x (refused_with n y) = Unit {0}

tells-refused : (x : ℕ) (s : Shape) (n : ℕ) → Tells x (refused_for s n)
tells-refused x s n = refused_for-case s (Tells x) n (λ e. tt) (λ e. tt)

module _ {joins : Bool} {early : List Condition} {values : List ℕ} {answers : ℕ → List (Answer Reply)}
    {model : List Record → Answer Reply} {next : List Record → List Record} {before after : Store}
    {answer : Answer Reply} (p : ChangePromise joins values early answers model next before answer after)
    (named : Named before.state.shape early) (P : Answer Reply → Type 0)
    (told : (n : ℕ) → first_number early ≡ suc n → P (refused_for before.state.shape (suc n))) where
  -- of a change: an early refusal, or one of the answers that it may give
  pub of-change : (first_number early ≡ 0 → All P (answers (depth_at after values))) → P answer
  of-change others =
      of-early before.state.shape early named (changed 0) P told answer p.early-refused
      (λ e. All-member P (answers (depth_at after values)) (others e) answer (p.ordinary e))

module _ {joins : Bool} {early : List Condition} {values : List ℕ} {answers : ℕ → List (Answer Reply)}
    {model : List Record → Answer Reply} {next : List Record → List Record} {before after : Store}
    {answer : Answer Reply} (p : ChangePromise joins values early answers model next before answer after)
    (named : Named before.state.shape early) where
  pub tells-change : All (Tells (depth_at after values)) (answers (depth_at after values))
      → Tells (depth_at after values) answer
  tells-change others =
      of-change p named (Tells (depth_at after values))
      (λ n e. tells-refused (depth_at after values) before.state.shape (suc n)) (λ e. others)

module _ {store : Store} {values : List ℕ} {answer : Answer Reply} (P : Answer Reply → Type 0)
    (told : (n : ℕ) → key_number store values ≡ suc n → P (refused_for store.state.shape (suc n))) where
  pub of-lookup : LookupPromise store values answer
      → (key_number store values ≡ 0 → (content : Content) → P (accepted (found content 1 (depth_at store values))))
      → (key_number store values ≡ 0 → P (refused_with 5 (depth_at store values)))
      → (key_number store values ≡ 0 → P (refused 9)) → P answer
  of-lookup p content absent nine =
      of-early store.state.shape (key_refusals store values) (named-key store values) (changed 0) P told answer
      p.early-refused
      (λ e. ⊎_elim (λ f. subst P (sym f.1) (content e f.0))
      (⊎_elim (λ five. subst P (sym five) (absent e)) (λ other. subst P (sym other) (nine e))) (p.ordinary e))

pub tells-lookup : {store : Store} {values : List ℕ} {answer : Answer Reply} → LookupPromise store values answer
    → Tells (depth_at store values) answer
tells-lookup {store} {values} p =
    of-lookup (Tells (depth_at store values))
    (λ n e. tells-refused (depth_at store values) store.state.shape (suc n)) p (λ e content. refl) (λ e. tt)
    (λ e. tt)

-- ---- other calls on a store

module _ {early : List Condition} {reads : LeafTest Record} {model : List Record → Outcome} {store : Store}
    {out : List ℕ} {answer : Answer Reply} {out' : List ℕ} (p : ListPromise early reads model store out answer out')
    (named : Named store.state.shape early) (P : Answer Reply → Type 0)
    (told : (n : ℕ) → first_number early ≡ suc n → P (refused_for store.state.shape (suc n))) where
  pub of-list : (first_number early ≡ 0 → (written total reads : ℕ) → P (accepted (listed written total reads)))
      → (first_number early ≡ 0 → P (refused 9)) → P answer
  of-list counts nine =
      of-early store.state.shape early named (changed 0) P told answer p.early-refused
      (λ e. ⊎_elim (λ c. subst P (sym c.3) (counts e c.0 c.1 c.2)) (λ n. subst P (sym n) (nine e))
      (p.ordinary e))

module _ {store : Store} where
  pub of-check : {answer : Answer Bool} (P : Answer Bool → Type 0)
      → ((n : ℕ) → lent_number store ≡ suc n → P (refused_for store.state.shape (suc n)))
      → CheckPromise store answer → (lent_number store ≡ 0 → (verdict : Bool) → P (accepted verdict)) → P answer
  of-check {answer} P told p verdict =
      of-early store.state.shape (lent_conditions store) (named-lent store) true P told answer p.early-refused
      (λ e. ⊎_elim (λ yes. subst P (sym yes.0) (verdict e true)) (λ no. subst P (sym no.0) (verdict e false))
      (p.verdict e))

  pub of-save : {answer : Answer ℕ} {out out' : List ℕ} (P : Answer ℕ → Type 0)
      → ((n : ℕ) → lent_number store ≡ suc n → P (refused_for store.state.shape (suc n)))
      → SavePromise store out answer out' → (lent_number store ≡ 0 → (size : ℕ) → P (accepted size))
      → (lent_number store ≡ 0 → P (refused 2)) → (lent_number store ≡ 0 → P (refused 9)) → P answer
  of-save {answer} P told p size two nine =
      of-early store.state.shape (lent_conditions store) (named-lent store) 0 P told answer p.early-refused
      (λ e. ⊎_elim (λ file. subst P (sym file.3) (size e _))
      (⊎_elim (λ t. subst P (sym t.0) (two e)) (λ n. subst P (sym n) (nine e))) (p.ordinary e))

-- ---- calls that make a store

module _ {m : Memory} {after : Store} {answer : Answer (Unit {0})} (P : Answer (Unit {0}) → Type 0) where
  pub of-fresh : {s : Shape} → FreshPromise s m answer after
      → ((n : ℕ) → fresh_number s m ≡ suc n → P (refused_for s (suc n))) → (fresh_number s m ≡ 0 → P (accepted tt))
      → P answer
  of-fresh {s} p told done =
      of-conditions s (fresh_refusals s m) (named-fresh s m) tt P told answer
      (answered_by-fresh s m) p.answered-as done

  pub of-load : {file : List ℕ} → LoadPromise file m answer after
      → ((n : ℕ) → load_number file m ≡ suc n → P (refused_for (file_shape file) (suc n)))
      → (load_number file m ≡ 0 → P (accepted tt)) → P answer
  of-load {file} p told done =
      of-conditions (file_shape file) (load_refusals file m) (named-load file m) tt P told answer
      (answered_by-load file m) p.answered-as done
