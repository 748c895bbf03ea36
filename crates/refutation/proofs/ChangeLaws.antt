-- Laws of unlike answers; of the promise of a call that changes a sound store: T, words and pages after it, by the
-- leaves of the model's set; and of an insert that is refused early, on any store. Assumes nothing.
use Prim.Native.Nat.{ℕ, suc, ◌<◌}
use mathlib.Core.Path.{◌≡◌, sym, ap, ◌∙◌}
use mathlib.Core.Bool.{Bool, true, false, false≢true}
use mathlib.Core.List.{List}
use mathlib.Core.Logic.{◌⊎◌}
use Rattle.lists.specs.Filter.{non_empty}
use Rattle.shape.specs.Amiss.{refused_for}
use Rattle.shape.specs.Refusal.{Condition, Answer, accepted, refused, refused_with, is_refused}
use Rattle.shape.proofs.RefusalLaws.{for-refused_first}
use Rattle.region.specs.Division.{Division, greatest_depth, leaf_depth, leaf_records}
use Rattle.record.specs.declared.Content.{Content}
use Rattle.record.specs.Record.{Record}
use Rattle.page.specs.Page.{count_of, page_at}
use Rattle.directory_word.specs.Word.{word_of}
use Rattle.directory_word.specs.declared.Leaf.TheVariants.{Page}
use Rattle.model.specs.Model.{Reply, changed, found, listed}
use Rattle.model.specs.Sets.{division_of}
use Rattle.store.specs.Store.{Store, word_at}
use Rattle.store.specs.Sound.{Sound, Shows}
use Rattle.store.specs.Promises.{key_number, insert_refusals, insert_number, ChangePromise, InsertPromise}
use Rattle.store.proofs.InsertNumberLaws.{insert_number-key, insert_number-zero}
use Rattle.store.proofs.NumberLaws.{named-insert}

-- ---- answers

pub refused-not-accepted : {A : Type 0} (x : A) (n : ℕ) → refused n ≡ accepted x → ⊥
refused-not-accepted x n e = let z : false ≡ true = cc in false≢true z

-- by a number alone or with a value
pub refusal-not-accepted : {A : Type 0} (x : A) (answer : Answer A) → is_refused answer ≡ true → answer ≡ accepted x → ⊥
refusal-not-accepted x answer refusal e = false≢true (sym (ap is_refused e) ∙ refusal)

pub refused-not-with : {A : Type 0} (m n x : ℕ) → ◌≡◌ {A = Answer A} (refused m) (refused_with n x) → ⊥
refused-not-with m n x e = let z : false ≡ true = cc in false≢true z

pub refused-number : {A : Type 0} {m n : ℕ} → ◌≡◌ {A = Answer A} (refused m) (refused n) → m ≡ n
refused-number e = cc

pub refused-depth : {m n x y : ℕ} → ◌≡◌ {A = Answer Reply} (refused_with m x) (refused_with n y) → x ≡ y
refused-depth e = cc

pub changed-depth : {x y : ℕ} → ◌≡◌ {A = Answer Reply} (accepted (changed x)) (accepted (changed y)) → x ≡ y
changed-depth e = cc

pub listed-written : {w w' t t' r r' : ℕ}
    → ◌≡◌ {A = Answer Reply} (accepted (listed w t r)) (accepted (listed w' t' r')) → w ≡ w'
listed-written e = cc

pub listed-total : {w w' t t' r r' : ℕ}
    → ◌≡◌ {A = Answer Reply} (accepted (listed w t r)) (accepted (listed w' t' r')) → t ≡ t'
listed-total e = cc

pub listed-reads : {w w' t t' r r' : ℕ}
    → ◌≡◌ {A = Answer Reply} (accepted (listed w t r)) (accepted (listed w' t' r')) → r ≡ r'
listed-reads e = cc

pub found-content : {k l : Content} {m n x y : ℕ}
    → ◌≡◌ {A = Answer Reply} (accepted (found k m x)) (accepted (found l n y)) → k ≡ l
found-content e = cc

pub found-reads : {k l : Content} {m n x y : ℕ}
    → ◌≡◌ {A = Answer Reply} (accepted (found k m x)) (accepted (found l n y)) → m ≡ n
found-reads e = cc

pub found-depth : {k l : Content} {m n x y : ℕ}
    → ◌≡◌ {A = Answer Reply} (accepted (found k m x)) (accepted (found l n y)) → x ≡ y
found-depth e = cc

-- ---- the store after a call

module _ {joins : Bool} {early : List Condition} {values : List ℕ} {answers : ℕ → List (Answer Reply)}
    {model : List Record → Answer Reply} {next : List Record → List Record} {before after : Store}
    {answer : Answer Reply} (S : List Record)
    (p : ChangePromise joins values early answers model next before answer after) (sound : Sound before S)
    (D : Division Record) (leaves : division_of before.state.shape (next S) ≡ D) where
  pub depth-after : after.state.deepest ≡ greatest_depth D
  depth-after = rw (p.shape-kept, leaves) at (p.shown S sound).deepest

  pub shows-after : Shows before.state.shape before.state.limits.pages (greatest_depth D) after.memory D
  shows-after = rw (depth-after, p.shape-kept, p.limits-kept, leaves) at (p.shown S sound).shown

  module _ (D₀ : Division Record) (leaves-before : division_of before.state.shape S ≡ D₀) where
    -- `KeepsPages` and `TakesPages`, by the leaves before and after
    pub kept-after : (p : ℕ → Bool) → leaf_depth p 0 D₀ ≡ leaf_depth p 0 D → non_empty (leaf_records p 0 D) ≡ true
        → (g x : ℕ) → g < before.state.limits.pages
        → word_at before.state.shape before.state.deepest before.memory.words p ≡ word_of (Page g x)
        → word_at before.state.shape (greatest_depth D) after.memory.words p ≡ word_of (Page g x)
    kept-after = rw (depth-after, p.shape-kept, leaves, leaves-before) at (p.pages-kept S sound)

    pub taken-after : (p : ℕ → Bool) (g x : ℕ) → g < before.state.limits.pages
        → word_at before.state.shape (greatest_depth D) after.memory.words p ≡ word_of (Page g x)
        → (word_at before.state.shape before.state.deepest before.memory.words p ≡ word_of (Page g x))
        ⊎ ((count_of (page_at before.state.shape.capacity before.memory.bytes g) ≡ 0)
        ⊎ ((q : ℕ → Bool) × (y : ℕ)
        × (word_at before.state.shape before.state.deepest before.memory.words q ≡ word_of (Page g y))
        × (leaf_depth q 0 D₀ ≡ leaf_depth q 0 D → ⊥)))
    taken-after = rw (depth-after, p.shape-kept, leaves, leaves-before) at (p.pages-taken S sound)

-- ---- the early number of an insert, on any store

module _ {before after : Store} {values : List ℕ} {answer : Answer Reply} (content : Content)
    (p : InsertPromise before values content answer after) where
  refused-early : (n : ℕ) → insert_number before values content ≡ suc n
      → answer ≡ refused_for before.state.shape (suc n)
  refused-early n e =
      for-refused_first before.state.shape (insert_refusals before values content)
      (named-insert before values content) n e answer (changed 0) p.early-refused

  -- 1, 14, 15, 2 or 3, whatever the payload
  pub answer-of-early : (n : ℕ) → key_number before values ≡ suc n → answer ≡ refused_for before.state.shape (suc n)
  answer-of-early n e = refused-early n (insert_number-key before values content n e)

  module _ (fits : key_number before values ≡ 0) (zero : content.payload ≡ 0) where
    pub answer-of-zero : answer ≡ refused 11
    answer-of-zero = refused-early 10 (insert_number-zero before values content fits zero)

    pub store-of-zero : after ≡ before
    store-of-zero = p.unchanged (rw answer-of-zero)
