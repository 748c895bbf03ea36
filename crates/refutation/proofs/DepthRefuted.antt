-- Wrong programs of document 02, request 6, on the proof table's stores, on spoiled ones, and in demand 3's lists: each
-- tells another depth than that of the key's leaf, of insert and delete afterwards. Assumes nothing.
use Prim.Native.Nat.{ℕ}
use mathlib.Core.Path.{◌≡◌, sym, ap, ◌∙◌}
use mathlib.Core.List.{List, [], ◌∷◌, ◌++◌}
use mathlib.Core.Logic.{⊎_elim}
use native.Mathlib.Omega.{arith}
use lib.ListN.{get_or}
use Rattle.lists.proofs.Numbers.{eq-or-ne}
use Rattle.shape.specs.Refusal.{Answer, accepted, refused, refused_with}
use Rattle.record.specs.declared.Content.{Content}
use Rattle.record.specs.Record.{Record}
use Rattle.directory_word.specs.Word.{word_of, depth_field}
use Rattle.directory_word.specs.declared.Leaf.TheVariants.{Page}
use Rattle.model.specs.Model.{lookup_call, Reply, changed, found, Outcome}
use Rattle.model.specs.Add.{add_answer}
use Rattle.model.proofs.InsertLaws.{outcome-insert-other}
use Rattle.store.specs.Store.{Store, fixed_of, word_at}
use Rattle.store.specs.Sound.{Sound}
use Rattle.store.specs.Fresh.{FreshPromise}
use Rattle.store.specs.Promises.{key_number, depth_at, AddPromise, InsertPromise, DeletePromise, LookupPromise}
use Rattle.store.proofs.ReadLaws.{sound_where_read-of-sound}
use Rattle.history.specs.History.{Run, History}
use Rattle.table.specs.Table.{two_two, key, four_inserts}
use Rattle.refutation.specs.Stores.{three_records, set_of_three, four_records, set_of_four, zeroed_word, low_tally, ones}
use Rattle.refutation.specs.Stores.{outcome_on}
use Rattle.refutation.proofs.ChangeLaws.{refused-not-accepted, refused-not-with, refused-depth, changed-depth}
use Rattle.refutation.proofs.ChangeLaws.{found-depth, answer-of-zero}
use Rattle.refutation.proofs.ComputedLaws.{fitting}
use Rattle.refutation.proofs.TwoLeavesSound.{three_records-sound-3}
use Rattle.refutation.proofs.FourLeavesSound.{four_records-sound}
use Rattle.refutation.proofs.HistoryRefuted.{as-model}
use Rattle.refutation.proofs.ContainedComputed.{key_string}
use Rattle.refutation.proofs.DepthComputed.{adds-told, told-four, told-in-run, depth-cells}
use Rattle.refutation.proofs.CarriedRefuted.{insert-other-depth, five-other-depth, lookup-five-other-depth}

-- ---- inserts

module _ (content : Content) (after : Store) where
  -- an accepted insert tells the depth that the model tells, since payload 0 is not accepted
  depth-told : (store : Store) (S : List Record) (values : List ℕ) (x y : ℕ) → Sound store S
      → key_number store values ≡ 0 → add_answer (fixed_of store.state) S values content ≡ accepted (changed y)
      → InsertPromise store values content (accepted (changed x)) after → x ≡ y
  depth-told store S values x y sound fits e p =
      ⊎_elim (λ zero. absurd (refused-not-accepted _ 11 (sym (answer-of-zero content p fits zero))))
      (λ some. changed-depth
      (p.answered-as S sound ∙ outcome-insert-other (fixed_of store.state) S values content some ∙ e))
      (eq-or-ne content.payload 0)

  -- the depth before the division, or after one of two
  pub other-than-new-leaf : (x : ℕ) → InsertPromise (three_records 3) (key 2 1) content (accepted (changed x)) after
      → (x ≡ 3 → ⊥) → ⊥
  other-than-new-leaf x p apart =
      apart (depth-told (three_records 3) set_of_three (key 2 1) x 3 three_records-sound-3 fitting.fourth
      (adds-told content).divided p)

  pub before-division : InsertPromise (three_records 3) (key 2 1) content (accepted (changed 1)) after → ⊥
  before-division p = other-than-new-leaf 1 p (λ e. omega (arith, e))

  pub after-one-division : InsertPromise (three_records 3) (key 2 1) content (accepted (changed 2)) after → ⊥
  after-one-division p = other-than-new-leaf 2 p (λ e. omega (arith, e))

  -- T, which is 3
  pub deepest-told : InsertPromise four_records (key 1 1) content (accepted (changed 3)) after → ⊥
  deepest-told p =
      let same =
      depth-told four_records set_of_four (key 1 1) 3 1 four_records-sound (adds-told content).beside-fits
      (adds-told content).beside p in
      omega (arith, same)

  -- the same of a record that is added
  pub before-division-in-add : AddPromise (three_records 3) (key 2 1) content (accepted (changed 1)) after → ⊥
  before-division-in-add p =
      let same : ◌≡◌ {A = ℕ} 1 3 =
      changed-depth (p.answered-as set_of_three three_records-sound-3 ∙ (adds-told content).divided) in
      omega (arith, same)

  pub deepest-told-in-add : AddPromise four_records (key 1 1) content (accepted (changed 3)) after → ⊥
  deepest-told-in-add p =
      let same : ◌≡◌ {A = ℕ} 3 1 =
      changed-depth (p.answered-as set_of_four four_records-sound ∙ (adds-told content).beside) in
      omega (arith, same)

-- ---- deletes

module _ (after : Store) where
  -- "joins one level only" (document 01, faults), and tells that depth; the depth before the joins
  pub other-than-joined : (x : ℕ) → DeletePromise four_records (key 2 1) (accepted (changed x)) after → (x ≡ 1 → ⊥) → ⊥
  other-than-joined x p apart =
      apart (changed-depth (p.answered-as set_of_four four_records-sound ∙ told-four.joined))

  pub one-level-told : DeletePromise four_records (key 2 1) (accepted (changed 2)) after → ⊥
  one-level-told p = other-than-joined 2 p (λ e. omega (arith, e))

  pub before-joins : DeletePromise four_records (key 2 1) (accepted (changed 3)) after → ⊥
  before-joins p = other-than-joined 3 p (λ e. omega (arith, e))

  -- T, which stays 3
  pub deepest-told-in-delete : DeletePromise four_records (key 0 0) (accepted (changed 3)) after → ⊥
  deepest-told-in-delete p =
      let same : ◌≡◌ {A = ℕ} 3 1 = changed-depth (p.answered-as set_of_four four_records-sound ∙ told-four.emptied) in
      omega (arith, same)

  -- 5 with 0 where the leaf is empty: words 3 and 7
  pub zero-at-3 : (n : ℕ) → DeletePromise four_records (key 2 2) (refused_with n 0) after → ⊥
  zero-at-3 n p =
      let same : ◌≡◌ {A = ℕ} 0 2 =
      refused-depth (p.answered-as set_of_four four_records-sound ∙ told-four.deleted-at-3) in
      omega (arith, same)

  pub zero-at-7 : (n : ℕ) → DeletePromise four_records (key 3 2) (refused_with n 0) after → ⊥
  zero-at-7 n p =
      let same : ◌≡◌ {A = ℕ} 0 2 =
      refused-depth (p.answered-as set_of_four four_records-sound ∙ told-four.deleted-at-7) in
      omega (arith, same)

-- ---- lookups

-- the answer is the model's
answer-told : (values : List ℕ) (answer : Answer Reply) → LookupPromise four_records values answer
    → answer ≡ (outcome_on four_records set_of_four (lookup_call values)).answer
answer-told values answer p =
    p.answered-as set_of_four (sound_where_read-of-sound four_records _ set_of_four four_records-sound)

-- the depth of another leaf, as that of 100 or of 11
pub other-leaf : (content : Content) (reads x : ℕ)
    → LookupPromise four_records (key 0 0) (accepted (found content reads x)) → (x ≡ 1 → ⊥) → ⊥
other-leaf content reads x p apart = apart (found-depth (answer-told (key 0 0) _ p ∙ told-four.found_first))

module _ (n : ℕ) where
  -- of an absent key too
  pub other-leaf-with-five : (x : ℕ) → LookupPromise four_records (key 1 1) (refused_with n x) → (x ≡ 1 → ⊥) → ⊥
  other-leaf-with-five x p apart = apart (refused-depth (answer-told (key 1 1) _ p ∙ told-four.absent_beside))

  -- 5 with 0 where the leaf is empty: words 3 and 7
  pub looks-zero-at-3 : LookupPromise four_records (key 2 2) (refused_with n 0) → ⊥
  looks-zero-at-3 p =
      let same : ◌≡◌ {A = ℕ} 0 2 = refused-depth (answer-told (key 2 2) _ p ∙ told-four.looked-at-3) in
      omega (arith, same)

  pub looks-zero-at-7 : LookupPromise four_records (key 3 2) (refused_with n 0) → ⊥
  looks-zero-at-7 p =
      let same : ◌≡◌ {A = ℕ} 0 2 = refused-depth (answer-told (key 3 2) _ p ∙ told-four.looked-at-7) in
      omega (arith, same)

-- ---- stores that are not sound

-- T, where the word at the key's cell has depth 1
pub deepest-told-unsound : (content : Content) (after : Store)
    → InsertPromise low_tally (key 0 1) content (accepted (changed 3)) after → after.state.deepest ≡ 3
    → get_or after.memory.words 0 0 ≡ word_of (Page 0 1) → ⊥
deepest-told-unsound content after p T word =
    insert-other-depth low_tally after (key 0 1) content 3 p apart
  where
    apart : 3 ≡ depth_at after (key 0 1) → ⊥
    apart e =
        let own : 3 ≡ depth_field (word_at two_two 3 after.memory.words (key_string (key 0 1))) =
        rw (p.shape-kept, T) at e in
        let same : 3 ≡ depth_field (word_of (Page 0 1)) =
        own ∙ ap depth_field ((depth-cells after.memory.words).at-0 ∙ word) in
        omega (arith, same)

-- the depth of the other cell's word, where that of the key's own is 0
pub other-cell : LookupPromise zeroed_word (key 2 2) (refused_with 5 2) → ⊥
other-cell p =
    lookup-five-other-depth zeroed_word (key 2 2) 2 p
    (λ e. let same = e ∙ (depth-cells []).zeroed in omega (arith, same))

pub other-cell-in-delete : (after : Store) → DeletePromise zeroed_word (key 2 2) (refused_with 5 2) after → ⊥
other-cell-in-delete after p =
    five-other-depth zeroed_word after (key 2 2) 2 p
    (λ e. let same = e ∙ (depth-cells []).zeroed in omega (arith, same))

-- ---- demand 3

module _ (demand : History) (fresh after : Store) (p : FreshPromise two_two ones (accepted tt) fresh)
    (a b c : Outcome) (output : List ℕ) where
  -- the depth before the division, told by the fourth insert
  pub before-division-in-run : Run fresh four_inserts
      (a ∷ b ∷ c ∷ record { answer = accepted (changed 1); output = output } ∷ []) after → ⊥
  before-division-in-run r =
      let same : ◌≡◌ {A = ℕ} 1 3 = changed-depth (as-model demand fresh after p 3 r ∙ told-in-run.fourth) in
      omega (arith, same)

  -- 5 without a depth, or with 0, for the empty leaf that it leaves
  module _ (d : Outcome) where
    pub five-alone-in-run : Run fresh (four_inserts ++ lookup_call (key 2 2) ∷ [])
        (a ∷ b ∷ c ∷ d ∷ record { answer = refused 5; output = output } ∷ []) after → ⊥
    five-alone-in-run r = refused-not-with 5 5 2 (as-model demand fresh after p 4 r ∙ told-in-run.absent)

    pub zero-in-run : Run fresh (four_inserts ++ lookup_call (key 2 2) ∷ [])
        (a ∷ b ∷ c ∷ d ∷ record { answer = refused_with 5 0; output = output } ∷ []) after → ⊥
    zero-in-run r =
        let same : ◌≡◌ {A = ℕ} 0 2 = refused-depth (as-model demand fresh after p 4 r ∙ told-in-run.absent) in
        omega (arith, same)
