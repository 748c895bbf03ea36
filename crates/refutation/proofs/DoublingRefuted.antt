-- Wrong programs of document 02, request 3. Words that a wrong doubling leaves contradict `DirectoryDoubled`, by its
-- clause `shown` alone, on the proof table's stores; a number told after a doubling contradicts the promises of an
-- insert, on any store. Assumes nothing.
use Prim.Native.Nat.{ℕ, suc, max, ◌≤◌, ◌<◌}
use mathlib.Core.Path.{◌≡◌, refl, sym, ap, ◌∙◌}
use mathlib.Core.Bool.{Bool, true, false}
use mathlib.Core.List.{List, [], ◌∷◌}
use native.Mathlib.Omega.{arith}
use lib.ListN.{get_or}
use Rattle.shape.specs.Refusal.{Condition, Answer, refused, is_refused, first_number}
use Rattle.shape.specs.Shape.{shape_conditions, shape_number, widths_of}
use Rattle.shape.specs.declared.Shape.{Shape}
use Rattle.split.specs.Steps.{steps_below, steps, step, step_number, steps_of, attribute_depth}
use Rattle.split.specs.Bits.{split_bit}
use Rattle.address.specs.Address.{highest_bit, created_by, latest_step, formula, address_from, address}
use Rattle.address.specs.Doubling.{sides}
use Rattle.cell.specs.Cell.{sum_bits, cell, cell_address}
use Rattle.region.specs.Strings.{list_bit}
use Rattle.region.specs.Division.{Division, leaf, divided, leaf_depth, leaf_records}
use Rattle.directory.specs.Directory.{Filled}
use Rattle.directory_word.specs.Word.{word_of}
use Rattle.directory_word.specs.declared.Leaf.TheVariants.{Empty, Page}
use Rattle.record.specs.declared.Content.{Content}
use Rattle.record.specs.Record.{Record}
use Rattle.model.specs.Model.{Reply}
use Rattle.model.specs.Sets.{division_of}
use Rattle.store.specs.Store.{Store, memory, word_at}
use Rattle.store.specs.Sound.{Shows, LeafWord}
use Rattle.store.specs.Promises.{ChangePromise, AddPromise, InsertPromise}
use Rattle.store.specs.declared.State.{State}
use Rattle.table.specs.Table.{two_two}
use Rattle.change.specs.Divided.{Deepened}
use Rattle.change.proofs.DirectoryLaws.{shows-deepened}
use Rattle.insert_planned.specs.declared.Split.{Split}
use Rattle.insert_words.specs.Divided.{DoublingAsked, DirectoryDoubled}
use Rattle.refutation.specs.Stores.{state_with, three_records, set_of_one, set_of_two, four_records, set_of_four}
use Rattle.refutation.specs.Stores.{doubled_once, sibling_doubled, doubled_twice, doubled_from_leaf}
use Rattle.refutation.proofs.ComputedLaws.{leaves-of-three, cells}
use Rattle.refutation.proofs.TwoLeavesSound.{three_records-sound-3}
use Rattle.refutation.proofs.FourLeavesSound.{four_records-sound}
use Rattle.refutation.proofs.DoubledWords.{doubled-words}

-- ---- the clause `shown`

abbrev words_of : Store → List ℕ
words_of store = store.memory.words

-- "the words show the old leaves at the new T"
abbrev ShowsOld : Store → ℕ → List ℕ → Type 0
ShowsOld store T words =
    let s = store.state.shape in
    (P : ℕ) (bytes : List ℕ) (D : Division Record)
    → Shows s P store.state.deepest (memory (words_of store) bytes) D → Shows s P T (memory words bytes) D

module _ (store : Store) (split : Split) (after : State) (words : List ℕ)
    (d : DirectoryDoubled store.state split (words_of store) after words) where
  depth-doubled : after.deepest ≡ max store.state.deepest (suc split.step)
  depth-doubled = ap (λ st. st.deepest) d.state

  shown-doubled : (T : ℕ) → max store.state.deepest (suc split.step) ≡ T → ShowsOld store T words
  shown-doubled T e = rw (depth-doubled ∙ e) at d.shown

-- what `double` asks holds of the stores below, whose L is 3
pub doubling-asked : (P T : ℕ) (leaves : List ℕ) (split : Split) → T ≤ 3 → split.step < 3
    → DoublingAsked (state_with P T leaves) split 8
unfolding first_number shape_conditions shape_number widths_of
doubling-asked P T leaves split within deep =
    record {
      shape = refl;
      lent = omega arith;
      short = omega arith;
      bits = omega arith;
      within-limit = within;
      deep = deep;
    }

-- ---- the table's fourth insert: the leaf 1 is divided at step 2, and T goes from 1 to 3

abbrev three : Store
three = three_records 3

-- the leaves before it
shows-three : Shows two_two 3 1 three.memory (divided (leaf set_of_one) (leaf set_of_two))
shows-three = rw leaves-of-three at three_records-sound-3.shown

-- words that do not show them do not meet the contract, with any state
refused-of-three : (words : List ℕ) → (ShowsOld three 3 words → ⊥) → (split : Split) (after : State) → split.step ≡ 2
    → DirectoryDoubled three.state split (words_of three) after words → ⊥
refused-of-three words wrong split after e d = wrong (shown-doubled three split after words d 3 (omega (arith, e)))

-- the right words meet it
pub right-words : (split : Split) → split.step ≡ 2
    → DirectoryDoubled three.state split (words_of three) (state_with 3 3 (0 ∷ 2 ∷ 0 ∷ 0 ∷ [])) doubled_twice
right-words split e =
    let deepened = doubled-words.twice in
    record {
      state = rw e;
      deepened = deepened;
      shown = λ P bytes D h. shows-deepened two_two P 1 3 (memory (words_of three) bytes) D doubled_twice h deepened;
    }

-- ---- a sibling set before the last doubling

-- on any store: the cells of a region of z bits, inside a leaf of fewer, are set to an empty leaf at depth z, and the
-- words are doubled then
pub sibling-first : (s : Shape) (P u z : ℕ) (once set twice bytes : List ℕ) (D : Division Record) (p : ℕ → Bool)
    → P < 65536 → leaf_depth p 0 D < z → Filled (widths_of s) z z p (word_of (Empty z)) once set
    → Deepened (widths_of s) z u set twice → Shows s P u (memory twice bytes) D → ⊥
sibling-first s P u z once set twice bytes D p few longer filled again shows =
    lost (leaf_records p 0 D) (shows.word p) (again.cells p ∙ filled.inside p (λ t h. refl))
  where
    lost : (rs : List Record) {word : ℕ} → LeafWord s P bytes rs (leaf_depth p 0 D) word → word ≡ word_of (Empty z) → ⊥
    lost [] told e = omega (arith, told, e, longer)
    lost (r ∷ rs) told e = omega (arith, told.1, told.2, e, longer, few)

-- the cells of 11 are set between the two doublings
pub sibling-between : ShowsOld three 3 sibling_doubled → ⊥
sibling-between shown =
    sibling-first two_two 3 3 2 _ _ sibling_doubled _ _ (list_bit (true ∷ true ∷ [])) (omega arith) (omega arith)
    doubled-words.set doubled-words.again (shown 3 _ _ shows-three)

pub sibling-between-refused : (split : Split) (after : State) → split.step ≡ 2
    → DirectoryDoubled three.state split (words_of three) after sibling_doubled → ⊥
sibling-between-refused = refused-of-three sibling_doubled sibling-between

-- ---- one doubling of two

-- T is 3, and the words are doubled to depth 2
pub one-doubling : (words : List ℕ) → Deepened (widths_of two_two) 1 2 (words_of three) words → ShowsOld three 3 words → ⊥
one-doubling words once shown =
    let told = (shown 3 _ _ shows-three).word (list_bit (false ∷ false ∷ true ∷ [])) in
    let word : word_of (Page told.0 1) ≡ 0 = sym told.2 ∙ (cells words).at-4 ∙ once.past 4 (omega arith) in
    omega (arith, word)

pub one-doubling-refused : (split : Split) (after : State) → split.step ≡ 2
    → DirectoryDoubled three.state split (words_of three) after doubled_once → ⊥
one-doubling-refused = refused-of-three doubled_once (one-doubling doubled_once doubled-words.once)

-- T is 2, whatever the words are: clause `state`
pub last-doubling-left : (split : Split) (after : State) (words : List ℕ) → split.step ≡ 2 → after.deepest ≡ 2
    → DirectoryDoubled three.state split (words_of three) after words → ⊥
last-doubling-left split after words e two d =
    let T = depth-doubled three split after words d in
    omega (arith, T, e, two)

-- ---- doubled from the leaf's depth, not from T

-- the leaf 0 of four records has depth 1, and T is 3: the cells of 11 lose their word
pub from-leaf : (words : List ℕ) → Deepened (widths_of two_two) 1 3 (words_of four_records) words
    → ShowsOld four_records 3 words → ⊥
unfolding
    widths_of steps_below steps step step_number steps_of attribute_depth split_bit
    highest_bit created_by latest_step formula address_from address sides sum_bits cell cell_address division_of
from-leaf words deepened shown =
    let p = list_bit (true ∷ true ∷ []) in
    let told : word_at two_two 3 words p ≡ word_of (Empty 2) =
    (shown 3 _ (division_of two_two set_of_four) four_records-sound.shown).word p in
    let word : word_of (Empty 2) ≡ word_of (Page 1 3) = sym told ∙ deepened.cells p in
    omega (arith, word)

pub from-leaf-refused : (split : Split) (after : State) → split.step < 3
    → DirectoryDoubled four_records.state split (words_of four_records) after doubled_from_leaf → ⊥
from-leaf-refused split after within d =
    from-leaf doubled_from_leaf doubled-words.from-leaf
    (shown-doubled four_records split after doubled_from_leaf d 3 (omega (arith, within)))

-- ---- a number that is told after a doubling, as 7, on any store

-- T or a word is another, after an insert, an add or a delete
module _ {joins : Bool} {early : List Condition} {values : List ℕ} {answers : ℕ → List (Answer Reply)}
    {model : List Record → Answer Reply} {next : List Record → List Record} (before after : Store)
    (answer : Answer Reply) (refusal : is_refused answer ≡ true)
    (p : ChangePromise joins values early answers model next before answer after) where
  pub refusal-changes-depth : (after.state.deepest ≡ before.state.deepest → ⊥) → ⊥
  refusal-changes-depth apart = apart (ap (λ s. s.state.deepest) (p.unchanged refusal))

  pub refusal-changes-word : (k : ℕ) → (get_or (words_of after) k 0 ≡ get_or (words_of before) k 0 → ⊥) → ⊥
  refusal-changes-word k apart = apart (ap (λ s. get_or (words_of s) k 0) (p.unchanged refusal))

-- a right doubling, since the new leaves are deeper than T
module _ (before after : Store) (values : List ℕ) (content : Content) (n : ℕ) (split : Split)
    (deep : before.state.deepest ≤ split.step)
    (d : DirectoryDoubled before.state split (words_of before) after.state (words_of after)) where
  other-depth : after.state.deepest ≡ before.state.deepest → ⊥
  other-depth e =
      let T = depth-doubled before split after.state (words_of after) d in
      omega (arith, T, e, deep)

  pub refused-after-doubling : InsertPromise before values content (refused n) after → ⊥
  refused-after-doubling p = refusal-changes-depth before after (refused n) refl p other-depth

  pub refused-after-doubling-in-add : AddPromise before values content (refused n) after → ⊥
  refused-after-doubling-in-add p = refusal-changes-depth before after (refused n) refl p other-depth
