-- What each call on a store promises (document 01, "Calls", "Refused calls", "Lent memory"; document 02, requests 1, 2,
-- 6 and 7). Each promise of a call is one definition, which the call's `ensures` and demand 3 both cite. Assumes
-- nothing.
use Rattle.std.specs.Prelude.{ℕ, ◌-◌, ◌*◌, ◌^◌, ◌≤◌, ◌<◌, ◌≡◌, Bool, true, false, List, [], ◌∷◌, ◌++◌, ◌⊎◌, length, drop, get_or}
use Rattle.std.proofs.Math.Option.{Option, some}
use Rattle.lists.specs.Filter.{non_empty}
use Rattle.lists.specs.Members.{Member}
use Rattle.shape.specs.Refusal.{Condition, Answer, accepted, refused, refused_with, is_refused, first_number, RefusedFirst}
use Rattle.shape.specs.Key.{per_attribute, encodings}
use Rattle.shape.specs.Range.{Interval}
use Rattle.shape.specs.Shape.{widths_of}
use Rattle.shape.specs.declared.Shape.{Shape}
use Rattle.split.specs.Bits.{split_bit}
use Rattle.region.specs.Division.{Division, leaf_depth, leaf_records}
use Rattle.region.specs.Query.{QueryBit, agrees, LeafTest}
use Rattle.record.specs.declared.Content.{Content}
use Rattle.record.specs.Record.{Record}
use Rattle.record.specs.Bytes.{record_size}
use Rattle.range_box.specs.Box.{Box, box_of, box_meets}
use Rattle.page.specs.Page.{count_of, page_at}
use Rattle.directory_word.specs.Word.{word_of, depth_field}
use Rattle.directory_word.specs.declared.Leaf.TheVariants.{Page}
use Rattle.model.specs.Model.{insert_call, delete_call, lookup_call, query_call, range_call}
use Rattle.model.specs.Model.{Reply, changed, found, listed, Outcome, outcome, next}
use Rattle.model.specs.Model.{key_conditions, payload_conditions, query_conditions, range_conditions}
use Rattle.model.specs.Add.{add_answer, add_next}
use Rattle.model.specs.Sets.{division_of, query_bits, given_depths}
use Rattle.store.specs.Store.{Store, fixed_of, pages_size, word_at, lent_conditions}
use Rattle.store.specs.Sound.{Sound}
use Rattle.store.specs.Contained.{Contained}

-- ---- refusals that need no look into words and pages: "after 1, 2, 8 and 3", and document 02's 10, 11, 14 and 15

abbrev pub lent_number : Store → ℕ
lent_number s = first_number (lent_conditions s)

-- 1, 14, 15, 2, 3
unfoldable pub key_refusals : Store → List ℕ → List Condition
key_refusals s values = lent_conditions s ++ key_conditions s.state.shape values

abbrev pub key_number : Store → List ℕ → ℕ
key_number s values = first_number (key_refusals s values)

-- 1, 14, 15, 2, 3, 11
unfoldable pub insert_refusals : Store → List ℕ → Content → List Condition
insert_refusals s values content =
    lent_conditions s ++ key_conditions s.state.shape values ++ payload_conditions content

abbrev pub insert_number : Store → List ℕ → Content → ℕ
insert_number s values content = first_number (insert_refusals s values content)

-- 1, 14, 15, 2, 8, 3
unfoldable pub query_refusals : Store → List (Option ℕ) → List Condition
query_refusals s q = lent_conditions s ++ query_conditions s.state.shape q

abbrev pub query_number : Store → List (Option ℕ) → ℕ
query_number s q = first_number (query_refusals s q)

-- 1, 14, 15, 2, 8, 3, 10
unfoldable pub range_refusals : Store → List (Option Interval) → List Condition
range_refusals s r = lent_conditions s ++ range_conditions s.state.shape r

abbrev pub range_number : Store → List (Option Interval) → ℕ
range_number s r = first_number (range_refusals s r)

-- ---- pages of leaves

module _ (before after : Store) (D D' : Division Record) where
  abbrev word_before : (ℕ → Bool) → ℕ
  word_before p = word_at before.state.shape before.state.deepest before.memory.words p

  abbrev word_after : (ℕ → Bool) → ℕ
  word_after p = word_at after.state.shape after.state.deepest after.memory.words p

  -- "Every other leaf keeps its page": a leaf of both divisions that has a page before and records after
  abbrev pub KeepsPages : Type 0
  KeepsPages = (p : ℕ → Bool) → leaf_depth p 0 D ≡ leaf_depth p 0 D' → non_empty (leaf_records p 0 D') ≡ true
      → (g x : ℕ) → g < before.state.limits.pages → word_before p ≡ word_of (Page g x)
      → word_after p ≡ word_of (Page g x)

  -- left free: "which page a leaf that newly gets one takes, of those free, divided or joined". A leaf's page is the
  -- one that the leaf had, or one whose count was 0, or one of a leaf that is none any more
  abbrev pub TakesPages : Type 0
  TakesPages = (p : ℕ → Bool) (g x : ℕ) → g < before.state.limits.pages → word_after p ≡ word_of (Page g x)
      → (word_before p ≡ word_of (Page g x))
      ⊎ ((count_of (page_at before.state.shape.capacity before.memory.bytes g) ≡ 0)
      ⊎ ((q : ℕ → Bool) × (y : ℕ) × (word_before q ≡ word_of (Page g y)) × (leaf_depth q 0 D ≡ leaf_depth q 0 D' → ⊥)))

-- ---- depths

-- the depth that the word at the cell of a call's values names, on any store
abbrev pub depth_at : Store → List ℕ → ℕ
depth_at s values =
    let sh = s.state.shape in
    depth_field (word_at sh s.state.deepest s.memory.words (split_bit (widths_of sh) (encodings sh values)))

-- ---- calls that change the store

-- `joins` says whether the call may join leaves, `values` are those of its key, `early` are the conditions for the
-- refusals above, `answers x` are the other answers that it may give with the depth x; `model_answer S` and `model_next S`
-- are what the model answers where it has the set S, and the set that it has then. Left free on an accepted change of a
-- store that is not sound: T and the tally; the words of the key's leaf and of the leaves joined with it, with those at
-- the new 2^T and above; the bytes of their pages and of the page newly taken. All else is said by the fields from
-- `ordinary` to `contained`
pub record ChangePromise (joins : Bool) (values : List ℕ) (early : List Condition) (answers : ℕ → List (Answer Reply))
    (model_answer : List Record → Answer Reply) (model_next : List Record → List Record) (before : Store)
    (answer : Answer Reply) (after : Store) : Type 0 where
  -- 14 with its attribute, any other with its number alone. Shut out: the highest bad width; 2 before 15
  pub early-refused : RefusedFirst early answer
  -- "All of them return the number and change nothing."
  pub unchanged : is_refused answer ≡ true → after ≡ before
  -- on any store "9 or ordinary"; a depth is that of the word at the key's cell afterwards
  pub ordinary : first_number early ≡ 0 → Member answer (answers (depth_at after values))
  -- shape, P and L are kept whole
  pub shape-kept : after.state.shape ≡ before.state.shape
  pub limits-kept : after.state.limits ≡ before.state.limits
  -- "Words past the first 2^L and bytes past the P pages are never changed."
  pub words-length : length after.memory.words ≡ length before.memory.words
  pub bytes-length : length after.memory.bytes ≡ length before.memory.bytes
  pub words-past : drop (2 ^ before.state.limits.depth) after.memory.words
      ≡ drop (2 ^ before.state.limits.depth) before.memory.words
  pub bytes_past : drop (pages_size before.state) after.memory.bytes
      ≡ drop (pages_size before.state) before.memory.bytes
  -- on any store: the word of every cell outside the key's leaf and the leaves joined with it is, at the new T, the
  -- word that stood there; and the bytes of every page other than the leaf's, the joined ones' and the one newly taken
  -- are as they were. Shut out: an insert that sets a region after a look at one of its cells, a delete that lowers T
  -- by a wrong tally
  pub contained : Contained joins before after
      (split_bit (widths_of before.state.shape) (encodings before.state.shape values))
  -- on a sound store the model's answer, and a store that shows the model's set
  pub answered-as : (S : List Record) → Sound before S → answer ≡ model_answer S
  pub shown : (S : List Record) → Sound before S → Sound after (model_next S)
  pub pages-kept : (S : List Record) → Sound before S
      → KeepsPages before after (division_of before.state.shape S) (division_of before.state.shape (model_next S))
  pub pages-taken : (S : List Record) → Sound before S
      → TakesPages before after (division_of before.state.shape S) (division_of before.state.shape (model_next S))

-- an insert's answers after the early ones, with the depth x
abbrev pub insert_answers : ℕ → List (Answer Reply)
insert_answers x = accepted (changed x) ∷ refused 4 ∷ refused 6 ∷ refused 7 ∷ refused 9 ∷ []

-- a delete's: "number 5 carries the depth"
abbrev pub delete_answers : ℕ → List (Answer Reply)
delete_answers x = accepted (changed x) ∷ refused_with 5 x ∷ refused 9 ∷ []

-- a record is added whatever its payload: an insert once 11 is judged, and no call of demand 3. Shut out: an `add` that
-- judges payloads (ordinary, answered-as)
abbrev pub AddPromise : Store → List ℕ → Content → Answer Reply → Store → Type 0
AddPromise before values content answer after =
    let f = fixed_of before.state in
    ChangePromise false values (key_refusals before values) insert_answers (λ S. add_answer f S values content)
    (λ S. add_next f S values content) before answer after

-- "An insert with payload 0 is to be turned down even when its key is stored already." Shut out: "no page" without
-- looking, an insert that stores nothing (answered-as, shown); payload 0 accepted, 11 after 4 (early-refused); T or the
-- depth before the change (answered-as, ordinary), a depth with 4 or 6 (ordinary)
abbrev pub InsertPromise : Store → List ℕ → Content → Answer Reply → Store → Type 0
InsertPromise before values content answer after =
    let f = fixed_of before.state in
    ChangePromise false values (insert_refusals before values content) insert_answers
    (λ S. (outcome f S (insert_call values content)).answer) (λ S. next f S (insert_call values content)) before answer
    after

-- Shut out: a delete that joins one level only, one that joins with a divided sibling (shown); the depth before a join,
-- or 5 with 0 for an empty leaf (answered-as, ordinary)
abbrev pub DeletePromise : Store → List ℕ → Answer Reply → Store → Type 0
DeletePromise before values answer after =
    let f = fixed_of before.state in
    ChangePromise true values (key_refusals before values) delete_answers (λ S. (outcome f S (delete_call values)).answer)
    (λ S. next f S (delete_call values)) before answer after

-- ---- calls that read

-- "A sound store whose pages not so read are then overwritten in any way": the bytes are as those of a sound store in
-- the pages of the leaves that `reads` tells
abbrev pub SameWhere : Store → List ℕ → LeafTest Record → List Record → Type 0
SameWhere sound bytes reads S =
    let s = sound.state.shape in
    (p : ℕ → Bool) → reads p (leaf_depth p 0 (division_of s S)) (leaf_records p 0 (division_of s S)) ≡ true
    → (g x : ℕ) → g < sound.state.limits.pages
    → word_at s sound.state.deepest sound.memory.words p ≡ word_of (Page g x)
    → page_at s.capacity bytes g ≡ page_at s.capacity sound.memory.bytes g

-- the store with other page bytes
abbrev pub with_bytes : Store → List ℕ → Store
with_bytes s bytes = record { state = s.state; memory = record { words = s.memory.words; bytes = bytes } }

-- the store is a sound one, but for pages that are not read
abbrev pub SoundWhere : Store → LeafTest Record → List Record → Type 0
SoundWhere s reads S =
    (bytes : List ℕ) × (Sound (with_bytes s bytes) S) × (length bytes ≡ length s.memory.bytes)
    × SameWhere (with_bytes s bytes) s.memory.bytes reads S

-- a query reads the leaves that agree with it
abbrev pub agreeing : (ℕ → QueryBit) → LeafTest Record
agreeing q p x rs = agrees q p x 0

abbrev pub SameWhereRead : Store → List ℕ → (ℕ → QueryBit) → List Record → Type 0
SameWhereRead sound bytes q S = SameWhere sound bytes (agreeing q) S

abbrev pub SoundWhereRead : Store → (ℕ → QueryBit) → List Record → Type 0
SoundWhereRead s q S = SoundWhere s (agreeing q) S

-- a key as a query that gives every attribute
abbrev pub key_query : Shape → List ℕ → ℕ → QueryBit
key_query s values = query_bits s (per_attribute (λ j. some (get_or values j 0)))

-- Shut out: "absent" without reading, 5 with 0 for an empty leaf (answered-as); 5 without a depth, or another than that
-- of the word, on any store (ordinary)
pub record LookupPromise (store : Store) (values : List ℕ) (answer : Answer Reply) : Type 0 where
  pub early-refused : RefusedFirst (key_refusals store values) answer
  -- on any store a content with 1 read or 5, with the depth of the word at the key's cell; or 9
  pub ordinary : key_number store values ≡ 0
      → ((content : Content) × (answer ≡ accepted (found content 1 (depth_at store values))))
      ⊎ ((answer ≡ refused_with 5 (depth_at store values)) ⊎ (answer ≡ refused 9))
  -- on a sound store the model's answer, whatever the pages hold that other keys' leaves have
  pub answered-as : (S : List Record) → SoundWhereRead store (key_query store.state.shape values) S
      → answer ≡ (outcome (fixed_of store.state) S (lookup_call values)).answer

-- a call that lists records into its output: `early` are the conditions for the refusals above, `reads` tells the
-- leaves that it reads, `model S` is what the model answers and leaves as the output
pub record ListPromise (early : List Condition) (reads : LeafTest Record) (model : List Record → Outcome)
    (store : Store) (out : List ℕ) (answer : Answer Reply) (out' : List ℕ) : Type 0 where
  pub early-refused : RefusedFirst early answer
  pub unchanged : is_refused answer ≡ true → out' ≡ out
  -- on any store 9, or counts with "written never exceeds total", in bounds, "other output bytes untouched"
  pub ordinary : first_number early ≡ 0
      → ((written total reads : ℕ) × (answer ≡ accepted (listed written total reads)) × (written ≤ total)
      × (record_size * written ≤ length out) × (drop (record_size * written) out' ≡ drop (record_size * written) out))
      ⊎ (answer ≡ refused 9)
  pub output-length : length out' ≡ length out
  -- on a sound store the model's answer and output, whatever the pages hold that it does not read
  pub answered-as : (S : List Record) → SoundWhere store reads S
      → (answer ≡ (model S).answer) × (out' ≡ (model S).output)

-- Shut out: an empty list, reads that are the bound or 1, a leaf listed once a cell (answered-as); a scan of every page
-- (SoundWhereRead)
pub record QueryPromise (store : Store) (q : List (Option ℕ)) (out : List ℕ) (answer : Answer Reply)
    (out' : List ℕ) : Type 0 where
  pub listed-as : ListPromise (query_refusals store q) (agreeing (query_bits store.state.shape q))
      (λ S. outcome (fixed_of store.state) S (query_call q out)) store out answer out'
  -- and reads within the bound
  pub bounded : (S : List Record) → SoundWhereRead store (query_bits store.state.shape q) S
      → (written total reads : ℕ) → answer ≡ accepted (listed written total reads)
      → reads ≤ 2 ^ (store.state.deepest - given_depths store.state.shape q store.state.deepest)

-- a range reads the leaves whose "box of values meets the query's"
abbrev pub meeting : Shape → Box → LeafTest Record
meeting s box p x rs = box_meets s box p x

-- "the range call has only the equality". Shut out: leaves inside the box alone, a high end left out (answered-as); 10
-- before 3 (early-refused); a scan of every page (SoundWhere)
abbrev pub RangePromise : Store → List (Option Interval) → List ℕ → Answer Reply → List ℕ → Type 0
RangePromise store r out answer out' =
    let s = store.state.shape in
    ListPromise (range_refusals store r) (meeting s (box_of s r))
    (λ S. outcome (fixed_of store.state) S (range_call r out)) store out answer out'

-- "says yes exactly for a sound store and otherwise no; it never gives 9". Shut out: always yes, always no
pub record CheckPromise (store : Store) (answer : Answer Bool) : Type 0 where
  pub early-refused : RefusedFirst (lent_conditions store) answer
  pub verdict : lent_number store ≡ 0
      → ((answer ≡ accepted true) × ((S : List Record) × Sound store S))
      ⊎ ((answer ≡ accepted false) × ((S : List Record) → Sound store S → ⊥))
