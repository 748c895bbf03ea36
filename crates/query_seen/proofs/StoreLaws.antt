-- What the walk sees in a store that is sound where it reads it (document 01, "Calls"): it is sound, notes the pages of
-- the leaves that it enters and that are not empty, in order, and their matching records are those of the set. What the
-- other pages hold does not matter. Assumes nothing.
use Prim.Native.Nat.{ℕ, ◌+◌, ◌-◌, ◌≤◌, ◌<◌}
use mathlib.Core.Path.{◌≡◌, refl, sym, ap, ◌∙◌}
use mathlib.Core.Bool.{Bool, true, cond, false≢true}
use mathlib.Core.List.{List, [], ◌∷◌, flat_map}
use native.Mathlib.Omega.{arith}
use lib.ListN.{get_or, length}
use borrow.Author.Tests.{le-leb}
use Rattle.lists.specs.Filter.{filter, all, non_empty}
use Rattle.lists.proofs.Bools.{and_split, and_both}
use Rattle.lists.proofs.FilterLaws.{all-imp}
use Rattle.shape.specs.Shape.{Fit, widths_of, total}
use Rattle.shape.specs.declared.Shape.{Shape}
use Rattle.split.specs.Steps.{steps}
use Rattle.cell.proofs.CellLaws.{cell_address-zero-bits}
use Rattle.region.specs.Strings.{same_bits, empty_string}
use Rattle.region.specs.Sets.{sorted}
use Rattle.region.specs.Division.{Division, leaf_depth, leaf_records}
use Rattle.region.specs.Query.{LeafTest, holds_records, walk_reads}
use Rattle.region.proofs.StringLeafLaws.{length-leaf_records-le}
use Rattle.region.proofs.WalkLaws.{good_in, walk_records-divide}
use Rattle.region.proofs.QueryLaws.{no-records}
use Rattle.record.specs.Record.{Record, record_bit}
use Rattle.page.proofs.FieldLaws.{length-records_from}
use Rattle.page.specs.Page.{count_of, records_of, page_at}
use Rattle.directory_word.specs.Word.{word_of, page_field, depth_field}
use Rattle.directory_word.specs.declared.Leaf.TheVariants.{Page}
use Rattle.model.specs.Sets.{in_shape, is_set, division_of}
use Rattle.store.specs.declared.State.{State}
use Rattle.store.specs.Store.{Store, word_at}
use Rattle.store.specs.Sound.{LeafWord, Sound}
use Rattle.store.specs.Promises.{with_bytes, SoundWhere}
use Rattle.shape.proofs.ShapeLaws.{shape_number-true, capacity-bounds, widths_of-fit}
use Rattle.page_ends.proofs.BeginLaws.{length-steps-four}
use Rattle.page_ends.proofs.SoundLaws.{ends_begin-shown}
use Rattle.change.proofs.BoundLaws.{leaf-counted}
use Rattle.query_seen.specs.Pages.{page_in, read_pages_by}
use Rattle.query_seen.specs.Seen.{fair_page, tallied, noted, leaf_seen, walk_seen_by}
use Rattle.query_seen.proofs.DivisionLaws.{sound_seen, Under-all, ShowsLeaves, seen-sound, length-walk_pages}
use Rattle.query_seen.proofs.DivisionLaws.{gathered-walk_pages}
use Rattle.query_seen.proofs.SeenLaws.{within-true, noted-none, noted-fair}

-- ---- a leaf's word

depth_field-word_of : (P g x word : ℕ) → P ≤ 4096 → g < P → word ≡ word_of (Page g x)
    → (depth_field word ≡ x) × (page_field word ≡ g + 1)
depth_field-word_of P g x word l h e = (omega arith, omega arith)

module _ (s : Shape) (P : ℕ) (most : P ≤ 4096) (bytes : List ℕ) where
  depth_field-leaf_word : (rs : List Record) (x word : ℕ) → LeafWord s P bytes rs x word → depth_field word ≡ x
  depth_field-leaf_word [] x word h = omega arith
  depth_field-leaf_word (r ∷ rs) x word h = (depth_field-word_of P h.0 x word most h.1 h.2).0

  -- an empty leaf notes nothing, another its page
  noted-leaf_word : (has : Bool) (fair : ℕ → Bool) (rs : List Record) (x word : ℕ) → LeafWord s P bytes rs x word
      → has ≡ true → (non_empty rs ≡ true → fair (page_field word - 1) ≡ true)
      → noted P has fair word ≡ sound_seen (cond (non_empty rs) ((page_field word - 1) ∷ []) [])
  noted-leaf_word has fair [] x word h t f = rw t (noted-none P fair word (omega arith))
  noted-leaf_word has fair (r ∷ rs) x word h t f =
      let d = (depth_field-word_of P h.0 x word most h.1 h.2).1 in
      let g = h.1 in
      rw t (noted-fair P fair word (λ e. omega arith) (omega arith) (f refl))

  -- the page of a leaf that is not empty
  page-leaf_word : (rs : List Record) (x word : ℕ) → LeafWord s P bytes rs x word → non_empty rs ≡ true
      → (page_field word - 1 < P) × (word ≡ word_of (Page (page_field word - 1) x))
      × (records_of s (page_at s.capacity bytes (page_field word - 1)) ≡ rs)
  page-leaf_word [] x word h e = absurd (false≢true e)
  page-leaf_word (r ∷ rs) x word h e =
      let d = (depth_field-word_of P h.0 x word most h.1 h.2).1 in
      let page : page_field word - 1 ≡ h.0 = omega arith in
      rw page (h.1, h.2, h.3)

length-non_empty : {A : Type 0} (xs : List A) → non_empty xs ≡ true → 1 ≤ length xs
length-non_empty [] e = absurd (false≢true e)
length-non_empty (x ∷ xs) e = omega arith

-- ---- the store

module _ (store : Store) (enter : ℕ → (ℕ → Bool) → Bool) (reads : LeafTest Record) (S : List Record)
    -- a leaf that is entered and not empty is among those that are read
    (covers : (p : ℕ → Bool) (x : ℕ) (rs : List Record) → enter x p ≡ true → non_empty rs ≡ true → reads p x rs ≡ true)
    (h : SoundWhere store reads S) where
  abbrev s : Shape
  s = store.state.shape

  abbrev P : ℕ
  P = store.state.limits.pages

  abbrev T : ℕ
  T = store.state.deepest

  abbrev words : List ℕ
  words = store.memory.words

  abbrev D : Division Record
  D = division_of s S

  abbrev records : ℕ → List Record
  records g = records_of s (page_at s.capacity store.memory.bytes g)

  sound : Sound (with_bytes store h.0) S
  sound = h.1

  set-parts : (sorted (record_bit s) (total (widths_of s)) 0 S ≡ true) × (all (in_shape s) S ≡ true)
  unfolding is_set
  set-parts = and_split (sorted (record_bit s) (total (widths_of s)) 0 S) (all (in_shape s) S) sound.set

  fits : (Fit (widths_of s)) × (T ≤ length (steps (widths_of s)))
  unfolding widths_of
  fits =
      let fit = widths_of-fit s (shape_number-true s sound.shape) in
      (fit, omega (arith, sound.depth-bits, sound.depth-within, length-steps-four (widths_of s) refl fit))

  leaf-word : (p : ℕ → Bool) → LeafWord s P h.0 (leaf_records p 0 D) (leaf_depth p 0 D) (word_at s T words p)
  leaf-word p = sound.shown.word p

  -- the page of a leaf that is entered has the leaf's records, whatever other pages hold
  page-records : (p : ℕ → Bool) → enter (leaf_depth p 0 D) p ≡ true → non_empty (leaf_records p 0 D) ≡ true
      → records (page_in store.state words p) ≡ leaf_records p 0 D
  page-records p e n =
      let w = page-leaf_word s P sound.most-pages h.0 (leaf_records p 0 D) (leaf_depth p 0 D) (word_at s T words p)
      (leaf-word p) n in
      let read = covers p (leaf_depth p 0 D) (leaf_records p 0 D) e n in
      ap (records_of s) (h.3 p read (page_in store.state words p) (leaf_depth p 0 D) w.0 w.1) ∙ w.2

  -- so that its count is 1 to b, and its ends are the leaf's
  page-fair : (p : ℕ → Bool) → enter (leaf_depth p 0 D) p ≡ true → non_empty (leaf_records p 0 D) ≡ true
      → fair_page s store.memory.bytes (leaf_depth p 0 D) p (page_in store.state words p) ≡ true
  unfolding fair_page division_of
  page-fair p e n =
      let page = page_at s.capacity store.memory.bytes (page_in store.state words p) in
      let count : count_of page ≡ length (leaf_records p 0 D) =
      sym (length-records_from s (count_of page) 2 page) ∙ ap length (page-records p e n) in
      let some : 1 ≤ length (leaf_records p 0 D) = length-non_empty (leaf_records p 0 D) n in
      let few : length (leaf_records p 0 D) ≤ s.capacity =
      length-leaf_records-le (record_bit s) s.capacity p (total (widths_of s)) 0 S
      (capacity-bounds s (shape_number-true s sound.shape)).0
      set-parts.0 in
      and_both _ _ (within-true s.capacity (count_of page) (omega arith) (omega arith))
      (ends_begin-shown s (shape_number-true s sound.shape) S sound.set p page (page-records p e n) n)

  -- its depth has a leaf in the tally
  leaf-tallied : (p : ℕ → Bool) → tallied store.state.tally (leaf_depth p 0 D) ≡ true
  unfolding tallied
  leaf-tallied p = le-leb 1 _ (leaf-counted (with_bytes store h.0) S sound p)

  shows-leaves : ShowsLeaves (λ x p. word_at s x words p) (leaf_seen store.state store.memory.bytes) enter
      holds_records T D
  shows-leaves = record {
    own-word = λ t p l z.
        ap (λ a. get_or words a 0)
        (sym (cell_address-zero-bits (widths_of s) fits.0 t T l fits.1 p (λ u m k. z u m)));
    word-depth = λ p.
        depth_field-leaf_word s P sound.most-pages h.0 (leaf_records p 0 D) (leaf_depth p 0 D) _ (leaf-word p);
    word-noted = λ p e.
        noted-leaf_word s P sound.most-pages h.0 _ _ (leaf_records p 0 D) (leaf_depth p 0 D) _ (leaf-word p)
        (leaf-tallied p) (page-fair p e);
  }

  module _ (begins : enter 0 empty_string ≡ true) where
    -- the walk is sound, and notes the pages of the leaves that it enters and that are not empty, in order
    pub walk_seen_by-sound : walk_seen_by store.state words store.memory.bytes enter
        ≡ sound_seen (read_pages_by store.state words enter D)
    unfolding walk_seen_by read_pages_by
    walk_seen_by-sound = seen-sound _ _ enter holds_records T D shows-leaves (omega (arith, sound.deepest)) begins

    -- their matching records, one page after the other, are the matching records of S in split order, where the test of
    -- regions looks at their own bits and lets in every beginning of a record that matches
    pub records-read_pages_by : (M : Record → Bool)
        → ((x : ℕ) (p q : ℕ → Bool) → same_bits p q x 0 ≡ true → enter x p ≡ enter x q)
        → ((r : Record) → in_shape s r ≡ true → M r ≡ true → (x : ℕ) → x ≤ total (widths_of s)
        → enter x (record_bit s r) ≡ true)
        → flat_map (λ g. filter M (records g)) (read_pages_by store.state words enter D) ≡ filter M S
    unfolding read_pages_by division_of
    records-read_pages_by M local lets-in =
        gathered-walk_pages enter holds_records (page_in store.state words) D M records page-records D _ 0 (Under-all D)
        begins
        ∙ walk_records-divide (record_bit s) enter holds_records M (in_shape s) (total (widths_of s)) local lets-in
        (λ p x rs k e. no-records M rs e) s.capacity (total (widths_of s)) 0 S empty_string (omega arith)
        set-parts.0
        (all-imp (in_shape s) (good_in (record_bit s) (in_shape s) empty_string 0) (λ r k. rw k) S set-parts.1)

-- how many pages they are
pub length-read_pages_by : (st : State) (words : List ℕ) (enter : ℕ → (ℕ → Bool) → Bool) (D : Division Record)
    → length (read_pages_by st words enter D) ≡ walk_reads enter holds_records empty_string 0 D
unfolding read_pages_by
length-read_pages_by st words enter D = length-walk_pages enter holds_records (page_in st words) D _ 0
