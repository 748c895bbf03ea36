-- What an accepted insert did, as its code knows it: a page took the record, an empty leaf got a page, or a full leaf
-- was divided. On a sound store each shows the set with the record. Assumes nothing.
use Prim.Native.Nat.{ℕ, suc, ◌-◌, max, ◌≤◌, ◌<◌}
use mathlib.Core.Path.{◌≡◌, sym, ap, ◌∙◌}
use mathlib.Core.Bool.{Bool, true, false, cond}
use mathlib.Core.List.{List, [], ◌∷◌}
use lib.ListN.{length}
use Rattle.lists.specs.Filter.{all, non_empty}
use Rattle.shape.specs.Shape.{widths_of, total}
use Rattle.shape.specs.declared.Shape.{Shape}
use Rattle.directory.specs.Directory.{Filled}
use Rattle.region.specs.Strings.{same_bits}
use Rattle.region.specs.Division.{leaf_depth, leaf_records}
use Rattle.record.specs.Record.{Record, record_bit}
use Rattle.directory_word.specs.Word.{word_of}
use Rattle.directory_word.specs.declared.Leaf.TheVariants.{Empty, Page}
use Rattle.model.specs.Sets.{in_shape, stored, with_record}
use Rattle.store.specs.Store.{Store, Memory, memory, store}
use Rattle.store.specs.Sound.{Sound}
use Rattle.store.specs.declared.Tally.{Tally}
use Rattle.store.proofs.ShownLaws.{page_records, word_on, division_on}
use Rattle.store.proofs.RoomLaws.{FreePage}
use Rattle.change.specs.Divided.{Deepened, LeavesSet, divided_tally}
use Rattle.change.proofs.SharedLaws.{half_with}
use Rattle.change.proofs.RegionLaws.{changed_store}
use Rattle.change.proofs.RoomLaws.{sound-of-room, changed-page, changed-empty}
use Rattle.change.proofs.DivideLaws.{sound-of-full, changed-full}
use Rattle.change.proofs.PromiseLaws.{KeepsPast, ShowsNext}
use Rattle.change.proofs.PromiseLaws.{shows_next-of-region}
use Rattle.change.proofs.MeetLaws.{all_have, records_on, MeetsPage, depth-of-page, records-of-page, depth-of-empty}

-- ---- what an accepted insert did

module _ (before : Store) (r : Record) where
  abbrev s : Shape
  s = before.state.shape

  abbrev P : ℕ
  P = before.state.limits.pages

  -- page g, that of a leaf with room, took the record
  pub record TookRecord (g x : ℕ) (bytes' : List ℕ) : Type 0 where
    pub meets : MeetsPage before r g x
    pub absent : non_empty (stored r.key (records_on before g)) ≡ false
    pub room : length (records_on before g) < s.capacity
    pub shows : page_records s bytes' g ≡ with_record s r (records_on before g)
    pub others : (k : ℕ) → k < P → (k ≡ g → ⊥) → page_records s bytes' k ≡ records_on before k

  -- an empty leaf got page g, which was free
  pub record GotPage (g x : ℕ) (words' bytes' : List ℕ) : Type 0 where
    pub within : g < P
    pub word : word_on before (record_bit s r) ≡ word_of (Empty x)
    pub free : FreePage before g
    pub filled : Filled (widths_of s) before.state.deepest x (record_bit s r) (word_of (Page g x))
        before.memory.words words'
    pub shows : page_records s bytes' g ≡ r ∷ []
    pub others : (k : ℕ) → k < P → (k ≡ g → ⊥) → page_records s bytes' k ≡ records_on before k

  -- the keys on page g, that of a full leaf of depth x, and r's differ first in split bit m, below L
  pub record MeetsFull (g x m : ℕ) : Type 0 where
    pub meets : MeetsPage before r g x
    pub absent : non_empty (stored r.key (records_on before g)) ≡ false
    pub full : length (records_on before g) ≡ s.capacity
    pub below : x ≤ m
    pub alike : (t : ℕ) → x ≤ t → t < m → all_have (record_bit s) (record_bit s r) (records_on before g) t ≡ true
    pub differ : all_have (record_bit s) (record_bit s r) (records_on before g) m ≡ false
    pub deep : m < before.state.limits.depth

  -- the leaf was divided, and page h, which was free, took the records with bit 1; words₁ are the words once doubled
  pub record DividedLeaf (g h x m T' : ℕ) (tally' : Tally) (words₁ words' bytes' : List ℕ) : Type 0 where
    pub met : MeetsFull g x m
    pub within : h < P
    pub free : FreePage before h
    pub depth : T' ≡ max before.state.deepest (suc m)
    pub tally : tally'.leaves ≡ divided_tally x (suc (m - x)) before.state.tally.leaves
    pub deepened : Deepened (widths_of s) before.state.deepest T' before.memory.words words₁
    pub leaves : LeavesSet (widths_of s) T' x m (record_bit s r) g h words₁ words'
    pub shows : (β : Bool)
        → page_records s bytes' (cond β h g)
        ≡ half_with (record_bit s) (total (widths_of s)) m r β (records_on before g)
    pub others : (k : ℕ) → k < P → (k ≡ g → ⊥) → (k ≡ h → ⊥) → page_records s bytes' k ≡ records_on before k

  -- ---- on a sound store it shows the set with the record

  module _ (f : in_shape s r ≡ true) (S : List Record) (sound : Sound before S)
      (new : non_empty (stored r.key S) ≡ false) where
    abbrev S' : List Record
    S' = with_record s r S

    abbrev p₀ : ℕ → Bool
    p₀ = record_bit s r

    -- the depth of its leaf
    abbrev y : ℕ
    y = leaf_depth p₀ 0 (division_on before S)

    pub shows_next-taken : (g x : ℕ) (bytes' : List ℕ) → TookRecord g x bytes'
        → KeepsPast before (memory before.memory.words bytes')
        → ShowsNext before (store before.state before.memory.words bytes') S S'
    shows_next-taken g x bytes' took past =
        let m' : Memory = memory before.memory.words bytes' in
        let depth = depth-of-page before r S sound g x took.meets in
        let room = rw (sym (records-of-page before r S sound g x took.meets)) at took.room in
        let change = changed-page before S sound r f new room g took.meets.within bytes' took.others
        (rw depth took.meets.word) took.shows in
        shows_next-of-region before S S' before.state.deepest before.state.tally m' p₀ y sound change
        (sound-of-room before S sound r f new room m' change past.words-length past.bytes-length)

    pub shows_next-got : (g x : ℕ) (words' bytes' : List ℕ) → GotPage g x words' bytes'
        → length (leaf_records p₀ 0 (division_on before S)) < s.capacity → KeepsPast before (memory words' bytes')
        → ShowsNext before (store before.state words' bytes') S S'
    shows_next-got g x words' bytes' got room past =
        let m' : Memory = memory words' bytes' in
        let depth = depth-of-empty before r S sound x got.word in
        let change = changed-empty before S sound r f new room g got.within bytes' got.others
        (rw depth got.word) got.free got.shows words' (rw depth got.filled) in
        shows_next-of-region before S S' before.state.deepest before.state.tally m' p₀ y sound change
        (sound-of-room before S sound r f new room m' change past.words-length past.bytes-length)

    pub shows_next-divided : (g h x m T' : ℕ) (tally' : Tally) (words₁ words' bytes' : List ℕ)
        → DividedLeaf g h x m T' tally' words₁ words' bytes'
        → all (λ z. same_bits p₀ (record_bit s z) m 0) (leaf_records p₀ 0 (division_on before S)) ≡ true
        → all (λ z. same_bits p₀ (record_bit s z) (suc m) 0) (leaf_records p₀ 0 (division_on before S)) ≡ false
        → KeepsPast before (memory words' bytes')
        → ShowsNext before (changed_store before T' tally' (memory words' bytes')) S S'
    shows_next-divided g h x m T' tally' words₁ words' bytes' d alike differ past =
        let m' : Memory = memory words' bytes' in
        let met = d.met in
        let depth = depth-of-page before r S sound g x met.meets in
        let full = ap length (records-of-page before r S sound g x met.meets) ∙ met.full in
        let change = changed-full before S sound r f new full m alike differ g h met.meets.within d.within
        (rw depth met.meets.word) d.free bytes' d.others d.shows T' words₁ words' d.deepened
        (rw depth d.leaves) in
        shows_next-of-region before S S' T' tally' m' p₀ y sound change
        (rw d.depth
        (sound-of-full before S sound r f new full m alike differ m' tally' (rw d.depth at change) met.deep
        (rw depth d.tally) past.words-length past.bytes-length))
