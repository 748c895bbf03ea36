-- An insert into a leaf with room: its page takes the record, or, if the leaf is empty, a free page that the region's
-- words then name. Assumes nothing.
use Prim.Native.Nat.{ℕ, ◌<◌}
use mathlib.Core.Path.{◌≡◌, refl, sym, ap, ◌∙◌}
use mathlib.Core.Bool.{Bool, true, false, false≢true}
use mathlib.Core.List.{List, [], ◌∷◌}
use mathlib.Core.Logic.{◌⊎◌, inl, inr}
use native.Mathlib.Omega.{arith}
use lib.ListN.{length}
use Rattle.lists.specs.Filter.{non_empty}
use Rattle.lists.proofs.Numbers.{eq-or-ne}
use Rattle.shape.specs.Shape.{widths_of, total}
use Rattle.shape.specs.declared.Shape.{Shape}
use Rattle.cell.specs.Cell.{Agree}
use Rattle.directory.specs.Directory.{Filled}
use Rattle.region.specs.Division.{Division, leaf_depth, leaf_records}
use Rattle.record.specs.Record.{Record, record_bit}
use Rattle.directory_word.specs.Word.{word_of}
use Rattle.directory_word.specs.declared.Leaf.TheVariants.{Empty, Page}
use Rattle.directory_word.proofs.WordLaws.{word_of-one-to-one, word_of-apart}
use Rattle.model.specs.Sets.{in_shape, stored, with_record}
use Rattle.model.proofs.SetLaws.{is_set-with_record}
use Rattle.model.proofs.AddRefusalLaws.{greatest_depth-with_record-room}
use Rattle.store.specs.Store.{Store, Memory, memory, word_at}
use Rattle.store.specs.Sound.{LeafWord, Sound}
use Rattle.store.proofs.AgreeLaws.{leaf_depth-agree}
use Rattle.store.proofs.ShownLaws.{page_records, word_on, division_on, LeafWord-page, LeafWord-empty}
use Rattle.store.proofs.ShownLaws.{shape-of-Sound}
use Rattle.store.proofs.RoomLaws.{FreePage}
use Rattle.change.proofs.SharedLaws.{non_empty-insert}
use Rattle.change.proofs.LeafLaws.{leaf-other, leaf_room, tallies-room}
use Rattle.change.proofs.RegionLaws.{OldPage, PageAfter, RegionChanged, changed_store, sound-of-region}

-- the word of a leaf with records
pub LeafWord-of-page : (s : Shape) (P : ℕ) (bytes : List ℕ) (rs : List Record) (y word g : ℕ) → non_empty rs ≡ true
    → g < P → word ≡ word_of (Page g y) → page_records s bytes g ≡ rs → LeafWord s P bytes rs y word
LeafWord-of-page s P bytes [] y word g n l e d = absurd (false≢true n)
LeafWord-of-page s P bytes (r ∷ rs) y word g n l e d = (g, l, e, d)

-- the region of a leaf that is there before: strings in it lead to it, and have its word
module _ (before : Store) (S : List Record) (sound : Sound before S) (p₀ q : ℕ → Bool)
    (i : Agree (leaf_depth p₀ 0 (division_on before S)) p₀ q) where
  pub leaf_depth-inside : leaf_depth q 0 (division_on before S) ≡ leaf_depth p₀ 0 (division_on before S)
  leaf_depth-inside = leaf_depth-agree p₀ q (division_on before S) i

  pub word_on-inside : word_on before q ≡ word_on before p₀
  word_on-inside = sym (sound.shown.same_word p₀ q i)

module _ (before : Store) (S : List Record) (sound : Sound before S) (r : Record)
    (f : in_shape before.state.shape r ≡ true) (new : non_empty (stored r.key S) ≡ false) where
  abbrev s : Shape
  s = before.state.shape

  abbrev P : ℕ
  P = before.state.limits.pages

  abbrev T : ℕ
  T = before.state.deepest

  abbrev D : Division Record
  D = division_on before S

  abbrev p₀ : ℕ → Bool
  p₀ = record_bit s r

  abbrev x : ℕ
  x = leaf_depth p₀ 0 D

  abbrev rs : List Record
  rs = leaf_records p₀ 0 D

  -- the set, its depth and its tally afterwards, whatever the memory
  module _ (room : length rs < s.capacity) (m' : Memory) where
    abbrev after : Store
    after = changed_store before T before.state.tally m'

    pub sound-of-room : RegionChanged before S (with_record s r S) T m' p₀ x
        → length m'.words ≡ length before.memory.words → length m'.bytes ≡ length before.memory.bytes
        → Sound after (with_record s r S)
    sound-of-room change words bytes =
        let good = shape-of-Sound before S sound in
        sound-of-region before S (with_record s r S) T m' p₀ x sound change before.state.tally
        (is_set-with_record s S sound.set r f)
        (sound.deepest ∙ sym (greatest_depth-with_record-room s good S sound.set r f new room))
        sound.depth-within
        (sound.tallied ∙ tallies-room s good S sound.set r f new room) words bytes

  -- page g shows something else, the others what they did
  module _ (room : length rs < s.capacity) (g : ℕ) (l : g < P) (bytes' : List ℕ)
      (others : (k : ℕ) → k < P → (k ≡ g → ⊥) → page_records s bytes' k ≡ page_records s before.memory.bytes k)
    where
      leaf : (q : ℕ → Bool) → Agree x p₀ q
          → (leaf_depth q 0 (division_on before (with_record s r S)) ≡ x)
          × (leaf_records q 0 (division_on before (with_record s r S)) ≡ with_record s r rs)
      leaf = leaf_room s (shape-of-Sound before S sound) S sound.set r f new room

      word-of-leaf : (q : ℕ → Bool) → Agree x p₀ q → (word : ℕ) → word ≡ word_of (Page g x)
          → page_records s bytes' g ≡ with_record s r rs
          → LeafWord s P bytes' (leaf_records q 0 (division_on before (with_record s r S)))
          (leaf_depth q 0 (division_on before (with_record s r S))) word
      word-of-leaf q i word e d =
          rw ((leaf q i).0, (leaf q i).1)
          (LeafWord-of-page s P bytes' (with_record s r rs) x word g
          (non_empty-insert (record_bit s) (total (widths_of s)) 0 r rs) l e d)

      -- the page of the leaf takes the record
      pub changed-page : word_on before p₀ ≡ word_of (Page g x)
          → page_records s bytes' g ≡ with_record s r (page_records s before.memory.bytes g)
          → RegionChanged before S (with_record s r S) T (memory before.memory.words bytes') p₀ x
      changed-page word shows =
          record {
            leaves-before = λ q i. omega (arith, leaf_depth-inside before S sound p₀ q i);
            leaves_after = λ q i. omega (arith, (leaf q i).0);
            leaf-outside = leaf-other s (shape-of-Sound before S sound) S sound.set r f new;
            word-outside = λ q o. refl;
            word-inside = λ q i.
                word-of-leaf q i (word_on before q) (word_on-inside before S sound p₀ q i ∙ word)
                (shows ∙ ap (with_record s r) old-page.2);
            same-word-inside = λ p q i k a.
                word_on-inside before S sound p₀ p i ∙ sym (word_on-inside before S sound p₀ q k);
            page = λ k m. by-page k m (eq-or-ne k g);
            keeps = λ p i e h k y m d. d;
            takes = λ p i k y m d. inl d;
          }
        where
          old-page : (g < P) × (x ≡ x) × (page_records s before.memory.bytes g ≡ rs) × (non_empty rs ≡ true)
          old-page =
              LeafWord-page s P before.memory.bytes sound.most-pages rs x (word_on before p₀)
              (sound.shown.word p₀) g x (omega (arith, sound.most-pages)) word

          m' : Memory
          m' = memory before.memory.words bytes'

          only : (k : ℕ) → k < P → OldPage before S (with_record s r S) T m' p₀ x k → k ≡ g
          only k m h =
              (word_of-one-to-one k g h.1 x (omega (arith, sound.most-pages)) (omega (arith, sound.most-pages))
              (sym h.3 ∙ word_on-inside before S sound p₀ h.0 h.2 ∙ word)).0

          by-page : (k : ℕ) → k < P → (k ≡ g) ⊎ (k ≡ g → ⊥) → PageAfter before S (with_record s r S) T m' p₀ x k
          by-page k m (inl e) = inl (p₀, x, λ j c. refl, rw e word)
          by-page k m (inr n) = inr (inr (others k m n, λ h. n (only k m h)))

      -- an empty leaf gets page g, which was free
      pub changed-empty : word_on before p₀ ≡ word_of (Empty x) → FreePage before g → page_records s bytes' g ≡ r ∷ []
          → (words' : List ℕ) → Filled (widths_of s) T x p₀ (word_of (Page g x)) before.memory.words words'
          → RegionChanged before S (with_record s r S) T (memory words' bytes') p₀ x
      changed-empty word free shows words' filled =
          record {
            leaves-before = λ q i. omega (arith, leaf_depth-inside before S sound p₀ q i);
            leaves_after = λ q i. omega (arith, (leaf q i).0);
            leaf-outside = leaf-other s (shape-of-Sound before S sound) S sound.set r f new;
            word-outside = filled.outside;
            word-inside = λ q i.
                word-of-leaf q i (word_at s T words' q) (filled.inside q i) (shows ∙ ap (with_record s r) (sym none));
            same-word-inside = λ p q i k a. filled.inside p i ∙ sym (filled.inside q k);
            page = λ k m. by-page k m (eq-or-ne k g);
            keeps = λ p i e h k y m d. absurd (no-page k m (p, y, i, d));
            takes = λ p i k y m d. inr (inl (rw (same k m y (sym (filled.inside p i) ∙ d)) free));
          }
        where
          m' : Memory
          m' = memory words' bytes'

          none : rs ≡ []
          none =
              (LeafWord-empty s P before.memory.bytes sound.most-pages rs x (word_on before p₀)
              (sound.shown.word p₀) x word).1

          same : (k : ℕ) → k < P → (y : ℕ) → word_of (Page g x) ≡ word_of (Page k y) → k ≡ g
          same k m y e =
              sym (word_of-one-to-one g k x y (omega (arith, sound.most-pages)) (omega (arith, sound.most-pages)) e).0

          no-page : (k : ℕ) → k < P → OldPage before S (with_record s r S) T m' p₀ x k → ⊥
          no-page k m h =
              word_of-apart k h.1 x (omega (arith, sound.most-pages))
              (sym h.3 ∙ word_on-inside before S sound p₀ h.0 h.2 ∙ word)

          by-page : (k : ℕ) → k < P → (k ≡ g) ⊎ (k ≡ g → ⊥) → PageAfter before S (with_record s r S) T m' p₀ x k
          by-page k m (inl e) = inl (p₀, x, λ j c. refl, rw e (filled.inside p₀ (λ j c. refl)))
          by-page k m (inr n) = inr (inr (others k m n, no-page k m))
