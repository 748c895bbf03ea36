-- An insert into a full leaf, whose keys and the new one differ first in split bit m: the leaf gives way to empty
-- siblings down to depth m, and to two leaves of depth m + 1. That of bit 0 keeps the page, that of bit 1 takes a free
-- one. Assumes nothing.
use Prim.Native.Nat.{ℕ, suc, ◌-◌, max, ◌≤◌, ◌<◌}
use mathlib.Core.Path.{◌≡◌, refl, sym, ap, ◌∙◌}
use mathlib.Core.Bool.{Bool, true, false, cond}
use mathlib.Core.List.{List, []}
use mathlib.Core.Logic.{◌⊎◌, inl, inr}
use native.Mathlib.Omega.{arith}
use lib.ListN.{length}
use Rattle.lists.specs.Filter.{all, non_empty}
use Rattle.lists.proofs.Numbers.{eq-or-ne}
use Rattle.shape.specs.Shape.{widths_of, total}
use Rattle.shape.specs.declared.Shape.{Shape}
use Rattle.cell.specs.Cell.{Agree}
use Rattle.region.specs.Strings.{with_bit, same_bits}
use Rattle.region.proofs.StringLaws.{with_bit-same}
use Rattle.cell.proofs.AgreeLaws.{agree-with_bit}
use Rattle.region.specs.Division.{Division, leaf_depth, leaf_records}
use Rattle.record.specs.Record.{Record, record_bit}
use Rattle.directory_word.specs.Word.{word_of}
use Rattle.directory_word.specs.declared.Leaf.TheVariants.{Page}
use Rattle.directory_word.proofs.WordLaws.{word_of-one-to-one, word_of-apart}
use Rattle.model.specs.Sets.{in_shape, stored, with_record}
use Rattle.model.proofs.SetLaws.{is_set-with_record}
use Rattle.model.proofs.AddRefusalLaws.{differing-bounds, greatest_depth-with_record-full}
use Rattle.store.specs.Store.{Store, Memory, memory, word_at}
use Rattle.store.specs.Sound.{LeafWord, Sound}
use Rattle.store.specs.declared.Tally.{Tally}
use Rattle.store.proofs.ShownLaws.{page_records, word_on, division_on, LeafWord-page, shape-of-Sound}
use Rattle.store.proofs.RoomLaws.{FreePage}
use Rattle.change.specs.Divided.{Deepened, Leaves, LeavesSet, divided_tally}
use Rattle.change.proofs.SharedLaws.{half_with}
use Rattle.change.proofs.ChainLaws.{agree-or-leaves}
use Rattle.change.proofs.LeafLaws.{leaf-other, non_empty-half, leaf-sibling, leaf-half, tallies-full}
use Rattle.change.proofs.RegionLaws.{OldPage, PageAfter, MayTake, RegionChanged, changed_store, sound-of-region}
use Rattle.change.proofs.RoomLaws.{LeafWord-of-page, leaf_depth-inside, word_on-inside}

module _ (before : Store) (S : List Record) (sound : Sound before S) (r : Record)
    (f : in_shape before.state.shape r ≡ true) (new : non_empty (stored r.key S) ≡ false) where
  abbrev s : Shape
  s = before.state.shape

  abbrev P : ℕ
  P = before.state.limits.pages

  abbrev D : Division Record
  D = division_on before S

  abbrev D' : Division Record
  D' = division_on before (with_record s r S)

  abbrev p₀ : ℕ → Bool
  p₀ = record_bit s r

  abbrev x : ℕ
  x = leaf_depth p₀ 0 D

  abbrev rs : List Record
  rs = leaf_records p₀ 0 D

  module _ (full : length rs ≡ s.capacity) (m : ℕ)
      (alike : all (λ y. same_bits p₀ (record_bit s y) m 0) rs ≡ true)
      (differ : all (λ y. same_bits p₀ (record_bit s y) (suc m) 0) rs ≡ false) where
    within : x ≤ m
    within = (differing-bounds s (shape-of-Sound before S sound) S sound.set r f new full m alike differ).0

    -- ---- depth, tally and set afterwards, whatever the memory

    pub sound-of-full : (m' : Memory) (tally' : Tally)
        → RegionChanged before S (with_record s r S) (max before.state.deepest (suc m)) m' p₀ x
        → m < before.state.limits.depth
        → tally'.leaves ≡ divided_tally x (suc (m - x)) before.state.tally.leaves
        → length m'.words ≡ length before.memory.words → length m'.bytes ≡ length before.memory.bytes
        → Sound (changed_store before (max before.state.deepest (suc m)) tally' m') (with_record s r S)
    sound-of-full m' tally' change deep tally words bytes =
        let good = shape-of-Sound before S sound in
        sound-of-region before S (with_record s r S) (max before.state.deepest (suc m)) m' p₀ x sound change tally'
        (is_set-with_record s S sound.set r f)
        (ap (λ T. max T (suc m)) sound.deepest
        ∙ sym (greatest_depth-with_record-full s good S sound.set r f new full m alike differ))
        (omega (arith, sound.depth-within))
        (tally
        ∙ ap (divided_tally x (suc (m - x))) sound.tallied
        ∙ tallies-full s good S sound.set r f new full m alike differ (omega (arith, sound.depth-limit)))
        words bytes

    -- ---- words and pages

    -- the record's leaf has page g, and page h is free; both are written
    module _ (g h : ℕ) (lg : g < P) (lh : h < P) (word : word_on before p₀ ≡ word_of (Page g x))
        (free : FreePage before h) (bytes' : List ℕ)
        (others : (k : ℕ) → k < P → (k ≡ g → ⊥) → (k ≡ h → ⊥)
        → page_records s bytes' k ≡ page_records s before.memory.bytes k)
        (shows : (β : Bool)
        → page_records s bytes' (cond β h g)
        ≡ half_with (record_bit s) (total (widths_of s)) m r β (page_records s before.memory.bytes g))
        (T' : ℕ) (words₁ words' : List ℕ)
        (deepened : Deepened (widths_of s) before.state.deepest T' before.memory.words words₁)
        (set : LeavesSet (widths_of s) T' x m p₀ g h words₁ words') where
      abbrev word_after : (ℕ → Bool) → ℕ
      word_after q = word_at s T' words' q

      abbrev m' : Memory
      m' = memory words' bytes'

      sibling : (q : ℕ → Bool) (z : ℕ) → x ≤ z → z < m → Leaves p₀ q z
          → (leaf_depth q 0 D' ≡ suc z) × (leaf_records q 0 D' ≡ [])
      sibling = leaf-sibling s (shape-of-Sound before S sound) S sound.set r f new full m alike differ

      half : (q : ℕ → Bool) → Agree m p₀ q
          → (leaf_depth q 0 D' ≡ suc m) × (leaf_records q 0 D' ≡ half_with (record_bit s) (total (widths_of s)) m r (q m) rs)
      half = leaf-half s (shape-of-Sound before S sound) S sound.set r f new full m alike differ

      old-records : page_records s before.memory.bytes g ≡ rs
      old-records =
          (LeafWord-page s P before.memory.bytes sound.most-pages rs x (word_on before p₀)
          (sound.shown.word p₀) g x (omega (arith, sound.most-pages)) word).2

      -- a string in the region leads to a sibling or to a half
      abbrev Place : (ℕ → Bool) → Type 0
      Place q = Agree m p₀ q ⊎ ((z : ℕ) × (x ≤ z) × (z < m) × Leaves p₀ q z)

      place : (q : ℕ → Bool) → Agree x p₀ q → Place q
      place q i = agree-or-leaves p₀ q (m - x) x m (omega (arith, within)) i

      page-lt : (β : Bool) → cond β h g < P
      page-lt true = lh
      page-lt false = lg

      deeper : (q : ℕ → Bool) → Place q → x < leaf_depth q 0 D'
      deeper q (inl a) = omega (arith, (half q a).0, within)
      deeper q (inr k) = omega (arith, (sibling q k.0 k.1 k.2 k.3).0)

      word-of-place : (q : ℕ → Bool) → Place q
          → LeafWord s P bytes' (leaf_records q 0 D') (leaf_depth q 0 D') (word_after q)
      word-of-place q (inl a) =
          rw ((half q a).0, (half q a).1)
          (LeafWord-of-page s P bytes' (half_with (record_bit s) (total (widths_of s)) m r (q m) rs) (suc m) (word_after q)
          (cond (q m) h g)
          (non_empty-half s (shape-of-Sound before S sound) S sound.set r f new full m alike differ (q m))
          (page-lt (q m)) (set.half q a)
          (shows (q m) ∙ ap (half_with (record_bit s) (total (widths_of s)) m r (q m)) old-records))
      word-of-place q (inr k) =
          let e = sibling q k.0 k.1 k.2 k.3 in
          rw (e.0, e.1) (set.siblings.sibling q k.0 k.1 k.2 k.3)

      same_word : (p q : ℕ → Bool) → Place p → Agree (leaf_depth p 0 D') p q → word_after p ≡ word_after q
      same_word p q (inl a) b =
          let c : Agree (suc m) p q = rw (half p a).0 at b in
          set.half p a
          ∙ ap (λ β. word_of (Page (cond β h g) (suc m))) (c m (omega arith))
          ∙ sym (set.half q (λ i l. a i l ∙ c i (omega arith)))
      same_word p q (inr k) b =
          let z = k.0 in
          let c : Agree (suc z) p q = rw (sibling p z k.1 k.2 k.3).0 at b in
          let leaves : Leaves p₀ q z = record {
            agree = λ i l. k.3.agree i l ∙ c i (omega arith);
            differ = λ e. k.3.differ (e ∙ sym (c z (omega arith)));
          } in
          set.siblings.sibling p z k.1 k.2 k.3 ∙ sym (set.siblings.sibling q z k.1 k.2 leaves)

      -- ---- pages

      only : (k : ℕ) → k < P → OldPage before S (with_record s r S) T' m' p₀ x k → k ≡ g
      only k l o =
          (word_of-one-to-one k g o.1 x (omega (arith, sound.most-pages)) (omega (arith, sound.most-pages))
          (sym o.3 ∙ word_on-inside before S sound p₀ o.0 o.2 ∙ word)).0

      new-page : (β : Bool) (k : ℕ) → k ≡ cond β h g → PageAfter before S (with_record s r S) T' m' p₀ x k
      new-page β k e =
          inl (
            with_bit p₀ m β,
            suc m,
            λ i l. sym (agree-with_bit p₀ m β i (omega (arith, within))),
            set.half (with_bit p₀ m β) (λ i l. sym (agree-with_bit p₀ m β i l))
                ∙ ap (λ γ. word_of (Page (cond γ h g) (suc m))) (with_bit-same p₀ m β)
                ∙ ap (λ j. word_of (Page j (suc m))) (sym e),
          )

      page : (k : ℕ) → k < P → (k ≡ g) ⊎ (k ≡ g → ⊥) → (k ≡ h) ⊎ (k ≡ h → ⊥)
          → PageAfter before S (with_record s r S) T' m' p₀ x k
      page k l (inl e) b = new-page false k e
      page k l (inr n) (inl e) = new-page true k e
      page k l (inr n) (inr o) = inr (inr (others k l n o, λ a. n (only k l a)))

      takes : (p : ℕ → Bool) → Place p → (k y : ℕ) → k < P → word_after p ≡ word_of (Page k y)
          → MayTake before S (with_record s r S) T' m' p₀ x k
      takes p (inr j) k y l e =
          absurd (word_of-apart k y (suc j.0) (omega (arith, sound.most-pages))
          (sym e ∙ set.siblings.sibling p j.0 j.1 j.2 j.3))
      takes p (inl a) k y l e = by_bit (p m) refl
        where
          named : k ≡ cond (p m) h g
          named =
              (word_of-one-to-one k (cond (p m) h g) y (suc m) (omega (arith, sound.most-pages))
              (omega (arith, page-lt (p m), sound.most-pages)) (sym e ∙ set.half p a)).0

          by_bit : (β : Bool) → p m ≡ β → MayTake before S (with_record s r S) T' m' p₀ x k
          by_bit true d = inl (rw (named ∙ ap (λ β. cond β h g) d) free)
          by_bit false d =
              inr (
                p₀,
                x,
                rw (named ∙ ap (λ β. cond β h g) d) word,
                λ c. omega (arith, deeper p₀ (inl (λ i l. refl))),
              )

      pub changed-full : RegionChanged before S (with_record s r S) T' m' p₀ x
      changed-full =
          record {
            leaves-before = λ q i. omega (arith, leaf_depth-inside before S sound p₀ q i);
            leaves_after = λ q i. omega (arith, deeper q (place q i));
            leaf-outside = leaf-other s (shape-of-Sound before S sound) S sound.set r f new;
            word-outside = λ q o. set.siblings.outside q o ∙ deepened.cells q;
            word-inside = λ q i. word-of-place q (place q i);
            same-word-inside = λ p q i k a. same_word p q (place p i) a;
            page = λ k l. page k l (eq-or-ne k g) (eq-or-ne k h);
            keeps = λ p i e n k y l d.
                absurd (omega (arith, deeper p (place p i), leaf_depth-inside before S sound p₀ p i));
            takes = λ p i k y l e. inr (takes p (place p i) k y l e);
          }
