-- A delete that leaves the leaf of its key where it is: its page loses the record, and an empty leaf its page. What
-- follows for the store. Assumes nothing.
use Prim.Native.Nat.{ℕ, zero, suc, ◌+◌, ◌-◌, ◌<◌}
use mathlib.Core.Path.{◌≡◌, refl, sym, ap, ◌∙◌}
use mathlib.Core.Bool.{Bool, true, false, cond, false≢true}
use mathlib.Core.List.{List, [], ◌∷◌}
use mathlib.Core.Logic.{◌⊎◌, inl, inr}
use native.Mathlib.Omega.{arith}
use lib.ListN.{length}
use Rattle.lists.specs.Filter.{non_empty}
use Rattle.lists.proofs.Numbers.{eq-or-ne}
use Rattle.shape.specs.Shape.{widths_of, total, shape_number}
use Rattle.shape.specs.declared.Shape.{Shape}
use Rattle.cell.specs.Cell.{Agree}
use Rattle.region.specs.Strings.{sibling}
use Rattle.region.specs.Division.{Division, tally, leaf_depth, leaf_records}
use Rattle.region.proofs.SiblingLaws.{lt-length-siblings}
use Rattle.record.specs.Record.{Record, record_bit}
use Rattle.page.specs.Page.{count_of, page_at}
use Rattle.directory_word.specs.Word.{word_of}
use Rattle.directory_word.specs.declared.Leaf.TheVariants.{Empty, Page}
use Rattle.directory_word.proofs.WordLaws.{word_of-one-to-one, word_of-apart}
use Rattle.model.specs.Sets.{stored, without_key, division_of}
use Rattle.model.proofs.SetLaws.{is_set-without_key}
use Rattle.store.specs.Store.{Store, Memory, word_at}
use Rattle.store.specs.Sound.{LeafWord, tallies, Sound}
use Rattle.store.proofs.AgreeLaws.{leaf_depth-agree, leaf_records-agree}
use Rattle.store.proofs.ShownLaws.{page_records, word_on, division_on, shape-of-Sound, page-of-LeafWord}
use Rattle.store.proofs.SetLaws.{length-leaf_records}
use Rattle.change.specs.Delete.{LeafDeleted}
use Rattle.change.proofs.RegionLaws.{changed_store, RegionChanged, PageAfter, sound-of-region}
use Rattle.change.proofs.PromiseLaws.{ShowsNext, shows_next-of-region}
use Rattle.change.proofs.DeleteWordLaws.{length-page_records, leaf-of-page-word}
use Rattle.change.proofs.DeleteKeyLaws.{KeyAlone, leaf-other, leaf_depth-alone, leaf_records-alone, tally-alone}
use Rattle.change.proofs.DeleteKeyLaws.{greatest_depth-alone}

tallies-same : (D D' : Division Record) → ((i : ℕ) → tally D' i ≡ tally D i) → (x n : ℕ)
    → tallies D' x n ≡ tallies D x n
tallies-same D D' h x zero = refl
tallies-same D D' h x (suc n) = cc (h x, tallies-same D D' h (suc x) n)

module _ (before : Store) (S : List Record) (sound : Sound before S) (r : Record)
    (held : stored r.key S ≡ r ∷ []) where
  abbrev s : Shape
  s = before.state.shape

  abbrev P : ℕ
  P = before.state.limits.pages

  abbrev D : Division Record
  D = division_on before S

  abbrev S' : List Record
  S' = without_key r.key S

  abbrev D' : Division Record
  D' = division_on before S'

  -- the key's string
  abbrev p : ℕ → Bool
  p = record_bit s r

  good : shape_number s ≡ 0
  good = shape-of-Sound before S sound

  module _ (g x : ℕ) (m' : Memory) (k : LeafDeleted before r.key g x m') where
    abbrev records' : List Record
    records' = page_records s m'.bytes g

    own-leaf : (leaf_depth p 0 D ≡ x) × (page_records s before.memory.bytes g ≡ leaf_records p 0 D)
    own-leaf = leaf-of-page-word before S sound p g x k.within k.own

    siblings-lt : (m : ℕ) → leaf_depth p 0 D ≡ suc m → leaf_depth (sibling p m) 0 D ≡ suc m
        → s.capacity < length (leaf_records p 0 D) + length (leaf_records (sibling p m) 0 D)
    unfolding division_of
    siblings-lt m e d = lt-length-siblings (record_bit s) s.capacity (total (widths_of s)) S p m e d

    key-alone : KeyAlone s good S sound.set r held
    key-alone m e d = by-page (non_empty (leaf_records (sibling p m) 0 D)) refl
      where
        x-suc : x ≡ suc m
        x-suc = sym own-leaf.0 ∙ e

        none : (rs : List Record) → non_empty rs ≡ false → length rs ≡ 0
        none [] h = refl
        none (q ∷ rs) h = absurd (false≢true (sym h))

        by-page : (β : Bool) → non_empty (leaf_records (sibling p m) 0 D) ≡ β
            → suc s.capacity < length (leaf_records p 0 D) + length (leaf_records (sibling p m) 0 D)
        by-page true h =
            let w = page-of-LeafWord s P before.memory.bytes (leaf_records (sibling p m) 0 D)
            (leaf_depth (sibling p m) 0 D) (word_on before (sibling p m)) (sound.shown.word (sibling p m)) h in
            let c = k.alone m x-suc in
            omega (
              arith,
              c.2 w.0 w.1
                  (sym (sound.shown.same_word (sibling p m) c.0 (rw d c.1))
                  ∙ w.2
                  ∙ ap (λ y. word_of (Page w.0 y)) d),
              length-page_records s before.memory.bytes g,
              ap length own-leaf.1,
              length-page_records s before.memory.bytes w.0,
              ap length w.3,
            )
        by-page false h =
            absurd (omega (
              arith,
              siblings-lt m e d,
              none (leaf_records (sibling p m) 0 D) h,
              length-leaf_records s S sound.set sound.shape p,
            ))

    -- the key's leaf afterwards

    own-depth : leaf_depth p 0 D' ≡ x
    own-depth = leaf_depth-alone s good S sound.set r held key-alone ∙ own-leaf.0

    after-depth : (q : ℕ → Bool) → Agree x p q → leaf_depth q 0 D' ≡ x
    after-depth q a = leaf_depth-agree p q D' (rw own-depth a) ∙ own-depth

    after-records : (q : ℕ → Bool) → Agree x p q → leaf_records q 0 D' ≡ records'
    after-records q a =
        leaf_records-agree p q D' (rw own-depth a)
        ∙ leaf_records-alone s good S sound.set r held key-alone
        ∙ ap (without_key r.key) (sym own-leaf.1)
        ∙ sym k.records

    -- all strings of the leaf have one word
    old-word : (q : ℕ → Bool) → Agree x p q → word_on before q ≡ word_of (Page g x)
    old-word q a = sym (sound.shown.same_word p q (rw own-leaf.0 a)) ∙ k.own

    -- the words of the region afterwards, and those outside it
    abbrev word : ℕ
    word = cond (non_empty records') (word_of (Page g x)) (word_of (Empty x))

    abbrev word_after : (ℕ → Bool) → ℕ
    word_after q = word_at s before.state.deepest m'.words q

    inside : (q : ℕ → Bool) → Agree x p q → word_after q ≡ word
    inside q a = by_left (non_empty records') refl
      where
        by_left : (β : Bool) → non_empty records' ≡ β → word_after q ≡ cond β (word_of (Page g x)) (word_of (Empty x))
        by_left true e = ap (λ ws. word_at s before.state.deepest ws q) (k.some_left e) ∙ old-word q a
        by_left false e = (k.none_left e).inside q a

    outside : (q : ℕ → Bool) → (Agree x p q → ⊥) → word_after q ≡ word_on before q
    outside q o = by_left (non_empty records') refl
      where
        by_left : (β : Bool) → non_empty records' ≡ β → word_after q ≡ word_on before q
        by_left true e = ap (λ ws. word_at s before.state.deepest ws q) (k.some_left e)
        by_left false e = (k.none_left e).outside q o

    word_some : non_empty records' ≡ true → word ≡ word_of (Page g x)
    word_some e = ap (λ β. cond β (word_of (Page g x)) (word_of (Empty x))) e

    word_none : non_empty records' ≡ false → word ≡ word_of (Empty x)
    word_none e = ap (λ β. cond β (word_of (Page g x)) (word_of (Empty x))) e

    leaf-word : (rs : List Record) → records' ≡ rs → LeafWord s P m'.bytes rs x word
    leaf-word [] e = word_none (rw e refl)
    leaf-word (q ∷ rs) e = (g, k.within, word_some (rw e refl), e)

    page-after : (h : ℕ) → h < P → (h ≡ g) ⊎ (h ≡ g → ⊥) → PageAfter before S S' before.state.deepest m' p x h
    page-after h l (inl e) = rw e (by_left (non_empty records') refl)
      where
        by_left : (β : Bool) → non_empty records' ≡ β → PageAfter before S S' before.state.deepest m' p x g
        by_left true d = inl (p, x, (λ i a. refl), inside p (λ i a. refl) ∙ word_some d)
        by_left false d = inr (inl (count records' d refl, (p, x, (λ i a. refl), k.own)))
          where
            count : (rs : List Record) → non_empty rs ≡ false → records' ≡ rs
                → count_of (page_at s.capacity m'.bytes g) ≡ 0
            count [] n f = sym (length-page_records s m'.bytes g) ∙ ap length f
            count (q ∷ rs) n f = absurd (false≢true (sym n))
    page-after h l (inr n) = inr (inr (k.others h l n, other))
      where
        other : (q : ℕ → Bool) × (y : ℕ) × Agree x p q × (word_on before q ≡ word_of (Page h y)) → ⊥
        other o =
            n (word_of-one-to-one h g o.1 x (omega (arith, sound.most-pages))
            (omega (arith, k.within, sound.most-pages)) (sym o.3 ∙ old-word o.0 o.2)).0

    pub leaf_changed : RegionChanged before S S' before.state.deepest m' p x
    leaf_changed = record {
      leaves-before = λ q i. omega (arith, leaf_depth-agree p q D (rw own-leaf.0 i), own-leaf.0);
      leaves_after = λ q i. omega (arith, after-depth q i);
      leaf-outside = λ q o. leaf-other s good S sound.set r held q (λ a. o (rw own-depth at a));
      word-outside = outside;
      word-inside = λ q i. rw (after-records q i, after-depth q i, inside q i) (leaf-word records' refl);
      same-word-inside = λ a b i j e. inside a i ∙ sym (inside b j);
      page = λ h l. page-after h l (eq-or-ne h g);
      keeps = λ q i e ne h y l d.
          inside q i
          ∙ word_some (sym (ap non_empty (after-records q i)) ∙ ne)
          ∙ sym (old-word q i)
          ∙ d;
      takes = λ q i h y l d. inl (takes q i h y l d (non_empty records') refl);
    }
      where
        takes : (q : ℕ → Bool) → Agree x p q → (h y : ℕ) → h < P
            → word_at s before.state.deepest m'.words q ≡ word_of (Page h y)
            → (β : Bool) → non_empty records' ≡ β → word_on before q ≡ word_of (Page h y)
        takes q i h y l d true e = old-word q i ∙ sym (word_some e) ∙ sym (inside q i) ∙ d
        takes q i h y l d false e =
            absurd (word_of-apart h y x (omega (arith, sound.most-pages)) (sym d ∙ inside q i ∙ word_none e))

    -- T and the tally stay
    pub shows_next-deleted : length m'.words ≡ length before.memory.words
        → length m'.bytes ≡ length before.memory.bytes
        → ShowsNext before (changed_store before before.state.deepest before.state.tally m') S S'
    shows_next-deleted words bytes =
        shows_next-of-region before S S' before.state.deepest before.state.tally m' p x sound leaf_changed
        (sound-of-region before S S' before.state.deepest m' p x sound leaf_changed before.state.tally
        (is_set-without_key s S sound.set r.key)
        (sound.deepest ∙ sym (greatest_depth-alone s good S sound.set r held key-alone)) sound.depth-within
        (sound.tallied ∙ sym (tallies-same D D' (tally-alone s good S sound.set r held key-alone) 0 13)) words
        bytes)
