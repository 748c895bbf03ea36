-- What follows from what a delete finds that joins the leaf of its key: the joined leaf's region, before and after, and
-- the two pages in it. Assumes nothing.
use Prim.Native.Nat.{ℕ, suc, ◌<◌}
use mathlib.Core.Path.{◌≡◌, refl, sym, ap, ◌∙◌}
use mathlib.Core.Bool.{Bool, true, not}
use mathlib.Core.List.{List, [], ◌∷◌}
use mathlib.Core.Logic.{◌⊎◌, inl, inr}
use native.Mathlib.Omega.{arith}
use lib.ListN.{length}
use Rattle.lists.specs.Filter.{non_empty}
use Rattle.shape.specs.Shape.{shape_number}
use Rattle.shape.specs.declared.Shape.{Shape}
use Rattle.cell.specs.Cell.{Agree}
use Rattle.region.specs.Strings.{sibling}
use Rattle.region.specs.Sets.{in_order}
use Rattle.region.specs.Division.{Division, leaf_depth, leaf_records}
use Rattle.region.proofs.StringLaws.{with_bit-other}
use Rattle.region.proofs.InsertLaws.{SameLeaf}
use Rattle.record.specs.Record.{Record, record_bit}
use Rattle.directory_word.specs.Word.{word_of}
use Rattle.directory_word.specs.declared.Leaf.TheVariants.{Page}
use Rattle.directory_word.proofs.WordLaws.{word_of-one-to-one}
use Rattle.model.specs.Sets.{stored, without_key}
use Rattle.store.specs.Store.{Store}
use Rattle.store.specs.Sound.{Sound}
use Rattle.store.proofs.AgreeLaws.{leaf_depth-agree, leaf_records-agree}
use Rattle.store.proofs.ShownLaws.{page_records, word_on, division_on, shape-of-Sound, LeafWord-page}
use Rattle.change.specs.Delete.{JoinFound}
use Rattle.change.proofs.DeleteWordLaws.{length-page_records, leaf-of-page-word, sibling-page, sibling-empty}
use Rattle.change.proofs.DeleteWordLaws.{sibling-other}
use Rattle.change.proofs.DeleteKeyLaws.{KeyJoined, leaf-other, leaf_depth-joined, length-leaf_records-joined}
use Rattle.change.proofs.DeleteKeyLaws.{leaf_records-joined, lt-leaf_depth-inside, leaf-inside}

module _ (before : Store) (S : List Record) (r : Record) where
  abbrev s : Shape
  s = before.state.shape

  abbrev P : ℕ
  P = before.state.limits.pages

  abbrev D : Division Record
  D = division_on before S

  abbrev D' : Division Record
  D' = division_on before (without_key r.key S)

  abbrev p : ℕ → Bool
  p = record_bit s r

  -- the records of the pages g and h, in order, without that of the key
  abbrev pub joined_records : ℕ → ℕ → ℕ → List Record
  joined_records g h m =
      in_order (p m) (without_key r.key (page_records s before.memory.bytes g))
      (page_records s before.memory.bytes h)

  -- the region of the first y bits of the key
  pub record JoinRegion (g h m y : ℕ) : Type 0 where
    -- before, it was divided; only the two pages were in it
    pub deeper : (q : ℕ → Bool) → Agree y p q → y < leaf_depth q 0 D
    pub leaf-of-two : (i : ℕ) → (i ≡ g) ⊎ (i ≡ h)
        → (q : ℕ → Bool) × Agree y p q × (word_on before q ≡ word_of (Page i (suc m)))
    pub two-of-leaf : (q : ℕ → Bool) (i z : ℕ) → Agree y p q → i < P → word_on before q ≡ word_of (Page i z)
        → (i ≡ g) ⊎ (i ≡ h)
    -- after, it is a leaf with their records, b of them
    pub depth-after : (q : ℕ → Bool) → Agree y p q → leaf_depth q 0 D' ≡ y
    pub records-after : (q : ℕ → Bool) → Agree y p q → leaf_records q 0 D' ≡ joined_records g h m
    pub full : length (joined_records g h m) ≡ s.capacity
    -- outside, leaves stay
    pub outside : (q : ℕ → Bool) → (Agree y p q → ⊥) → SameLeaf q 0 D' D

  module _ (sound : Sound before S) (held : stored r.key S ≡ r ∷ []) (g h m y : ℕ)
      (f : JoinFound before r.key g h m y) where
    abbrev good : shape_number s ≡ 0
    good = shape-of-Sound before S sound

    own-leaf : (leaf_depth p 0 D ≡ suc m) × (page_records s before.memory.bytes g ≡ leaf_records p 0 D)
    own-leaf = leaf-of-page-word before S sound p g (suc m) f.own-within f.own

    other-leaf : (leaf_depth (sibling p m) 0 D ≡ suc m)
        × (page_records s before.memory.bytes h ≡ leaf_records (sibling p m) 0 D)
        × (word_on before (sibling p m) ≡ word_of (Page h (suc m)))
    other-leaf = sibling-page before S sound r.key m h f.other-within f.other

    pub joined-of-found : KeyJoined s good S sound.set r held m y
    joined-of-found = record {
      depth = own-leaf.0;
      sibling-depth = other-leaf.0;
      fit =
          omega (
            arith,
            f.fit,
            ap length own-leaf.1,
            ap length other-leaf.1,
            length-page_records s before.memory.bytes g,
            length-page_records s before.memory.bytes h,
          );
      above = f.above;
      empty-depth = λ z u v. (sibling-empty before S sound r.key z (f.empty z u v)).0;
      empty-records = λ z u v. (sibling-empty before S sound r.key z (f.empty z u v)).1;
      top = λ z e d n. sibling-other before S sound r.key z (f.top z e) d n;
    }

    own-depth : leaf_depth p 0 D' ≡ y
    own-depth = leaf_depth-joined s good S sound.set r held m y joined-of-found

    own-records : leaf_records p 0 D' ≡ joined_records g h m
    own-records =
        leaf_records-joined s good S sound.set r held m y joined-of-found ∙ rw (own-leaf.1, other-leaf.1)

    leaf-of-two : (i : ℕ) → (i ≡ g) ⊎ (i ≡ h)
        → (q : ℕ → Bool) × Agree y p q × (word_on before q ≡ word_of (Page i (suc m)))
    leaf-of-two i (inl e) = (p, λ t l. refl, rw e f.own)
    leaf-of-two i (inr e) =
        (sibling p m, λ t l. sym (with_bit-other p m (not (p m)) t (λ d. omega (arith, f.above))), rw e other-leaf.2)

    two-of-leaf : (q : ℕ → Bool) (i z : ℕ) → Agree y p q → i < P → word_on before q ≡ word_of (Page i z)
        → (i ≡ g) ⊎ (i ≡ h)
    two-of-leaf q i z a l e = by-half (leaf-inside s good S sound.set r held m y joined-of-found q a has)
      where
        has : non_empty (leaf_records q 0 D) ≡ true
        has =
            (LeafWord-page s P before.memory.bytes sound.most-pages (leaf_records q 0 D) (leaf_depth q 0 D) _
            (sound.shown.word q) i z (omega (arith, sound.most-pages)) e).3

        same : (q' : ℕ → Bool) (j : ℕ) → j < P → word_on before q' ≡ word_of (Page j (suc m))
            → word_on before q' ≡ word_on before q → i ≡ j
        same q' j k w d =
            (word_of-one-to-one i j z (suc m) (omega (arith, sound.most-pages)) (omega (arith, sound.most-pages))
            (sym e ∙ sym d ∙ w)).0

        by-half : Agree (suc m) p q ⊎ Agree (suc m) (sibling p m) q → (i ≡ g) ⊎ (i ≡ h)
        by-half (inl b) =
            inl (same p g f.own-within f.own (sound.shown.same_word p q (rw own-leaf.0 b)))
        by-half (inr b) =
            inr (same (sibling p m) h f.other-within other-leaf.2
            (sound.shown.same_word (sibling p m) q (rw other-leaf.0 b)))

    pub join-region : JoinRegion g h m y
    join-region = record {
      deeper = lt-leaf_depth-inside s good S sound.set r held m y joined-of-found;
      leaf-of-two = leaf-of-two;
      two-of-leaf = two-of-leaf;
      depth-after = λ q a. leaf_depth-agree p q D' (rw own-depth a) ∙ own-depth;
      records-after = λ q a. leaf_records-agree p q D' (rw own-depth a) ∙ own-records;
      full =
          sym (ap length own-records) ∙ length-leaf_records-joined s good S sound.set r held m y joined-of-found;
      outside = λ q o. leaf-other s good S sound.set r held q (λ a. o (rw own-depth at a));
    }
