-- A sound store passes the tests, so that no change on it gives 9 for them. Assumes nothing.
use Prim.Native.Nat.{ℕ, suc, ◌-◌, ◌≤◌, ◌<◌}
use mathlib.Core.Path.{◌≡◌, refl, sym, ap, ◌∙◌}
use mathlib.Core.Bool.{Bool, true, false}
use mathlib.Core.List.{List, [], ◌∷◌}
use mathlib.Core.Logic.{◌⊎◌, inl, inr}
use native.Mathlib.Omega.{arith}
use Rattle.lists.proofs.Numbers.{eq-or-ne, lt-or-le}
use Rattle.shape.specs.Shape.{widths_of}
use Rattle.shape.specs.declared.Shape.{Shape}
use Rattle.cell.specs.Cell.{Agree}
use Rattle.region.specs.Strings.{sibling}
use Rattle.region.specs.Division.{Division, leaf_depth}
use Rattle.region.proofs.StringLeafLaws.{leaf_depth-le}
use Rattle.record.specs.Record.{Record, record_bit}
use Rattle.model.specs.Sets.{stored, without_key}
use Rattle.directory_word.specs.Word.{depth_field}
use Rattle.store.specs.Store.{Store}
use Rattle.store.specs.Sound.{Sound}
use Rattle.store.proofs.AgreeLaws.{agree-or-not, leaf_depth-agree}
use Rattle.store.proofs.ShownLaws.{word_on, division_on, word_on-depth, shape-of-Sound}
use Rattle.change.specs.Divided.{Leaves}
use Rattle.change.specs.Delete.{key_string, AtSibling, JoinFound, joined_tally, tally_depth}
use Rattle.change.proofs.ChainLaws.{agree-or-leaves, agree-of-leaves}
use Rattle.change.proofs.DeleteWordLaws.{word_at-halved}
use Rattle.change.proofs.DeleteFoundLaws.{JoinRegion, join-region, joined-of-found}
use Rattle.change.proofs.DeleteKeyLaws.{KeyJoined}
use Rattle.change.proofs.DeleteShownLaws.{tally_depth-joined}
use Rattle.directory_tests.specs.Intact.{cell_word, RegionHolds, RegionTold}
use Rattle.change_kept.specs.Tested.{LeafTested, SiblingTested}
use Rattle.change_kept.proofs.WordLaws.{leaves-sibling}

-- ---- a test that cannot fail says yes

pub region-passes : (ws : List ℕ) (t x : ℕ) (p : ℕ → Bool) (word : ℕ) (words : List ℕ) (held : Bool)
    → RegionHolds ws t x p word words → RegionTold ws t x p word words held → held ≡ true
region-passes ws t x p word words true h told = refl
region-passes ws t x p word words false h told = let n = told.no refl in absurd (n.2 (h n.0 n.1))

module _ (before : Store) (S : List Record) (sound : Sound before S) where
  abbrev s : Shape
  s = before.state.shape

  abbrev T : ℕ
  T = before.state.deepest

  abbrev D : Division Record
  D = division_on before S

  -- ---- regions

  -- a string's leaf is whole
  pub sound-holds : (p : ℕ → Bool) (x word : ℕ) → word_on before p ≡ word → depth_field word ≡ x
      → RegionHolds (widths_of s) T x p word before.memory.words
  sound-holds p x word e d q a =
      let depth : leaf_depth p 0 D ≡ x = sym (word_on-depth before S sound p) ∙ ap depth_field e ∙ d in
      sym (sound.shown.same_word p q (rw depth a)) ∙ e

  pub sound-leaf : (key : List ℕ) (x word : ℕ) → word_on before (key_string before key) ≡ word → depth_field word ≡ x
      → LeafTested before.state before.memory.words key x word
  sound-leaf key x word e d = sound-holds (key_string before key) x word e d

  -- a sibling by the word of one of its cells
  pub sound-sibling : (key : List ℕ) (z word : ℕ) → depth_field word ≡ suc z → AtSibling before key z (λ w. w ≡ word)
      → SiblingTested before.state before.memory.words key z word
  sound-sibling key z word d c q a =
      sound-holds c.0 (suc z) word c.2 d q (λ i l. sym (c.1 i l) ∙ a i l)

  -- ---- halving

  module _ (r : Record) (held : stored r.key S ≡ r ∷ []) (g h m y : ℕ)
      (f : JoinFound before r.key g h m y) where
    abbrev p : ℕ → Bool
    p = record_bit s r

    abbrev D' : Division Record
    D' = division_on before (without_key r.key S)

    -- T after the join
    abbrev T' : ℕ
    T' = tally_depth T (joined_tally y (suc m - y) before.state.tally.leaves)

    -- a leaf of depth z + 1 beside the key's string
    beside : (q : ℕ → Bool) (z : ℕ) → Leaves p q z → leaf_depth (sibling p z) 0 D ≡ suc z → leaf_depth q 0 D ≡ suc z
    beside q z l e =
        leaf_depth-agree (sibling p z) q D (rw e (agree-of-leaves p (sibling p z) q z (leaves-sibling p z) l)) ∙ e

    -- the leaves of strings that do not begin with the key's first n bits do not lie deeper, from T' on
    depth-le-step : (n : ℕ) → T' ≤ n → (q : ℕ → Bool) → (Agree n p q → ⊥) → leaf_depth q 0 D ≤ n
    depth-le-step n l q away = by-region (agree-or-not p q y)
      where
        region : JoinRegion before S r g h m y
        region = join-region before S r sound held g h m y f

        joined : KeyJoined s (shape-of-Sound before S sound) S sound.set r held m y
        joined = joined-of-found before S r sound held g h m y f

        by-leaf : Agree (suc m) p q ⊎ ((z : ℕ) × (y ≤ z) × (z < suc m) × Leaves p q z) → leaf_depth q 0 D ≤ n
        by-leaf (inl a) = by_order (lt-or-le n (suc m))
          where
            depth : leaf_depth q 0 D ≡ suc m
            depth = leaf_depth-agree p q D (rw joined.depth a) ∙ joined.depth

            by_order : (n < suc m) ⊎ (suc m ≤ n) → leaf_depth q 0 D ≤ n
            by_order (inl b) = absurd (away (λ i k. a i (omega arith)))
            by_order (inr b) = omega (arith, depth)
        by-leaf (inr k) = by_order (lt-or-le k.0 n) (eq-or-ne k.0 m)
          where
            by_order : (k.0 < n) ⊎ (n ≤ k.0) → (k.0 ≡ m) ⊎ (k.0 ≡ m → ⊥) → leaf_depth q 0 D ≤ n
            by_order (inr b) e = absurd (away (λ i c. k.3.agree i (omega arith)))
            by_order (inl b) (inl e) =
                let depth : leaf_depth (sibling p k.0) 0 D ≡ suc k.0 = rw e joined.sibling-depth in
                omega (arith, beside q k.0 k.3 depth)
            by_order (inl b) (inr e) =
                omega (arith, beside q k.0 k.3 (joined.empty-depth k.0 k.1 (omega (arith, k.2))))

        by-region : Agree y p q ⊎ (Agree y p q → ⊥) → leaf_depth q 0 D ≤ n
        by-region (inl a) =
            by-leaf (agree-or-leaves p q (suc m - y) y (suc m) (omega (arith, f.above)) a)
        by-region (inr o) =
            omega (
              arith,
              (region.outside q o).0,
              leaf_depth-le q 0 D',
              tally_depth-joined before S sound r held g h m y f,
            )

    -- so no step from T' on changes a word outside
    pub sound-folds : (n : ℕ) → T' ≤ n → n < T → (q : ℕ → Bool) → (Agree n p q → ⊥)
        → cell_word (widths_of s) (suc n) before.memory.words q
        ≡ cell_word (widths_of s) n before.memory.words q
    sound-folds n l b q away =
        let d = depth-le-step n l q away in
        word_at-halved before S sound (suc n) b q (omega arith)
        ∙ sym (word_at-halved before S sound n (omega arith) q d)
