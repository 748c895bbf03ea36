-- Laws of the sibling of a leaf with a page in a sound store: its leaf is no shallower, and not empty at the leaf's own
-- depth; the test of its word, by case. Assumes nothing.
use Prim.Native.Nat.{ℕ, suc, ◌≤◌, ◌<◌}
use mathlib.Core.Path.{◌≡◌, ap}
use mathlib.Core.Bool.{Bool, true, false, not}
use mathlib.Core.List.{List}
use native.Mathlib.Omega.{arith}
use lib.Dec.{ltb}
use lib.ListN.{length}
use Rattle.shape.specs.Shape.{widths_of, total}
use Rattle.shape.specs.declared.Shape.{Shape}
use Rattle.cell.specs.Cell.{Agree}
use Rattle.cell.proofs.AgreeLaws.{agree-sym, agree_trans, agree-le, agree-with_bit}
use Rattle.region.specs.Strings.{sibling}
use Rattle.region.specs.Division.{Division, leaf_depth, leaf_records}
use Rattle.region.proofs.SiblingLaws.{lt-length-siblings}
use Rattle.record.specs.Record.{Record, record_bit}
use Rattle.directory_word.specs.Word.{word_of}
use Rattle.directory_word.specs.declared.Leaf.TheVariants.{Empty, Page}
use Rattle.model.specs.Sets.{division_of}
use Rattle.store.specs.Store.{Store}
use Rattle.store.specs.Sound.{Sound}
use Rattle.store.specs.declared.State.{State}
use Rattle.store.proofs.DividedLaws.{lt-leaf_depth-agree}
use Rattle.store.proofs.SetLaws.{length-leaf_records}
use Rattle.store.proofs.ShownLaws.{word_on, division_on, word_on-depth}
use Rattle.change.specs.Delete.{key_string, AtSibling}
use Rattle.change.proofs.DeleteWordLaws.{leaf-of-page-word, sibling-empty}
use Rattle.leaf_word.specs.Hold.{word_holds}
use Rattle.delete_siblings.specs.Siblings.{sibling_holds}

module _ (before : Store) (S : List Record) (sound : Sound before S) (key : List ℕ) (g m : ℕ)
    (l : g < before.state.limits.pages)
    (own : word_on before (key_string before key) ≡ word_of (Page g (suc m))) where
  abbrev s : Shape
  s = before.state.shape

  abbrev D : Division Record
  D = division_on before S

  abbrev p : ℕ → Bool
  p = key_string before key

  depth : leaf_depth p 0 D ≡ suc m
  depth = (leaf-of-page-word before S sound p g (suc m) l own).0

  -- the region of both is divided, with more than b records
  not-empty : leaf_depth (sibling p m) 0 D ≡ suc m → length (leaf_records (sibling p m) 0 D) ≡ 0 → ⊥
  unfolding division_of
  not-empty d none =
      omega (
        arith,
        none,
        lt-length-siblings (record_bit s) s.capacity (total (widths_of s)) S p m depth d,
        length-leaf_records s S sound.set sound.shape p,
      )

  pub siblings-deep : AtSibling before key m (λ w. w ≤ word_of (Empty (suc m))) → ⊥
  siblings-deep c =
      let e : word_on before q ≡ word_of (Empty (suc m)) = omega (arith, c.2, word_on-depth before S sound q, below) in
      let empty = sibling-empty before S sound key m (c.0, c.1, e) in
      not-empty empty.0 (ap length empty.1)
    where
      q : ℕ → Bool
      q = c.0

      near : Agree m p q
      near =
          agree_trans m p (sibling p m) q (agree-sym m (sibling p m) p (agree-with_bit p m (not (p m))))
          (agree-le m (suc m) (sibling p m) q (omega arith) c.1)

      below : m < leaf_depth q 0 D
      below = lt-leaf_depth-agree s S sound.shape sound.set p q m near (omega (arith, depth))

-- ---- the test of the sibling's word, by case

pub sibling_holds-damaged : (st : State) (x w : ℕ) → word_holds st w ≡ false → false ≡ sibling_holds st x w
unfolding sibling_holds
sibling_holds-damaged st x w e = rw e

pub sibling_holds-above : (st : State) (x w : ℕ) → word_holds st w ≡ true → (empty : ℕ) → empty ≡ word_of (Empty x)
    → ltb empty w ≡ sibling_holds st x w
unfolding sibling_holds
sibling_holds-above st x w h empty e = rw (h, e)
