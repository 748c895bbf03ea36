-- Laws of the tests before the steps of a delete, one for each plan; a sound store passes those of a join. Assumes
-- nothing.
use Prim.Native.Nat.{ℕ, suc, ◌-◌, ◌^◌, ◌<◌}
use mathlib.Core.Path.{◌≡◌, sym, subst}
use mathlib.Core.Bool.{Bool, true, false≢true}
use mathlib.Core.List.{List, [], ◌∷◌}
use native.Mathlib.Omega.{arith}
use Rattle.shape.specs.Shape.{widths_of}
use Rattle.split.specs.Bits.{split_bit}
use Rattle.record.specs.Record.{Record}
use Rattle.directory_word.specs.Word.{word_of}
use Rattle.directory_word.specs.declared.Leaf.TheVariants.{Empty, Page}
use Rattle.directory_word.proofs.WordLaws.{word_of-depth, word_of-depth-empty}
use Rattle.model.specs.Sets.{stored}
use Rattle.store.specs.Store.{store}
use Rattle.store.specs.Sound.{Sound}
use Rattle.store.specs.declared.State.{State}
use Rattle.change.specs.Delete.{JoinFound}
use Rattle.delete_plan.specs.declared.Stored.{Stored}
use Rattle.delete_plan.specs.declared.Join.{Join}
use Rattle.delete_plan.specs.declared.Plan.TheVariants as plan
use Rattle.directory_tests.specs.Intact.{RegionTold}
use Rattle.change_kept.proofs.SoundLaws.{sound-leaf, sound-sibling, sound-folds}
use Rattle.change_guard.specs.Guard.{DeleteTold, JoinPasses, JoinTold}
use Rattle.change_guard.proofs.LeafLaws.{leaf-told}

-- a sound store passes the tests of a join
pub sound-passes : (st : State) (words bytes : List ℕ) (S : List Record) → Sound (store st words bytes) S
    → (q : Record) → stored q.key S ≡ q ∷ [] → (r : Stored) (j : Join)
    → JoinFound (store st words bytes) q.key r.page j.other j.step j.top
    → JoinPasses st words q.key r j
sound-passes st words bytes S sound q held r j f =
    let own-few : r.page < 2 ^ 16 - 1 = omega (arith, f.own-within, sound.most-pages) in
    let other-few : j.other < 2 ^ 16 - 1 = omega (arith, f.other-within, sound.most-pages) in
    let before = store st words bytes in
    let x = suc j.step in
    record {
      own =
          sound-leaf before S sound q.key x (word_of (Page r.page x)) f.own
          (word_of-depth r.page x own-few);
      other =
          sound-sibling before S sound q.key j.step (word_of (Page j.other x))
          (word_of-depth j.other x other-few) f.other;
      empty = λ z a b.
          sound-sibling before S sound q.key z (word_of (Empty (suc z))) (word_of-depth-empty (suc z))
          (f.empty z a b);
      folds = λ n a b p o. sound-folds before S sound q held r.page j.other j.step j.top f n a b p o;
    }

module _ (st : State) (words encoded : List ℕ) where
  module _ (r : Stored) where
    pub delete_told-many : (r.count ≡ 1 → ⊥) → DeleteTold st words encoded (plan.Keep r) true
    delete_told-many n = record { yes = λ e one. absurd (n one); no = λ e. absurd (false≢true (sym e)) }

    pub delete_told-one : (word : ℕ) (held : Bool) → word ≡ word_of (Page r.page r.depth)
        → RegionTold (widths_of st.shape) st.deepest r.depth (split_bit (widths_of st.shape) encoded) word
        words held
        → DeleteTold st words encoded (plan.Keep r) held
    delete_told-one word held named told =
        let x = r.depth in
        let by = subst
        (λ w. RegionTold (widths_of st.shape) st.deepest x (split_bit (widths_of st.shape) encoded) w words held)
        named told in
        record {
          yes = λ e one. by.yes e;
          no = λ e bytes planned S sound stored-key.
              let leaf = planned.found.leaf in
              let few : r.page < 2 ^ 16 - 1 = omega (arith, leaf.own-within, sound.most-pages) in
              leaf-told st words encoded x (word_of (Page r.page x)) held by e bytes leaf.own
              (word_of-depth r.page x few) S sound;
        }

    pub delete_told-join : (j : Join) (held : Bool) → JoinTold st words encoded r j held
        → DeleteTold st words encoded (plan.Join r j) held
    delete_told-join j held told =
        record {
          yes = told.yes;
          no = λ e bytes planned S sound stored-key.
              let k = stored-key r planned.found in
              let f = subst (λ v. JoinFound (store st words bytes) v r.page j.other j.step j.top)
              (sym k.key) planned.met in
              let p = sound-passes st words bytes S sound k.content k.held r j f in
              told.no e (subst (λ v. JoinPasses st words v r j) k.key p);
        }
