-- Laws of the tests before leaves are joined: the loop over the empty siblings; each test that fails, and all that
-- pass. Assumes nothing.
use Prim.Native.Nat.{ℕ, suc, ◌+◌, ◌≤◌, ◌<◌}
use mathlib.Core.Path.{◌≡◌, sym, ap, ◌∙◌, subst}
use mathlib.Core.Bool.{Bool, true, false, false≢true}
use mathlib.Core.List.{List}
use mathlib.Core.Logic.{◌⊎◌, inl, inr}
use native.Mathlib.Omega.{arith}
use native.Mathlib.Numerals.{add-one}
use Rattle.lists.proofs.Numbers.{eq-or-ne}
use Rattle.shape.specs.Shape.{widths_of}
use Rattle.split.specs.Bits.{split_bit}
use Rattle.region.specs.Strings.{sibling}
use Rattle.directory_word.specs.Word.{word_of}
use Rattle.directory_word.specs.declared.Leaf.TheVariants.{Empty, Page}
use Rattle.store.specs.declared.State.{State}
use Rattle.delete_plan.specs.declared.Stored.{Stored}
use Rattle.delete_plan.specs.declared.Join.{Join}
use Rattle.directory_tests.specs.Intact.{RegionTold, FoldTold}
use Rattle.change_kept.specs.Tested.{joined_depth, SiblingTested}
use Rattle.change_kept.proofs.SoundLaws.{region-passes}
use Rattle.change_guard.specs.Guard.{EmptiesTold, JoinPasses, JoinTold}

module _ (st : State) (words encoded : List ℕ) where
  abbrev ws : List ℕ
  ws = widths_of st.shape

  abbrev key : ℕ → Bool
  key = split_bit ws encoded

  -- ---- the empty siblings

  -- those of depths y + 1 to z
  abbrev pub EmptyTo : ℕ → ℕ → Type 0
  EmptyTo y z = (i : ℕ) → y ≤ i → i < z → SiblingTested st words encoded i (word_of (Empty (suc i)))

  module _ (m y z : ℕ) (from : y ≤ z) (l : z < m) (word : ℕ) (named : word ≡ word_of (Empty (z + 1))) (held : Bool)
      (told : RegionTold ws st.deepest (suc z) (sibling key z) word words held) where
    by : RegionTold ws st.deepest (suc z) (sibling key z) (word_of (Empty (suc z))) words held
    by = subst (λ w. RegionTold ws st.deepest (suc z) (sibling key z) w words held)
        (named ∙ ap (λ n. word_of (Empty n)) (add-one z)) told

    pub empty_to-suc : EmptyTo y z → held ≡ true → EmptyTo y (z + 1)
    empty_to-suc inv e i a b = at (eq-or-ne i z)
      where
        at : (i ≡ z) ⊎ (i ≡ z → ⊥) → SiblingTested st words encoded i (word_of (Empty (suc i)))
        at (inl d) =
            subst (λ n. SiblingTested st words encoded n (word_of (Empty (suc n)))) (sym d) (by.yes e)
        at (inr n) = inv i a (omega arith)

    pub empties_told-no : held ≡ false → EmptiesTold st words encoded m y false
    empties_told-no e = record {
      yes = λ f. absurd (false≢true f);
      no = λ f all. false≢true (sym e ∙ region-passes ws st.deepest (suc z) (sibling key z) _ words held
          (all z from l) by);
    }

  -- ---- the tests of a join

  module _ (r : Stored) (j : Join) where
    join_told-fails : (JoinPasses st words encoded r j → ⊥) → JoinTold st words encoded r j false
    join_told-fails n = record { yes = λ e. absurd (false≢true e); no = λ e. n }

    module _ (depth : r.depth ≡ suc j.step) (own : ℕ) (own_is : own ≡ word_of (Page r.page r.depth))
        (β : Bool) (own-told : RegionTold ws st.deepest r.depth key own words β) where
      own-by : RegionTold ws st.deepest (suc j.step) key (word_of (Page r.page (suc j.step))) words β
      own-by =
          subst (λ x. RegionTold ws st.deepest x key (word_of (Page r.page x)) words β) depth
          (subst (λ w. RegionTold ws st.deepest r.depth key w words β) own_is own-told)

      pub join_told-own : β ≡ false → JoinTold st words encoded r j false
      join_told-own e =
          join_told-fails (λ p. false≢true (sym e ∙ region-passes ws st.deepest _ key _ words β p.own own-by))

      module _ (yes-own : β ≡ true) (other : ℕ) (other-is : other ≡ word_of (Page j.other r.depth)) (γ : Bool)
          (other-told : RegionTold ws st.deepest (suc j.step) (sibling key j.step) other words γ) where
        other-by : RegionTold ws st.deepest (suc j.step) (sibling key j.step)
            (word_of (Page j.other (suc j.step))) words γ
        other-by =
            subst (λ w. RegionTold ws st.deepest (suc j.step) (sibling key j.step) w words γ)
            (other-is ∙ ap (λ x. word_of (Page j.other x)) depth) other-told

        pub join_told-other : γ ≡ false → JoinTold st words encoded r j false
        join_told-other e =
            join_told-fails
            (λ p. false≢true (sym e ∙ region-passes ws st.deepest _ (sibling key j.step) _ words γ p.other
            other-by))

        module _ (yes-other : γ ≡ true) (δ : Bool)
            (empties : EmptiesTold st words encoded j.step j.top δ) where
          pub join_told-empties : δ ≡ false → JoinTold st words encoded r j false
          join_told-empties e = join_told-fails (λ p. empties.no e p.empty)

          pub join_told-folds : δ ≡ true → (T' : ℕ) → T' ≡ joined_depth st j → (ε : Bool)
              → FoldTold ws T' st.deepest key words ε → JoinTold st words encoded r j ε
          join_told-folds e T' d ε folds =
              let by = subst (λ n. FoldTold ws n st.deepest key words ε) d folds in
              record {
                yes = λ f.
                    record {
                      own = own-by.yes yes-own;
                      other = other-by.yes yes-other;
                      empty = empties.yes e;
                      halved = by.yes f;
                    };
                no = λ f p.
                    let n = by.no f in n.3.2 (p.folds n.0 n.1 n.2 n.3.0 n.3.1);
              }
