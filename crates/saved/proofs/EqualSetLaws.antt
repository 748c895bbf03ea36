-- Two lists in split order are equal exactly if they have the same members. Assumes nothing.
use Prim.Native.Nat.{ℕ}
use mathlib.Core.Path.{◌≡◌, refl, sym, subst, ◌∙◌}
use mathlib.Core.Bool.{Bool, true, false≢true}
use mathlib.Core.List.{List, [], ◌∷◌}
use mathlib.Core.Logic.{inl, inr}
use Rattle.lists.specs.Filter.{all}
use Rattle.lists.specs.Members.{Member}
use Rattle.lists.proofs.Bools.{and_split}
use Rattle.shape.specs.Shape.{widths_of, total}
use Rattle.region.specs.Sets.{before, sorted}
use Rattle.region.proofs.OrderLaws.{before-asym}
use Rattle.record.specs.Record.{record_bit}
use Rattle.model.proofs.SetLaws.{sorted-of-is_set}
use Rattle.saved.specs.Saved.{EqualSets}

module _ {R : Type 0} (bit : R → ℕ → Bool) (n t : ℕ) where
  -- one of the records that a record stands before
  before-member : (r : R) (rs : List R) → all (before bit n t r) rs ≡ true → (x : R) → Member x rs
      → before bit n t r x ≡ true
  before-member r [] e x m = elim m [ ]
  before-member r (y ∷ ys) e x (inl d) =
      subst (λ z. before bit n t r z ≡ true) (sym d) (and_split (before bit n t r y) (all (before bit n t r) ys) e).0
  before-member r (y ∷ ys) e x (inr m) =
      before-member r ys (and_split (before bit n t r y) (all (before bit n t r) ys) e).1 x m

  -- no two records stand before each other, nor one before itself
  before-once : (x y : R) → before bit n t x y ≡ true → before bit n t y x ≡ true → ⊥
  before-once x y h k = false≢true (sym (before-asym bit n t x y h) ∙ k)

  module _ (r : R) (rs : List R) (h : sorted bit n t (r ∷ rs) ≡ true) where
    later : all (before bit n t r) rs ≡ true
    later = (and_split (all (before bit n t r) rs) (sorted bit n t rs) h).0

    sorted-later : sorted bit n t rs ≡ true
    sorted-later = (and_split (all (before bit n t r) rs) (sorted bit n t rs) h).1

    module _ (u : R) (us : List R) (k : sorted bit n t (u ∷ us) ≡ true) (e : r ≡ u) where
      -- behind an equal first record
      member-later : ((x : R) → Member x (r ∷ rs) → Member x (u ∷ us)) → (x : R) → Member x rs → Member x us
      member-later f x m = go (f x (inr m))
        where
          go : Member x (u ∷ us) → Member x us
          go (inl d) =
              let self = subst (λ z. before bit n t r z ≡ true) (d ∙ sym e) (before-member r rs later x m) in
              absurd (before-once r r self self)
          go (inr b) = b

  pub sorted-same : (S U : List R) → sorted bit n t S ≡ true → sorted bit n t U ≡ true
      → ((x : R) → Member x S → Member x U) → ((x : R) → Member x U → Member x S) → S ≡ U
  sorted-same [] [] h k f g = refl
  sorted-same [] (u ∷ us) h k f g = absurd (g u (inl refl))
  sorted-same (r ∷ rs) [] h k f g = absurd (f r (inl refl))
  sorted-same (r ∷ rs) (u ∷ us) h k f g =
      let e = first (f r (inl refl)) (g u (inl refl)) in
      let rest =
      sorted-same rs us (sorted-later r rs h) (sorted-later u us k) (member-later r rs h u us k e f)
      (member-later u us k r rs h (sym e) g) in
      λ i. e i ∷ rest i
    where
      first : Member r (u ∷ us) → Member u (r ∷ rs) → r ≡ u
      first (inl d) m = d
      first (inr b) (inl d) = sym d
      first (inr b) (inr m) =
          absurd
          (before-once r u (before-member r rs (later r rs h) u m) (before-member u us (later u us k) r b))

pub equal-sets : EqualSets
equal-sets s S U S-set U-set = (
  λ e r. (subst (Member r) e, subst (Member r) (sym e)),
  λ same.
      sorted-same (record_bit s) (total (widths_of s)) 0 S U (sorted-of-is_set s S S-set) (sorted-of-is_set s U U-set)
      (λ r. (same r).0) (λ r. (same r).1),
)
