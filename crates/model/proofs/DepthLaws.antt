-- Depths are document 02's: a key's depth is that of the leaf that its split bits begin with; lookup, insert and delete
-- give it, afterwards; 5 carries it, and no other number. Assumes nothing.
use Prim.Native.Nat.{ℕ}
use mathlib.Core.Path.{◌≡◌, refl, sym, ap, ◌∙◌}
use mathlib.Core.Bool.{Bool, true, false, cond, false≢true}
use mathlib.Core.List.{List, [], ◌∷◌}
use mathlib.Core.Option.{Option, none, some}
use lib.Dec.{eqb}
use borrow.Author.Tests.{eqb-true}
use Rattle.lists.specs.Filter.{all}
use Rattle.lists.proofs.Bools.{and_split}
use Rattle.shape.specs.Refusal.{Condition, Answer, accepted, refused_with, first_number, refused_by, answered_by}
use Rattle.shape.specs.Shape.{shape_number, widths_of, total}
use Rattle.shape.specs.Key.{encodings}
use Rattle.shape.proofs.ShapeLaws.{capacity-bounds}
use Rattle.split.specs.Bits.{split_bit}
use Rattle.region.specs.Leaves.{DivisionLaws}
use Rattle.region.proofs.StringLeafLaws.{leaf_depth-le}
use Rattle.record.specs.declared.Content.{Content}
use Rattle.record.specs.Record.{Record, record_bit}
use Rattle.model.specs.Sets.{is_set, stored, division_of, key_depth}
use Rattle.model.specs.Model.{Fixed, Call, insert_call, delete_call, lookup_call, query_call, range_call, Reply}
use Rattle.model.specs.Model.{changed, found, conditions_for, number_for, content_of, set_after, reply_to, outcome}
use Rattle.model.specs.Model.{depth_in, next}
use Rattle.model.specs.Depths.{SetDepths}
use Rattle.model.proofs.AnswerLaws.{answer-absent}
use Rattle.model.proofs.SetLaws.{sorted-of-is_set}
use Rattle.model.proofs.LeafLaws.{set-leaves}

-- ---- answers by conditions

-- a condition that carries a value has the number 5
abbrev five_if_carries : ℕ → Option ℕ → Bool
five_if_carries m none = true
five_if_carries m (some y) = eqb m 5

abbrev only_five : List Condition → Bool
only_five cs = all (λ c. five_if_carries c.number c.carries) cs

module _ {A : Type 0} where
  refused_by-not-accepted : (m : ℕ) (o : Option ℕ) (r : A) → refused_by m o ≡ accepted r → ⊥
  refused_by-not-accepted m none r e = let z : false ≡ true = cc in false≢true z
  refused_by-not-accepted m (some y) r e = let z : false ≡ true = cc in false≢true z

  refused_by-five : (m : ℕ) (o : Option ℕ) → five_if_carries m o ≡ true → (n x : ℕ)
      → ◌≡◌ {A = Answer A} (refused_by m o) (refused_with n x) → n ≡ 5
  refused_by-five m none h n x e = let z : false ≡ true = cc in absurd (false≢true z)
  refused_by-five m (some y) h n x e = let same : n ≡ m = cc in same ∙ eqb-true m 5 h

  module _ (reply : A) where
    -- accepted: with the call's values, and no condition holds
    answered_by-accepted : (cs : List Condition) (r : A) → answered_by cs reply ≡ accepted r
        → (r ≡ reply) × (first_number cs ≡ 0)
    unfolding answered_by first_number
    answered_by-accepted [] r e = (cc, refl)
    answered_by-accepted (c ∷ cs) r e = by-case c.holds e (answered_by-accepted cs r)
      where
        by-case : (β : Bool) → cond β (refused_by c.number c.carries) (answered_by cs reply) ≡ accepted r
            → (answered_by cs reply ≡ accepted r → (r ≡ reply) × (first_number cs ≡ 0))
            → (r ≡ reply) × (cond β c.number (first_number cs) ≡ 0)
        by-case true d h = absurd (refused_by-not-accepted c.number c.carries r d)
        by-case false d h = h d

    -- refused with a value: by 5
    answered_by-five : (cs : List Condition) → only_five cs ≡ true → (n x : ℕ) → answered_by cs reply ≡ refused_with n x
        → n ≡ 5
    unfolding answered_by
    answered_by-five [] h n x e = let z : false ≡ true = cc in absurd (false≢true z)
    answered_by-five (c ∷ cs) h n x e =
        let k = and_split (five_if_carries c.number c.carries) (only_five cs) h in
        by-case c.holds (refused_by c.number c.carries) e
        (refused_by-five c.number c.carries k.0 n x) (answered_by-five cs k.1 n x)
      where
        by-case : (β : Bool) (one : Answer A) → cond β one (answered_by cs reply) ≡ refused_with n x
            → (one ≡ refused_with n x → n ≡ 5) → (answered_by cs reply ≡ refused_with n x → n ≡ 5) → n ≡ 5
        by-case true one d here below = here d
        by-case false one d here below = below d

-- ---- calls

module _ (f : Fixed) (S : List Record) where
  -- an accepted call gives the model's values, and the set after it
  accepted-call : (c : Call) (r : Reply) → (outcome f S c).answer ≡ accepted r
      → (r ≡ reply_to f S c) × (next f S c ≡ set_after f S c)
  unfolding outcome next number_for
  accepted-call c r e = let k = answered_by-accepted (reply_to f S c) (conditions_for f S c) r e in (k.0, rw k.1)

  lookup-depth : (values : List ℕ) (r : Reply) → (outcome f S (lookup_call values)).answer ≡ accepted r
      → (content : Content) × (r ≡ found content 1 (depth_in f values S))
  unfolding reply_to
  lookup-depth values r e =
      (content_of (stored (encodings f.shape values) S), (accepted-call (lookup_call values) r e).0)

  afterwards-insert : (values : List ℕ) (content : Content) (r : Reply)
      → (outcome f S (insert_call values content)).answer ≡ accepted r
      → r ≡ changed (depth_in f values (next f S (insert_call values content)))
  unfolding reply_to
  afterwards-insert values content r e =
      let k = accepted-call (insert_call values content) r e in
      k.0 ∙ ap (λ S'. changed (depth_in f values S')) (sym k.1)

  afterwards-delete : (values : List ℕ) (r : Reply) → (outcome f S (delete_call values)).answer ≡ accepted r
      → r ≡ changed (depth_in f values (next f S (delete_call values)))
  unfolding reply_to
  afterwards-delete values r e =
      let k = accepted-call (delete_call values) r e in
      k.0 ∙ ap (λ S'. changed (depth_in f values S')) (sym k.1)

  only-five : (c : Call) (n x : ℕ) → (outcome f S c).answer ≡ refused_with n x → n ≡ 5
  unfolding outcome
  only-five (insert_call values content) = answered_by-five _ (conditions_for f S (insert_call values content)) refl
  only-five (delete_call values) = answered_by-five _ (conditions_for f S (delete_call values)) refl
  only-five (lookup_call values) = answered_by-five _ (conditions_for f S (lookup_call values)) refl
  only-five (query_call q out) = answered_by-five _ (conditions_for f S (query_call q out)) refl
  only-five (range_call r out) = answered_by-five _ (conditions_for f S (range_call r out)) refl

-- ---- in the request's words

pub set-depths : (f : Fixed) (S : List Record) → shape_number f.shape ≡ 0 → is_set f.shape S ≡ true → SetDepths f S
unfolding key_depth outcome
set-depths f S n e =
    record {
      of-leaf = λ key x.
          let p = split_bit (widths_of f.shape) key in
          let words = laws.in_words (capacity-bounds f.shape n).0 (sorted-of-is_set f.shape S e) p x in
          let leads = laws.leads p x in
          (λ h. leads.0 (words.1 h), λ d. words.0 (leads.1 d));
      within = λ key. leaf_depth-le (split_bit (widths_of f.shape) key) 0 (division_of f.shape S);
      lookup-depth = lookup-depth f S;
      afterwards-insert = afterwards-insert f S;
      afterwards-delete = afterwards-delete f S;
      lookup_absent = λ values. answer-absent f S values _;
      delete-absent = λ values. answer-absent f S values _;
      only-five = only-five f S;
    }
  where
    laws : DivisionLaws (record_bit f.shape) f.shape.capacity (total (widths_of f.shape)) S
        (division_of f.shape S)
    laws = (set-leaves f.shape S n e).laws
