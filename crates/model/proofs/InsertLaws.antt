-- Laws of inserts: 3, then 11, then as the record is added; and no call makes a payload of 0 stored. Assumes nothing.
use Prim.Native.Nat.{ℕ, zero, suc}
use mathlib.Core.Path.{◌≡◌, refl, ap}
use mathlib.Core.Bool.{true, false, not}
use mathlib.Core.List.{List, [], ◌∷◌, ◌++◌}
use lib.Dec.{eqb}
use borrow.Author.Tests.{eq-eqb, ne_eqb}
use Rattle.lists.proofs.FilterLaws.{all_filter}
use Rattle.shape.specs.Refusal.{refused, first_number}
use Rattle.shape.specs.Shape.{widths_of, total}
use Rattle.shape.specs.Key.{key_fits}
use Rattle.region.proofs.LeafInsertLaws.{all_insert}
use Rattle.record.specs.declared.Content.{Content}
use Rattle.record.specs.Record.{Record, record_bit}
use Rattle.model.specs.Model.{Fixed, Call, insert_call, delete_call, lookup_call, query_call, range_call, record_for}
use Rattle.model.specs.Model.{payload_conditions, add_conditions, number_for, reply_to, set_after, if_accepted}
use Rattle.model.specs.Model.{outcome, next, last_set}
use Rattle.model.specs.Add.{add_number, add_answer, add_next}
use Rattle.model.specs.Inserts.{has_payload, without_zero, SetInserts}
use Rattle.model.proofs.ConditionLaws.{first_number-zero}
use Rattle.model.proofs.AnswerLaws.{answer-insert}

-- ---- numbers

module _ (f : Fixed) (S : List Record) (values : List ℕ) (content : Content) where
  number_for-insert-out : key_fits f.shape values ≡ false → number_for f S (insert_call values content) ≡ 3
  unfolding number_for first_number
  number_for-insert-out e = rw e

  number_for-insert-zero : key_fits f.shape values ≡ true → eqb content.payload 0 ≡ true
      → number_for f S (insert_call values content) ≡ 11
  unfolding number_for first_number
  number_for-insert-zero e z = rw (e, z)

  number_for-insert-other : eqb content.payload 0 ≡ false
      → number_for f S (insert_call values content) ≡ add_number f S values content
  unfolding number_for add_number first_number
  number_for-insert-other z = rw z

-- ---- answers and sets

module _ (f : Fixed) (S : List Record) (values : List ℕ) (content : Content) where
  outcome-insert : (n : ℕ) → number_for f S (insert_call values content) ≡ suc n
      → (outcome f S (insert_call values content)).answer ≡ refused (suc n)
  outcome-insert n e = rw (answer-insert f S values content, e)

  next-insert : (n : ℕ) → number_for f S (insert_call values content) ≡ suc n → next f S (insert_call values content) ≡ S
  unfolding next
  next-insert n e = rw e

  pub outcome-insert-other : (content.payload ≡ 0 → ⊥)
      → (outcome f S (insert_call values content)).answer ≡ add_answer f S values content
  unfolding reply_to set_after
  outcome-insert-other some =
      rw (
        answer-insert f S values content,
        number_for-insert-other f S values content (ne_eqb content.payload 0 some),
      )

  pub next-insert-other : (content.payload ≡ 0 → ⊥)
      → next f S (insert_call values content) ≡ add_next f S values content
  unfolding next set_after
  next-insert-other some = rw (number_for-insert-other f S values content (ne_eqb content.payload 0 some))

-- ---- payloads that are stored

module _ (f : Fixed) (S : List Record) (without : without_zero S ≡ true) where
  -- the set after a call, refused with a number or accepted
  by_number : (n : ℕ) (S' : List Record) → (n ≡ 0 → without_zero S' ≡ true) → without_zero (if_accepted n S' S) ≡ true
  by_number zero S' h = h refl
  by_number (suc n) S' h = without

  -- an accepted insert has a payload
  has_payload-of-accepted : (values : List ℕ) (content : Content) → number_for f S (insert_call values content) ≡ 0
      → not (eqb content.payload 0) ≡ true
  unfolding number_for
  has_payload-of-accepted values content e =
      let added = add_conditions f S (record_for f.shape values content) in
      let fits = first_number-zero 2 (not (key_fits f.shape values)) (payload_conditions content ++ added) e in
      ap not (first_number-zero 10 (eqb content.payload 0) added fits.1).0

  without_zero-next : (c : Call) → without_zero (next f S c) ≡ true
  unfolding next set_after
  without_zero-next (insert_call values content) =
      by_number (number_for f S (insert_call values content)) _
      (λ e. all_insert (record_bit f.shape) (total (widths_of f.shape)) 0 has_payload
      (record_for f.shape values content) S (has_payload-of-accepted values content e) without)
  without_zero-next (delete_call values) =
      by_number (number_for f S (delete_call values)) _ (λ e. all_filter has_payload _ has_payload (λ x h k. h) S without)
  without_zero-next (lookup_call values) = by_number (number_for f S (lookup_call values)) S (λ e. without)
  without_zero-next (query_call q out) = by_number (number_for f S (query_call q out)) S (λ e. without)
  without_zero-next (range_call r out) = by_number (number_for f S (range_call r out)) S (λ e. without)

without_zero-last_set : (f : Fixed) (S : List Record) (calls : List Call) → without_zero S ≡ true
    → without_zero (last_set f S calls) ≡ true
without_zero-last_set f S [] without = without
without_zero-last_set f S (c ∷ calls) without =
    without_zero-last_set f (next f S c) calls (without_zero-next f S without c)

-- ---- what the reader is told

pub set_inserts : (f : Fixed) (S : List Record) → SetInserts f S
set_inserts f S =
    record {
      three-before-eleven = λ values content e.
          outcome-insert f S values content 2 (number_for-insert-out f S values content e);
      zero-eleven = λ values content e z.
          let number = number_for-insert-zero f S values content e (eq-eqb content.payload 0 z) in
          (outcome-insert f S values content 10 number, next-insert f S values content 10 number);
      other-added = λ values content some. (
        outcome-insert-other f S values content some,
        next-insert-other f S values content some,
      );
      stays-without-zero = without_zero-last_set f S;
    }
