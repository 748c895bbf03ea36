-- Ranges on a set are document 02's: the order of their refusals, what they list is a set, equal ends make a query, an
-- attribute with all its values is as good as free, and a region is met exactly if it can hold a key of the box.
-- Assumes nothing.
use Prim.Native.Nat.{ℕ, zero, suc, ◌<◌}
use mathlib.Core.Path.{◌≡◌, refl, ◌∙◌}
use mathlib.Core.Bool.{Bool, true, false, not}
use mathlib.Core.List.{List, [], ◌∷◌}
use mathlib.Core.Option.{Option, none, some}
use lib.ListN.{length, set}
use borrow.Author.Tests.{not-false}
use Rattle.lists.proofs.FilterLaws.{all_filter, filter-ext}
use Rattle.shape.specs.Refusal.{refusal, first_number, answered, answered_by, refused}
use Rattle.shape.specs.Shape.{shape_number, widths_of, total}
use Rattle.shape.specs.Key.{names_unused, query_fits}
use Rattle.shape.specs.Range.{Interval, range_fits, range_rises, point_range}
use Rattle.shape.specs.declared.Shape.{Shape}
use Rattle.region.proofs.OrderLaws.{sorted_filter}
use Rattle.record.specs.Record.{Record, record_bit, matches}
use Rattle.range_box.specs.Box.{box_of, in_box}
use Rattle.range_box.proofs.BoxLaws.{box_meets-key}
use Rattle.range_box.proofs.RangeLaws.{box_rises-box_of}
use Rattle.model.specs.Sets.{in_shape, is_set, reads_of, range_reads_of}
use Rattle.model.specs.Model.{Fixed, Call, query_call, range_call, query_conditions, number_for}
use Rattle.model.specs.Model.{listed, written_for, output_for, matching, inside, reply_to, output_of, output_after}
use Rattle.model.specs.Model.{output_before, if_accepted, Outcome, outcome}
use Rattle.model.specs.Ranges.{SetRanges, whole_interval}
use Rattle.model.proofs.ConditionLaws.{first_number-zero}
use Rattle.model.proofs.AnswerLaws.{answer-query, answer-range}
use Rattle.model.proofs.SetLaws.{sorted-of-is_set, in_shape-of-is_set, is_set-of-parts}
use Rattle.model.proofs.PointLaws.{names_unused-point_range, range_fits-point_range, range_rises-point_range}
use Rattle.model.proofs.PointLaws.{in_box-point_range, range_reads_of-point_range}
use Rattle.model.proofs.WholeLaws.{names_unused-whole, range_fits-whole, range_rises-whole, filter-whole}
use Rattle.model.proofs.WholeLaws.{range_reads_of-whole}

-- ---- refusals

module _ (f : Fixed) (S : List Record) (r : List (Option Interval)) (out : List ℕ) where
  unused-eight : names_unused f.shape r ≡ true → (outcome f S (range_call r out)).answer ≡ refused 8
  unfolding outcome answered_by
  unused-eight u = rw u

  three-before-ten : names_unused f.shape r ≡ false → range_fits f.shape r ≡ false
      → (outcome f S (range_call r out)).answer ≡ refused 3
  unfolding outcome answered_by
  three-before-ten u fits = rw (u, fits)

  falling-ten : names_unused f.shape r ≡ false → range_fits f.shape r ≡ true → range_rises f.shape r ≡ false
      → (outcome f S (range_call r out)).answer ≡ refused 10
  unfolding outcome answered_by
  falling-ten u fits rises = rw (u, fits, rises)

-- ---- two calls with one outcome

-- their answers carry nothing
abbrev Plain : Fixed → List Record → Call → Type 0
Plain f S c = (outcome f S c).answer ≡ answered (number_for f S c) (reply_to f S c)

-- their numbers are equal, and where they are accepted their replies and outputs are
module _ (f : Fixed) (S : List Record) (c c' : Call) where
  outcome-same : Plain f S c → Plain f S c' → number_for f S c ≡ number_for f S c' → output_before c ≡ output_before c'
      → (number_for f S c' ≡ 0 → (reply_to f S c ≡ reply_to f S c') × (output_after f S c ≡ output_after f S c'))
      → outcome f S c ≡ outcome f S c'
  unfolding outcome
  outcome-same d d' e b h = rw (d, d', e) (go (number_for f S c') h)
    where
      go : (m : ℕ)
          → (m ≡ 0 → (reply_to f S c ≡ reply_to f S c') × (output_after f S c ≡ output_after f S c'))
          → ◌≡◌ {A = Outcome}
          (record {
            answer = answered m (reply_to f S c);
            output = if_accepted m (output_after f S c) (output_before c);
          })
          (record {
            answer = answered m (reply_to f S c');
            output = if_accepted m (output_after f S c') (output_before c');
          })
      go zero h = let k = h refl in cc (k.0, k.1)
      go (suc m) h = cc b

module _ (f : Fixed) (S : List Record) (n : shape_number f.shape ≡ 0) where
  abbrev s : Shape
  s = f.shape

  -- ---- equal ends

  equal-ends : (q : List (Option ℕ)) (out : List ℕ)
      → outcome f S (range_call (point_range q) out) ≡ outcome f S (query_call q out)
  unfolding number_for reply_to output_after output_of first_number
  equal-ends q out =
      outcome-same f S (range_call (point_range q) out) (query_call q out) (answer-range f S (point_range q) out)
      (answer-query f S q out)
      (rw (names_unused-point_range s q, range_fits-point_range s q, range_rises-point_range s q)) refl accepted
    where
      lists : inside f S (point_range q) ≡ matching f S q
      lists = filter-ext _ (matches s q) (in_box-point_range s q) S

      accepted : first_number (query_conditions s q) ≡ 0
          → (listed (written_for (inside f S (point_range q)) out) (length (inside f S (point_range q)))
          (range_reads_of s (point_range q) S)
          ≡ listed (written_for (matching f S q) out) (length (matching f S q)) (reads_of s q S))
          × (output_for (inside f S (point_range q)) out s ≡ output_for (matching f S q) out s)
      accepted e =
          let late = (first_number-zero 7 (names_unused s q) (refusal 3 (not (query_fits s q)) ∷ []) e).1 in
          let fits = not-false (query_fits s q) (first_number-zero 2 (not (query_fits s q)) [] late).0 in
          (rw (lists, range_reads_of-point_range s n q fits S), rw lists)

  module _ (e : is_set s S ≡ true) where
    -- ---- an attribute with all its values

    whole-as-free : (r : List (Option Interval)) (out : List ℕ) (j : ℕ) → length r ≡ 4 → j < s.attributes
        → outcome f S (range_call (set r j (some (whole_interval s j))) out) ≡ outcome f S (range_call (set r j none) out)
    unfolding number_for reply_to output_after
    whole-as-free r out j four used =
        outcome-same f S (range_call (set r j (some (whole_interval s j))) out) (range_call (set r j none) out)
        (answer-range f S (set r j (some (whole_interval s j))) out) (answer-range f S (set r j none) out)
        (rw (
          names_unused-whole s n r four j used,
          range_fits-whole s n r four j used,
          range_rises-whole s n r four j used,
        ))
        refl
        (λ _. (
          rw (filter-whole s n r four j used S e, range_reads_of-whole s n r four j used S),
          rw (filter-whole s n r four j used S e),
        ))

    -- ---- what it lists

    in_order : (r : List (Option Interval)) → is_set s (inside f S r) ≡ true
    in_order r =
        let test : Record → Bool = λ x. in_box (box_of s r) x.key in
        is_set-of-parts s (inside f S r)
        (sorted_filter (record_bit s) (total (widths_of s)) 0 test S (sorted-of-is_set s S e))
        (all_filter (in_shape s) test (in_shape s) (λ x g m. g) S (in_shape-of-is_set s S e))

-- ---- in the request's words

pub set-ranges : (f : Fixed) (S : List Record) → shape_number f.shape ≡ 0 → is_set f.shape S ≡ true → SetRanges f S
set-ranges f S n e = record {
  unused-eight = unused-eight f S;
  three-before-ten = three-before-ten f S;
  falling-ten = falling-ten f S;
  in_order = in_order f S n e;
  equal-ends = equal-ends f S n;
  whole-as-free = whole-as-free f S n e;
  meets = λ r rises. box_meets-key f.shape (box_of f.shape r) n (box_rises-box_of f.shape r ∙ rises);
}
