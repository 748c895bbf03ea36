-- A call on a marked shape and the call with encodings on the unmarked one: the same conditions, reply, set and list;
-- and lists of calls. Assumes nothing.
use Prim.Native.Nat.{ℕ, ◌^◌, ◌<◌}
use mathlib.Core.Path.{◌≡◌, refl, sym, ap, ◌∙◌}
use mathlib.Core.Bool.{not, ◌&&◌, ◌||◌}
use mathlib.Core.List.{List, [], ◌∷◌, ◌++◌, map}
use mathlib.Core.Option.{Option, none, some}
use lib.Dec.{ltb, leb, eqb}
use lib.ListN.{get_or, length, take}
use Rattle.lists.specs.Filter.{filter, non_empty}
use Rattle.shape.specs.Refusal.{Condition, refusal, refusal_with, first_number, answered_by}
use Rattle.shape.specs.Shape.{width_of, widths_of}
use Rattle.shape.specs.Key.{encode, value_fits, key_fits, encodings, encode_wanted, encoded_wanted, is_given, if_given}
use Rattle.shape.specs.Key.{names_unused, query_fits}
use Rattle.shape.specs.Range.{Interval, ends_fit, range_fits, ends_rise, range_rises}
use Rattle.shape.specs.declared.Shape.{Shape}
use Rattle.shape.proofs.AttributeLaws.{get_d-per_attribute}
use Rattle.shape.proofs.BoundsLaws.{all_below-ext}
use Rattle.shape.proofs.EncodingLaws.{value_fits-encode}
use Rattle.shape.proofs.UnmarkedLaws.{encode-none, encodings-none, encode_wanted-none}
use Rattle.split.specs.Steps.{step}
use Rattle.split.proofs.StepLaws.{step-attribute-lt}
use Rattle.region.specs.Division.{depth, string_bit, leaves}
use Rattle.region.specs.Query.{reads}
use Rattle.record.specs.Record.{Record, matches}
use Rattle.range_box.specs.Box.{encode_ends, box_of, in_box, box_meets}
use Rattle.range_box.proofs.RangeLaws.{get_d-box_of}
use Rattle.model.specs.Sets.{stored, with_record, without_key, division_of, key_depth, query_bit_of, query_bits, reads_of}
use Rattle.model.specs.Sets.{range_reads_of}
use Rattle.model.specs.Model.{Fixed, Call, insert_call, delete_call, lookup_call, query_call, range_call}
use Rattle.model.specs.Model.{payload_conditions, add_conditions, conditions_for, number_for, reply_to}
use Rattle.model.specs.Model.{changed, found, listed, content_of, written_for, set_after, if_accepted, outcome, next, run}
use Rattle.model.specs.Model.{last_set}
use Rattle.twin.specs.Twin.{unmarked, unmarked_fixed, encoded_call, records_listed, CallTwin, answers_of, RunTwin}

-- ---- values

module _ (s : Shape) where
  encodings-twin : (values : List ℕ) → encodings (unmarked s) (encodings s values) ≡ encodings s values
  unfolding encodings
  encodings-twin values = encodings-none (unmarked s) refl (encodings s values) refl

  -- a value fits exactly if its encoding does
  value_fits-twin : (j v : ℕ) → value_fits (unmarked s) j (encode s j v) ≡ value_fits s j v
  value_fits-twin j v =
      value_fits-encode (unmarked s) j (encode s j v)
      ∙ ap (λ e. ltb e (2 ^ width_of s j)) (encode-none (unmarked s) refl j (encode s j v))
      ∙ sym (value_fits-encode s j v)

  key_fits-twin : (values : List ℕ) → key_fits (unmarked s) (encodings s values) ≡ key_fits s values
  unfolding key_fits encodings
  key_fits-twin values =
      all_below-ext 4 (λ j. value_fits (unmarked s) j (get_or (encodings s values) j 0))
      (λ j. value_fits s j (get_or values j 0))
      (λ j l.
      ap (value_fits (unmarked s) j) (get_d-per_attribute (λ i. encode s i (get_or values i 0)) 0 j l)
      ∙ value_fits-twin j (get_or values j 0))

-- ---- queries

module _ (s : Shape) (q : List (Option ℕ)) where
  get_d-encoded_wanted : (j : ℕ) → j < 4 → get_or (encoded_wanted s q) j none ≡ encode_wanted s j (get_or q j none)
  unfolding encoded_wanted
  get_d-encoded_wanted j l = get_d-per_attribute (λ i. encode_wanted s i (get_or q i none)) none j l

  unused-query : names_unused (unmarked s) (encoded_wanted s q) ≡ names_unused s q
  unfolding names_unused
  unused-query =
      ap not
      (all_below-ext 4 (λ j. ltb j s.attributes || not (is_given (get_or (encoded_wanted s q) j none)))
      (λ j. ltb j s.attributes || not (is_given (get_or q j none)))
      (λ j l. ap (λ b. ltb j s.attributes || not b) (ap is_given (get_d-encoded_wanted j l) ∙ at j (get_or q j none))))
    where
      at : (j : ℕ) (o : Option ℕ) → is_given (encode_wanted s j o) ≡ is_given o
      at j none = refl
      at j (some v) = refl

  query_fits-twin : query_fits (unmarked s) (encoded_wanted s q) ≡ query_fits s q
  unfolding query_fits
  query_fits-twin =
      all_below-ext 4 (λ j. if_given (value_fits (unmarked s) j) (get_or (encoded_wanted s q) j none))
      (λ j. if_given (value_fits s j) (get_or q j none))
      (λ j l. ap (if_given (value_fits (unmarked s) j)) (get_d-encoded_wanted j l) ∙ at j (get_or q j none))
    where
      at : (j : ℕ) (o : Option ℕ) → if_given (value_fits (unmarked s) j) (encode_wanted s j o) ≡ if_given (value_fits s j) o
      at j none = refl
      at j (some v) = value_fits-twin s j v

  matches-twin : (r : Record) → matches (unmarked s) (encoded_wanted s q) r ≡ matches s q r
  unfolding matches
  matches-twin r =
      all_below-ext 4 (λ j. if_given (λ v. eqb (encode (unmarked s) j v) (get_or r.key j 0)) (get_or (encoded_wanted s q) j none))
      (λ j. if_given (λ v. eqb (encode s j v) (get_or r.key j 0)) (get_or q j none))
      (λ j l.
      ap (if_given (λ v. eqb (encode (unmarked s) j v) (get_or r.key j 0))) (get_d-encoded_wanted j l)
      ∙ at j (get_or q j none))
    where
      at : (j : ℕ) (o : Option ℕ)
          → if_given (λ v. eqb (encode (unmarked s) j v) (get_or r.key j 0)) (encode_wanted s j o)
          ≡ if_given (λ v. eqb (encode s j v) (get_or r.key j 0)) o
      at j none = refl
      at j (some v) = ap (λ e. eqb e (get_or r.key j 0)) (encode-none (unmarked s) refl j (encode s j v))

  matching-twin : (S : List Record)
      → filter (matches (unmarked s) (encoded_wanted s q)) S ≡ filter (matches s q) S
  matching-twin S = λ i. filter (λ r. matches-twin r i) S

  query_bits-twin : (t : ℕ) → query_bits (unmarked s) (encoded_wanted s q) t ≡ query_bits s q t
  unfolding query_bits widths_of
  query_bits-twin t =
      let j = (step (widths_of s) t).attribute in
      ap (query_bit_of (get_or (widths_of s) j 0) (step (widths_of s) t).bit)
      (encode_wanted-none (unmarked s) refl j (get_or (encoded_wanted s q) j none)
      ∙ get_d-encoded_wanted j (step-attribute-lt (widths_of s) t))

  reads_of-twin : (S : List Record) → reads_of (unmarked s) (encoded_wanted s q) S ≡ reads_of s q S
  unfolding reads_of division_of widths_of
  reads_of-twin S = λ i. reads (λ t. query_bits-twin t i) (division_of s S)

-- ---- ranges

module _ (s : Shape) (r : List (Option Interval)) where
  box_of-twin : box_of (unmarked s) (box_of s r) ≡ box_of s r
  unfolding box_of
  box_of-twin = λ i. at 0 (get_or r 0 none) i ∷ at 1 (get_or r 1 none) i ∷ at 2 (get_or r 2 none) i ∷ at 3 (get_or r 3 none) i ∷ []
    where
      at : (j : ℕ) (o : Option Interval) → encode_ends (unmarked s) j (encode_ends s j o) ≡ encode_ends s j o
      at j none = refl
      at j (some v) =
          λ i.
          some
          (record {
            low = encode-none (unmarked s) refl j (encode s j v.low) i;
            high = encode-none (unmarked s) refl j (encode s j v.high) i;
          })

  unused-range : names_unused (unmarked s) (box_of s r) ≡ names_unused s r
  unfolding names_unused
  unused-range =
      ap not
      (all_below-ext 4 (λ j. ltb j s.attributes || not (is_given (get_or (box_of s r) j none)))
      (λ j. ltb j s.attributes || not (is_given (get_or r j none)))
      (λ j l. ap (λ b. ltb j s.attributes || not b) (ap is_given (get_d-box_of s r j l) ∙ at j (get_or r j none))))
    where
      at : (j : ℕ) (o : Option Interval) → is_given (encode_ends s j o) ≡ is_given o
      at j none = refl
      at j (some v) = refl

  range_fits-twin : range_fits (unmarked s) (box_of s r) ≡ range_fits s r
  unfolding range_fits
  range_fits-twin =
      all_below-ext 4 (λ j. if_given (ends_fit (unmarked s) j) (get_or (box_of s r) j none))
      (λ j. if_given (ends_fit s j) (get_or r j none))
      (λ j l. ap (if_given (ends_fit (unmarked s) j)) (get_d-box_of s r j l) ∙ at j (get_or r j none))
    where
      at : (j : ℕ) (o : Option Interval) → if_given (ends_fit (unmarked s) j) (encode_ends s j o) ≡ if_given (ends_fit s j) o
      at j none = refl
      at j (some v) = λ i. value_fits-twin s j v.low i && value_fits-twin s j v.high i

  range_rises-twin : range_rises (unmarked s) (box_of s r) ≡ range_rises s r
  unfolding range_rises
  range_rises-twin =
      all_below-ext 4 (λ j. if_given (ends_rise (unmarked s) j) (get_or (box_of s r) j none))
      (λ j. if_given (ends_rise s j) (get_or r j none))
      (λ j l. ap (if_given (ends_rise (unmarked s) j)) (get_d-box_of s r j l) ∙ at j (get_or r j none))
    where
      at : (j : ℕ) (o : Option Interval)
          → if_given (ends_rise (unmarked s) j) (encode_ends s j o) ≡ if_given (ends_rise s j) o
      at j none = refl
      at j (some v) =
          λ i.
          leb (encode-none (unmarked s) refl j (encode s j v.low) i)
          (encode-none (unmarked s) refl j (encode s j v.high) i)

  inside-twin : (S : List Record)
      → filter (λ x. in_box (box_of (unmarked s) (box_of s r)) x.key) S ≡ filter (λ x. in_box (box_of s r) x.key) S
  inside-twin S = ap (λ box. filter (λ x. in_box box x.key) S) box_of-twin

  range_reads_of-twin : (S : List Record) → range_reads_of (unmarked s) (box_of s r) S ≡ range_reads_of s r S
  unfolding range_reads_of division_of widths_of box_meets
  range_reads_of-twin S =
      ap
      (λ box.
      length
      (filter (λ l. non_empty l.records)
      (filter (λ l. box_meets s box (string_bit l) (depth l)) (leaves (division_of s S))))) box_of-twin

-- ---- one call

module _ (f : Fixed) (S : List Record) where
  abbrev s : Shape
  s = f.shape

  -- 5, for a key by its encodings
  abbrev absent : List ℕ → Condition
  absent key = refusal_with 5 (not (non_empty (stored key S))) (key_depth s key S)

  conditions-twin : (c : Call) → conditions_for (unmarked_fixed f) S (encoded_call s c) ≡ conditions_for f S c
  unfolding key_depth division_of widths_of
  conditions-twin (insert_call values content) =
      λ i.
      refusal 3 (not (key_fits-twin s values i))
      ∷ payload_conditions content
      ++ add_conditions f S (record { key = encodings-twin s values i; content = content })
  conditions-twin (delete_call values) =
      λ i. refusal 3 (not (key_fits-twin s values i)) ∷ absent (encodings-twin s values i) ∷ []
  conditions-twin (lookup_call values) =
      λ i. refusal 3 (not (key_fits-twin s values i)) ∷ absent (encodings-twin s values i) ∷ []
  conditions-twin (query_call q out) =
      λ i. refusal 8 (unused-query s q i) ∷ refusal 3 (not (query_fits-twin s q i)) ∷ []
  conditions-twin (range_call r out) =
      λ i.
      refusal 8 (unused-range s r i) ∷ refusal 3 (not (range_fits-twin s r i))
      ∷ refusal 10 (not (range_rises-twin s r i)) ∷ []

  set-twin : (c : Call) → set_after (unmarked_fixed f) S (encoded_call s c) ≡ set_after f S c
  unfolding set_after widths_of
  set-twin (insert_call values content) =
      λ i. with_record s (record { key = encodings-twin s values i; content = content }) S
  set-twin (delete_call values) = λ i. without_key (encodings-twin s values i) S
  set-twin (lookup_call values) = refl
  set-twin (query_call q out) = refl
  set-twin (range_call r out) = refl

  reply-twin : (c : Call) → reply_to (unmarked_fixed f) S (encoded_call s c) ≡ reply_to f S c
  unfolding reply_to key_depth division_of widths_of
  reply-twin (insert_call values content) =
      λ i. changed (key_depth s (encodings-twin s values i) (set-twin (insert_call values content) i))
  reply-twin (delete_call values) =
      λ i. changed (key_depth s (encodings-twin s values i) (set-twin (delete_call values) i))
  reply-twin (lookup_call values) =
      λ i.
      found (content_of (stored (encodings-twin s values i) S)) 1 (key_depth s (encodings-twin s values i) S)
  reply-twin (query_call q out) =
      λ i.
      listed (written_for (matching-twin s q S i) out) (length (matching-twin s q S i)) (reads_of-twin s q S i)
  reply-twin (range_call r out) =
      λ i.
      listed (written_for (inside-twin s r S i) out) (length (inside-twin s r S i)) (range_reads_of-twin s r S i)

  list-twin : (c : Call) → records_listed f S c ≡ records_listed (unmarked_fixed f) S (encoded_call s c)
  list-twin (insert_call values content) = refl
  list-twin (delete_call values) = refl
  list-twin (lookup_call values) = refl
  list-twin (query_call q out) = ap (λ rs. take (written_for rs out) rs) (sym (matching-twin s q S))
  list-twin (range_call r out) = ap (λ rs. take (written_for rs out) rs) (sym (inside-twin s r S))

  pub call-twin : (c : Call) → CallTwin f S c
  unfolding outcome next number_for
  call-twin c =
      record {
        same_answer = λ i. answered_by (sym (conditions-twin c) i) (sym (reply-twin c) i);
        same_set = λ i. if_accepted (first_number (sym (conditions-twin c) i)) (sym (set-twin c) i) S;
        same-list = list-twin c;
      }

-- ---- a list of calls

pub run-twin : (f : Fixed) (S : List Record) (calls : List Call) → RunTwin f S calls
unfolding run
run-twin f S [] = record { same-answers = refl; same_set = refl }
run-twin f S (c ∷ cs) =
    let one = call-twin f S c in
    let more = run-twin f (next f S c) cs in
    let later = map (encoded_call f.shape) cs in
    record {
      same-answers =
          (λ i. one.same_answer i ∷ more.same-answers i)
          ∙ ap
          (λ T. (outcome (unmarked_fixed f) S (encoded_call f.shape c)).answer
          ∷ answers_of (run (unmarked_fixed f) T later)) one.same_set;
      same_set = more.same_set ∙ ap (λ T. last_set (unmarked_fixed f) T later) one.same_set;
    }
