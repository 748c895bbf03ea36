-- Laws of the range's promise, one for each way that the call ends. Assumes nothing.
use Prim.Native.Nat.{ℕ, ◌/◌, min}
use mathlib.Core.Path.{◌≡◌, refl, ◌∙◌}
use mathlib.Core.List.{List, map}
use mathlib.Core.Option.{Option}
use lib.ListN.{length}
use Rattle.lists.specs.Members.{All}
use Rattle.shape.specs.Refusal.{Answer, accepted, refused, told, answered_by}
use Rattle.shape.specs.Range.{Interval}
use Rattle.shape.specs.declared.refusal.Refusal.{Refusal}
use Rattle.region.specs.Query.{LeafTest}
use Rattle.record.specs.Record.{Record}
use Rattle.record.specs.Bytes.{record_size, record_of}
use Rattle.range_box.specs.Box.{box_of}
use Rattle.model.specs.Model.{Reply, listed, range_call, number_for, range_conditions, inside}
use Rattle.model.specs.Model.{reply_to, output_after, outcome}
use Rattle.model.specs.Sets.{range_reads_of}
use Rattle.model.proofs.AnswerLaws.{answer-range}
use Rattle.page_matches.specs.Output.{emit}
use Rattle.page_matches.proofs.EmitLaws.{IsField}
use Rattle.store.specs.declared.State.{State}
use Rattle.store.specs.Store.{Store, store, fixed_of, lent_conditions}
use Rattle.store.specs.Promises.{RangePromise, SoundWhere, meeting, range_refusals, range_number}
use Rattle.store.proofs.NumberLaws.{first_number-other, named-range}
use Rattle.refusals.specs.Lengths.{lent_by}
use Rattle.refusals.proofs.LentLaws.{first_number-others}
use Rattle.list_call.proofs.LentLaws.{lent_number_by-sound}
use Rattle.list_call.proofs.ListPromiseLaws.{Lists, list-by, list-early, list-nine, list-listed}
use Rattle.range_number.specs.Number.{range_by, range_number_by}
use Rattle.range_number.proofs.EarlyLaws.{range_number-by}

module _ (st : State) (words bytes : List ℕ) (r : List (Option Interval)) (out : List ℕ) where
  abbrev here : Store
  here = store st words bytes

  abbrev number : ℕ
  number = range_number_by st (length words) (length bytes) r

  -- the leaves that are read
  abbrev met : LeafTest Record
  met = meeting st.shape (box_of st.shape r)

  abbrev found : List Record → List Record
  found S = inside (fixed_of st) S r

  model-number : (S : List Record) → SoundWhere here met S
      → range_number here r ≡ number_for (fixed_of st) S (range_call r out)
  unfolding number_for range_number_by
  model-number S h =
      range_number-by st words bytes r
      ∙ first_number-others st (length words) (length bytes) (range_conditions st.shape r)
      (lent_number_by-sound st words bytes met S h)

  -- what the model says of a range is what it says of a list of the records inside
  of-list : (answer : Answer Reply) (out' : List ℕ)
      → Lists here (range_refusals here r) met (λ S. number_for (fixed_of st) S (range_call r out))
      (range_reads_of st.shape r) found out answer out'
      → RangePromise here r out answer out'
  unfolding outcome reply_to output_after
  of-list answer out' h =
      list-by here _ _ (λ S. number_for (fixed_of st) S (range_call r out)) (range_reads_of st.shape r) found out
      (λ S. outcome (fixed_of st) S (range_call r out)) (λ S. rw (answer-range (fixed_of st) S r out)) answer out' h

  -- the model has no 14
  not-fourteen : (S : List Record) → number_for (fixed_of st) S (range_call r out) ≡ 14 → ⊥
  unfolding number_for
  not-fourteen S = first_number-other 13 _ refl

  pub promise-early : (why : Refusal) → told why ≡ answered_by (range_by st (length words) (length bytes) r) (tt {0})
      → RangePromise here r out (told why) out
  unfolding range_refusals lent_conditions lent_by
  promise-early why e =
      of-list (told why) out
      (list-early here _ _ _ (range_reads_of st.shape r) found out model-number (named-range here r) not-fourteen why e)

  module _ (none : number ≡ 0) where
    none-early : range_number here r ≡ 0
    none-early = range_number-by st words bytes r ∙ none

    pub promise-nine : ((S : List Record) → SoundWhere here met S → ⊥) → RangePromise here r out (refused 9) out
    promise-nine unsound =
        of-list (refused 9) out
        (list-nine here _ _ _ (range_reads_of st.shape r) found out model-number none-early unsound)

    module _ (fs : List (List ℕ)) (whole : All IsField fs) (reads : ℕ)
        (model : (S : List Record) → SoundWhere here met S
        → (reads ≡ range_reads_of st.shape r S) × (map (record_of st.shape) fs ≡ found S)) where
      abbrev written : ℕ
      written = min (length fs) (length out / record_size)

      pub promise-listed : RangePromise here r out (accepted (listed written (length fs) reads)) (emit out 0 fs)
      promise-listed =
          of-list (accepted (listed written (length fs) reads)) (emit out 0 fs)
          (list-listed here _ _ _ (range_reads_of st.shape r) found out model-number none-early fs whole reads model)
