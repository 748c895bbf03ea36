-- Laws of the query's promise, one for each way that the call ends. Assumes nothing.
use Prim.Native.Nat.{ℕ, ◌-◌, ◌/◌, ◌^◌, ◌≤◌, min}
use mathlib.Core.Path.{◌≡◌, refl, sym, ap, ◌∙◌, subst}
use mathlib.Core.List.{List, map}
use mathlib.Core.Option.{Option}
use lib.ListN.{length}
use Rattle.lists.specs.Members.{All}
use Rattle.shape.specs.Refusal.{Answer, accepted, refused, refused_with, refusal_number, refusal_value, told, answered_by}
use Rattle.shape.specs.Shape.{shape_number}
use Rattle.shape.specs.declared.refusal.Refusal.{Refusal}
use Rattle.shape.proofs.RefusalLaws.{refused_by-refuses}
use Rattle.shape.proofs.ShapeLaws.{shape_number-true}
use Rattle.record.specs.Record.{Record}
use Rattle.record.specs.Bytes.{record_size, record_of}
use Rattle.model.specs.Model.{Reply, changed, found, listed, query_call, number_for}
use Rattle.model.specs.Model.{matching, reply_to, output_of, output_after, outcome}
use Rattle.model.specs.Sets.{query_bits, reads_of, given_depths, reads_bound}
use Rattle.model.proofs.AnswerLaws.{answer-query}
use Rattle.model.proofs.ReadsLaws.{reads_of-le}
use Rattle.page_matches.specs.Output.{emit}
use Rattle.page_matches.proofs.EmitLaws.{IsField}
use Rattle.store.specs.declared.State.{State}
use Rattle.store.specs.Store.{Store, store, fixed_of, lent_conditions}
use Rattle.store.specs.Promises.{QueryPromise, agreeing, SoundWhereRead, query_refusals, query_number}
use Rattle.store.proofs.NumberLaws.{first_number-other, named-query}
use Rattle.refusals.specs.Lengths.{lent_by}
use Rattle.list_call.proofs.LentLaws.{lent_number_by-sound}
use Rattle.list_call.proofs.ListPromiseLaws.{Lists, list-by, list-early, list-nine, list-listed}
use Rattle.query_number.specs.Number.{query_by, query_number_by}
use Rattle.query_number.proofs.EarlyLaws.{query_number_by-query, query_number-by}

-- ---- answers

abbrev reads_in : Answer Reply → ℕ
reads_in (accepted (changed x)) = 0
reads_in (accepted (found c n x)) = n
reads_in (accepted (listed w t r)) = r
reads_in (refused n) = 0
reads_in (refused_with n x) = 0

module _ (st : State) (words bytes : List ℕ) (q : List (Option ℕ)) (out : List ℕ) where
  abbrev here : Store
  here = store st words bytes

  abbrev number : ℕ
  number = query_number_by st (length words) (length bytes) q

  -- ---- a store that is sound where the query reads it

  module _ (S : List Record) (h : SoundWhereRead here (query_bits st.shape q) S) where
    shape-sound : shape_number st.shape ≡ 0
    shape-sound = shape_number-true st.shape h.1.shape

    model-number : query_number here q ≡ number_for (fixed_of st) S (query_call q out)
    unfolding number_for
    model-number =
        query_number-by st words bytes q ∙ query_number_by-query st (length words) (length bytes) q
        (lent_number_by-sound st words bytes (agreeing (query_bits st.shape q)) S h)

  abbrev matched : List Record → List Record
  matched S = matching (fixed_of st) S q

  -- what the model says of a query is what it says of a list of the matching records
  of-list : (answer : Answer Reply) (out' : List ℕ)
      → Lists here (query_refusals here q) (agreeing (query_bits st.shape q))
      (λ S. number_for (fixed_of st) S (query_call q out)) (reads_of st.shape q) matched out answer out'
      → ((S : List Record) → SoundWhereRead here (query_bits st.shape q) S → (written total reads : ℕ)
      → answer ≡ accepted (listed written total reads)
      → reads ≤ 2 ^ (st.deepest - given_depths st.shape q st.deepest))
      → QueryPromise here q out answer out'
  unfolding outcome reply_to output_after output_of
  of-list answer out' h bound = record {
    listed-as =
        list-by here _ _ (λ S. number_for (fixed_of st) S (query_call q out)) (reads_of st.shape q) matched out
        (λ S. outcome (fixed_of st) S (query_call q out)) (λ S. rw (answer-query (fixed_of st) S q out)) answer out' h;
    bounded = bound;
  }

  -- ---- refused early

  -- the model has no 14
  not-fourteen : (S : List Record) → number_for (fixed_of st) S (query_call q out) ≡ 14 → ⊥
  unfolding number_for
  not-fourteen S = first_number-other 13 _ refl

  pub promise-early : (r : Refusal) → told r ≡ answered_by (query_by st (length words) (length bytes) q) (tt {0})
      → QueryPromise here q out (told r) out
  unfolding query_refusals lent_conditions lent_by
  promise-early r e =
      of-list (told r) out
      (list-early here _ _ _ (reads_of st.shape q) matched out model-number (named-query here q) not-fourteen r e)
      (λ S h w t n d. refused_by-refuses (listed w t n) (refusal_number r) (refusal_value r) (sym d))

  module _ (none : 0 ≡ number) where
    none-early : query_number here q ≡ 0
    none-early = query_number-by st words bytes q ∙ sym none

    -- ---- refused with 9

    pub promise-nine : ((S : List Record) → SoundWhereRead here (query_bits st.shape q) S → ⊥)
        → QueryPromise here q out (refused 9) out
    promise-nine unsound =
        of-list (refused 9) out
        (list-nine here _ _ _ (reads_of st.shape q) matched out model-number none-early unsound)
        (λ S h w t r d. absurd (unsound S h))

    -- ---- accepted

    module _ (fs : List (List ℕ)) (whole : All IsField fs) (reads : ℕ)
        (model : (S : List Record) → SoundWhereRead here (query_bits st.shape q) S
        → (reads ≡ reads_of st.shape q S) × (map (record_of st.shape) fs ≡ matched S)) where
      abbrev written : ℕ
      written = min (length fs) (length out / record_size)

      reads-bounded : (S : List Record) → SoundWhereRead here (query_bits st.shape q) S
          → reads ≤ 2 ^ (st.deepest - given_depths st.shape q st.deepest)
      unfolding reads_bound
      reads-bounded S h =
          subst (λ T. reads ≤ 2 ^ (T - given_depths st.shape q T)) (sym h.1.deepest)
          (subst (λ n. n ≤ reads_bound st.shape q S) (sym (model S h).0)
          (reads_of-le st.shape (shape-sound S h) q S))

      pub promise-listed : QueryPromise here q out (accepted (listed written (length fs) reads)) (emit out 0 fs)
      promise-listed =
          of-list (accepted (listed written (length fs) reads)) (emit out 0 fs)
          (list-listed here _ _ _ (reads_of st.shape q) matched out model-number none-early fs whole reads model)
          (λ S h w t r d.
          subst (λ n. n ≤ 2 ^ (st.deepest - given_depths st.shape q st.deepest)) (ap reads_in d)
          (reads-bounded S h))
