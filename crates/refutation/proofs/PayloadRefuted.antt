-- Wrong programs of document 02, request 2: inserts with payload 0 contradict `InsertPromise`, on any store; calls on a
-- sound store that holds a payload of 0 contradict their promises; runs contradict demand 3. Assumes nothing.
use Prim.Native.Nat.{ℕ, suc, ◌/◌, min}
use mathlib.Core.Path.{◌≡◌, refl, sym, ap, ◌∙◌}
use mathlib.Core.Bool.{Bool, true, false, false≢true}
use mathlib.Core.List.{List, [], ◌∷◌, ◌++◌}
use mathlib.Core.Logic.{⊎_elim}
use native.Mathlib.Omega.{arith}
use lib.ListN.{length, get_or}
use Rattle.shape.specs.Amiss.{refused_for}
use Rattle.shape.specs.Refusal.{Answer, accepted, refused, is_refused, first_number, answered_by}
use Rattle.shape.specs.Shape.{shape_conditions, widths_of}
use Rattle.shape.specs.Key.{marked, value_fits, encode, key_fits, encodings, names_unused, query_fits}
use Rattle.shape.specs.Range.{range_fits, range_rises}
use Rattle.shape.specs.declared.Shape.{Shape}
use Rattle.split.specs.Steps.{steps_below, steps, step, step_number, steps_of, attribute_depth}
use Rattle.split.specs.Bits.{split_bit}
use Rattle.record.specs.declared.Content.{Content}
use Rattle.record.specs.Record.{Record, matches}
use Rattle.record.specs.Bytes.{record_size, record_bytes}
use Rattle.range_box.specs.Box.{box_of, in_box, number, box_meets}
use Rattle.model.specs.Limits.{fresh_shape, fixed_by}
use Rattle.model.specs.Model.{Fixed, Call, insert_call, delete_call, lookup_call, query_call, range_call, Reply, changed}
use Rattle.model.specs.Model.{found, listed, Outcome, set_after, reply_to, outcome, next, run, last_set}
use Rattle.model.specs.Add.{add_number}
use Rattle.model.specs.Sets.{division_of, key_depth, query_bits, reads_of, range_reads_of}
use Rattle.model.proofs.InsertLaws.{set_inserts}
use Rattle.store.specs.Store.{Store, Memory, lent_conditions}
use Rattle.store.specs.Fresh.{FreshPromise}
use Rattle.store.specs.Promises.{key_refusals, key_number, AddPromise, InsertPromise, DeletePromise, LookupPromise}
use Rattle.store.specs.Promises.{QueryPromise, RangePromise, meeting, CheckPromise}
use Rattle.store.proofs.ReadLaws.{sound_where-of-sound, sound_where_read-of-sound}
use Rattle.history.specs.History.{Run, History}
use Rattle.table.specs.Table.{two_two, key}
use Rattle.refutation.specs.Stores.{no_record, one_record, three_records, word_past_pages, zero_stored, set_of_zero}
use Rattle.refutation.specs.Stores.{all_free, first_within, outcome_on}
use Rattle.refutation.proofs.ChangeLaws.{refused-not-accepted, refusal-not-accepted, refused-number}
use Rattle.refutation.proofs.ChangeLaws.{listed-total, answer-of-early, answer-of-zero, store-of-zero}
use Rattle.refutation.proofs.ComputedLaws.{fitting}
use Rattle.refutation.proofs.OneLeafSound.{no_record-sound, zero_stored-sound}
use Rattle.refutation.proofs.CheckRefuted.{same-verdict, yes-of-sound}
use Rattle.refutation.proofs.QueryRefuted.{model-answer}
use Rattle.refutation.proofs.HistoryRefuted.{answer_at}

abbrev no_payload : Content
no_payload = record { payload = 0 }

-- ---- "11, payload 0 on insert, after 3 and before 4", on any store, sound or not

module _ (store after : Store) (values : List ℕ) (content : Content) (answer : Answer Reply)
    (p : InsertPromise store values content answer after) where
  -- "after 3": another answer where 1, 14, 15, 2 or 3 is due
  pub other-than-early : (n : ℕ) → key_number store values ≡ suc n
      → (answer ≡ refused_for store.state.shape (suc n) → ⊥) → ⊥
  other-than-early n e apart = apart (answer-of-early content p n e)

  module _ (fits : key_number store values ≡ 0) (zero : content.payload ≡ 0) where
    -- "before 4": another answer, as done, 4, 6, 7 or 9, where none of these is
    pub other-than-eleven : (answer ≡ refused 11 → ⊥) → ⊥
    other-than-eleven apart = apart (answer-of-zero content p fits zero)

    -- "All of them return the number and change nothing.": a word or a byte is another
    pub writes-word : (k : ℕ) → (get_or after.memory.words k 0 ≡ get_or store.memory.words k 0 → ⊥) → ⊥
    writes-word k apart = apart (ap (λ s. get_or s.memory.words k 0) (store-of-zero content p fits zero))

    pub writes_byte : (k : ℕ) → (get_or after.memory.bytes k 0 ≡ get_or store.memory.bytes k 0 → ⊥) → ⊥
    writes_byte k apart = apart (ap (λ s. get_or s.memory.bytes k 0) (store-of-zero content p fits zero))

-- ---- on small stores

module _ (after : Store) where
  -- "An insert with payload 0 is to be turned down": it is accepted
  pub accepts-zero : (r : Reply) → InsertPromise no_record (key 0 0) no_payload (accepted r) after → ⊥
  accepts-zero r p = refused-not-accepted r 11 (sym (answer-of-zero no_payload p fitting.first refl))

  -- ".. even when its key is stored already": 4
  pub four-before-eleven : InsertPromise one_record (key 0 0) no_payload (refused 4) after → ⊥
  four-before-eleven p =
      let same : ◌≡◌ {A = ℕ} 4 11 = refused-number (answer-of-zero no_payload p fitting.first-again refl) in
      omega (arith, same)

  -- 7, where another payload has it
  pub seven-before-eleven : InsertPromise (three_records 2) (key 2 1) no_payload (refused 7) after → ⊥
  seven-before-eleven p =
      let same : ◌≡◌ {A = ℕ} 7 11 = refused-number (answer-of-zero no_payload p fitting.fourth-full refl) in
      omega (arith, same)

  -- 9, since the store is not sound
  pub nine-for-eleven : InsertPromise word_past_pages (key 0 0) no_payload (refused 9) after → ⊥
  unfolding first_number shape_conditions key_fits record_bytes lent_conditions key_refusals value_fits encode marked
  nine-for-eleven p =
      let same : ◌≡◌ {A = ℕ} 9 11 = refused-number (answer-of-zero no_payload p refl refl) in
      omega (arith, same)

  -- "after 3": 11 for a value out of bounds
  pub eleven-before-three : InsertPromise no_record (key 4 0) no_payload (refused 11) after → ⊥
  unfolding first_number shape_conditions key_fits lent_conditions key_refusals value_fits encode marked
  eleven-before-three p =
      let same : ◌≡◌ {A = ℕ} 11 3 = refused-number (answer-of-early no_payload p 2 refl) in
      omega (arith, same)

-- ---- a record is added whatever its payload

-- 11, on any store
pub eleven-when-added : (store after : Store) (values : List ℕ) (content : Content) → key_number store values ≡ 0
    → AddPromise store values content (refused 11) after → ⊥
eleven-when-added store after values content fits p =
    ⊎_elim (refused-not-accepted _ 11)
    (⊎_elim (other 4 (λ e. omega (arith, e))) (⊎_elim (other 6 (λ e. omega (arith, e)))
    (⊎_elim (other 7 (λ e. omega (arith, e))) (⊎_elim (other 9 (λ e. omega (arith, e))) (λ none. none)))))
    (p.ordinary fits)
  where
    other : (n : ℕ) → (11 ≡ n → ⊥) → ◌≡◌ {A = Answer Reply} (refused 11) (refused n) → ⊥
    other n apart same = apart (refused-number same)

-- any refusal, where the leaf has room
pub not-added : (answer : Answer Reply) (after : Store) → is_refused answer ≡ true
    → AddPromise no_record (key 0 0) no_payload answer after → ⊥
unfolding
    first_number widths_of key_fits encodings steps_below steps step step_number steps_of attribute_depth split_bit value_fits
    add_number division_of encode marked
not-added answer after refusal p = refusal-not-accepted _ answer refusal (p.answered-as [] no_record-sound)

-- ---- "Stores that already hold such payloads stay sound and are listed as before."

-- what the model answers
record ModelAnswers (out : List ℕ) : Type 0 where
  found-zero : (outcome_on zero_stored set_of_zero (lookup_call (key 0 0))).answer ≡ accepted (found no_payload 1 0)
  listed-zero : (outcome_on zero_stored set_of_zero (query_call all_free out)).answer
      ≡ accepted (listed (min 1 (length out / record_size)) 1 1)
  inside-zero : (outcome_on zero_stored set_of_zero (range_call (first_within 0 3) out)).answer
      ≡ accepted (listed (min 1 (length out / record_size)) 1 1)
  deleted-zero : (outcome_on zero_stored set_of_zero (delete_call (key 0 0))).answer ≡ accepted (changed 0)

model-answers : (out : List ℕ) → ModelAnswers out
unfolding
    answered_by widths_of key_fits encodings names_unused query_fits range_fits range_rises value_fits encode
    steps_below steps step step_number steps_of attribute_depth matches
    box_of in_box number box_meets set_after reply_to outcome division_of key_depth query_bits reads_of range_reads_of marked
model-answers out =
    record { found-zero = refl; listed-zero = refl; inside-zero = refl; deleted-zero = refl }

-- a check that does not say yes, as one that says no
pub other-than-sound : (answer : Answer Bool) → CheckPromise zero_stored answer → (answer ≡ accepted true → ⊥) → ⊥
unfolding lent_conditions shape_conditions first_number record_bytes
other-than-sound answer p apart = apart (yes-of-sound zero_stored set_of_zero refl zero_stored-sound answer p)

pub called-unsound : CheckPromise zero_stored (accepted false) → ⊥
called-unsound p = other-than-sound (accepted false) p (λ e. false≢true (same-verdict e))

-- a lookup that does not give payload 0 and 1 read, as one that is refused with 5, 9 or 11
pub other-than-found : (answer : Answer Reply) → LookupPromise zero_stored (key 0 0) answer
    → (answer ≡ accepted (found no_payload 1 0) → ⊥) → ⊥
other-than-found answer p apart =
    apart
    (p.answered-as set_of_zero (sound_where_read-of-sound zero_stored _ set_of_zero zero_stored-sound)
    ∙ (model-answers []).found-zero)

pub refused-in-lookup : (answer : Answer Reply) → is_refused answer ≡ true → LookupPromise zero_stored (key 0 0) answer
    → ⊥
refused-in-lookup answer refusal p = other-than-found answer p (refusal-not-accepted _ answer refusal)

module _ (out out' : List ℕ) (written n : ℕ) where
  -- a query or a range that leaves it out
  pub not_listed : QueryPromise zero_stored all_free out (accepted (listed written 0 n)) out' → ⊥
  not_listed p =
      let same : ◌≡◌ {A = ℕ} 0 1 =
      listed-total ((model-answer zero_stored-sound p).0 ∙ (model-answers out).listed-zero) in
      omega (arith, same)

  pub not-listed-in-range : RangePromise zero_stored (first_within 0 3) out (accepted (listed written 0 n)) out' → ⊥
  not-listed-in-range p =
      let all = meeting two_two (box_of two_two (first_within 0 3)) in
      let sound = sound_where-of-sound zero_stored all set_of_zero zero_stored-sound in
      let same : ◌≡◌ {A = ℕ} 0 1 = listed-total ((p.answered-as set_of_zero sound).0 ∙ (model-answers out).inside-zero) in
      omega (arith, same)

-- a delete that is refused
pub not-deleted : (answer : Answer Reply) (after : Store) → is_refused answer ≡ true
    → DeletePromise zero_stored (key 0 0) answer after → ⊥
not-deleted answer after refusal p =
    refusal-not-accepted _ answer refusal
    (p.answered-as set_of_zero zero_stored-sound ∙ (model-answers []).deleted-zero)

-- ---- demand 3: an insert with payload 0 that is accepted, wherever in the list

answer_at-run : (f : Fixed) (S : List Record) (before calls : List Call) (c : Call)
    → answer_at (length before) (run f S (before ++ c ∷ calls)) ≡ (outcome f (last_set f S before) c).answer
unfolding run
answer_at-run f S [] calls c = refl
answer_at-run f S (b ∷ before) calls c = answer_at-run f (next f S b) before calls c

pub accepted-in-run : History → (s : Shape) (m : Memory) (fresh after : Store)
    → FreshPromise s m (accepted tt) fresh
    → (values : List ℕ) (content : Content) → key_fits (fresh_shape s) values ≡ true → content.payload ≡ 0
    → (before calls : List Call) (outcomes : List Outcome) (r : Reply)
    → Run fresh (before ++ insert_call values content ∷ calls) outcomes after
    → answer_at (length before) outcomes ≡ accepted r → ⊥
unfolding fixed_by
accepted-in-run demand s m fresh after p values content fits zero before calls outcomes r made accepts =
    let f = fixed_by s (length m.words) (length m.bytes) in
    refused-not-accepted r 11
    (sym ((set_inserts f (last_set f [] before)).zero-eleven values content fits zero).0
    ∙ sym (answer_at-run f [] before calls (insert_call values content))
    ∙ sym (ap (answer_at (length before)) (demand s m fresh p _ outcomes after made).0)
    ∙ accepts)
