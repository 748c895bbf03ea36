-- Wrong queries of document 01: each contradicts `QueryPromise` on a small store that is sound where the query reads;
-- what is promised on any store contradicts the last ones. Assumes nothing.
use Prim.Native.Nat.{ℕ, ◌+◌, ◌*◌, ◌/◌, ◌≤◌, min}
use mathlib.Core.Path.{◌≡◌, refl, sym, ap, ◌∙◌}
use mathlib.Core.Bool.{Bool, true, false, ◌&&◌, beq, false≢true}
use mathlib.Core.List.{List, [], ◌∷◌}
use mathlib.Core.Logic.{⊎_elim}
use native.Mathlib.Omega.{arith}
use mathlib.Core.Option.{Option, none, some}
use lib.ListN.{length, drop, get_or, replicate}
use lib.Seq.{get_or-drop}
use Rattle.shape.specs.Refusal.{Answer, accepted, refused, first_number, answered_by}
use Rattle.shape.specs.Shape.{shape_conditions, widths_of}
use Rattle.shape.specs.Key.{marked, encode, names_unused}
use Rattle.split.specs.Steps.{steps_below, steps, step}
use Rattle.record.specs.Record.{Record}
use Rattle.record.specs.Bytes.{record_size, record_bytes}
use Rattle.page.specs.Page.{page_size}
use Rattle.model.specs.Model.{Reply, changed, listed, query_call}
use Rattle.model.specs.Sets.{query_bits, reads_bound}
use Rattle.store.specs.Store.{Store, lent_conditions}
use Rattle.store.specs.Sound.{Sound}
use Rattle.store.specs.Promises.{query_refusals, query_number, QueryPromise, SoundWhereRead, SameWhereRead}
use Rattle.store.proofs.ReadLaws.{sound_where_read-of-sound}
use Rattle.table.specs.Table.{two_two}
use Rattle.refutation.specs.Stores.{record_at, no_record, one_record, three_records, set_of_three, other_page}
use Rattle.refutation.specs.Stores.{word_past_pages, four_records, set_of_four, all_free, given_first, given_second}
use Rattle.refutation.specs.Stores.{outcome_on}
use Rattle.refutation.proofs.ChangeLaws.{refused-not-accepted, refused-number, listed-written, listed-total}
use Rattle.refutation.proofs.ChangeLaws.{listed-reads}
use Rattle.refutation.proofs.ComputedLaws.{reads, leaves-of-three}
use Rattle.refutation.proofs.OneLeafSound.{no_record-sound, one_record-sound}
use Rattle.refutation.proofs.TwoLeavesSound.{word_of_three, word_at-three, three_records-sound-2}
use Rattle.refutation.proofs.FourLeavesSound.{four_records-sound}

-- the model's answer, on a sound store
pub model-answer : {store : Store} {S : List Record} {q : List (Option ℕ)} {out out' : List ℕ} {answer : Answer Reply}
    → Sound store S → QueryPromise store q out answer out'
    → (answer ≡ (outcome_on store S (query_call q out)).answer) × (out' ≡ (outcome_on store S (query_call q out)).output)
model-answer {store = store} {S = S} sound p = p.listed-as.answered-as S (sound_where_read-of-sound store _ S sound)

-- ---- counts

module _ (out out' : List ℕ) (written total n : ℕ) where
  -- "a query that returns an empty list each time" (review, 3)
  pub empty-list : QueryPromise one_record all_free out (accepted (listed written 0 n)) out' → ⊥
  empty-list p =
      let same : ◌≡◌ {A = ℕ} 0 1 = listed-total ((model-answer one_record-sound p).0 ∙ (reads out).first-listed) in
      omega (arith, same)

  -- "a query whose reads are .. 1" (review, 4): of a store without records, whose bound is 1 too
  pub reads-one : QueryPromise no_record all_free out (accepted (listed written total 1)) out' → ⊥
  reads-one p =
      let same : ◌≡◌ {A = ℕ} 1 0 = listed-reads ((model-answer no_record-sound p).0 ∙ (reads out).none-listed) in
      omega (arith, same)

  -- "a query whose reads are the bound" (review, 4): 4, where 3 pages are read
  pub reads-bound : QueryPromise four_records (given_second 1) out
      (accepted (listed written total (reads_bound two_two (given_second 1) set_of_four))) out' → ⊥
  reads-bound p =
      let counts = (model-answer four_records-sound p).0 ∙ (reads out).some-listed in
      let same = sym (reads out).some-bound ∙ listed-reads counts in
      omega (arith, same)

  -- "A leaf with many cells is listed once a cell" (faults): the leaf 0 has four, so that 7 records are listed of 4 ..
  pub listed-by-cell : QueryPromise four_records all_free out (accepted (listed written 7 n)) out' → ⊥
  listed-by-cell p =
      let same : ◌≡◌ {A = ℕ} 7 4 = listed-total ((model-answer four_records-sound p).0 ∙ (reads out).all_listed) in
      omega (arith, same)

  -- .. and 6 pages are read of 3
  pub read-by-cell : QueryPromise four_records all_free out (accepted (listed written total 6)) out' → ⊥
  read-by-cell p =
      let same : ◌≡◌ {A = ℕ} 6 3 = listed-reads ((model-answer four_records-sound p).0 ∙ (reads out).all_listed) in
      omega (arith, same)

-- ---- output

-- "It writes 12-byte records into the output while whole ones fit": none is written
pub writes_nothing : (answer : Answer Reply)
    → QueryPromise one_record all_free (replicate 12 0) answer (replicate 12 0) → ⊥
unfolding record_bytes
writes_nothing answer p =
    let output = (model-answer one_record-sound p).1 ∙ (reads []).first-written in
    let payload : ◌≡◌ {A = ℕ} 0 10 = ap (λ bytes. get_or bytes 8 0) output in
    omega (arith, payload)

-- "the first in split order": the last of four is written
pub writes-last : (answer : Answer Reply)
    → QueryPromise four_records all_free (replicate 12 0) answer (record_bytes two_two (record_at 3 1 12)) → ⊥
unfolding record_bytes
writes-last answer p =
    let output = (model-answer four_records-sound p).1 ∙ (reads []).first-of-four-written in
    let payload : ◌≡◌ {A = ℕ} 12 10 = ap (λ bytes. get_or bytes 8 0) output in
    omega (arith, payload)

-- "its other bytes are as they came": the bytes behind the one record are cleared
pub clears-rest : (answer : Answer Reply) (out' : List ℕ)
    → QueryPromise one_record all_free (replicate 24 1) answer out' → get_or out' 12 0 ≡ 0 → ⊥
unfolding record_bytes
clears-rest answer out' p e =
    let output = (model-answer one_record-sound p).1 ∙ (reads []).first-written-of-two in
    let byte : ◌≡◌ {A = ℕ} 0 1 = sym e ∙ ap (λ bytes. get_or bytes 12 0) output in
    omega (arith, byte)

-- ---- any store, sound or not

module _ (store : Store) (q : List (Option ℕ)) (out out' : List ℕ) (k : ℕ) where
  -- "All of them return the number and change nothing.": a byte of the output is written, and the call refused
  pub writes-when-refused : (n : ℕ) → QueryPromise store q out (refused n) out'
      → (get_or out' k 0 ≡ get_or out k 0 → ⊥) → ⊥
  writes-when-refused n p apart = apart (ap (λ bytes. get_or bytes k 0) (p.listed-as.unchanged refl))

  -- "other output bytes untouched": one behind the written records is another
  pub writes-past-written : query_number store q ≡ 0 → (written total n : ℕ)
      → QueryPromise store q out (accepted (listed written total n)) out'
      → (get_or out' (record_size * written + k) 0 ≡ get_or out (record_size * written + k) 0 → ⊥) → ⊥
  writes-past-written e written total n p apart =
      ⊎_elim counts (λ r. refused-not-accepted _ 9 (sym r)) (p.listed-as.ordinary e)
    where
      counts : (w t r : ℕ)
          × (◌≡◌ {A = Answer Reply} (accepted (listed written total n)) (accepted (listed w t r))) × (w ≤ t)
          × (record_size * w ≤ length out) × (drop (record_size * w) out' ≡ drop (record_size * w) out) → ⊥
      counts c =
          let same : drop (record_size * written) out' ≡ drop (record_size * written) out =
          rw (listed-written c.3) c.6 in
          apart (sym (get_or-drop (record_size * written) out' k 0) ∙ ap (λ bytes. get_or bytes k 0) same
          ∙ get_or-drop (record_size * written) out k 0)

-- "Checked in this order": 3 for a query that names attribute 2 of two, and gives attribute 0 a value out of bounds; on
-- a store that is not sound
pub three-before-eight : (out out' : List ℕ)
    → QueryPromise word_past_pages (some 4 ∷ none ∷ some 0 ∷ none ∷ []) out (refused 3) out' → ⊥
unfolding first_number answered_by shape_conditions names_unused record_bytes lent_conditions query_refusals
three-before-eight out out' p =
    let same : ◌≡◌ {A = ℕ} 3 8 = refused-number (p.listed-as.early-refused 7 refl (changed 0)) in
    omega (arith, same)

-- ---- "one that takes its records from a scan of every page" (review, 4)

-- attribute 0 given as 0 reads page 0 alone: any other page 1 leaves the store sound where it reads
sound-but-for-page : (page : List ℕ) → length page ≡ page_size 2
    → SoundWhereRead (other_page page) (query_bits two_two (given_first 0)) set_of_three
unfolding widths_of encode steps_below steps step query_bits record_bytes marked
sound-but-for-page page e = ((three_records 2).memory.bytes, three_records-sound-2, omega arith, same)
  where
    zero_bit : (β rest : Bool) → (beq false β && rest) ≡ true → β ≡ false
    zero_bit false rest h = refl
    zero_bit true rest h = absurd (false≢true h)

    same : SameWhereRead (three_records 2) (other_page page).memory.bytes (query_bits two_two (given_first 0)) set_of_three
    same p agreeing g x within word =
        let first_bit : p 0 ≡ false = zero_bit (p 0) _ (rw leaves-of-three at agreeing) in
        let leaf-word = ap word_of_three (sym first_bit) ∙ sym (word_at-three 2 p) ∙ word in
        let first-page : g ≡ 0 = omega (arith, within, leaf-word) in
        rw first-page

module _ (page out out' : List ℕ) (e : length page ≡ page_size 2) where
  -- whatever page 1 holds, one record is listed and one page read
  pub answer-but-for-page : (answer : Answer Reply) → QueryPromise (other_page page) (given_first 0) out answer out'
      → answer ≡ accepted (listed (min 1 (length out / record_size)) 1 1)
  answer-but-for-page answer p =
      (p.listed-as.answered-as set_of_three (sound-but-for-page page e)).0 ∙ (reads out).one-side-listed

  -- a scan that finds a matching record there, or that stumbles over it
  pub scans-pages : (written n : ℕ)
      → QueryPromise (other_page page) (given_first 0) out (accepted (listed written 2 n)) out' → ⊥
  scans-pages written n p =
      let same : ◌≡◌ {A = ℕ} 2 1 = listed-total (answer-but-for-page _ p) in
      omega (arith, same)

  pub nine-over-other-page : QueryPromise (other_page page) (given_first 0) out (refused 9) out' → ⊥
  nine-over-other-page p = refused-not-accepted _ 9 (answer-but-for-page (refused 9) p)
