-- Wrong programs of document 02, request 4: each contradicts a promise on a small store whose attribute 0 is marked, or
-- on one without marks. Assumes nothing.
use Prim.Native.Nat.{ℕ, zero, suc, ◌<◌}
use mathlib.Core.Path.{◌≡◌, refl, sym, ap, subst, ◌∙◌}
use mathlib.Core.Bool.{true, false, false≢true}
use mathlib.Core.List.{List, [], ◌∷◌}
use mathlib.Core.Logic.{⊎_elim}
use native.Mathlib.Omega.{arith}
use lib.ListN.{get_or, replicate}
use Rattle.std.specs.Prelude.{Result}
use Rattle.lists.specs.Filter.{all}
use Rattle.shape.specs.Refusal.{Answer, accepted, refused, first_number, answered_by}
use Rattle.shape.specs.Shape.{shape_conditions, widths_of, total}
use Rattle.shape.specs.declared.Shape.{Shape}
use Rattle.shape.specs.Key.{marked, bias, value_fits, encode, decode, encode_field, key_fits, names_unused}
use Rattle.shape.specs.Key.{query_fits}
use Rattle.shape.specs.Range.{range_fits, range_rises}
use Rattle.shape.specs.declared.refusal.Refusal.{Refusal}
use Rattle.split.specs.Steps.{steps_below, steps, step, step_number, steps_of, attribute_depth}
use Rattle.address.specs.Address.{highest_bit, created_by, latest_step, formula, address_from, address}
use Rattle.address.specs.Doubling.{sides}
use Rattle.address_calls.specs.Answers.{address_refusals, address_answer, address_answer_of}
use Rattle.record.specs.declared.Content.{Content}
use Rattle.region.specs.Strings.{empty_string}
use Rattle.region.specs.Division.{leaf_records}
use Rattle.region.proofs.StringLeafLaws.{all-leaf_records}
use Rattle.record.specs.Record.{Record, record_bit, matches}
use Rattle.record.specs.Bytes.{record_bytes, record_of}
use Rattle.page.specs.Page.{count_of, records_of, page_at}
use Rattle.model.specs.Limits.{fresh_shape}
use Rattle.model.specs.Model.{Reply, number_for, output_of, output_after, outcome}
use Rattle.model.specs.Sets.{in_shape, division_of, query_bits}
use Rattle.model.proofs.SetLaws.{in_shape-of-is_set}
use Rattle.store.specs.Store.{Store, word_at, lent_conditions}
use Rattle.store.specs.Sound.{LeafWord, Sound}
use Rattle.store.specs.Fresh.{FreshPromise, fresh_refusals, fresh_state}
use Rattle.store.specs.Promises.{key_refusals, key_number, range_refusals, InsertPromise, LookupPromise, QueryPromise}
use Rattle.store.specs.Promises.{RangePromise, agreeing, CheckPromise}
use Rattle.store.proofs.ReadLaws.{sound_where-of-sound}
use Rattle.twin.specs.Twin.{Encoded}
use Rattle.twin.proofs.StoreLaws.{sound-twin}
use Rattle.table.specs.Table.{two_two, key}
use Rattle.refutation.specs.Stores.{ones, all_free, first_within, four_records, set_of_four, minus}
use Rattle.refutation.specs.Stores.{two_two_marked, four_marked, word_past_marked, sign_left_out}
use Rattle.refutation.proofs.AddressRefuted.{same-value}
use Rattle.refutation.proofs.ChangeLaws.{refused-not-accepted, refused-not-with, refused-number, answer-of-early}
use Rattle.refutation.proofs.CheckRefuted.{one-leaf, yes-to-unsound}
use Rattle.refutation.proofs.ComputedLaws.{cells}
use Rattle.refutation.proofs.FourLeavesSound.{four_records-sound}

-- ---- the marked store is sound

-- its pages hold values where those of the store of four records hold encodings
encoded-four : Encoded four_marked.state four_marked.memory.bytes four_records.memory.bytes
unfolding record_bytes record_of encode decode encode_field marked bias
encoded-four = record { same_length = refl; same_count = counts; same-records = records }
  where
    counts : (g : ℕ) → g < 3
        → count_of (page_at 2 four_records.memory.bytes g) ≡ count_of (page_at 2 four_marked.memory.bytes g)
    counts zero l = refl
    counts (suc zero) l = refl
    counts (suc (suc zero)) l = refl
    counts (suc (suc (suc g))) l = absurd (omega arith)

    records : (g : ℕ) → g < 3
        → records_of two_two (page_at 2 four_records.memory.bytes g)
        ≡ records_of (two_two_marked 1) (page_at 2 four_marked.memory.bytes g)
    records zero l = refl
    records (suc zero) l = refl
    records (suc (suc zero)) l = refl
    records (suc (suc (suc g))) l = absurd (omega arith)

four_marked-sound : Sound four_marked set_of_four
four_marked-sound =
    (sound-twin four_marked.state four_marked.memory.words four_marked.memory.bytes four_records.memory.bytes
    encoded-four set_of_four).1 four_records-sound

-- ---- number 3, on a store that is not sound

-- "any other value below 0 gets it too": -1 of an attribute without a mark, accepted
pub negative-unmarked : (content : Content) (r : Reply) (after : Store)
    → InsertPromise (word_past_marked 0) (minus 1 ∷ 0 ∷ 0 ∷ 0 ∷ []) content (accepted r) after → ⊥
unfolding first_number shape_conditions key_fits record_bytes lent_conditions key_refusals value_fits encode marked
negative-unmarked content r after p = refused-not-accepted r 3 (sym (answer-of-early content p 2 refl))

-- "Number 3 uses these bounds": -3, and 2, of an attribute that takes -2 to 1
pub one_below : (content : Content) (r : Reply) (after : Store)
    → InsertPromise (word_past_marked 1) (minus 3 ∷ 0 ∷ 0 ∷ 0 ∷ []) content (accepted r) after → ⊥
unfolding
    first_number shape_conditions key_fits record_bytes lent_conditions key_refusals value_fits encode marked bias
one_below content r after p = refused-not-accepted r 3 (sym (answer-of-early content p 2 refl))

pub one-beyond : (content : Content) (r : Reply) (after : Store)
    → InsertPromise (word_past_marked 1) (2 ∷ 0 ∷ 0 ∷ 0 ∷ []) content (accepted r) after → ⊥
unfolding
    first_number shape_conditions key_fits record_bytes lent_conditions key_refusals value_fits encode marked bias
one-beyond content r after p = refused-not-accepted r 3 (sym (answer-of-early content p 2 refl))

-- a lookup that no early number refuses is not refused with 3
three-not-given : (store : Store) (values : List ℕ) → key_number store values ≡ 0
    → LookupPromise store values (refused 3) → ⊥
three-not-given store values e p =
    ⊎_elim (λ content. refused-not-accepted _ 3 content.1)
    (⊎_elim (refused-not-with 3 5 _) (λ nine. apart (refused-number nine))) (p.ordinary e)
  where
    apart : ◌≡◌ {A = ℕ} 3 9 → ⊥
    apart same = omega (arith, same)

-- a value within the bounds refused: -2, the least
pub least-refused : LookupPromise (word_past_marked 1) (minus 2 ∷ 0 ∷ 0 ∷ 0 ∷ []) (refused 3) → ⊥
unfolding
    first_number shape_conditions key_fits record_bytes lent_conditions key_refusals value_fits encode marked bias
least-refused = three-not-given (word_past_marked 1) (minus 2 ∷ 0 ∷ 0 ∷ 0 ∷ []) refl

-- "A mark past d is ignored": with marks of attributes 0 and 2, the unused value 0 taken for one that does not fit
pub unused-mark-honoured : LookupPromise (word_past_marked 5) (0 ∷ 0 ∷ 0 ∷ 0 ∷ []) (refused 3) → ⊥
unfolding
    first_number shape_conditions key_fits record_bytes lent_conditions key_refusals value_fits encode marked bias
unused-mark-honoured = three-not-given (word_past_marked 5) (0 ∷ 0 ∷ 0 ∷ 0 ∷ []) refl

-- ---- number 10, on a store that is not sound

-- from -1 to 0 rises: 10, as for the numbers of 32 bits that stand for them
pub ten-for-rising : (out out' : List ℕ)
    → RangePromise (word_past_marked 1) (first_within (minus 1) 0) out (refused 10) out' → ⊥
unfolding
    first_number shape_conditions names_unused range_fits range_rises record_bytes lent_conditions range_refusals
    value_fits encode marked bias
ten-for-rising out out' p =
    ⊎_elim (λ counts. refused-not-accepted _ 10 counts.3) (λ nine. apart (refused-number nine)) (p.ordinary refl)
  where
    apart : ◌≡◌ {A = ℕ} 10 9 → ⊥
    apart same = omega (arith, same)

-- and from 0 to -1 falls: a list
pub falling-listed : (out out' : List ℕ) (reply : Reply)
    → RangePromise (word_past_marked 1) (first_within 0 (minus 1)) out (accepted reply) out' → ⊥
unfolding
    first_number answered_by shape_conditions names_unused range_fits range_rises record_bytes lent_conditions
    range_refusals value_fits encode marked bias
falling-listed out out' reply p = refused-not-accepted reply 10 (sym (p.early-refused 9 refl reply))

-- ---- Fresh

-- "and Fresh clears it": the mark of attribute 2 is kept
pub keeps-mark : (answer : Answer (Unit {0})) (after : Store) → FreshPromise (two_two_marked 5) ones answer after
    → after.state.shape.signs ≡ 5 → ⊥
unfolding fresh_refusals shape_conditions first_number fresh_state fresh_shape
keeps-mark answer after p e =
    let signs : after.state.shape.signs ≡ 1 = ap (λ st. st.shape.signs) p.state-as in
    omega (arith, signs, e)

-- ---- indices

-- "Number 3 uses these bounds for values .., not for indices": the bias added to an index, so that (0,0) has the address
-- of (2,0)
pub bias-on-indices : (r : Result ℕ Refusal) → address_answer_of r ≡ address_answer (two_two_marked 1) (key 0 0)
    → address_answer_of r ≡ address_answer two_two (key 2 0) → ⊥
unfolding
    answered_by shape_conditions widths_of steps_below steps step step_number steps_of attribute_depth
    highest_bit created_by latest_step formula address_from address sides address_refusals address_answer
bias-on-indices r e e' =
    let same : ◌≡◌ {A = ℕ} 0 4 = same-value (sym e ∙ e') in
    omega (arith, same)

-- ---- order and fields, on a sound store

-- what a query for all records leaves in an output with room for one
first-listed : (answer : Answer Reply) (out' : List ℕ) → QueryPromise four_marked all_free (replicate 12 7) answer out'
    → out' ≡ 254 ∷ 255 ∷ 0 ∷ 0 ∷ 0 ∷ 0 ∷ 0 ∷ 0 ∷ 10 ∷ 0 ∷ 0 ∷ 0 ∷ []
unfolding
    first_number names_unused query_fits value_fits matches record_bytes encode decode marked bias number_for output_of
    output_after outcome
first-listed answer out' p =
    (p.listed-as.answered-as set_of_four
    (sound_where-of-sound four_marked (agreeing (query_bits (two_two_marked 1) all_free)) set_of_four four_marked-sound)).1

-- "Split order .. go by encodings": -2 behind 1, as the numbers of its bits, so that (0,0) comes first
pub minus-two-last : (answer : Answer Reply) (out' : List ℕ)
    → QueryPromise four_marked all_free (replicate 12 7) answer out' → get_or out' 8 0 ≡ 11 → ⊥
minus-two-last answer out' p e =
    let payload : get_or out' 8 0 ≡ 10 = ap (λ bytes. get_or bytes 8 0) (first-listed answer out' p) in
    omega (arith, payload, e)

-- "the value in 16-bit two's complement": -2 as the two bits that it has at width 2, and as its encoding
pub no-sign-extension : (answer : Answer Reply) (out' : List ℕ)
    → QueryPromise four_marked all_free (replicate 12 7) answer out' → get_or out' 1 0 ≡ 0 → ⊥
no-sign-extension answer out' p e =
    let high : get_or out' 1 0 ≡ 255 = ap (λ bytes. get_or bytes 1 0) (first-listed answer out' p) in
    omega (arith, high, e)

-- ---- "Pages .. hold the value in 16-bit two's complement": a check that says yes to a field without its sign

sign_left_out-unsound : (S : List Record) → Sound sign_left_out S → ⊥
unfolding division_of widths_of record_bytes record_of encode decode encode_field marked bias
sign_left_out-unsound S h =
    let one = one-leaf (division_of s S) h.deepest in
    let fit : all (in_shape s) (leaf_records empty_string 0 (division_of s S)) ≡ true =
    all-leaf_records (record_bit s) 2 empty_string (in_shape s) (total (widths_of s)) 0 S (in_shape-of-is_set s S h.set) in
    by-records one.0 (rw one.1 at (h.shown.word empty_string)) (rw one.1 at fit)
  where
    s : Shape
    s = two_two_marked 1

    bytes : List ℕ
    bytes = sign_left_out.memory.bytes

    by-records : (rs : List Record)
        → LeafWord s 3 bytes rs 0 (word_at s 0 sign_left_out.memory.words empty_string) → all (in_shape s) rs ≡ true → ⊥
    by-records [] w fit =
        let word = sym ((cells sign_left_out.memory.words).root empty_string) ∙ w in
        omega (arith, word)
    by-records (r ∷ rs) w fit =
        let word = sym ((cells sign_left_out.memory.words).root empty_string) ∙ w.2 in
        let first : w.0 ≡ 0 = omega (arith, word, w.1) in
        let records = subst (λ g. records_of s (page_at 2 bytes g) ≡ r ∷ rs) first w.3 in
        let fits : false ≡ true = ap (all (in_shape s)) records ∙ fit in
        false≢true fits

pub yes-without-sign : CheckPromise sign_left_out (accepted true) → ⊥
unfolding lent_conditions shape_conditions first_number record_bytes
yes-without-sign = yes-to-unsound sign_left_out refl sign_left_out-unsound
