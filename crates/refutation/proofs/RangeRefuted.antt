-- Wrong ranges of document 02, request 1: each contradicts `RangePromise` on a small store that is sound where the
-- range reads; the wrong order of refusals contradicts it on any. Assumes nothing.
use Prim.Native.Nat.{ℕ, suc, ◌/◌, min}
use mathlib.Core.Path.{◌≡◌, refl, sym, ap, ◌∙◌}
use mathlib.Core.Bool.{Bool, true, false, cond, ◌&&◌, false≢true}
use mathlib.Core.List.{List, [], ◌∷◌}
use mathlib.Core.Option.{Option, none}
use native.Mathlib.Omega.{arith}
use lib.Dec.{leb}
use lib.ListN.{length, get_or}
use Rattle.lists.specs.Filter.{filter, non_empty}
use Rattle.shape.specs.Refusal.{Answer, accepted, refused, first_number, answered_by}
use Rattle.shape.specs.Shape.{shape_conditions, widths_of, all_below}
use Rattle.shape.specs.Key.{marked, value_fits, encode, if_given, names_unused}
use Rattle.shape.specs.Range.{Interval, range_fits, range_rises}
use Rattle.shape.specs.declared.Shape.{Shape}
use Rattle.split.specs.Steps.{steps_below, steps, step, step_number, steps_of, attribute_depth}
use Rattle.split.specs.Bits.{split_bit}
use Rattle.region.specs.Strings.{list_bit}
use Rattle.region.specs.Division.{depth, string_bit, leaves, non_empty_leaves}
use Rattle.record.specs.Record.{Record}
use Rattle.record.specs.Bytes.{record_size, record_bytes}
use Rattle.range_box.specs.Box.{Box, box_of, in_box, number, lowest, highest, box_meets}
use Rattle.page.specs.Page.{page_size}
use Rattle.model.specs.Model.{Reply, changed, listed, range_call, reply_to, outcome}
use Rattle.model.specs.Sets.{division_of, range_reads_of}
use Rattle.store.specs.Store.{lent_conditions}
use Rattle.store.specs.Promises.{range_refusals, RangePromise, SoundWhere, SameWhere, meeting}
use Rattle.store.proofs.ReadLaws.{sound_where-of-sound}
use Rattle.table.specs.Table.{two_two}
use Rattle.refutation.specs.Stores.{three_records, set_of_three, other_page, word_past_pages, four_records, set_of_four}
use Rattle.refutation.specs.Stores.{interval, first_within, outcome_on}
use Rattle.refutation.proofs.ChangeLaws.{refused-not-accepted, refused-number, listed-total, listed-reads}
use Rattle.refutation.proofs.ComputedLaws.{leaves-of-three}
use Rattle.refutation.proofs.TwoLeavesSound.{word_of_three, word_at-three, three_records-sound-2}
use Rattle.refutation.proofs.FourLeavesSound.{four_records-sound}

-- ---- what the model answers

-- a wrong test of a leaf: its box of values lies inside the range's, where to meet it is enough
abbrev box_inside : Shape → Box → (ℕ → Bool) → ℕ → Bool
box_inside s box p x =
    all_below 4 (λ j. if_given (λ i. leb i.low (lowest s p x j) && leb (highest s p x j) i.high) (get_or box j none))

-- the non-empty leaves that pass it
abbrev inside_reads : Shape → List (Option Interval) → List Record → ℕ
inside_reads s r S =
    length
    (filter (λ l. non_empty l.records)
    (filter (λ l. box_inside s (box_of s r) (string_bit l) (depth l)) (leaves (division_of s S))))

record Ranges (out : List ℕ) : Type 0 where
  -- attribute 0 from 1 to 2: the leaf 0 is met and has no record inside, the leaf 100 has two
  edge-listed : (outcome_on four_records set_of_four (range_call (first_within 1 2) out)).answer
      ≡ accepted (listed (min 2 (length out / record_size)) 2 2)
  -- from 2 to 3: the leaves 100 and 101
  upper-listed : (outcome_on four_records set_of_four (range_call (first_within 2 3) out)).answer
      ≡ accepted (listed (min 3 (length out / record_size)) 3 2)
  -- from 0 to 1, where three records are stored: the leaf 0
  one-side-listed : (outcome_on (three_records 2) set_of_three (range_call (first_within 0 1) out)).answer
      ≡ accepted (listed (min 1 (length out / record_size)) 1 1)
  -- leaves inside, and all that are not empty
  edge-inside : inside_reads two_two (first_within 1 2) set_of_four ≡ 1
  edge-all : non_empty_leaves (division_of two_two set_of_four) ≡ 3

ranges : (out : List ℕ) → Ranges out
unfolding
    answered_by names_unused range_fits range_rises widths_of
    steps_below steps step step_number steps_of attribute_depth split_bit record_bytes value_fits encode
    box_of in_box number box_meets reply_to outcome division_of range_reads_of marked
ranges out =
    record {
      edge-listed = refl;
      upper-listed = refl;
      one-side-listed = refl;
      edge-inside = refl;
      edge-all = refl;
    }

-- the model's answer, on the store of four records
model-answer : (r : List (Option Interval)) {out out' : List ℕ} {answer : Answer Reply}
    → RangePromise four_records r out answer out' → answer ≡ (outcome_on four_records set_of_four (range_call r out)).answer
model-answer r p =
    let sound = sound_where-of-sound four_records (meeting two_two (box_of two_two r)) set_of_four four_records-sound in
    (p.answered-as set_of_four sound).0

-- ---- counts

module _ (out out' : List ℕ) (written total n : ℕ) where
  -- "Reads are the non-empty leaves whose box of values meets the query's.": those inside it alone, 1 of 2 ..
  pub reads-inside : RangePromise four_records (first_within 1 2) out
      (accepted (listed written total (inside_reads two_two (first_within 1 2) set_of_four))) out' → ⊥
  reads-inside p =
      let counts = model-answer (first_within 1 2) p ∙ (ranges out).edge-listed in
      let same = sym (ranges out).edge-inside ∙ listed-reads counts in
      omega (arith, same)

  -- .. and all that are not empty, as a scan reads them: 3 for 2
  pub reads_all : RangePromise four_records (first_within 1 2) out
      (accepted (listed written total (non_empty_leaves (division_of two_two set_of_four)))) out' → ⊥
  reads_all p =
      let counts = model-answer (first_within 1 2) p ∙ (ranges out).edge-listed in
      let same = sym (ranges out).edge-all ∙ listed-reads counts in
      omega (arith, same)

  -- "low to high, both included": without (3,1), whose value is the high end, there are 2 records of 3
  pub high-left-out : RangePromise four_records (first_within 2 3) out (accepted (listed written 2 n)) out' → ⊥
  high-left-out p =
      let same : ◌≡◌ {A = ℕ} 2 3 = listed-total (model-answer (first_within 2 3) p ∙ (ranges out).upper-listed) in
      omega (arith, same)

-- ---- refusals

-- "10, low above high in some attribute, checked after 3": 10 for attribute 0 from 3 to 1, where attribute 1 has an end
-- out of bounds; on a store that is not sound
pub ten-before-three : (out out' : List ℕ)
    → RangePromise word_past_pages (interval 3 1 ∷ interval 0 4 ∷ none ∷ none ∷ []) out (refused 10) out' → ⊥
unfolding
    first_number answered_by shape_conditions names_unused range_fits record_bytes lent_conditions range_refusals value_fits
    encode marked
ten-before-three out out' p =
    let same : ◌≡◌ {A = ℕ} 10 3 = refused-number (p.early-refused 2 refl (changed 0)) in
    omega (arith, same)

-- 9 where 10 is due, since the store is not sound
pub nine-for-ten : (out out' : List ℕ) → RangePromise word_past_pages (first_within 3 1) out (refused 9) out' → ⊥
unfolding
    first_number answered_by shape_conditions names_unused range_fits range_rises record_bytes lent_conditions range_refusals
    value_fits encode marked
nine-for-ten out out' p =
    let same : ◌≡◌ {A = ℕ} 9 10 = refused-number (p.early-refused 9 refl (changed 0)) in
    omega (arith, same)

-- "All of them return the number and change nothing", on any store: a refused range that clears its output
pub clears-when-refused : (n : ℕ)
    → RangePromise word_past_pages (first_within 3 1) (7 ∷ []) (refused n) (0 ∷ []) → ⊥
clears-when-refused n p =
    let same : ◌≡◌ {A = ℕ} 0 7 = ap (λ bytes. get_or bytes 0 0) (p.unchanged refl) in
    omega (arith, same)

-- ---- a scan of every page: "keeps document 01's rule for overwritten pages"

-- attribute 0 from 0 to 1 meets the leaf 0 alone: any other page 1 leaves the store sound where it reads
sound-but-for-page : (page : List ℕ) → length page ≡ page_size 2
    → SoundWhere (other_page page) (meeting two_two (box_of two_two (first_within 0 1))) set_of_three
unfolding
    widths_of steps_below steps step step_number steps_of attribute_depth record_bytes box_of number box_meets encode marked
sound-but-for-page page e = ((three_records 2).memory.bytes, three_records-sound-2, omega arith, same)
  where
    depth-one : (β : Bool) → suc (cond β 0 0) ≡ 1
    depth-one false = refl
    depth-one true = refl

    zero_bit : (β : Bool) → box_meets two_two (box_of two_two (first_within 0 1)) (list_bit (β ∷ [])) 1 ≡ true → β ≡ false
    zero_bit false h = refl
    zero_bit true h = absurd (false≢true h)

    same : SameWhere (three_records 2) (other_page page).memory.bytes
        (meeting two_two (box_of two_two (first_within 0 1))) set_of_three
    same p met g x within word =
        let first_bit : p 0 ≡ false = zero_bit (p 0) (rw (leaves-of-three, depth-one (p 0)) at met) in
        let leaf-word = ap word_of_three (sym first_bit) ∙ sym (word_at-three 2 p) ∙ word in
        let first-page : g ≡ 0 = omega (arith, within, leaf-word) in
        rw first-page

module _ (page out out' : List ℕ) (e : length page ≡ page_size 2) where
  -- whatever page 1 holds, one record is listed and one page read
  pub answer-but-for-page : (answer : Answer Reply) → RangePromise (other_page page) (first_within 0 1) out answer out'
      → answer ≡ accepted (listed (min 1 (length out / record_size)) 1 1)
  answer-but-for-page answer p =
      (p.answered-as set_of_three (sound-but-for-page page e)).0 ∙ (ranges out).one-side-listed

  -- a scan that finds a record inside there, or that stumbles over it
  pub scans-pages : (written n : ℕ)
      → RangePromise (other_page page) (first_within 0 1) out (accepted (listed written 2 n)) out' → ⊥
  scans-pages written n p =
      let same : ◌≡◌ {A = ℕ} 2 1 = listed-total (answer-but-for-page _ p) in
      omega (arith, same)

  pub nine-over-other-page : RangePromise (other_page page) (first_within 0 1) out (refused 9) out' → ⊥
  nine-over-other-page p = refused-not-accepted _ 9 (answer-but-for-page (refused 9) p)
