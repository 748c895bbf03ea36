-- Wrong programs of document 02, request 5: each contradicts `SavePromise` or `LoadPromise` on a small store or file.
-- Assumes nothing.
use Prim.Native.Nat.{ℕ, suc, ◌+◌, ◌-◌, ◌*◌}
use mathlib.Core.Path.{◌≡◌, refl, sym, ap, ◌∙◌}
use mathlib.Core.Bool.{true}
use mathlib.Core.List.{List, ◌++◌}
use mathlib.Core.Logic.{⊎_elim}
use native.Mathlib.Omega.{arith}
use lib.ListN.{length, get_or, drop, replicate}
use lib.Seq.{get_or-append-add}
use Rattle.shape.specs.Refusal.{Answer, accepted, refused, is_refused, first_number}
use Rattle.shape.specs.Amiss.{refused_for}
use Rattle.shape.specs.Shape.{shape_conditions, widths_of}
use Rattle.shape.specs.Key.{marked, bias, decode, encode_field}
use Rattle.shape.proofs.RefusalLaws.{answered_by-named}
use Rattle.split.specs.Steps.{steps_below, steps, step}
use Rattle.split.specs.Bits.{split_bit}
use Rattle.record.specs.Record.{Record}
use Rattle.record.specs.Bytes.{record_size, record_bytes, record_of}
use Rattle.model.specs.Limits.{logarithm, page_limit_of, depth_limit_of, fresh_shape, fixed_by}
use Rattle.model.specs.Sets.{is_set, division_of}
use Rattle.store.specs.Store.{Store, Memory, lent_conditions}
use Rattle.store.specs.Sound.{Sound}
use Rattle.store.specs.Fresh.{fresh_state}
use Rattle.store.specs.Promises.{SoundWhere}
use Rattle.store.proofs.OneSetLaws.{one_set}
use Rattle.store.proofs.ReadLaws.{sound_where-of-sound}
use Rattle.file.specs.File.{file_size, end_bytes, file_of, file_shape, file_records, is_whole, is_plain}
use Rattle.file.specs.Loading.{load_refusals, load_number}
use Rattle.file.specs.Promises.{every_leaf, SavePromise, LoadPromise}
use Rattle.file.proofs.LoadingLaws.{named-load, answered_by-load}
use Rattle.table.specs.Table.{two_two}
use Rattle.refutation.specs.Files.{file_with, shape_with, same_keys, falling, count_wraps, slices}
use Rattle.refutation.specs.Stores.{set_of_one, set_of_zero, set_of_four, four_records, two_two_marked}
use Rattle.refutation.specs.Stores.{word_past_marked}
use Rattle.refutation.proofs.ChangeLaws.{refused-not-accepted, refusal-not-accepted, refused-number}
use Rattle.refutation.proofs.FourLeavesSound.{four_records-sound}

-- ---- the numbers of small files, computed from the definitions

pub record Loads : Type 0 where
  pub four : load_number (file_of two_two set_of_four) (slices 8 78) ≡ 0
  pub four-again : load_number (file_of two_two set_of_four) (slices 8 104) ≡ 0
  pub zero-payload : load_number (file_of two_two set_of_zero) (slices 8 78) ≡ 0
  pub few_words : load_number (file_of two_two set_of_four) (slices 7 78) ≡ 6
  pub few-pages : load_number (file_of two_two set_of_four) (slices 8 77) ≡ 7
  pub few-of-both : load_number (file_of two_two set_of_four) (slices 7 77) ≡ 6
  pub last_byte : load_number (file_with set_of_one (shape_with 0 1)) (slices 0 0) ≡ 13
  pub stray-mark : load_number (file_with set_of_one (shape_with 4 0)) (slices 8 78) ≡ 13
  pub same-keys : load_number same_keys (slices 8 78) ≡ 13
  pub not-rising : load_number falling (slices 8 78) ≡ 13
  pub wraps : load_number count_wraps (slices 8 78) ≡ 12

loads : Loads
unfolding
    first_number shape_conditions widths_of marked bias decode encode_field steps_below steps step split_bit
    record_bytes record_of logarithm page_limit_of depth_limit_of fresh_shape fixed_by is_set division_of end_bytes file_of
    file_shape file_records is_whole is_plain load_refusals
loads =
    record {
      four = refl;
      four-again = refl;
      zero-payload = refl;
      few_words = refl;
      few-pages = refl;
      few-of-both = refl;
      last_byte = refl;
      stray-mark = refl;
      same-keys = refl;
      not-rising = refl;
      wraps = refl;
    }

-- what the file of four records says, and the P that Fresh fixes from four pages
four-read : file_records (file_of two_two set_of_four) ≡ set_of_four
unfolding
    widths_of marked bias decode encode_field record_bytes record_of end_bytes file_of file_shape file_records
four-read = refl

four-pages : (fresh_state (file_shape (file_of two_two set_of_four)) (slices 8 104)).limits.pages ≡ 4
unfolding
    widths_of marked bias decode record_bytes end_bytes file_of file_shape page_limit_of fresh_state
four-pages = refl

-- ---- load

module _ {file : List ℕ} {m : Memory} {answer : Answer (Unit {0})} {after : Store}
    (p : LoadPromise file m answer after) where
  answer-accepted : load_number file m ≡ 0 → answer ≡ accepted tt
  answer-accepted e = p.answered-as ∙ answered_by-load file m e

  answer-refused : (n : ℕ) → load_number file m ≡ suc n → answer ≡ refused_for (file_shape file) (suc n)
  answer-refused n e =
      p.answered-as ∙ answered_by-named (file_shape file) tt (load_refusals file m) (named-load file m) n e

module _ (after : Store) where
  -- "A stored payload of 0 loads.": a load by the public insert, which gives 11, or any other number
  pub zero-refused : (answer : Answer (Unit {0})) → is_refused answer ≡ true
      → LoadPromise (file_of two_two set_of_zero) (slices 8 78) answer after → ⊥
  zero-refused answer refusal p = refusal-not-accepted tt answer refusal (answer-accepted p loads.zero-payload)

  -- "then 13, straight before 2": 2 for slices of length 0, where the shape's last byte is not 0
  pub two-before-thirteen : LoadPromise (file_with set_of_one (shape_with 0 1)) (slices 0 0) (refused 2) after → ⊥
  two-before-thirteen p = apart (refused-number (answer-refused p 12 loads.last_byte))
    where
      apart : ◌≡◌ {A = ℕ} 2 13 → ⊥
      apart e = omega (arith, e)

  -- "records not strictly rising": equal keys, or falling ones, accepted
  pub equal-keys : LoadPromise same_keys (slices 8 78) (accepted tt) after → ⊥
  equal-keys p = refused-not-accepted tt 13 (sym (answer-refused p 12 loads.same-keys))

  pub falling-keys : LoadPromise falling (slices 8 78) (accepted tt) after → ⊥
  falling-keys p = refused-not-accepted tt 13 (sym (answer-refused p 12 loads.not-rising))

  -- "a mark bit without an attribute that is not 0": cleared as by Fresh, and accepted
  pub mark-cleared : LoadPromise (file_with set_of_one (shape_with 4 0)) (slices 8 78) (accepted tt) after → ⊥
  mark-cleared p = refused-not-accepted tt 13 (sym (answer-refused p 12 loads.stray-mark))

  -- 7 with empty leaves counted: the four records have three non-empty leaves and an empty one, and there are three
  -- pages
  pub empty-leaves-counted : LoadPromise (file_of two_two set_of_four) (slices 8 78) (refused 7) after → ⊥
  empty-leaves-counted p = refused-not-accepted tt 7 (answer-accepted p loads.four)

  -- "6 and 7 at the first record that meets them": 7 where one record meets both
  pub seven-before-six : LoadPromise (file_of two_two set_of_four) (slices 7 77) (refused 7) after → ⊥
  seven-before-six p = apart (refused-number (answer-refused p 5 loads.few-of-both))
    where
      apart : ◌≡◌ {A = ℕ} 7 6 → ⊥
      apart e = omega (arith, e)

module _ (answer : Answer (Unit {0})) (after : Store) where
  -- "distances not those of its count": 24 + 12n made modulo 2^32
  pub count-wraps : LoadPromise count_wraps (slices 8 78) answer after → (answer ≡ refused 12 → ⊥) → ⊥
  count-wraps p other = other (answer-refused p 11 loads.wraps)

  -- "change nothing": word 0 is cleared before 6 is found
  pub clears-before-six : LoadPromise (file_of two_two set_of_four) (slices 7 78) answer after
      → get_or after.memory.words 0 0 ≡ 0 → ⊥
  clears-before-six p e =
      let kept = p.memory_kept (ap is_refused (answer-refused p 5 loads.few_words)) in
      apart (sym (ap (λ m. get_or m.words 0 0) kept) ∙ e)
    where
      apart : ◌≡◌ {A = ℕ} 1 0 → ⊥
      apart z = omega (arith, z)

  -- and so is a count before 7
  pub clears-before-seven : LoadPromise (file_of two_two set_of_four) (slices 8 77) answer after
      → get_or after.memory.bytes 0 0 ≡ 0 → ⊥
  clears-before-seven p e =
      let kept = p.memory_kept (ap is_refused (answer-refused p 6 loads.few-pages)) in
      apart (sym (ap (λ m. get_or m.bytes 0 0) kept) ∙ e)
    where
      apart : ◌≡◌ {A = ℕ} 1 0 → ⊥
      apart z = omega (arith, z)

  -- a load that is accepted and leaves another set: none, or one record less
  pub other-set : LoadPromise (file_of two_two set_of_four) (slices 8 78) answer after → (U : List Record)
      → Sound after U → (U ≡ set_of_four → ⊥) → ⊥
  other-set p U sound other =
      other (one_set after U _ sound (p.shown (answer-accepted p loads.four)) ∙ four-read)

  -- "with P and L set as by Fresh": the P of the slices that the store was saved from
  pub pages-of-old : LoadPromise (file_of two_two set_of_four) (slices 8 104) answer after
      → after.state.limits.pages ≡ 3 → ⊥
  pages-of-old p e =
      apart (sym (ap (λ l. l.pages) (p.limits-as (answer-accepted p loads.four-again)) ∙ four-pages) ∙ e)
    where
      apart : ◌≡◌ {A = ℕ} 4 3 → ⊥
      apart z = omega (arith, z)

-- ---- save

four-where : SoundWhere four_records every_leaf set_of_four
four-where = sound_where-of-sound four_records every_leaf set_of_four four_records-sound

-- the file's bytes behind an output of one byte more
four-behind : get_or (file_of two_two set_of_four ++ drop 72 (replicate 73 1)) 72 0 ≡ 1
unfolding widths_of marked bias decode record_bytes end_bytes file_of
four-behind = refl

module _ (out' : List ℕ) where
  -- "On a sound store 9 is never given."
  pub nine-when-sound : SavePromise four_records (replicate 72 1) (refused 9) out' → ⊥
  unfolding first_number
  nine-when-sound p = refused-not-accepted 72 9 (p.saved-as set_of_four four-where).0

  -- "returns their number": the count of records, or the bytes of the records alone
  pub other-size : (n : ℕ) → SavePromise four_records (replicate 72 1) (accepted n) out' → (n ≡ 72 → ⊥) → ⊥
  unfolding first_number
  other-size n p other = other (accepted-size (p.saved-as set_of_four four-where).0)
    where
      accepted-size : ◌≡◌ {A = Answer ℕ} (accepted n) (accepted 72) → n ≡ 72
      accepted-size e = cc

  module _ (answer : Answer ℕ) where
    -- "gives 2 if they don't fit": the trailer, or anything, written before the fit is known
    pub writes-before-fit : SavePromise four_records (replicate 71 1) answer out' → (out' ≡ replicate 71 1 → ⊥) → ⊥
    unfolding first_number
    writes-before-fit p other = other (p.saved-as set_of_four four-where).1

    -- "writes the file's bytes only": a byte behind it
    pub writes-behind : SavePromise four_records (replicate 73 1) answer out' → get_or out' 72 0 ≡ 0 → ⊥
    unfolding first_number
    writes-behind p e =
        apart (sym (ap (λ bytes. get_or bytes 72 0) (p.saved-as set_of_four four-where).1 ∙ four-behind) ∙ e)
      where
        apart : ◌≡◌ {A = ℕ} 1 0 → ⊥
        apart z = omega (arith, z)

-- "written 0 where there is no attribute": the marks as they are held, 4 of which marks no attribute, in the byte 18
-- before the file's end; on a store that is not sound
pub mark-written : (out out' : List ℕ) (k : ℕ) → SavePromise (word_past_marked 5) out (accepted k) out'
    → get_or out' (k - 18) 0 ≡ 5 → ⊥
unfolding first_number shape_conditions lent_conditions end_bytes widths_of record_bytes
mark-written out out' k p e =
    ⊎_elim (λ file. written file.0 file.1 (accepted-size file.3) file.5 file.6)
    (⊎_elim (λ two. refused-not-accepted k 2 (sym two.0)) (λ nine. refused-not-accepted k 9 (sym nine)))
    (p.ordinary refl)
  where
    accepted-size : {n : ℕ} → ◌≡◌ {A = Answer ℕ} (accepted k) (accepted n) → k ≡ n
    accepted-size d = cc

    apart : ◌≡◌ {A = ℕ} 1 5 → ⊥
    apart z = omega (arith, z)

    written : (n : ℕ) (body : List ℕ) → k ≡ file_size n → length body ≡ record_size * n
        → out' ≡ body ++ (end_bytes (two_two_marked 5) n ++ drop (file_size n) out) → ⊥
    written n body size long bytes =
        let end = end_bytes (two_two_marked 5) n ++ drop (file_size n) out in
        let place : k - 18 ≡ length body + 6 = omega (arith, size, long) in
        apart (sym (get_or-append-add body end 6 0) ∙ ap (λ i. get_or (body ++ end) i 0) (sym place)
        ∙ ap (λ bs. get_or bs (k - 18) 0) (sym bytes) ∙ e)
