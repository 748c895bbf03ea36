-- Wrong inserts of document 01: each contradicts `InsertPromise` on a small sound store, whatever else it does, with
-- any payload where no premise says that it is not 0. Assumes nothing.
use Prim.Native.Nat.{ℕ, suc}
use mathlib.Core.Path.{◌≡◌, refl, sym, ap, ◌∙◌}
use mathlib.Core.Bool.{Bool, true, false, cond}
use mathlib.Core.List.{List, [], ◌∷◌}
use mathlib.Core.Logic.{⊎_elim}
use native.Mathlib.Omega.{arith}
use lib.ListN.{length, get_or}
use lib.Seq.{get_or-drop}
use Rattle.lists.proofs.Numbers.{eq-or-ne}
use Rattle.shape.specs.Key.{marked, bias, encode, decode, encode_field}
use Rattle.shape.specs.Refusal.{Answer, refused, is_refused}
use Rattle.region.specs.Strings.{empty_string, list_bit}
use Rattle.record.specs.declared.Content.{Content}
use Rattle.record.specs.Bytes.{record_bytes, record_of}
use Rattle.page.specs.Page.{count_of, records_of, page_at}
use Rattle.directory_word.specs.Word.{word_of}
use Rattle.directory_word.specs.declared.Leaf.TheVariants.{Page}
use Rattle.model.specs.Model.{Reply, content_of}
use Rattle.store.specs.Store.{Store, word_at}
use Rattle.store.specs.Promises.{InsertPromise}
use Rattle.table.specs.Table.{two_two, key}
use Rattle.refutation.specs.Stores.{record_at, no_record, one_record, set_of_one, two_records, set_of_two, three_records}
use Rattle.refutation.specs.Stores.{set_of_three}
use Rattle.refutation.proofs.ChangeLaws.{refusal-not-accepted, refused-number, depth-after, shows-after}
use Rattle.refutation.proofs.ChangeLaws.{kept-after, taken-after, answer-of-zero, store-of-zero}
use Rattle.refutation.proofs.ComputedLaws.{first_leaf, leaves-of-three, fitting, inserts, cells}
use Rattle.refutation.proofs.OneLeafSound.{no_record-sound, one_record-sound, two_records-sound}
use Rattle.refutation.proofs.TwoLeavesSound.{word_of_three, word_at-three}
use Rattle.refutation.proofs.TwoLeavesSound.{three_records-sound-2, three_records-sound-3}

-- ---- refused where it has to be accepted

module _ (content : Content) (after : Store) where
  -- "a store that turns down every insert" (review, 2)
  pub turned_down : (content.payload ≡ 0 → ⊥) → (answer : Answer Reply) → is_refused answer ≡ true
      → InsertPromise no_record (key 0 0) content answer after → ⊥
  turned_down some answer refusal p =
      refusal-not-accepted _ answer refusal (p.answered-as [] no_record-sound ∙ (inserts content some).first-answer)

  -- any number but 11, that of payload 0
  other-number : (n : ℕ) → (n ≡ 11 → ⊥) → InsertPromise no_record (key 0 0) content (refused n) after → ⊥
  other-number n apart p =
      ⊎_elim (λ zero. apart (refused-number (answer-of-zero content p fitting.first zero)))
      (λ some. turned_down some (refused n) refl p) (eq-or-ne content.payload 0)

  -- "an insert that replies "no page" without looking" (review, 2)
  pub no-page : InsertPromise no_record (key 0 0) content (refused 7) after → ⊥
  no-page = other-number 7 (λ e. omega (arith, e))

  -- "On a sound store 9 is never given."
  pub nine-when-sound : InsertPromise no_record (key 0 0) content (refused 9) after → ⊥
  nine-when-sound = other-number 9 (λ e. omega (arith, e))

module _ (content : Content) (answer : Answer Reply) (after : Store) where
  -- ---- what it leaves

  -- "an insert that accepts and stores nothing" (review, 3): words and pages stay, whatever the state is
  pub stores-nothing : (content.payload ≡ 0 → ⊥) → InsertPromise no_record (key 0 0) content answer after
      → after.memory ≡ no_record.memory → ⊥
  stores-nothing some p e =
      let told = rw e at ((shows-after [] p no_record-sound _ (inserts content some).first-leaves).word empty_string) in
      let page : 0 ≡ word_of (Page told.0 0) = sym ((cells no_record.memory.words).root empty_string) ∙ told.2 in
      omega (arith, page)

  -- "One division is made when all b + 1 keys fall on one side" (faults)
  pub one-division : InsertPromise two_records (key 2 1) content answer after → after.state.deepest ≡ 1 → ⊥
  one-division p e = ⊎_elim as_before divided (eq-or-ne content.payload 0)
    where
      as_before : content.payload ≡ 0 → ⊥
      as_before zero =
          let T = ap (λ s. s.state.deepest) (store-of-zero content p fitting.third zero) in
          omega (arith, T, e)

      divided : (content.payload ≡ 0 → ⊥) → ⊥
      divided some =
          let T = depth-after set_of_two p two_records-sound _ (inserts content some).third-leaves in
          omega (arith, T, e)

  -- "one that divides correctly the first time and later only sets T" (review, 3)
  pub only-sets-depth : (content.payload ≡ 0 → ⊥) → InsertPromise (three_records 3) (key 2 1) content answer after
      → after.memory.words ≡ (three_records 3).memory.words → ⊥
  only-sets-depth some p e =
      let shows = shows-after set_of_three p three_records-sound-3 _ (inserts content some).fourth-leaves in
      let told = shows.word (list_bit (false ∷ true ∷ false ∷ [])) in
      let page : 0 ≡ word_of (Page told.0 1) =
      ap (λ words. get_or words 2 0) (sym e) ∙ sym (cells after.memory.words).at-2 ∙ told.2 in
      omega (arith, page)

  -- "Index bits are taken with the last prefix bit as weight 1, so doubling moves cells" (faults): the leaf 100 is put
  -- at the index vector (2,0) in place of (1,0)
  pub last-bit-first : InsertPromise (three_records 3) (key 2 1) content answer after
      → (g : ℕ) → get_or after.memory.words 4 0 ≡ word_of (Page g 3) → ⊥
  last-bit-first p g e = ⊎_elim as_before divided (eq-or-ne content.payload 0)
    where
      as_before : content.payload ≡ 0 → ⊥
      as_before zero =
          let word : get_or after.memory.words 4 0 ≡ 0 =
          ap (λ s. get_or s.memory.words 4 0) (store-of-zero content p fitting.fourth zero) in
          omega (arith, word, e)

      divided : (content.payload ≡ 0 → ⊥) → ⊥
      divided some =
          let shows = shows-after set_of_three p three_records-sound-3 _ (inserts content some).fourth-leaves in
          let told = shows.word (list_bit (false ∷ false ∷ true ∷ [])) in
          let page : word_of (Page g 3) ≡ word_of (Page told.0 1) =
          sym e ∙ sym (cells after.memory.words).at-4 ∙ told.2 in
          omega (arith, page, told.1)

  -- ---- refusals that change the store

  unchanged-when-full : InsertPromise (three_records 2) (key 2 1) content answer after → after ≡ three_records 2
  unchanged-when-full p =
      ⊎_elim (λ zero. store-of-zero content p fitting.fourth-full zero)
      (λ some. p.unchanged
      (ap is_refused (p.answered-as set_of_three three_records-sound-2 ∙ (inserts content some).fourth-refused)))
      (eq-or-ne content.payload 0)

  -- "The directory doubles before 7 is found" (faults): T is one more, or word 2 is the copy of word 0
  pub doubles-before-refusal : InsertPromise (three_records 2) (key 2 1) content answer after
      → after.state.deepest ≡ 2 → ⊥
  doubles-before-refusal p e = let T = ap (λ s. s.state.deepest) (unchanged-when-full p) in omega (arith, T, e)

  pub copies-before-refusal : InsertPromise (three_records 2) (key 2 1) content answer after
      → get_or after.memory.words 2 0 ≡ word_of (Page 0 1) → ⊥
  copies-before-refusal p e =
      let word : get_or after.memory.words 2 0 ≡ 0 = ap (λ s. get_or s.memory.words 2 0) (unchanged-when-full p) in
      omega (arith, word, e)

  -- "All of them return the number and change nothing.": no byte, within a page's count or past it
  pub writes-before-refusal : InsertPromise (three_records 2) (key 2 1) content answer after
      → (k : ℕ) → (get_or after.memory.bytes k 0 ≡ get_or (three_records 2).memory.bytes k 0 → ⊥) → ⊥
  writes-before-refusal p k apart = apart (ap (λ s. get_or s.memory.bytes k 0) (unchanged-when-full p))

  -- ---- what is never changed

  -- "Words past the first 2^L .. are never changed."
  pub writes-past-words : (values : List ℕ) → InsertPromise no_record values content answer after
      → get_or after.memory.words 8 0 ≡ 1 → ⊥
  writes-past-words values p e =
      let word : get_or after.memory.words 8 0 ≡ 0 =
      sym (get_or-drop 8 after.memory.words 0 0) ∙ ap (λ ws. get_or ws 0 0) p.words-past in
      omega (arith, word, e)

  -- ".. and bytes past the P pages"
  pub writes-past-pages : (values : List ℕ) → InsertPromise no_record values content answer after
      → get_or after.memory.bytes 79 0 ≡ 1 → ⊥
  writes-past-pages values p e =
      let byte : get_or after.memory.bytes 79 0 ≡ 0 =
      sym (get_or-drop 78 after.memory.bytes 1 0) ∙ ap (λ bs. get_or bs 1 0) p.bytes_past in
      omega (arith, byte, e)

  -- a state with other widths past d
  pub changes-shape : (values : List ℕ) → InsertPromise no_record values content answer after
      → after.state.shape.widths ≡ 2 ∷ 2 ∷ 7 ∷ 9 ∷ [] → ⊥
  changes-shape values p e =
      let width : ◌≡◌ {A = ℕ} 7 0 = ap (λ ws. get_or ws 2 0) (sym e ∙ ap (λ s. s.widths) p.shape-kept) in
      omega (arith, width)

  -- ---- pages

  -- the leaf of (0,0) has page 0 afterwards too
  word_after : InsertPromise one_record (key 0 1) content answer after
      → get_or after.memory.words 0 0 ≡ word_of (Page 0 0)
  word_after p = ⊎_elim as_before kept (eq-or-ne content.payload 0)
    where
      as_before : content.payload ≡ 0 → get_or after.memory.words 0 0 ≡ word_of (Page 0 0)
      as_before zero = ap (λ s. get_or s.memory.words 0 0) (store-of-zero content p fitting.second zero)

      kept : (content.payload ≡ 0 → ⊥) → get_or after.memory.words 0 0 ≡ word_of (Page 0 0)
      kept some =
          sym ((cells after.memory.words).root empty_string)
          ∙ kept-after set_of_one p one_record-sound _ (inserts content some).second-leaves _ first_leaf
          empty_string refl refl 0 0 (omega arith) ((cells one_record.memory.words).root empty_string)

  -- "Every other leaf keeps its page.": it moves from page 0 to page 1
  pub moves-page : InsertPromise one_record (key 0 1) content answer after
      → get_or after.memory.words 0 0 ≡ word_of (Page 1 0) → ⊥
  moves-page p e =
      let page : word_of (Page 1 0) ≡ word_of (Page 0 0) = sym e ∙ word_after p in
      omega (arith, page)

  -- a leaf that has room takes the record into its page, beside those that it has
  records-after : (content.payload ≡ 0 → ⊥) → InsertPromise one_record (key 0 1) content answer after
      → records_of two_two (page_at 2 after.memory.bytes 0)
      ≡ record_at 0 0 10 ∷ record { key = key 0 1; content = content } ∷ []
  records-after some p =
      let told = (shows-after set_of_one p one_record-sound _ (inserts content some).second-leaves).word empty_string in
      let page : word_of (Page told.0 0) ≡ word_of (Page 0 0) =
      sym told.2 ∙ (cells after.memory.words).root empty_string ∙ word_after p in
      let first : told.0 ≡ 0 = omega (arith, page) in
      rw first at told.3

  -- the record that it had is lost, or the new one is not there
  pub drops-other : InsertPromise one_record (key 0 1) content answer after
      → records_of two_two (page_at 2 after.memory.bytes 0) ≡ record { key = key 0 1; content = content } ∷ [] → ⊥
  unfolding record_bytes record_of encode decode encode_field marked bias
  drops-other p e = ⊎_elim as_before beside (eq-or-ne content.payload 0)
    where
      as_before : content.payload ≡ 0 → ⊥
      as_before zero =
          let same = store-of-zero content p fitting.second zero in
          let had : set_of_one ≡ record { key = key 0 1; content = content } ∷ [] =
          ap (λ s. records_of two_two (page_at 2 s.memory.bytes 0)) (sym same) ∙ e in
          let payload : 10 ≡ content.payload = ap (λ rs. (content_of rs).payload) had in
          omega (arith, payload, zero)

      beside : (content.payload ≡ 0 → ⊥) → ⊥
      beside some = let count = ap length (sym e ∙ records-after some p) in omega (arith, count)

  pub not_taken : (content.payload ≡ 0 → ⊥) → InsertPromise one_record (key 0 1) content answer after
      → records_of two_two (page_at 2 after.memory.bytes 0) ≡ set_of_one → ⊥
  not_taken some p e = let count = ap length (sym e ∙ records-after some p) in omega (arith, count)

  -- "which page a leaf that newly gets one takes, of those free, divided or joined": the leaf 101 takes page 0, which
  -- the leaf 0 has
  pub takes-used-page : InsertPromise (three_records 3) (key 2 1) content answer after
      → get_or after.memory.words 6 0 ≡ word_of (Page 0 3) → ⊥
  takes-used-page p e = ⊎_elim as_before taken (eq-or-ne content.payload 0)
    where
      as_before : content.payload ≡ 0 → ⊥
      as_before zero =
          let word : get_or after.memory.words 6 0 ≡ 0 =
          ap (λ s. get_or s.memory.words 6 0) (store-of-zero content p fitting.fourth zero) in
          omega (arith, word, e)

      had : word_at two_two 1 (three_records 3).memory.words (list_bit (true ∷ false ∷ true ∷ [])) ≡ word_of (Page 0 3) → ⊥
      had w = let other = sym (word_at-three 3 (list_bit (true ∷ false ∷ true ∷ []))) ∙ w in omega (arith, other)

      not_free : count_of (page_at 2 (three_records 3).memory.bytes 0) ≡ 0 → ⊥
      not_free n = let one : ◌≡◌ {A = ℕ} 1 0 = n in omega (arith, one)

      -- leaf 0 stays
      of-leaf : (β : Bool) (n y : ℕ) → word_of_three β ≡ word_of (Page 0 y) → (suc (cond β 0 0) ≡ suc (cond β n 0) → ⊥) → ⊥
      of-leaf false n y w apart = apart refl
      of-leaf true n y w apart = omega arith

      taken : (content.payload ≡ 0 → ⊥) → ⊥
      taken some =
          ⊎_elim had
          (λ o. ⊎_elim not_free (λ o. of-leaf (o.0 0) _ o.1 (sym (word_at-three 3 o.0) ∙ o.2) o.3) o)
          (taken-after set_of_three p three_records-sound-3 _ (inserts content some).fourth-leaves _ leaves-of-three
          (list_bit (true ∷ false ∷ true ∷ [])) 0 3 (omega arith) ((cells after.memory.words).at-6 ∙ e))
