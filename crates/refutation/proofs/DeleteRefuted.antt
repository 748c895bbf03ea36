-- Wrong deletes of document 01: each contradicts `DeletePromise` on a small sound store, whatever else it does.
-- Assumes nothing.
use Prim.Native.Nat.{ℕ}
use mathlib.Core.Path.{◌≡◌, refl, sym, ap, ◌∙◌}
use mathlib.Core.Bool.{true}
use mathlib.Core.List.{[], ◌∷◌}
use native.Mathlib.Omega.{arith}
use lib.ListN.{length, get_or}
use Rattle.shape.specs.Refusal.{Answer, accepted, is_refused}
use Rattle.region.specs.Strings.{empty_string}
use Rattle.page.specs.Page.{count_of, records_of, page_at}
use Rattle.directory_word.specs.Word.{word_of}
use Rattle.directory_word.specs.declared.Leaf.TheVariants.{Empty, Page}
use Rattle.model.specs.Model.{Reply, content_of}
use Rattle.store.specs.Store.{Store}
use Rattle.store.specs.Promises.{DeletePromise}
use Rattle.table.specs.Table.{two_two, key}
use Rattle.refutation.specs.Stores.{record_at, no_record, one_record, set_of_one, two_records, set_of_two, four_records}
use Rattle.refutation.specs.Stores.{set_of_four}
use Rattle.refutation.proofs.ChangeLaws.{refusal-not-accepted, depth-after, shows-after, kept-after}
use Rattle.refutation.proofs.ComputedLaws.{leaf-of-two, deletes, cells}
use Rattle.refutation.proofs.OneLeafSound.{no_record-sound, one_record-sound, two_records-sound}
use Rattle.refutation.proofs.FourLeavesSound.{four_records-sound}

module _ (after : Store) where
  -- 5 "delete on a fresh store"
  pub accepts-absent : (r : Reply) → DeletePromise no_record (key 0 0) (accepted r) after → ⊥
  accepts-absent r p =
      refusal-not-accepted r _ refl (sym (p.answered-as [] no_record-sound ∙ deletes.absent-answer))

  -- 5, 9 or another number for a stored key, with a depth or without
  pub turned_down : (answer : Answer Reply) → is_refused answer ≡ true → DeletePromise one_record (key 0 0) answer after
      → ⊥
  turned_down answer refusal p =
      refusal-not-accepted _ answer refusal (p.answered-as set_of_one one_record-sound ∙ deletes.only-answer)

module _ (answer : Answer Reply) (after : Store) where
  -- "an emptied page is free again": its count stays
  pub keeps-count : DeletePromise one_record (key 0 0) answer after
      → count_of (page_at 2 after.memory.bytes 0) ≡ 1 → ⊥
  keeps-count p e =
      let shows = shows-after set_of_one p one_record-sound _ deletes.only-leaves in
      let none : count_of (page_at 2 after.memory.bytes 0) ≡ 0 =
      shows.free 0 (omega arith) (λ q x w. let page = sym (shows.word q) ∙ w in omega (arith, page)) in
      omega (arith, none, e)

  -- "the directory halves with T": T stays
  pub keeps-depth : DeletePromise four_records (key 2 1) answer after → after.state.deepest ≡ 3 → ⊥
  keeps-depth p e =
      let T = depth-after set_of_four p four_records-sound _ deletes.joined-leaves in
      omega (arith, T, e)

  -- "Delete joins one level only" (faults): 100 with 101, but not 10 with 11
  pub joins-one-level : DeletePromise four_records (key 2 1) answer after → after.state.deepest ≡ 2 → ⊥
  joins-one-level p e =
      let T = depth-after set_of_four p four_records-sound _ deletes.joined-leaves in
      omega (arith, T, e)

  -- ".. or joins with a sibling that is divided" (faults): the emptied leaf 0 with 1, so that T is 0, or word 0 has the
  -- page of 100
  pub joins-divided : DeletePromise four_records (key 0 0) answer after → after.state.deepest ≡ 0 → ⊥
  joins-divided p e =
      let T = depth-after set_of_four p four_records-sound _ deletes.emptied-leaves in
      omega (arith, T, e)

  pub takes-page-of-divided : DeletePromise four_records (key 0 0) answer after
      → get_or after.memory.words 0 0 ≡ word_of (Page 1 0) → ⊥
  takes-page-of-divided p e =
      let shows = shows-after set_of_four p four_records-sound _ deletes.emptied-leaves in
      let word : word_of (Page 1 0) ≡ word_of (Empty 1) =
      sym e ∙ sym (cells after.memory.words).at-0 ∙ shows.word empty_string in
      omega (arith, word)

  -- ---- one of several records

  -- the leaf keeps its page and the other record
  records-after : DeletePromise two_records (key 2 0) answer after
      → records_of two_two (page_at 2 after.memory.bytes 0) ≡ record_at 3 1 12 ∷ []
  records-after p =
      let kept = kept-after set_of_two p two_records-sound _ deletes.rest-leaves _ leaf-of-two in
      let same = kept empty_string refl refl 0 0 (omega arith) ((cells two_records.memory.words).root empty_string) in
      let told = (shows-after set_of_two p two_records-sound _ deletes.rest-leaves).word empty_string in
      let page : word_of (Page told.0 0) ≡ word_of (Page 0 0) = sym told.2 ∙ same in
      let first : told.0 ≡ 0 = omega (arith, page) in
      rw first at told.3

  -- done, and the record is left; the other is lost with it; the other is removed in its place
  pub leaves-record : DeletePromise two_records (key 2 0) answer after
      → records_of two_two (page_at 2 after.memory.bytes 0) ≡ set_of_two → ⊥
  leaves-record p e = let count = ap length (sym e ∙ records-after p) in omega (arith, count)

  pub drops-other : DeletePromise two_records (key 2 0) answer after
      → records_of two_two (page_at 2 after.memory.bytes 0) ≡ [] → ⊥
  drops-other p e = let count = ap length (sym e ∙ records-after p) in omega (arith, count)

  pub removes-other : DeletePromise two_records (key 2 0) answer after
      → records_of two_two (page_at 2 after.memory.bytes 0) ≡ record_at 2 0 11 ∷ [] → ⊥
  removes-other p e =
      let payload : ◌≡◌ {A = ℕ} 11 12 = ap (λ rs. (content_of rs).payload) (sym e ∙ records-after p) in
      omega (arith, payload)
