-- A refusal is what find and allocate tell, and each plan that is carried out keeps the promise.
use Rattle.std.proofs.Common.{◌≡◌, ℕ, List, refl, sym, subst, ◌∙◌, arith}
use Rattle.shape.specs.Key.{encodings}
use Rattle.record.specs.Lanes.{lane_difference}
use Rattle.store.specs.Promises.{key_number}
use Rattle.store.specs.Store.{Store, store}
use Rattle.refusals.specs.Passed.{Passed, OfValues}
use Rattle.refusals.proofs.PassedLaws.{passed, SixteenBits-passed}
use Rattle.insert_allocate.specs.Planned.{PageAllocated, InsertPlanned}
use Rattle.insert_promise.proofs.CallLaws.{lent-taken, by-taken, lent-got, word-asked, by-got}
use Rattle.insert_promise.proofs.DivideLaws.{leaves-asked, pages-lent, cut_fits, by-divided}
use Rattle.insert.proofs.add.Goals as goal

-- ---- the early refusals let the key pass

module _ (before : Store) (values encoded : List ℕ) (none : key_number before values ≡ 0)
    (same : encoded ≡ encodings before.state.shape values) where
  through : Passed before encoded
  through = subst (Passed before) (sym same) (passed before values none)

  -- what holds of all values with these encodings holds of the call's
  called : (X : List ℕ → Type 0) → OfValues before encoded X → X values
  called X told = told values none (sym same)

pub encode_key-encoded-requires : goal.encode_key-encoded-requires
encode_key-encoded-requires c = (passed _ _ c.requires).shape

pub find-found-requires : goal.find-found-requires
find-found-requires c =
    let a = c.args in
    through (store a.state a.dir.now a.pages.now) a.key.values _ c.requires c.encode_key-encoded.ensures

pub bias_key-requires : goal.bias_key-requires
bias_key-requires c = (passed _ _ c.requires).shape

pub pack_key-packed-requires : goal.pack_key-packed-requires
pack_key-packed-requires c =
    let a = c.args in
    SixteenBits-passed _ _
    (through (store a.state a.dir.now a.pages.now) a.key.values _ c.requires c.encode_key-encoded.ensures)

-- ---- refused

pub returns-in-Err : goal.returns-in-Err
returns-in-Err c =
    let a = c.args in
    let before = store a.state a.dir.now a.pages.now in
    let encoded = c.encode_key-encoded.result.values in
    called before a.key.values encoded c.requires c.encode_key-encoded.ensures _
    (subst (InsertPlanned before encoded) c.in-Err.is c.allocate.ensures) a.content

-- ---- the page is not full

pub insert_record-requires : goal.insert_record-requires
insert_record-requires c =
    let a = c.args in
    let before = store a.state a.dir.now a.pages.now in
    let encoded = c.encode_key-encoded.result.values in
    lent-taken before encoded a.content (omega arith) _ refl _ _ _ _
    (subst (PageAllocated before encoded) c.in-Take.is (subst (InsertPlanned before encoded) c.in-Ok.is c.allocate.ensures))

pub returns-in-Take : goal.returns-in-Take
returns-in-Take c =
    let a = c.args in
    let before = store a.state a.dir.now a.pages.now in
    let encoded = c.encode_key-encoded.result.values in
    called before a.key.values encoded c.requires c.encode_key-encoded.ensures _
    (by-taken before encoded a.content (omega arith) _
    (c.to_fields-fields.ensures ∙ (λ i. lane_difference (c.pack_key-packed.ensures i) (c.bias_key.ensures i))) _ _ _ _
    (subst (PageAllocated before encoded) c.in-Take.is (subst (InsertPlanned before encoded) c.in-Ok.is c.allocate.ensures)) _ c.insert_record.ensures)

-- ---- the page was null

pub insert_record-requires-in-Get : goal.insert_record-requires-in-Get
insert_record-requires-in-Get c =
    let a = c.args in
    let before = store a.state a.dir.now a.pages.now in
    let encoded = c.encode_key-encoded.result.values in
    let told = subst (PageAllocated before encoded) c.in-Get.is (subst (InsertPlanned before encoded) c.in-Ok.is c.allocate.ensures) in
    lent-got before encoded a.content (omega arith) _ refl _ _ told.0 told.1

pub set_word-requires : goal.set_word-requires
set_word-requires c =
    let a = c.args in
    let before = store a.state a.dir.now a.pages.now in
    let encoded = c.encode_key-encoded.result.values in
    let told = subst (PageAllocated before encoded) c.in-Get.is (subst (InsertPlanned before encoded) c.in-Ok.is c.allocate.ensures) in
    word-asked before encoded a.content (omega arith) _ refl _ _ told.0 told.1

pub returns-in-Get : goal.returns-in-Get
returns-in-Get c =
    let a = c.args in
    let before = store a.state a.dir.now a.pages.now in
    let encoded = c.encode_key-encoded.result.values in
    let told = subst (PageAllocated before encoded) c.in-Get.is (subst (InsertPlanned before encoded) c.in-Ok.is c.allocate.ensures) in
    called before a.key.values encoded c.requires c.encode_key-encoded.ensures _
    (by-got before encoded a.content (omega arith) _
    (c.to_fields-fields.ensures ∙ (λ i. lane_difference (c.pack_key-packed.ensures i) (c.bias_key.ensures i))) _ _
    told.0 told.1 _ c.set_word.ensures _ c.insert_record-in-Get.ensures)

-- ---- the page is full

pub set_words-requires : goal.set_words-requires
set_words-requires c =
    let a = c.args in
    let before = store a.state a.dir.now a.pages.now in
    let encoded = c.encode_key-encoded.result.values in
    let told = subst (PageAllocated before encoded) c.in-Divide.is (subst (InsertPlanned before encoded) c.in-Ok.is c.allocate.ensures) in
    leaves-asked before encoded a.content (omega arith) _ refl _ _ _ told.0 told.1 _ _ c.double-deeper.ensures

pub divide_pages-requires-clause-page_lent : goal.divide_pages-requires-clause-page_lent
divide_pages-requires-clause-page_lent c =
    let a = c.args in
    let before = store a.state a.dir.now a.pages.now in
    let encoded = c.encode_key-encoded.result.values in
    let told = subst (PageAllocated before encoded) c.in-Divide.is (subst (InsertPlanned before encoded) c.in-Ok.is c.allocate.ensures) in
    pages-lent before encoded a.content (omega arith) _ refl _ _ _ told.0 told.1

pub divide_pages-requires-clause-cut_fits : goal.divide_pages-requires-clause-cut_fits
divide_pages-requires-clause-cut_fits c =
    let a = c.args in
    let before = store a.state a.dir.now a.pages.now in
    let encoded = c.encode_key-encoded.result.values in
    let told = subst (PageAllocated before encoded) c.in-Divide.is (subst (InsertPlanned before encoded) c.in-Ok.is c.allocate.ensures) in
    cut_fits before encoded a.content (omega arith) _ refl _ _ _ told.0 told.1

pub returns-in-Divide : goal.returns-in-Divide
returns-in-Divide c =
    let a = c.args in
    let before = store a.state a.dir.now a.pages.now in
    let encoded = c.encode_key-encoded.result.values in
    let told = subst (PageAllocated before encoded) c.in-Divide.is (subst (InsertPlanned before encoded) c.in-Ok.is c.allocate.ensures) in
    called before a.key.values encoded c.requires c.encode_key-encoded.ensures _
    (by-divided before encoded a.content (omega arith) _
    (c.to_fields-fields.ensures ∙ (λ i. lane_difference (c.pack_key-packed.ensures i) (c.bias_key.ensures i))) _ _ _
    told.0 told.1 _ _ c.double-deeper.ensures _ c.set_words.ensures _ c.count_leaves-state.ensures _
    c.divide_pages.ensures)
