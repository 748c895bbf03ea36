-- Each way that it ends is a law of the word of the sibling's cell.
use Rattle.std.proofs.Common.{◌≡◌, ◌-◌, ℕ, List, sym, ap, ◌∙◌, subst, arith}
use Rattle.shape.specs.Shape.{widths_of, index_fits}
use Rattle.record.specs.Packed.{packed_key, unpacked_key}
use Rattle.store.specs.Store.{store}
use Rattle.store.specs.declared.State.{State}
use Rattle.refusals.specs.Passed.{Passed}
use Rattle.refusals.proofs.PassedLaws.{SixteenBits-passed, unpacked_key-passed, index_fits-passed}
use Rattle.change.specs.Delete.{AtSibling}
use Rattle.delete_siblings.specs.Siblings.{SiblingKey, SiblingFound}
use Rattle.delete_siblings.specs.declared.Sibling.{Sibling}
use Rattle.delete_plan.proofs.MetLaws.{directory_lent}
use Rattle.delete_plan.proofs.BesideLaws.{refused-sibling, held-sibling}
use Rattle.delete_plan.proofs.BesideLaws.{stays-empty, stays-deep, sibling_met}
use Rattle.delete_plan.proofs.plan_sibling.Goals as goal

-- the word of the sibling's cell, by the key's encodings
beside : (st : State) (words bytes encoded : List ℕ) (key z : ℕ) (r : Sibling) → Passed (store st words bytes) encoded
    → key ≡ packed_key encoded → SiblingFound st words key z r
    → AtSibling (store st words bytes) encoded z (λ w. r.word ≡ w)
beside st words bytes encoded key z r p e f =
    subst (λ v. AtSibling (store st words bytes) v z (λ w. r.word ≡ w))
    (ap unpacked_key e ∙ unpacked_key-passed (store st words bytes) encoded p) f.word

pub pack_key-packed-requires : goal.pack_key-packed-requires
pack_key-packed-requires c = SixteenBits-passed _ _ c.requires.found.leaf.passed

pub find_sibling-beside-requires : goal.find_sibling-beside-requires
find_sibling-beside-requires c =
    let a = c.args in
    let leaf = c.requires.found.leaf in
    record {
      lent = directory_lent (store a.state a.dir.now a.pages.now) a.encoded.values a.found.page a.found.depth leaf;
      below = omega (arith, c.requires.divided, leaf.deep);
      fits =
          ap (λ n. index_fits (widths_of a.state.shape) (unpacked_key n)) c.pack_key-packed.ensures
          ∙ index_fits-passed _ _ leaf.passed;
    }

pub sibling_word_holds-requires : goal.sibling_word_holds-requires
sibling_word_holds-requires c =
    let a = c.args in
    let leaf = c.requires.found.leaf in
    let lent = directory_lent (store a.state a.dir.now a.pages.now) a.encoded.values a.found.page a.found.depth leaf in
    (lent.short, omega (arith, leaf.deep, lent.short))

pub returns-then-not-sibling_word_holds : goal.returns-then-not-sibling_word_holds
returns-then-not-sibling_word_holds c =
    let a = c.args in
    let f = c.requires.found in
    refused-sibling (store a.state a.dir.now a.pages.now) a.encoded.values a.found f c.requires.divided _
    (beside a.state a.dir.now a.pages.now a.encoded.values _ _ _ f.leaf.passed c.pack_key-packed.ensures
    c.find_sibling-beside.ensures)
    (sym c.if-not-sibling_word_holds.ensures)

pub returns-in_default : goal.returns-in_default
returns-in_default c =
    let a = c.args in
    let before = store a.state a.dir.now a.pages.now in
    let f = c.requires.found in
    let d = c.requires.divided in
    let at = beside a.state a.dir.now a.pages.now a.encoded.values _ _ _ f.leaf.passed c.pack_key-packed.ensures
    c.find_sibling-beside.ensures in
    record {
      found = f;
      alone =
          stays-empty before a.encoded.values a.found f d _ at
          (held-sibling before a.encoded.values a.found f d _ at (sym c.if-not-sibling_word_holds.ensures)) _
          (sym c.unpack-sibling.ensures ∙ c.in_default.is);
    }

pub returns-then-depth-found : goal.returns-then-depth-found
returns-then-depth-found c =
    let a = c.args in
    let before = store a.state a.dir.now a.pages.now in
    let f = c.requires.found in
    let d = c.requires.divided in
    let at = beside a.state a.dir.now a.pages.now a.encoded.values _ _ _ f.leaf.passed c.pack_key-packed.ensures
    c.find_sibling-beside.ensures in
    record {
      found = f;
      alone =
          stays-deep before a.encoded.values a.found f d _ at
          (held-sibling before a.encoded.values a.found f d _ at (sym c.if-not-sibling_word_holds.ensures)) _ _
          (sym c.unpack-sibling.ensures ∙ c.in-Page.is) c.if-depth-found.true;
    }

pub plan_pair-requires : goal.plan_pair-requires
plan_pair-requires c =
    let a = c.args in
    let before = store a.state a.dir.now a.pages.now in
    let f = c.requires.found in
    let d = c.requires.divided in
    let at = beside a.state a.dir.now a.pages.now a.encoded.values _ _ _ f.leaf.passed c.pack_key-packed.ensures
    c.find_sibling-beside.ensures in
    sibling_met before a.encoded.values a.found f d _ at
    (held-sibling before a.encoded.values a.found f d _ at (sym c.if-not-sibling_word_holds.ensures)) _ _
    (sym c.unpack-sibling.ensures ∙ c.in-Page.is) c.if-depth-found.false a.mask c.requires.fixed _
    (subst (λ key. SiblingKey a.state.shape key (a.found.depth - 1) c.find_sibling-beside.result.key)
    c.pack_key-packed.ensures c.find_sibling-beside.ensures.beside)
