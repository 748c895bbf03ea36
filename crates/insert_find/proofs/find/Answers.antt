-- The early refusals and the limits leave what each step asks.
use Rattle.std.proofs.Common.{sym, ap, ◌∙◌}
use native.Mathlib.Nat.{le_trans}
use lib.Pow.{pow_mono}
use Rattle.shape.specs.Shape.{widths_of, index_fits}
use Rattle.record.specs.Packed.{unpacked_key}
use Rattle.store.specs.Store.{store}
use Rattle.refusals.proofs.PassedLaws.{SixteenBits-passed, unpacked_key-passed, index_fits-passed}
use Rattle.leaf_word.proofs.WordLaws.{key-word-asks, key-word-is}
use Rattle.insert_planned.proofs.RefusalLaws.{nine-limits, nine-word, asked}
use Rattle.insert_find.proofs.find.Goals as goal

pub limits_hold-requires : goal.limits_hold-requires
limits_hold-requires c = c.requires.shape

pub returns-then-not-limits_hold : goal.returns-then-not-limits_hold
returns-then-not-limits_hold c =
    let a = c.args in
    nine-limits (store a.state a.dir.now a.pages.now) a.encoded.values
    (sym c.limits_hold.ensures ∙ c.if-not-limits_hold.true)

pub pack_key-packed-requires : goal.pack_key-packed-requires
pack_key-packed-requires c = SixteenBits-passed _ _ c.requires

-- ---- the key's word

pub key_word-at-requires : goal.key_word-at-requires
key_word-at-requires c =
    let a = c.args in
    let t = asked (store a.state a.dir.now a.pages.now) a.encoded.values c.requires
    (sym c.limits_hold.ensures ∙ c.if-not-limits_hold.false) in
    key-word-asks a.state.shape _ c.widths_of-widths.ensures a.state.deepest t.passed.shape
    (le_trans t.within-limit t.bits) _ (le_trans (pow_mono t.within-limit) t.passed.words-lent)

pub word_holds-requires : goal.word_holds-requires
word_holds-requires c =
    let a = c.args in
    let t = asked (store a.state a.dir.now a.pages.now) a.encoded.values c.requires
    (sym c.limits_hold.ensures ∙ c.if-not-limits_hold.false) in
    le_trans t.within-limit t.short

pub returns-then-not-word_holds : goal.returns-then-not-word_holds
returns-then-not-word_holds c =
    let a = c.args in
    nine-word (store a.state a.dir.now a.pages.now) a.encoded.values _
    (key-word-is a.state.shape _ c.widths_of-widths.ensures a.state.deepest a.dir.now a.encoded.values _ _
    (ap unpacked_key c.pack_key-packed.ensures ∙ unpacked_key-passed _ _ c.requires) c.key_word-at.ensures.word_value)
    (sym c.word_holds.ensures ∙ c.if-not-word_holds.true)

-- ---- its page

pub find_page-requires : goal.find_page-requires
find_page-requires c =
    let a = c.args in
    let t = asked (store a.state a.dir.now a.pages.now) a.encoded.values c.requires
    (sym c.limits_hold.ensures ∙ c.if-not-limits_hold.false) in (
      t.pages-lent,
      sym c.word_holds.ensures ∙ c.if-not-word_holds.false,
      record {
        bits = le_trans t.within-limit t.bits;
        fits = ap (λ k. index_fits (widths_of a.state.shape) (unpacked_key k)) c.pack_key-packed.ensures
            ∙ index_fits-passed _ _ t.passed;
      },
    )

pub returns : goal.returns
returns c =
    let a = c.args in
    c.find_page.ensures a.dir.now a.encoded.values
    (record {
      asked = asked (store a.state a.dir.now a.pages.now) a.encoded.values c.requires
          (sym c.limits_hold.ensures ∙ c.if-not-limits_hold.false);
      key-is = c.pack_key-packed.ensures;
      found-is =
          sym (key-word-is a.state.shape _ c.widths_of-widths.ensures a.state.deepest a.dir.now a.encoded.values _ _
          (ap unpacked_key c.pack_key-packed.ensures ∙ unpacked_key-passed _ _ c.requires) c.key_word-at.ensures.word_value);
    })
