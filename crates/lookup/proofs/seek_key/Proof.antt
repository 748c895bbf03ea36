-- `lookup::seek_key` meets its contract: the early refusals and the limits leave what each step asks. Assumes nothing.
use mathlib.Core.Path.{◌≡◌, sym, ap, ◌∙◌, subst}
use mathlib.Core.Bool.{true}
use native.Mathlib.Nat.{le_trans}
use lib.Pow.{pow_mono}
use borrow.Author.Rules.{rules}
use borrow.Author.Tests.{not-true, not-false}
use Rattle.shape.specs.Shape.{widths_of, index_fits}
use Rattle.split.specs.Bits.{split_bit}
use Rattle.record.specs.Packed.{unpacked_key}
use Rattle.store.specs.Store.{store, word_at}
use Rattle.refusals.specs.Limits.{limits_hold}
use Rattle.refusals.proofs.LimitsLaws.{limited}
use Rattle.refusals.specs.Passed.{Passed}
use Rattle.refusals.proofs.PassedLaws.{SixteenBits-passed, unpacked_key-passed, index_fits-passed}
use Rattle.leaf_word.proofs.WordLaws.{key-word-asks, key-word-is}
use Rattle.lookup.proofs.CaseLaws.{sought_answer-limits, sought_answer-word}
use Rattle.lookup.proofs.seek_key.Statement.{statement}
use Rattle.lookup.proofs.seek_key.Tie as tie

-- what the early refusals leave
early : (c : tie.After-shared_slice_known-2-1)
    → let a = c.args in Passed (store a.state a.dir.now a.pages.now) a.encoded.values
early c = c.requires

-- and the limits
held : (c : tie.Else-not-limits_hold) → limits_hold c.args.state ≡ true
held c = sym c.limits_hold.ensures ∙ not-false c.limits_hold.result c.if-not-limits_hold.false-raw

limits-hold-requires : tie.Need-limits_hold-requires
limits-hold-requires c κs = (early c).shape

returns : tie.Need-returns-then-not-limits_hold
returns c =
    let a = c.args in
    sought_answer-limits (store a.state a.dir.now a.pages.now) a.encoded.values
    (sym c.limits_hold.ensures ∙ not-true c.limits_hold.result c.if-not-limits_hold.true-raw)

pack-key-requires : tie.Need-pack_key-packed-requires
pack-key-requires c κs = SixteenBits-passed _ _ (early c.before.before)

-- the key, back from its packed form
back : (c : tie.After-pack_key-packed)
    → unpacked_key c.pack_key-packed.result ≡ c.args.encoded.values
back c = ap unpacked_key c.pack_key-packed.ensures ∙ unpacked_key-passed _ _ (early c.before.before.before)

-- the word that was found, of the state's own shape
found : (c : tie.After-key_word-at)
    → let a = c.args in
    c.key_word-at.result.word
    ≡ word_at a.state.shape a.state.deepest a.dir.now
    (split_bit (widths_of a.state.shape) a.encoded.values)
found c =
    let a = c.args in
    key-word-is a.state.shape _ c.widths_of-widths.ensures a.state.deepest a.dir.now
    a.encoded.values _ _ (back c.before.before.before.before) c.key_word-at.ensures.0

widths-of-requires : tie.Need-widths_of-widths-requires
widths-of-requires c κs = search rules

cast-key-word : tie.Need-overflow_cast-state
cast-key-word c = search rules

key-word-requires : tie.Need-key_word-at-requires
key-word-requires c κs =
    let st = c.args.state in
    let p = early c.before.before.before.before.before.before in
    let l = limited st (held c.before.before.before.before) in
    key-word-asks st.shape _ c.widths_of-widths.ensures st.deepest p.shape
    (le_trans l.depth-within l.depth-bits) _ (le_trans (pow_mono l.depth-within) p.words-lent)

seek-by-word-requires : tie.Need-seek_by_word-requires
seek-by-word-requires c κs =
    let st = c.args.state in
    let p = early c.before.before.before.before.before.before.before in
    let l = limited st (held c.before.before.before.before.before) in (
      record {
        shape = p.shape;
        few = l.most-pages;
        short = le_trans l.depth-within l.depth-limit;
        bits = le_trans l.depth-within l.depth-bits;
        lent = p.pages-lent;
        fits = subst (λ k. index_fits (widths_of st.shape) (unpacked_key k) ≡ true) (sym c.pack_key-packed.ensures)
            (index_fits-passed _ _ p);
      },
      c.key_word-at.ensures.1,
    )

returns-2 : tie.Need-returns
returns-2 c =
    let a = c.args in
    c.seek_by_word.ensures
    ∙ sought_answer-word (store a.state a.dir.now a.pages.now) a.encoded.values (held c.before.before.before.before.before.before) _
    _ (found c.before) c.pack_key-packed.ensures

pub seek_key_spec : {M : Type 1} → statement M
seek_key_spec =
    tie.close
    (tie.spec
    limits-hold-requires
    returns
    pack-key-requires
    widths-of-requires
    cast-key-word
    key-word-requires
    seek-by-word-requires
    returns-2)
