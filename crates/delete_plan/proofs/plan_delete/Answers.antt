-- The early refusals and the limits leave what each step asks, and each way that it ends is a law of the key's word.
use Rattle.std.proofs.Common.{◌≡◌, ℕ, List, le_trans, sym, ap, ◌∙◌, get_or}
use lib.Pow.{pow_mono}
use Rattle.shape.specs.Shape.{widths_of}
use Rattle.split.specs.Bits.{split_bit}
use Rattle.cell.specs.Cell.{cell_address}
use Rattle.record.specs.Packed.{packed_key, unpacked_key}
use Rattle.directory_word.specs.Word.{depth_field, leaf_of}
use Rattle.store.specs.Store.{store}
use Rattle.store.specs.declared.State.{State}
use Rattle.store.proofs.ShownLaws.{word_on}
use Rattle.change.specs.Delete.{key_string}
use Rattle.refusals.specs.Passed.{Passed}
use Rattle.refusals.proofs.LimitsLaws.{limits-parts}
use Rattle.refusals.proofs.PassedLaws.{SixteenBits-passed, unpacked_key-passed}
use Rattle.leaf_word.proofs.WordLaws.{key-word-asks, key-word-is}
use Rattle.delete_plan.proofs.MetLaws.{refused-limits, refused-word, refused-empty, leaf_met}
use Rattle.delete_plan.proofs.plan_delete.Goals as goal

-- the word that is found is that at the key's cell
word-found : (st : State) (words bytes encoded ws : List ℕ) (key w : ℕ) → Passed (store st words bytes) encoded
    → ws ≡ widths_of st.shape → key ≡ packed_key encoded
    → w ≡ get_or words (cell_address ws st.deepest (split_bit ws (unpacked_key key))) 0
    → w ≡ word_on (store st words bytes) (key_string (store st words bytes) encoded)
word-found st words bytes encoded ws key w p same packed e =
    key-word-is st.shape ws same st.deepest words encoded key w
    (ap unpacked_key packed ∙ unpacked_key-passed (store st words bytes) encoded p) e

pub pack_key-requires : goal.pack_key-requires
pack_key-requires c = SixteenBits-passed _ _ c.requires

pub returns-then-not-limits_hold : goal.returns-then-not-limits_hold
returns-then-not-limits_hold c =
    refused-limits (store c.args.state c.args.dir.now c.args.pages.now) c.args.encoded.values
    (sym c.if-not-limits_hold.ensures)

pub key_word-at-requires : goal.key_word-at-requires
key_word-at-requires c =
    let a = c.args in
    let p = c.requires in
    let l = limits-parts a.state (sym c.if-not-limits_hold.ensures) in
    key-word-asks a.state.shape _ c.widths_of-widths.ensures a.state.deepest p.shape (le_trans l.4 l.3) _
    (le_trans (pow_mono l.4) p.words-lent)

pub word_holds-requires : goal.word_holds-requires
word_holds-requires c =
    let l = limits-parts c.args.state (sym c.if-not-limits_hold.ensures) in
    le_trans l.4 l.2

pub returns-then-not-word_holds : goal.returns-then-not-word_holds
returns-then-not-word_holds c =
    let a = c.args in
    let before = store a.state a.dir.now a.pages.now in
    let w : c.key_word-at.result.word ≡ word_on before (key_string before a.encoded.values) =
    word-found a.state a.dir.now a.pages.now a.encoded.values _ _ _ c.requires c.widths_of-widths.ensures
    c.pack_key.ensures c.key_word-at.ensures.word_value in
    refused-word before a.encoded.values (key_string before a.encoded.values) (rw (sym w) (sym c.if-not-word_holds.ensures))

pub returns-in_default : goal.returns-in_default
returns-in_default c =
    let a = c.args in
    let before = store a.state a.dir.now a.pages.now in
    let w : c.key_word-at.result.word ≡ word_on before (key_string before a.encoded.values) =
    word-found a.state a.dir.now a.pages.now a.encoded.values _ _ _ c.requires c.widths_of-widths.ensures
    c.pack_key.ensures c.key_word-at.ensures.word_value in
    refused-empty before a.encoded.values _ _ (ap leaf_of (sym w) ∙ sym c.unpack-found.ensures ∙ c.in_default.is)
    (rw (sym w) (sym c.if-not-word_holds.ensures)) (c.key_word-at.ensures.depth_value ∙ ap depth_field w)

pub plan_leaf-requires : goal.plan_leaf-requires
plan_leaf-requires c =
    let a = c.args in
    let before = store a.state a.dir.now a.pages.now in
    let w : c.key_word-at.result.word ≡ word_on before (key_string before a.encoded.values) =
    word-found a.state a.dir.now a.pages.now a.encoded.values _ _ _ c.requires c.widths_of-widths.ensures
    c.pack_key.ensures c.key_word-at.ensures.word_value in
    leaf_met before a.encoded.values c.requires (sym c.if-not-limits_hold.ensures) _ _
    (ap leaf_of (sym w) ∙ sym c.unpack-found.ensures ∙ c.in-Page.is) (rw (sym w) (sym c.if-not-word_holds.ensures))
