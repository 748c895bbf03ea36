-- `check_page::page_passes` meets its contract: records in split order all begin as the first and the last one do.
-- Assumes nothing.
use Rattle.std.proofs.Common.{◌≡◌, ap, sym, ◌∙◌, rules, arith}
use Rattle.record.specs.Packed.{unpacked_key}
use Rattle.record.proofs.ByteLaws.{AreBytes}
use Rattle.page.specs.Fields.{record_offset, key_at, code_at}
use Rattle.check_page.specs.PageTest.{encodings_at}
use Rattle.check_page.proofs.ByteLaws.{unpacked_key-code_at, unpacked_key-key_at-zero}
use Rattle.check_page.proofs.PageLaws.{page_passes-none, page_passes-over, page_passes-other, page_passes-parted}
use Rattle.check_page.proofs.PageLaws.{page_passes-alike}
use Rattle.check_page.proofs.page_passes.Goals as goal

pub returns-then-n-eq0 : goal.returns-then-n-eq0
returns-then-n-eq0 c = page_passes-none _ _ _ _ _ _ _ c.count-n.ensures.0 c.if-n-eq0.true

pub returns-then-capacity-n : goal.returns-then-capacity-n
returns-then-capacity-n c = page_passes-over _ _ _ _ _ _ _ c.count-n.ensures.0 c.if-capacity-n.true

pub returns-then-not-begins : goal.returns-then-not-begins
returns-then-not-begins c =
    let bytes : AreBytes c.args.page.now = λ i. omega (arith, c.type_inv.page i) in
    page_passes-other _ _ _ _ _ _ bytes c.requires.within _ c.count-n.ensures.0 c.if-n-eq0.false c.if-capacity-n.false _
    c.code_at-first.ensures c.if-not-begins.ensures

pub returns-then-first_step-x : goal.returns-then-first_step-x
returns-then-first_step-x c =
    let bytes : AreBytes c.args.page.now = λ i. omega (arith, c.type_inv.page i) in
    page_passes-parted _ _ _ _ _ _ bytes c.requires.within _ c.count-n.ensures.0 c.if-n-eq0.false c.if-capacity-n.false _
    c.code_at-first.ensures c.if-not-begins.ensures _ c.code_at.ensures _ c.first_step.ensures c.if-first_step-x.true

pub returns-then-bias-eq0 : goal.returns-then-bias-eq0
returns-then-bias-eq0 c =
    let bytes : AreBytes c.args.page.now = λ i. omega (arith, c.type_inv.page i) in
    c.ascends.ensures c.args.page.now c.args.bias
    (λ k key l e.
    let read : key ≡ key_at c.args.page.now k = search rules in
    ap unpacked_key read
    ∙ unpacked_key-key_at-zero c.args.page.now bytes k
    ∙ ap (λ h. encodings_at h c.args.page.now (record_offset k)) (sym c.if-bias-eq0.true))
    ∙ page_passes-alike _ _ _ _ _ _ bytes c.requires.within _ c.count-n.ensures.0 c.if-n-eq0.false c.if-capacity-n.false _
    c.code_at-first.ensures c.if-not-begins.ensures _ c.code_at.ensures _ c.first_step.ensures c.if-first_step-x.false

pub returns : goal.returns
returns c =
    let bytes : AreBytes c.args.page.now = λ i. omega (arith, c.type_inv.page i) in
    c.ascends-2.ensures c.args.page.now c.args.bias
    (λ k key l e.
    let read : key ≡ code_at c.args.bias c.args.page.now k = search rules in
    ap unpacked_key read ∙ unpacked_key-code_at c.args.page.now bytes c.args.bias k)
    ∙ page_passes-alike _ _ _ _ _ _ bytes c.requires.within _ c.count-n.ensures.0 c.if-n-eq0.false c.if-capacity-n.false _
    c.code_at-first.ensures c.if-not-begins.ensures _ c.code_at.ensures _ c.first_step.ensures c.if-first_step-x.false
