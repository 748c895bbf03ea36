-- `insert_find::find_place` meets its contract: the part that is lent is the leaf's page, and each way that it ends is
-- a law of the page or of the key's place on it. Assumes nothing.
use Rattle.std.proofs.Common.{◌≡◌, ℕ, ◌+◌, ◌-◌, ◌*◌, List, Result, Ok, Err, length, take, drop, sym, subst, ap, ◌∙◌, inl, inr, arith}
use Rattle.shape.specs.Shape.{widths_of, width_list}
use Rattle.shape.specs.declared.Shape.{Shape}
use Rattle.shape.specs.declared.Widths.{Widths}
use Rattle.shape.proofs.ShapeLaws.{widths-fit}
use Rattle.record.specs.Lanes.{bias_key}
use Rattle.record.specs.Packed.{unpacked_key}
use Rattle.page.specs.Page.{page_size, page_at}
use Rattle.page.proofs.PartLaws.{mid_of-page, length-page_at}
use Rattle.page_place.specs.Find.{Placed}
use Rattle.store.specs.Store.{store}
use Rattle.insert_planned.proofs.RefusalLaws.{nine-count, nine-ends, four-stored, full-met}
use Rattle.insert_find.proofs.find_place.Goals as goal

-- what is found is the key's place on the page
place : (s : Shape) (w : Widths) (bias key g start size n : ℕ) (bytes : List ℕ) (found : Result ℕ ℕ)
    → width_list w ≡ widths_of s → bias ≡ bias_key s
    → start ≡ g * page_size s.capacity → size ≡ page_size s.capacity
    → Placed (width_list w) bias (unpacked_key key) (take (start + size - start) (drop start bytes)) n found
    → Placed (widths_of s) (bias_key s) (unpacked_key key) (page_at s.capacity bytes g) n found
place s w bias key g start size n bytes found e f from whole p =
    subst (λ page. Placed (widths_of s) (bias_key s) (unpacked_key key) page n found)
    (mid_of-page s.capacity g start size bytes from whole)
    (subst (λ h. Placed (widths_of s) h (unpacked_key key) (take (start + size - start) (drop start bytes)) n found) f
    (subst (λ ws. Placed ws bias (unpacked_key key) (take (start + size - start) (drop start bytes)) n found) e p))

pub returns-then-n-eq0 : goal.returns-then-n-eq0
returns-then-n-eq0 c words encoded m =
    nine-count (store c.args.state words c.args.pages.now) encoded c.args.key c.args.page c.args.depth m _
    c.count_at-n.ensures.0 (inl c.if-n-eq0.true)

pub returns-then-capacity-n : goal.returns-then-capacity-n
returns-then-capacity-n c words encoded m =
    nine-count (store c.args.state words c.args.pages.now) encoded c.args.key c.args.page c.args.depth m _
    c.count_at-n.ensures.0 (inr c.if-capacity-n.true)

pub returns-then-not-page_holds : goal.returns-then-not-page_holds
returns-then-not-page_holds c words encoded m =
    nine-ends (store c.args.state words c.args.pages.now) encoded c.args.key c.args.page c.args.depth m _
    c.count_at-n.ensures.0 (sym c.if-not-page_holds.ensures)

pub find-requires : goal.find-requires
find-requires c =
    let st = c.args.state in
    let whole = ap length
    (mid_of-page st.shape.capacity c.args.page _ _ c.args.pages.now c.page_start-start.ensures c.page_size.ensures)
    ∙ length-page_at st.shape.capacity c.args.page c.args.pages.now c.requires.1.whole in
    (omega (arith, whole, c.if-capacity-n.false), widths-fit st.shape _ c.requires.0.shape c.widths_of.ensures)

pub returns-in_default : goal.returns-in_default
returns-in_default c words encoded m =
    let a = c.args in
    four-stored (store a.state words a.pages.now) encoded a.key a.page a.depth m _ c.count_at-n.ensures.0
    (omega (arith, c.if-capacity-n.false)) (sym c.if-not-page_holds.ensures) (λ i. omega (arith, c.type_inv.pages i)) c.in_default.field-0
    (place a.state.shape _ _ a.key a.page _ _ c.count_at-n.result a.pages.now (Ok c.in_default.field-0) c.widths_of.ensures c.bias_key.ensures
    c.page_start-start.ensures c.page_size.ensures c.in_default.ensures)

pub returns : goal.returns
returns c words encoded m =
    let a = c.args in
    c.find_split.ensures words encoded
    (full-met (store a.state words a.pages.now) encoded a.key a.page a.depth m _ c.count_at-n.ensures.0
    (omega (arith, c.if-capacity-n.false)) (sym c.if-not-page_holds.ensures) (λ i. omega (arith, c.type_inv.pages i)) c.in-Err.i
    (place a.state.shape _ _ a.key a.page _ _ c.count_at-n.result a.pages.now (Err c.in-Err.i) c.widths_of.ensures c.bias_key.ensures
    c.page_start-start.ensures c.page_size.ensures c.in-Err.ensures)
    (omega (arith, c.if-n-capacity.false)))
