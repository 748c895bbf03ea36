-- `check_page::codes::first_bits` meets its contract: a place is a step, whose bit is behind those at hand, or none.
-- Assumes nothing.
use Rattle.std.proofs.Common.{◌≡◌, ◌/◌, ◌%◌, ◌<◌, ◌≤◌, Bool, true, false, get_or, refl, sym, subst, ap, ◌∙◌, arith}
use mir.Val.{bool_byte}
use Rattle.shape.specs.Shape.{width_list}
use Rattle.shape.proofs.ShapeLaws.{total-le}
use Rattle.split.specs.Steps.{bit_value}
use Rattle.split.specs.Bits.{bit_of}
use Rattle.record.specs.Packed.{unpacked_key}
use Rattle.record.proofs.PackedLaws.{get_d-unpacked_key}
use Rattle.check_page.proofs.CodeLaws.{coded-zero, coded-left, coded-skip, coded-step}
use Rattle.check_page.proofs.codes.first_bits.Goals.{then-g-width_at, else-g-width_at}
use Rattle.check_page.proofs.codes.first_bits.Goals as goal

bool_byte-bit_value : (β : Bool) → bool_byte β ≡ bit_value β
bool_byte-bit_value true = refl
bool_byte-bit_value false = refl

pub loop-n-init : goal.loop-n-init
loop-n-init c = coded-zero (width_list c.args.widths) (unpacked_key c.args.key) c.args.x

pub loop-n-smaller : goal.loop-n-smaller
loop-n-smaller c =
    let w = c.args.widths in
    let left : c.loop-n.g < 64 =
    coded-left w.w0 w.w1 w.w2 w.w3 _ _ _ _ _ c.requires.0 c.requires.1 c.loop-n.invariant c.loop-n-test.true in
    omega arith

pub loop-n-preserved : goal.loop-n-preserved
loop-n-preserved c =
    let w = c.args.widths in
    let l = c.loop-n in
    let ws = width_list w in
    let key = unpacked_key c.args.key in
    let width = c.width_at.ensures in
    let j : l.g % 4 < 4 = omega arith in
    let left : l.g < 64 = coded-left w.w0 w.w1 w.w2 w.w3 _ _ _ _ _ c.requires.0 c.requires.1 l.invariant c.loop-n-test.true in
    elim c.if-g-width_at.branch [
      | then-g-width_at w ↦
          let value = w.pair_bit.ensures ∙ ap (λ v. bit_of (get_or ws (l.g % 4) 0) v (l.g / 4)) (sym (get_d-unpacked_key c.args.key (l.g % 4) j)) in
          rw (w.code-is, w.n-is)
          (coded-step ws key c.requires.0 c.args.x l.code l.n l.g l.invariant left
          (subst (λ x. l.g / 4 < x) width w.if-g-width_at.true)
          (omega (arith, c.requires.1, total-le ws refl c.requires.0))
          c.loop-n-test.true _ (bool_byte-bit_value w.pair_bit.result ∙ ap bit_value value))
      | else-g-width_at w ↦
          rw (w.code-is, w.n-is)
          (coded-skip ws key c.requires.0 c.args.x l.code l.n l.g l.invariant left
          (subst (λ x. x ≤ l.g / 4) width w.if-g-width_at.false))
    ]
