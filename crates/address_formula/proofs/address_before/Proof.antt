-- `address_formula::address_before` meets its contract: each digit fits, and the last gives the address.
-- Assumes nothing.
use Prim.Native.Nat.{ℕ, ◌^◌, ◌%◌}
use mathlib.Core.Path.{◌≡◌, refl, ◌∙◌}
use Rattle.shape.specs.Shape.{width_list}
use Rattle.split.proofs.StepLaws.{depth_before}
use Rattle.address_formula.specs.Digits.{append_digit}
use Rattle.address_formula.proofs.DigitLaws.{Appended, appended-digits}
use borrow.Author.Rules.{rules}
use Rattle.address_formula.proofs.address_before.Statement.{statement}
use Rattle.address_formula.proofs.address_before.Tie as tie

-- what the four digits need and give, once the index in front is known
digits : (c : tie.After-index_of-a0) (a1 a2 a3 : ℕ)
    → let s = c.args in
    let i = s.index in
    let z = s.g % 4 in
    let a0 = c.index_of-a0.result in
    let h0 = c.depth_before-h0.result in
    let h1 = c.depth_before-h1.result in
    let h2 = c.depth_before-h2.result in
    let h3 = c.depth_before-h3.result in
    (a1 ≡ append_digit a0 (2 ^ h0) i.i0 0 z → a2 ≡ append_digit a1 (2 ^ h1) i.i1 1 z
    → a3 ≡ append_digit a2 (2 ^ h2) i.i2 2 z
    → Appended (width_list s.widths) z h0 h1 h2 h3 i.i0 i.i1 i.i2 i.i3 a0 a1 a2 a3)
unfolding depth_before
digits c a1 a2 a3 e1 e2 e3 =
    let i = c.args.index in
    let h0 = c.depth_before-h0 in
    let h1 = c.depth_before-h1 in
    let h2 = c.depth_before-h2 in
    let h3 = c.depth_before-h3 in
    appended-digits (width_list c.args.widths) i.i0 i.i1 i.i2 i.i3 c.args.g h0.result h1.result
    h2.result h3.result c.index_of-a0.result a1 a2 a3 c.requires.1 c.requires.2 h0.ensures h1.ensures
    h2.ensures h3.ensures c.index_of-a0.ensures e1 e2 e3

depth-before-requires : tie.Need-depth_before-h0-requires
depth-before-requires c κs = search rules

depth-before-requires-2 : tie.Need-depth_before-h1-requires
depth-before-requires-2 c κs = search rules

depth-before-requires-3 : tie.Need-depth_before-h2-requires
depth-before-requires-3 c κs = search rules

depth-before-requires-4 : tie.Need-depth_before-h3-requires
depth-before-requires-4 c κs = search rules

index-of-requires : tie.Need-index_of-a0-requires
index-of-requires c κs = search rules

append-digit-requires : tie.Need-append_digit-a1-requires
append-digit-requires c κs =
    let p = digits c _ _ _ refl refl refl in
    (p.deep.0, p.fits0)

append-digit-requires-2 : tie.Need-append_digit-a2-requires
append-digit-requires-2 c κs =
    let p = digits c.before c.append_digit-a1.result _ _ c.append_digit-a1.ensures refl refl in
    (p.deep.1, p.fits1)

append-digit-requires-3 : tie.Need-append_digit-a3-requires
append-digit-requires-3 c κs =
    let d1 = c.append_digit-a1 in
    let d2 = c.append_digit-a2 in
    let p = digits c.before.before d1.result d2.result _ d1.ensures d2.ensures refl in
    (p.deep.2, p.fits2)

append-digit-requires-4 : tie.Need-append_digit-requires
append-digit-requires-4 c κs =
    let d1 = c.append_digit-a1 in
    let d2 = c.append_digit-a2 in
    let d3 = c.append_digit-a3 in
    let p = digits c.before.before.before d1.result d2.result d3.result d1.ensures d2.ensures
    d3.ensures in
    (p.deep.3, p.fits3)

returns : tie.Need-returns
returns c =
    let d1 = c.append_digit-a1 in
    let d2 = c.append_digit-a2 in
    let d3 = c.append_digit-a3 in
    let p = digits c.before.before.before.before d1.result d2.result d3.result d1.ensures
    d2.ensures d3.ensures in
    c.append_digit.ensures ∙ p.result

pub address_before_spec : {M : Type 1} → statement M
address_before_spec =
    tie.close
    (tie.spec
    depth-before-requires
    depth-before-requires-2
    depth-before-requires-3
    depth-before-requires-4
    index-of-requires
    append-digit-requires
    append-digit-requires-2
    append-digit-requires-3
    append-digit-requires-4
    returns)
