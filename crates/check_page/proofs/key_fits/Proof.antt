-- `check_page::key_fits` meets its contract, test by test. Assumes nothing.
use Prim.Native.Nat.{ℕ, ◌^◌}
use mathlib.Core.Path.{◌≡◌, sym, ap, ◌∙◌}
use mathlib.Core.Bool.{Bool, true}
use lib.Dec.{ltb}
use borrow.Author.Rules.{rules}
use borrow.Author.Tests.{not-true, not-false}
use Rattle.record.specs.Packed.{packed_value}
use Rattle.check_page.proofs.KeyLaws.{index_fits-first, index_fits-second, index_fits-third, index_fits-last}
use Rattle.check_page.proofs.key_fits.Statement.{statement}
use Rattle.check_page.proofs.key_fits.Tie as tie

-- the test of a value, which is v as it was read
test : (w v u : ℕ) (β : Bool) → u ≡ v → β ≡ ltb u (2 ^ w) → ltb v (2 ^ w) ≡ β
test w v u β e h = ap (λ x. ltb x (2 ^ w)) (sym e) ∙ sym h

-- the values that fit
first : (c : tie.Else-not-below) → let s = c.args in
    ltb (packed_value s.key 0) (2 ^ s.widths.w0) ≡ true
first c = test _ _ _ _ c.value_at.ensures c.below.ensures ∙ not-false _ c.if-not-below.false-raw

second : (c : tie.Else-not-below-2) → let s = c.args in
    ltb (packed_value s.key 1) (2 ^ s.widths.w1) ≡ true
second c =
    test _ _ _ _ c.value_at-2.ensures c.below-2.ensures ∙ not-false _ c.if-not-below-2.false-raw

value-at-requires : tie.Need-value_at-requires
value-at-requires c κs = search rules

below-requires : tie.Need-below-requires
below-requires c κs = c.requires 0

returns : tie.Need-returns-then-not-below
returns c =
    let s = c.args in
    let w = s.widths in
    index_fits-first w.w0 w.w1 w.w2 w.w3 s.key
    (test _ _ _ _ c.value_at.ensures c.below.ensures ∙ not-true _ c.if-not-below.true-raw)

value-at-requires-2 : tie.Need-value_at-requires-2
value-at-requires-2 c κs = search rules

below-requires-2 : tie.Need-below-requires-2
below-requires-2 c κs = c.requires 1

returns-2 : tie.Need-returns-then-not-below-2
returns-2 c =
    let s = c.args in
    let w = s.widths in
    index_fits-second w.w0 w.w1 w.w2 w.w3 s.key (first c.before.before.before)
    (test _ _ _ _ c.value_at-2.ensures c.below-2.ensures ∙ not-true _ c.if-not-below-2.true-raw)

value-at-requires-3 : tie.Need-value_at-requires-3
value-at-requires-3 c κs = search rules

below-requires-3 : tie.Need-below-requires-3
below-requires-3 c κs = c.requires 2

returns-3 : tie.Need-returns-then-not-below-3
returns-3 c =
    let s = c.args in
    let w = s.widths in
    index_fits-third w.w0 w.w1 w.w2 w.w3 s.key (first c.before.before.before.before.before.before) (second c.before.before.before)
    (test _ _ _ _ c.value_at-3.ensures c.below-3.ensures ∙ not-true _ c.if-not-below-3.true-raw)

value-at-requires-4 : tie.Need-value_at-requires-4
value-at-requires-4 c κs = search rules

below-requires-4 : tie.Need-below-requires-4
below-requires-4 c κs = c.requires 3

returns-4 : tie.Need-returns
returns-4 c =
    let s = c.args in
    let w = s.widths in
    index_fits-last w.w0 w.w1 w.w2 w.w3 s.key (first c.before.before.before.before.before.before.before.before) (second c.before.before.before.before.before)
    (test _ _ _ _ c.value_at-3.ensures c.below-3.ensures ∙ not-false _ c.if-not-below-3.false-raw)
    _ (sym (test _ _ _ _ c.value_at-4.ensures c.below-4.ensures))

pub key_fits_spec : {M : Type 1} → statement M
key_fits_spec =
    tie.close
    (tie.spec
    value-at-requires
    below-requires
    returns
    value-at-requires-2
    below-requires-2
    returns-2
    value-at-requires-3
    below-requires-3
    returns-3
    value-at-requires-4
    below-requires-4
    returns-4)
