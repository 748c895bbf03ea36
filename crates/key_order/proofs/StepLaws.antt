-- Laws from the first pair in which two keys differ to split steps: the number of that step, and how the keys stand
-- to each other. Assumes nothing.
use Prim.Native.Nat.{ℕ, ◌+◌, ◌*◌, ◌/◌, ◌%◌, ◌≤◌, ◌<◌}
use mathlib.Core.Path.{◌≡◌, refl, sym, ap, ◌∙◌, subst}
use mathlib.Core.Bool.{Bool, true, false, cond}
use mathlib.Core.List.{List}
use mathlib.Core.Logic.{◌⊎◌, inl, inr}
use native.Mathlib.Nat.{zero-add}
use native.Mathlib.Omega.{arith}
use lib.ListN.{get_or, length}
use Rattle.lists.proofs.Numbers.{lt-or-le}
use Rattle.shape.specs.Shape.{Fit, total}
use Rattle.split.specs.Steps.{steps_below, steps, step_number}
use Rattle.split.specs.Bits.{split_bit}
use Rattle.split.proofs.StepLaws.{step_number-onto}
use Rattle.key_order.specs.Order.{common_bits, first_step, compared, FirstPair}
use Rattle.pairs.specs.Pairs.{IsStep, pair_bit}
use Rattle.pairs.proofs.PlaceLaws.{split_bit-place, steps_below-lt}
use Rattle.std.specs.declared.cmp.Ordering.TheVariants.{Less, Equal, Greater}
use Rattle.key_order.proofs.CommonLaws.{AgreeFrom, DifferAt, common_bits-all, common_bits-differ}
use Rattle.key_order.proofs.CommonLaws.{same_bits-all, same_bits-differ, before-differ}

-- of two bits that differ either tells the order
cond-ne : (α β : Bool) → (α ≡ β → ⊥) → cond β Less Greater ≡ cond α Greater Less
cond-ne true true n = absurd (n refl)
cond-ne true false n = refl
cond-ne false true n = refl
cond-ne false false n = absurd (n refl)

module _ (ws : List ℕ) (fit : Fit ws) where
  module _ (x y : List ℕ) (g : ℕ) (d : FirstPair ws x y g) where
    abbrev t : ℕ
    t = length (steps_below ws g)

    -- the bits before the step agree
    pub agree-before : AgreeFrom (split_bit ws x) (split_bit ws y) t 0
    unfolding step_number
    agree-before u l =
        let s = step_number-onto ws u g l in
        let h = 4 * s.0 + s.1 in
        let here : length (steps_below ws h) ≡ 0 + u = s.4 ∙ sym (zero-add u) in
        let bit : s.0 ≡ h / 4 = omega (arith, s.2) in
        let attribute : s.1 ≡ h % 4 = omega (arith, s.2) in
        let live : IsStep ws h =
        subst (λ k. k < get_or ws (h % 4) 0) bit (subst (λ j. s.0 < get_or ws j 0) attribute s.3) in
        subst (λ v. split_bit ws x v ≡ split_bit ws y v) here
        (split_bit-place ws fit x h live ∙ d.same-before h s.5 live ∙ sym (split_bit-place ws fit y h live))

    pub differ-here : g < 64 → DifferAt (split_bit ws x) (split_bit ws y) (0 + t)
    differ-here l e =
        let live = d.step-there l in
        d.differ-there l
        (sym (split_bit-place ws fit x g live)
        ∙ subst (λ v. split_bit ws x v ≡ split_bit ws y v) (zero-add t) e
        ∙ split_bit-place ws fit y g live)

    module _ (all : length (steps ws) ≡ total ws) where
      pub t-lt : g < 64 → t < total ws
      t-lt l = omega (arith, all, steps_below-lt ws fit g (d.step-there l))

      t-all : 64 ≤ g → t ≡ total ws
      unfolding steps
      t-all l = let e : g ≡ 64 = omega (arith, d.most) in ap (λ h. length (steps_below ws h)) e ∙ all

      agree-all : 64 ≤ g → AgreeFrom (split_bit ws x) (split_bit ws y) (total ws) 0
      agree-all l = subst (λ n. AgreeFrom (split_bit ws x) (split_bit ws y) n 0) (t-all l) agree-before

      -- ---- the number of the step

      pub first_step-pair : first_step ws x y ≡ length (steps_below ws g)
      unfolding first_step
      first_step-pair = go (lt-or-le g 64)
        where
          go : (g < 64) ⊎ (64 ≤ g) → common_bits (split_bit ws x) (split_bit ws y) (total ws) 0 ≡ t
          go (inl l) =
              common_bits-differ (split_bit ws x) (split_bit ws y) (total ws) 0 t (t-lt l) agree-before (differ-here l)
          go (inr l) = common_bits-all (split_bit ws x) (split_bit ws y) (total ws) 0 (agree-all l) ∙ sym (t-all l)

      -- ---- how the keys stand to each other

      pub compared_same : 64 ≤ g → compared ws x y ≡ Equal
      unfolding compared
      compared_same l = rw (same_bits-all (split_bit ws x) (split_bit ws y) (total ws) 0 (agree-all l))

      pub compared-differ : g < 64 → compared ws x y ≡ cond (pair_bit ws x g) Greater Less
      unfolding compared
      compared-differ l =
          rw (
            same_bits-differ (split_bit ws x) (split_bit ws y) (total ws) 0 t (t-lt l) (differ-here l),
            before-differ (split_bit ws) x y (total ws) 0 t (t-lt l) agree-before (differ-here l),
          )
          (ap (λ β. cond β Less Greater)
          (ap (split_bit ws y) (zero-add t) ∙ split_bit-place ws fit y g (d.step-there l))
          ∙ cond-ne (pair_bit ws x g) (pair_bit ws y g) (d.differ-there l))
