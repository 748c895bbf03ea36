-- Wrong address maps of document 01: each contradicts what `address_of` promises. Assumes nothing.
use Prim.Native.Nat.{ℕ}
use mathlib.Core.Path.{◌≡◌, refl, sym, ◌∙◌}
use native.Mathlib.Omega.{arith}
use Rattle.std.specs.Prelude.{Result}
use Rattle.shape.specs.Refusal.{accepted, answered_by}
use Rattle.shape.specs.Shape.{shape_conditions, widths_of}
use Rattle.shape.specs.declared.refusal.Refusal.{Refusal}
use Rattle.split.specs.Steps.{steps_below, steps, step, step_number, steps_of, attribute_depth}
use Rattle.address.specs.Address.{highest_bit, created_by, latest_step, formula, address_from, address}
use Rattle.address.specs.Doubling.{sides}
use Rattle.address_calls.specs.Answers.{address_refusals, address_answer, address_answer_of}
use Rattle.table.specs.Table.{two_two, key}

record Addresses : Type 0 where
  at-0-0 : address_answer two_two (key 0 0) ≡ accepted 0
  at-1-0 : address_answer two_two (key 1 0) ≡ accepted 1
  at-0-1 : address_answer two_two (key 0 1) ≡ accepted 2

addresses : Addresses
unfolding
    answered_by shape_conditions widths_of steps_below steps step step_number steps_of attribute_depth
    highest_bit created_by latest_step formula address_from address sides address_refusals address_answer
addresses = record { at-0-0 = refl; at-1-0 = refl; at-0-1 = refl }

pub same-value : {a b : ℕ} → accepted a ≡ accepted b → a ≡ b
same-value e = cc

-- "an address map that is constant" (review, 5): the same answer for two index vectors
pub constant : (r : Result ℕ Refusal) → address_answer_of r ≡ address_answer two_two (key 0 0)
    → address_answer_of r ≡ address_answer two_two (key 1 0) → ⊥
constant r e e' =
    let same : ◌≡◌ {A = ℕ} 0 1 = same-value (sym addresses.at-0-0 ∙ sym e ∙ e' ∙ addresses.at-1-0) in
    omega (arith, same)

-- "or any other one-to-one map" (review, 5): the order of rows, which gives (0,1) the address 1
pub order-of-rows : (r : Result ℕ Refusal) → address_answer_of r ≡ address_answer two_two (key 0 1)
    → address_answer_of r ≡ accepted 1 → ⊥
order-of-rows r e e' =
    let same : ◌≡◌ {A = ℕ} 1 2 = same-value (sym e' ∙ e ∙ addresses.at-0-1) in
    omega (arith, same)
