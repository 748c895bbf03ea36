-- Laws of the two calls' answers: one for each way that a call ends; none of their refusals carries a depth. Assumes
-- nothing.
use Prim.Native.Nat.{ℕ, ◌^◌}
use mathlib.Core.Path.{◌≡◌, sym, ap, ◌∙◌}
use mathlib.Core.Bool.{Bool, true, false, not, cond}
use mathlib.Core.List.{List, [], ◌∷◌, ◌++◌}
use native.Mathlib.Omega.{arith}
use lib.Dec.{ltb}
use lib.ListN.{get_or}
use Rattle.shape.specs.Refusal.{accepted, refused, refused_with, answered_by, refusal, number_told, told}
use Rattle.shape.specs.Shape.{count_fits, widths_fit, capacity_fits, lowest_bad, shape_conditions, shape_number, widths_of}
use Rattle.shape.specs.Shape.{total, index_fits}
use Rattle.shape.specs.declared.Shape.{Shape}
use Rattle.shape.specs.declared.refusal.Refusal.{Refusal}
use Rattle.shape.proofs.RefusalLaws.{answered_by-first, answered_by-behind}
use Rattle.shape.proofs.TestLaws.{told-append}
use Rattle.address.specs.Address.{address}
use Rattle.address.specs.Doubling.{doubling_array}
use Rattle.address_calls.specs.Answers.{address_refusals, address_answer, index_refusals, index_answer}

module _ (s : Shape) where
  -- ---- something is amiss in the shape

  module _ (r : Refusal) (told-shape : told r ≡ answered_by (shape_conditions s) (tt {0})) where
    pub address_answer-shape-out : (is : List ℕ) → told r ≡ address_answer s is
    unfolding address_answer address_refusals
    address_answer-shape-out is =
        told-append tt r (shape_conditions s) (refusal 3 (not (index_fits (widths_of s) is)) ∷ [])
        (address (widths_of s) is) told-shape

    pub index_answer-shape-out : (a : ℕ) → told r ≡ index_answer s a
    unfolding index_answer index_refusals
    index_answer-shape-out a =
        told-append tt r (shape_conditions s) (refusal 3 (not (ltb a (2 ^ total (widths_of s)))) ∷ [])
        (get_or (doubling_array (widths_of s) (total (widths_of s))) a []) told-shape

  -- ---- nothing is: the widths that the code works with

  module _ (ws : List ℕ) (n : shape_number s ≡ 0) (same : ws ≡ widths_of s) where
    pub address_answer-index-out : (is : List ℕ) → index_fits ws is ≡ false → refused 3 ≡ address_answer s is
    unfolding address_answer address_refusals
    address_answer-index-out is e =
        let out : not (index_fits (widths_of s) is) ≡ true = ap (λ v. not (index_fits v is)) (sym same) ∙ ap not e in
        answered_by-first s (address (widths_of s) is) 2 (not (index_fits (widths_of s) is)) [] n out

    pub address_answer-address : (is : List ℕ) (a : ℕ) → index_fits ws is ≡ true → a ≡ address ws is
        → accepted a ≡ address_answer s is
    unfolding address_answer address_refusals answered_by
    address_answer-address is a e h =
        let within : not (index_fits (widths_of s) is) ≡ false = ap (λ v. not (index_fits v is)) (sym same) ∙ ap not e in
        ap accepted (h ∙ ap (λ v. address v is) same)
        ∙ sym (answered_by-behind s (address (widths_of s) is) 2 (not (index_fits (widths_of s) is)) [] n within)

    pub index_answer-address-out : (a : ℕ) → ltb a (2 ^ total ws) ≡ false → refused 3 ≡ index_answer s a
    unfolding index_answer index_refusals
    index_answer-address-out a e =
        let out : not (ltb a (2 ^ total (widths_of s))) ≡ true =
        ap (λ v. not (ltb a (2 ^ total v))) (sym same) ∙ ap not e in
        answered_by-first s (get_or (doubling_array (widths_of s) (total (widths_of s))) a []) 2
        (not (ltb a (2 ^ total (widths_of s)))) [] n out

    pub index_answer-index : (a : ℕ) (is : List ℕ) → ltb a (2 ^ total ws) ≡ true
        → get_or (doubling_array ws (total ws)) a [] ≡ is → accepted is ≡ index_answer s a
    unfolding index_answer index_refusals answered_by
    index_answer-index a is e h =
        let within : not (ltb a (2 ^ total (widths_of s))) ≡ false =
        ap (λ v. not (ltb a (2 ^ total v))) (sym same) ∙ ap not e in
        ap accepted (sym h ∙ ap (λ v. get_or (doubling_array v (total v)) a []) same)
        ∙ sym
        (answered_by-behind s (get_or (doubling_array (widths_of s) (total (widths_of s))) a []) 2
        (not (ltb a (2 ^ total (widths_of s)))) [] n within)

  -- ---- no refusal has the number 5, which carries a depth

  no_depth : {A : Type 0} (x : A) (holds : Bool)
      → number_told (answered_by (shape_conditions s ++ refusal 3 holds ∷ []) x) ≡ 5 → ⊥
  unfolding shape_conditions answered_by
  no_depth {A} x holds e = row (count_fits s) (widths_fit s) (capacity_fits s) holds e
    where
      row : (a b c d : Bool)
          → number_told {A = A} (cond (not a) (refused 1) (cond (not b) (refused_with 14 (lowest_bad s))
          (cond (not c) (refused 15) (cond d (refused 3) (accepted x))))) ≡ 5 → ⊥
      row false b c d f = omega arith
      row true false c d f = omega arith
      row true true false d f = omega arith
      row true true true true f = omega arith
      row true true true false f = omega arith

  pub address_answer-no_depth : (is : List ℕ) → number_told (address_answer s is) ≡ 5 → ⊥
  unfolding address_answer address_refusals
  address_answer-no_depth is = no_depth _ _

  pub index_answer-no_depth : (a : ℕ) → number_told (index_answer s a) ≡ 5 → ⊥
  unfolding index_answer index_refusals
  index_answer-no_depth a = no_depth _ _
