-- What is amiss in a shape, in the words of document 02, request 7: "Integrators get 1 and don't know what to correct."
-- Assumes nothing.
use Rattle.std.specs.Prelude.{ℕ, ◌<◌, ◌≡◌, true, false, cond, List, ◌++◌, ◌↔◌, eqb}
use Rattle.std.proofs.Math.Option.{none, some}
use Rattle.shape.specs.Refusal.{Condition, Answer, refused, refused_with, refused_by, answered_by}
use Rattle.shape.specs.Shape.{count_fits, width_fits, capacity_fits, in_bounds}
use Rattle.shape.specs.Shape.{lowest_bad, shape_conditions, shape_number}
use Rattle.shape.specs.declared.Shape.{Shape}

-- ---- in the request's words, whatever other conditions a call has

pub record ShapeRefusals (s : Shape) : Type 1 where
  -- "Number 1 remains for the attribute count."
  pub count : {A : Type 0} (cs : List Condition) (x : A) → count_fits s ≡ false
      → answered_by (shape_conditions s ++ cs) x ≡ refused 1
  -- "14, a width outside 1–16, after 1": "A bad width names its attribute, the lowest where there are several."
  pub width : {A : Type 0} (cs : List Condition) (x : A) → count_fits s ≡ true → (j : ℕ) → j < s.attributes
      → width_fits s j ≡ false → ((i : ℕ) → i < j → width_fits s i ≡ true)
      → answered_by (shape_conditions s ++ cs) x ≡ refused_with 14 j
  -- "then 15, capacity outside 1–16"
  pub capacity : {A : Type 0} (cs : List Condition) (x : A) → count_fits s ≡ true
      → ((j : ℕ) → j < s.attributes → width_fits s j ≡ true) → capacity_fits s ≡ false
      → answered_by (shape_conditions s ++ cs) x ≡ refused 15
  -- "both before 2": where nothing is amiss, the other conditions decide
  pub others : {A : Type 0} (cs : List Condition) (x : A) → in_bounds s ≡ true
      → answered_by (shape_conditions s ++ cs) x ≡ answered_by cs x
  -- the bounds of document 01 are those of the three numbers
  pub in-bounds : (shape_number s ≡ 0) ↔ (in_bounds s ≡ true)

-- ---- by number

-- the refusal with a number of a call that is given a shape, of those found before any look into words and pages: 14
-- names the attribute, no other of them carries a value
abbrev pub refused_for : {A : Type 0} → Shape → ℕ → Answer A
refused_for s n = refused_by n (cond (eqb n 14) (some (lowest_bad s)) none)
