-- Refused calls (document 01; document 02, requests 6 and 7): conditions with their numbers, and what a call answers.
-- Assumes nothing.
use Rattle.std.specs.Prelude.{ℕ, zero, suc, ◌≡◌, Bool, true, false, cond, List, [], ◌∷◌, eqb}
use Rattle.std.specs.Prelude.{Result, Ok, Err}
use Rattle.std.proofs.Math.Option.{Option, none, some}
use Rattle.shape.specs.declared.refusal.Refusal.{Refusal}
use Rattle.shape.specs.declared.refusal.Refusal.TheVariants as why

-- a row of the table: its number, whether its condition holds, and the value that goes with the number, if one does
pub record Condition : Type 0 where
  pub number : ℕ
  pub holds : Bool
  pub carries : Option ℕ

abbrev pub refusal : ℕ → Bool → Condition
refusal n b = record { number = n; holds = b; carries = none }

abbrev pub refusal_with : ℕ → Bool → ℕ → Condition
refusal_with n b x = record { number = n; holds = b; carries = some x }

-- "Checked in this order": the number of the first condition that holds, 0 if none does
unfoldable pub first_number : List Condition → ℕ
first_number [] = 0
first_number (c ∷ cs) = cond c.holds c.number (first_number cs)

-- what a call answers: its values, or the number of its refusal, alone or with the value that it carries
pub data Answer (A : Type 0) : Type 0 where
  accepted : A → Answer A
  refused : ℕ → Answer A
  refused_with : ℕ → ℕ → Answer A

-- a call is refused, by a number alone or with a value; of these: "All of them return the number and change nothing."
abbrev pub is_refused : {A : Type 0} → Answer A → Bool
is_refused (accepted x) = false
is_refused (refused n) = true
is_refused (refused_with n x) = true

-- "All of them return the number": number 0 stands for an accepted call
abbrev pub answered : {A : Type 0} → ℕ → A → Answer A
answered zero x = accepted x
answered (suc n) x = refused (suc n)

-- a refusal that may carry a value
abbrev pub refused_by : {A : Type 0} → ℕ → Option ℕ → Answer A
refused_by n none = refused n
refused_by n (some x) = refused_with n x

-- "the first condition for refusal that holds .. gives the number", and the value that it carries; "If none holds, the
-- call is accepted."
unfoldable pub answered_by : {A : Type 0} → List Condition → A → Answer A
answered_by [] x = accepted x
answered_by (c ∷ cs) x = cond c.holds (refused_by c.number c.carries) (answered_by cs x)

-- a call for which one of the conditions holds answers with the first, whatever it would return if it were accepted
abbrev pub RefusedFirst : {A : Type 0} → List Condition → Answer A → Type 0
RefusedFirst {A} cs answer = (n : ℕ) → first_number cs ≡ suc n → (x : A) → answer ≡ answered_by cs x

-- ---- what the code returns

-- the number of each refusal in the table
abbrev pub refusal_number : Refusal → ℕ
refusal_number why.Shape = 1
refusal_number why.Memory = 2
refusal_number why.Value = 3
refusal_number why.Stored = 4
refusal_number (why.Absent depth) = 5
refusal_number why.Depth = 6
refusal_number why.Pages = 7
refusal_number why.Attribute = 8
refusal_number why.Unsound = 9
refusal_number why.Interval = 10
refusal_number why.Payload = 11
refusal_number why.File = 12
refusal_number why.Content = 13
refusal_number (why.Width attribute) = 14
refusal_number why.Capacity = 15

-- the value that it carries: "number 5 carries the depth", "A bad width names its attribute"
abbrev pub refusal_value : Refusal → Option ℕ
refusal_value (why.Absent depth) = some depth
refusal_value (why.Width attribute) = some attribute
refusal_value r = none

-- the depth beside 5, the attribute beside 14; 0 beside any other number
abbrev pub depth_beside : Refusal → ℕ
depth_beside (why.Absent depth) = depth
depth_beside r = 0

abbrev pub attribute_beside : Refusal → ℕ
attribute_beside (why.Width attribute) = attribute
attribute_beside r = 0

-- a refusal as an answer
abbrev pub told : {A : Type 0} → Refusal → Answer A
told r = refused_by (refusal_number r) (refusal_value r)

-- what the code returns, as an answer: of an accepted call the values that f takes from it
abbrev pub answer_of : {A B : Type 0} → (A → B) → Result A Refusal → Answer B
answer_of f (Ok x) = accepted (f x)
answer_of f (Err r) = told r

-- that of a test, which returns no value
abbrev pub tested : Result (Unit {0}) Refusal → Answer (Unit {0})
tested r = answer_of (λ x. tt) r

-- ---- an answer as numbers

-- its number, 0 for an accepted call
abbrev pub number_told : {A : Type 0} → Answer A → ℕ
number_told (accepted x) = 0
number_told (refused n) = n
number_told (refused_with n x) = n

-- the value that it carries beside one number, 0 beside any other
abbrev pub carried_beside : {A : Type 0} → ℕ → Answer A → ℕ
carried_beside n (accepted x) = 0
carried_beside n (refused m) = 0
carried_beside n (refused_with m x) = cond (eqb m n) x 0
