-- Results that cross the C interface: a number and values side by side. Assumes nothing.
use Rattle.std.specs.Prelude.{ℕ, zero, suc, ◌≡◌, Bool, true, false, cond, eqb}
use Rattle.shape.specs.Refusal.{Answer, accepted, refused, refused_with, number_told}

-- an answer by its number and the attribute beside it: 14 alone names one
abbrev pub numbered_answer : {A : Type 0} → ℕ → ℕ → A → Answer A
numbered_answer zero attribute x = accepted x
numbered_answer (suc n) attribute x = cond (eqb n 13) (refused_with 14 attribute) (refused (suc n))

-- number 0 with the values of an accepted call, 14 with the attribute that it names, or another number; what a refusal
-- does not carry is 0
pub record Reports {A : Type 0} (number attribute : ℕ) (values zeros : A) (answer : Answer A) : Type 0 where
  pub answer-as : numbered_answer number attribute values ≡ answer
  pub zeros-if-refused : (n : ℕ) → number ≡ suc n → values ≡ zeros
  pub attribute-if-other : (number ≡ 14 → ⊥) → attribute ≡ 0

-- the same, of an answer of which a promise holds
pub record Keeps {A : Type 0} (number attribute : ℕ) (values zeros : A) (Promise : Answer A → Type 0)
    : Type 0 where
  pub promise-kept : Promise (numbered_answer number attribute values)
  pub zeros-if-refused : (n : ℕ) → number ≡ suc n → values ≡ zeros
  pub attribute-if-other : (number ≡ 14 → ⊥) → attribute ≡ 0

-- the answer of a call with a key, by the number, the attribute and the depth beside it: 5 alone "carries the depth"
abbrev pub key_answer : {A : Type 0} → ℕ → ℕ → ℕ → A → Answer A
key_answer zero attribute depth x = accepted x
key_answer (suc n) attribute depth x = cond (eqb n 4) (refused_with 5 depth) (numbered_answer (suc n) attribute x)

-- number 0 with the values of an accepted call and the depth of the key's leaf; 5 with the depth of the leaf in which
-- the absent key falls; 14 with the attribute that it names; or another number. What a refusal does not carry is 0
pub record KeepsDepth {A : Type 0} (number attribute depth : ℕ) (values zeros : ℕ → A) (Promise : Answer A → Type 0)
    : Type 0 where
  pub promise-kept : Promise (key_answer number attribute depth (values depth))
  pub zeros-if-refused : (n : ℕ) → number ≡ suc n → values ≡ zeros
  pub depth-if-refused : (n : ℕ) → number ≡ suc n → (number ≡ 5 → ⊥) → depth ≡ 0
  pub attribute-if-other : (number ≡ 14 → ⊥) → attribute ≡ 0

-- yes or no as a number: 0 is no
abbrev pub is_yes : ℕ → Bool
is_yes zero = false
is_yes (suc n) = true

-- an answer that carries no depth: 5 is none of its numbers
abbrev pub NoDepth : {A : Type 0} → Answer A → Type 0
NoDepth answer = number_told answer ≡ 5 → ⊥
