-- What the two calls of the address map answer (document 01, "Address map" and "Refused calls" 1 and 3; document 02,
-- request 7). Assumes nothing.
use Rattle.std.specs.Prelude.{ℕ, ◌^◌, Result, not, List, [], ◌∷◌, ◌++◌, ltb, get_or}
use Rattle.shape.specs.Refusal.{Condition, Answer, answered_by, answer_of, refusal, first_number}
use Rattle.shape.specs.Shape.{shape_conditions, widths_of, total, index_fits}
use Rattle.shape.specs.declared.Shape.{Shape}
use Rattle.shape.specs.declared.refusal.Refusal.{Refusal}
use Rattle.address.specs.Address.{address}
use Rattle.address.specs.Doubling.{doubling_array}
use Rattle.address_formula.specs.Index.{index_list}
use Rattle.address_formula.specs.declared.Index.{Index}

-- ---- index to address

-- 1, 14, 15, then 3 "value or index of 2^w_j or more .. unused key or index value not 0"
unfoldable pub address_refusals : Shape → List ℕ → List Condition
address_refusals s is = shape_conditions s ++ refusal 3 (not (index_fits (widths_of s) is)) ∷ []

abbrev pub address_number : Shape → List ℕ → ℕ
address_number s is = first_number (address_refusals s is)

-- the refusal, or the formula's address
unfoldable pub address_answer : Shape → List ℕ → Answer ℕ
address_answer s is = answered_by (address_refusals s is) (address (widths_of s) is)

-- what the code returns: the address
abbrev pub address_answer_of : Result ℕ Refusal → Answer ℕ
address_answer_of r = answer_of (λ a. a) r

-- ---- address to index

-- 1, 14, 15, then 3 "address of 2^W or more"
unfoldable pub index_refusals : Shape → ℕ → List Condition
index_refusals s a = shape_conditions s ++ refusal 3 (not (ltb a (2 ^ total (widths_of s)))) ∷ []

abbrev pub index_number : Shape → ℕ → ℕ
index_number s a = first_number (index_refusals s a)

-- the refusal, or what stands at the address in the doubling array
unfoldable pub index_answer : Shape → ℕ → Answer (List ℕ)
index_answer s a = answered_by (index_refusals s a) (get_or (doubling_array (widths_of s) (total (widths_of s))) a [])

-- what the code returns: the indices
abbrev pub index_answer_of : Result Index Refusal → Answer (List ℕ)
index_answer_of r = answer_of index_list r
