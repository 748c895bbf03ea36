-- Keys and queries of a shape (document 01, "Shape and split steps", "Calls", "Refused calls" 8 and 3; document 02,
-- request 4). What values, encodings and fields are in integers: `ValuesInIntegers`. Assumes nothing.
use Rattle.std.specs.Prelude.{ℕ, ◌+◌, ◌-◌, ◌/◌, ◌%◌, ◌^◌, Bool, true, false, not, cond, ◌&&◌, ◌||◌, List, [], ◌∷◌, ltb, eqb, get_or}
use Rattle.std.proofs.Math.Option.{Option, none, some}
use Rattle.shape.specs.Shape.{width_of, all_below}
use Rattle.shape.specs.declared.Shape.{Shape}
use Rattle.shape.specs.declared.Wanted.{Wanted}
use Rattle.shape.specs.declared.Wanted.TheVariants.{Free, Given}
use Rattle.shape.specs.declared.Query.{Query}

-- one thing for each of the four attributes
abbrev pub per_attribute : {A : Type 0} → (ℕ → A) → List A
per_attribute f = f 0 ∷ f 1 ∷ f 2 ∷ f 3 ∷ []

-- ---- marks

-- "A shape may mark an attribute as signed": bit j of the marks. "A mark past d is ignored"
unfoldable pub marked : Shape → ℕ → Bool
marked s j = ltb j s.attributes && eqb (s.signs / 2 ^ j % 2) 1

-- what is added to a value: 2^(w-1) for a marked attribute, 0 for any other
unfoldable pub bias : Shape → ℕ → ℕ
bias s j = cond (marked s j) (2 ^ (width_of s j - 1)) 0

-- ---- values: numbers of 32 bits, in two's complement where the attribute is marked, so that -1 is 2^32 - 1

-- "Its encoding is the value itself"; of a marked attribute, "the value plus 2^(w−1)": at width 10, -512 has 0, -1 has
-- 511 and 511 has 1023. A greater number stands for none below 0
unfoldable pub encode : Shape → ℕ → ℕ → ℕ
encode s j v = cond (marked s j && ltb v (2 ^ 32)) ((v + bias s j) % 2 ^ 32) v

-- and back
unfoldable pub decode : Shape → ℕ → ℕ → ℕ
decode s j e = cond (marked s j) ((e + (2 ^ 32 - bias s j % 2 ^ 32)) % 2 ^ 32) e

-- "A value of attribute j is a whole number below 2^w_j"; of an unused attribute, 0. Of a marked one "values run from
-- −2^(w−1) to 2^(w−1) − 1", those whose encodings are below 2^w_j; "any other value below 0", which is 2^31 or more,
-- does not fit
unfoldable pub value_fits : Shape → ℕ → ℕ → Bool
value_fits s j v = ltb (encode s j v) (2 ^ width_of s j)

-- ---- fields

-- a field of 16 bits to which h is added; a greater number is no field
abbrev pub biased : ℕ → ℕ → ℕ
biased h f = cond (ltb f (2 ^ 16)) ((f + h) % 2 ^ 16) f

-- "Pages and output hold the value in 16-bit two's complement": the encoding that a field stands for. At width 10 the
-- field 0xfe00 is -512 and has 0, and 0x0200 has 1024, which no value has
unfoldable pub encode_field : Shape → ℕ → ℕ → ℕ
encode_field s j f = biased (bias s j) f

-- of the four fields of a key
unfoldable pub encoded_fields : Shape → List ℕ → List ℕ
encoded_fields s fields = per_attribute (λ j. encode_field s j (get_or fields j 0))

-- ---- keys

-- no "value .. of 2^w_j or more", or outside the bounds of a marked attribute; no "unused key .. value not 0"
unfoldable pub key_fits : Shape → List ℕ → Bool
key_fits s values = all_below 4 (λ j. value_fits s j (get_or values j 0))

-- the encodings of a key's values
unfoldable pub encodings : Shape → List ℕ → List ℕ
encodings s values = per_attribute (λ j. encode s j (get_or values j 0))

-- ---- queries

-- "each attribute is either given a value or free"
abbrev pub wanted_value : Wanted → Option ℕ
wanted_value (Given v) = some v
wanted_value Free = none

-- the values that a query gives, by attribute
unfoldable pub wanted_values : Query → List (Option ℕ)
wanted_values q = per_attribute (λ j. wanted_value (get_or q.attributes j (record { wanted = Free })).wanted)

-- their encodings
abbrev pub encode_wanted : Shape → ℕ → Option ℕ → Option ℕ
encode_wanted s j none = none
encode_wanted s j (some v) = some (encode s j v)

unfoldable pub encoded_wanted : Shape → List (Option ℕ) → List (Option ℕ)
encoded_wanted s q = per_attribute (λ j. encode_wanted s j (get_or q j none))

-- a given value, or the one that stands for a free attribute
abbrev pub value_or : ℕ → Option ℕ → ℕ
value_or free none = free
value_or free (some v) = v

abbrev pub is_given : {A : Type 0} → Option A → Bool
is_given none = false
is_given (some v) = true

-- what holds of a given value; "A value of a free attribute is ignored."
abbrev pub if_given : {A : Type 0} → (A → Bool) → Option A → Bool
if_given test none = true
if_given test (some v) = test v

-- "8 | query names attribute d or above"
unfoldable pub names_unused : {A : Type 0} → Shape → List (Option A) → Bool
names_unused s q = not (all_below 4 (λ j. ltb j s.attributes || not (is_given (get_or q j none))))

-- no given "value .. of 2^w_j or more", or outside the bounds of a marked attribute
unfoldable pub query_fits : Shape → List (Option ℕ) → Bool
query_fits s q = all_below 4 (λ j. if_given (value_fits s j) (get_or q j none))
