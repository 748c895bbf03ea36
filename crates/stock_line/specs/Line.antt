-- Lines of commands (document 01, "Proof table and the printed run"): "Fields are decimal, one space apart." A line is
-- its bytes without the newline. Assumes nothing.
use Rattle.std.specs.Prelude.{ℕ, ◌+◌, ◌-◌, ◌*◌, ◌^◌, ◌<◌, min, ◌≡◌, Bool, true, false, ◌&&◌, cond, List, [], ◌∷◌, eqb, leb, ltb, get_or, length}
use Rattle.std.proofs.Math.Option.{Option, none, some}
use Rattle.lists.specs.Filter.{all, non_empty}
use Rattle.stock_line.specs.declared.Field.{Field}
use Rattle.stock_line.specs.declared.Field.TheVariants.{Empty, Number, Any}
use Rattle.stock_line.specs.declared.Kind.{Kind}
use Rattle.stock_line.specs.declared.Kind.TheVariants.{Bad, Shape, Put, Cut, List as Listing}
use Rattle.stock_line.specs.declared.Line.{Line}

-- ---- fields

-- a byte before the first of some fields
abbrev pub longer : ℕ → List (List ℕ) → List (List ℕ)
longer c [] = (c ∷ []) ∷ []
longer c (f ∷ fs) = (c ∷ f) ∷ fs

-- "one space apart": two spaces, or one at an end, have an empty field beside them
unfoldable pub fields_of : List ℕ → List (List ℕ)
fields_of [] = [] ∷ []
fields_of (c ∷ cs) = cond (eqb c 32) ([] ∷ fields_of cs) (longer c (fields_of cs))

-- ---- numbers

unfoldable pub is_digit : ℕ → Bool
is_digit c = leb 48 c && leb c 57

-- the number v, with digits behind it
abbrev pub value_from : ℕ → List ℕ → ℕ
value_from v [] = v
value_from v (c ∷ cs) = value_from (v * 10 + (c - 48)) cs

-- "a number of 2^32 or more is a bad line"
unfoldable pub number_in : List ℕ → Option (Option ℕ)
number_in f = cond (non_empty f && (all is_digit f && ltb (value_from 0 f) (2 ^ 32))) (some (some (value_from 0 f))) none

-- whether a field is `*`
abbrev pub is_star : List ℕ → Bool
is_star [] = false
is_star (c ∷ []) = eqb c 42
is_star (c ∷ d ∷ f) = false

-- "values or `*` for free": a field's value, or none for `*`; no item for a field of another form
unfoldable pub item_in : List ℕ → Option (Option ℕ)
item_in f = cond (is_star f) (some none) (number_in f)

abbrev pub with_item : Option (Option ℕ) → Option (List (Option ℕ)) → Option (List (Option ℕ))
with_item none items = none
with_item (some item) none = none
with_item (some item) (some items) = some (item ∷ items)

-- those of all fields
abbrev pub items_in : List (List ℕ) → Option (List (Option ℕ))
items_in [] = some []
items_in (f ∷ fs) = with_item (item_in f) (items_in fs)

-- ---- commands

abbrev pub same_bytes : List ℕ → List ℕ → Bool
same_bytes [] [] = true
same_bytes [] (d ∷ ds) = false
same_bytes (c ∷ cs) [] = false
same_bytes (c ∷ cs) (d ∷ ds) = eqb c d && same_bytes cs ds

-- `shape`, `put`, `cut`, `list`
unfoldable pub kind_in : List ℕ → Kind
kind_in word =
    cond (same_bytes word (115 ∷ 104 ∷ 97 ∷ 112 ∷ 101 ∷ [])) Shape
    (cond (same_bytes word (112 ∷ 117 ∷ 116 ∷ [])) Put
    (cond (same_bytes word (99 ∷ 117 ∷ 116 ∷ [])) Cut
    (cond (same_bytes word (108 ∷ 105 ∷ 115 ∷ 116 ∷ [])) Listing Bad)))

-- ---- what is kept of a line

-- a field that is a value, or `*`
abbrev pub field_of : Option ℕ → Field
field_of none = Any
field_of (some v) = Number v

-- whether an item is `*`
abbrev pub has_star : List (Option ℕ) → Bool
has_star [] = false
has_star (none ∷ items) = true
has_star (some v ∷ items) = has_star items

-- the command, how many fields it has, at most 7, whether one is `*`, and the first six
pub record LineShows (word : List ℕ) (items : List (Option ℕ)) (line : Line) : Type 0 where
  pub kind : line.kind ≡ kind_in word
  pub count : line.count ≡ min 7 (length items)
  pub star : line.star ≡ has_star items
  pub kept : (j : ℕ) → j < 6 → j < length items → get_or line.kept j Empty ≡ field_of (get_or items j none)

-- a word and fields; "A line of another form .. is a bad line"
abbrev pub ShowsFields : List (List ℕ) → Option (List (Option ℕ)) → Line → Type 0
ShowsFields [] items line = ⊥
ShowsFields (word ∷ fields) none line = line.kind ≡ Bad
ShowsFields (word ∷ fields) (some items) line = LineShows word items line

abbrev pub rest : List (List ℕ) → List (List ℕ)
rest [] = []
rest (f ∷ fs) = fs

abbrev pub LineShown : List ℕ → Line → Type 0
LineShown bytes line = ShowsFields (fields_of bytes) (items_in (rest (fields_of bytes))) line
