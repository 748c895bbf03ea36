-- A line as it is read, byte by byte. Only the code's contracts cite these. Assumes nothing.
use Rattle.std.specs.Prelude.{ℕ, suc, ◌+◌, ◌-◌, ◌*◌, min, Bool, true, false, cond, List, [], ◌∷◌, eqb, ltb, set}
use Rattle.stock_line.specs.Line.{is_digit}
use Rattle.stock_line.specs.declared.Field.{Field}
use Rattle.stock_line.specs.declared.Field.TheVariants.{Empty, Number, Any, Wrong}
use Rattle.stock_line.specs.declared.Kind.{Kind}
use Rattle.stock_line.specs.declared.Kind.TheVariants.{Bad, Shape, Put, Cut, List as Listing}
use Rattle.stock_line.specs.declared.Line.{Line}
use Rattle.stock_line.specs.declared.Reading.{Reading}

-- ---- fields

unfoldable pub first_of : ℕ → Field
first_of c = cond (eqb c 42) Any (cond (is_digit c) (Number (c - 48)) Wrong)

unfoldable pub digit_with : ℕ → ℕ → Field
digit_with v c =
    cond (is_digit c) (cond (ltb (v * 10 + (c - 48)) 4294967296) (Number (v * 10 + (c - 48))) Wrong) Wrong

abbrev pub field_with : Field → ℕ → Field
field_with Empty c = first_of c
field_with (Number v) c = digit_with v c
field_with Any c = Wrong
field_with Wrong c = Wrong

-- ---- words, as numbers in base 256 behind a 1

unfoldable pub word_with : ℕ → ℕ → ℕ
word_with word c = cond (ltb word 281474976710656) (word * 256 + c) word

unfoldable pub kind_of : ℕ → Kind
kind_of word =
    cond (eqb word 1595184083045) Shape
    (cond (eqb word 24147316) Put (cond (eqb word 23295348) Cut (cond (eqb word 6113817460) Listing Bad)))

-- 0 once a field is wrong
abbrev pub kept_word : ℕ → Field → ℕ
kept_word word Empty = 0
kept_word word (Number v) = word
kept_word word Any = word
kept_word word Wrong = 0

-- one of some fields is `*`
abbrev pub star_with : Bool → Field → Bool
star_with star Empty = star
star_with star (Number v) = star
star_with star Any = true
star_with star Wrong = star

-- ---- a line

-- the fields that a line does not have
abbrev pub zeros : List Field
zeros = Number 0 ∷ Number 0 ∷ Number 0 ∷ Number 0 ∷ Number 0 ∷ Number 0 ∷ []

unfoldable pub start : Reading
start = record { word = 1; fields = 0; field = Empty; star = false; kept = zeros }

-- the last field is kept
unfoldable pub closed : Reading → Reading
closed r =
    cond (eqb r.fields 0) r
    (record {
      word = kept_word r.word r.field;
      fields = r.fields;
      field = r.field;
      star = star_with r.star r.field;
      kept = cond (ltb r.fields 7) (set r.kept (r.fields - 1) r.field) r.kept;
    })

-- a space ends a field
unfoldable pub opened : Reading → Reading
opened r = record {
  word = r.word;
  fields = min 7 (suc r.fields);
  field = Empty;
  star = r.star;
  kept = r.kept;
}

-- any other byte belongs to the word or to the last field
unfoldable pub added : Reading → ℕ → Reading
added r c =
    cond (eqb r.fields 0)
    (record { word = word_with r.word c; fields = 0; field = r.field; star = r.star; kept = r.kept })
    (record { word = r.word; fields = r.fields; field = field_with r.field c; star = r.star; kept = r.kept })

unfoldable pub fed : Reading → ℕ → Reading
fed r c = cond (eqb c 32) (opened (closed r)) (added r c)

unfoldable pub ended : Reading → Line
ended r = record {
  kind = kind_of (closed r).word;
  count = (closed r).fields;
  star = (closed r).star;
  kept = (closed r).kept;
}

-- bytes one after the other
abbrev pub read_from : Reading → List ℕ → Reading
read_from r [] = r
read_from r (c ∷ cs) = read_from (fed r c) cs
