-- What the bytes of a line lead to is what its fields say. Assumes nothing.
use Prim.Native.Nat.{ℕ, min}
use mathlib.Core.Path.{◌≡◌, refl, ap, ◌∙◌}
use mathlib.Core.Bool.{Bool, true, false, cond, false≢true}
use mathlib.Core.List.{List, [], ◌∷◌}
use mathlib.Core.Option.{Option, none, some}
use native.Mathlib.Omega.{arith}
use native.Mathlib.Nat.{zero-add, sub-zero}
use lib.Dec.{eqb, ltb}
use lib.ListN.{get_or, length}
use Rattle.lists.specs.Filter.{all, non_empty}
use Rattle.lists.proofs.Bools.{and_split, and_both}
use Rattle.stock_line.specs.Line.{longer, fields_of, items_in, field_of, rest, ShowsFields, LineShown}
use Rattle.stock_line.specs.declared.Field.TheVariants.{Empty}
use Rattle.stock_line.specs.declared.Reading.{Reading}
use Rattle.stock_line.specs.declared.Line.{Line}
use Rattle.stock_line.specs.LineBytes.{start, zeros, closed, read_from, ended, kind_of}
use Rattle.stock_line.proofs.ReadingLaws.{word_from, added_all, took_all, read_fields, some-field, read_from-fields}
use Rattle.stock_line.proofs.ReadingLaws.{closed-spaced, added_all-word}
use Rattle.stock_line.proofs.LineLaws.{KeptAs, took_all-items}
use Rattle.stock_line.proofs.WordLaws.{kind-of-word}

-- ---- bytes of the word

abbrev is_byte : ℕ → Bool
is_byte c = ltb c 256

abbrev first_field : List (List ℕ) → List ℕ
first_field [] = []
first_field (f ∷ fs) = f

first-bytes : (cs : List ℕ) → all is_byte cs ≡ true → all is_byte (first_field (fields_of cs)) ≡ true
unfolding fields_of
first-bytes [] h = refl
first-bytes (c ∷ cs) h =
    let k = and_split (is_byte c) (all is_byte cs) h in
    by-space (eqb c 32) (fields_of cs) k.0 (first-bytes cs k.1)
  where
    by-space : (β : Bool) (fs : List (List ℕ)) → is_byte c ≡ true → all is_byte (first_field fs) ≡ true
        → all is_byte (first_field (cond β ([] ∷ fs) (longer c fs))) ≡ true
    by-space true fs a b = refl
    by-space false [] a b = and_both (is_byte c) true a refl
    by-space false (f ∷ fs) a b = and_both (is_byte c) (all is_byte f) a b

-- ---- a line by its fields

-- the reading behind a word
abbrev word_read : List ℕ → Reading
word_read w = record {
  word = word_from 1 w;
  fields = 0;
  field = Empty;
  star = false;
  kept = zeros;
}

closed-fields-read : (w : List ℕ) (fs : List (List ℕ)) → closed (read_fields start (w ∷ fs)) ≡ took_all (word_read w) fs
unfolding start closed
closed-fields-read w fs =
    closed-spaced (added_all start w) fs ∙ ap (λ r. took_all (closed r) fs) (added_all-word start w refl)

-- the line of a reading
abbrev line_of : Reading → Line
line_of r = record { kind = kind_of r.word; count = r.fields; star = r.star; kept = r.kept }

shown-fields : (w : List ℕ) (fs : List (List ℕ)) → all is_byte w ≡ true
    → (items : Option (List (Option ℕ))) (q : Reading)
    → KeptAs (word_read w) items q → ShowsFields (w ∷ fs) items (line_of q)
unfolding kind_of
shown-fields w fs h none q k = rw k
shown-fields w fs h (some items) q k =
    record {
      kind = ap kind_of k.word ∙ kind-of-word w h;
      count = k.fields ∙ ap (min 7) (zero-add (length items));
      star = k.star;
      kept = λ j a b.
          k.later j a (omega arith) (omega arith) ∙ ap (λ i. field_of (get_or items i none)) (sub-zero j);
    }

pub line-shown : (bytes : List ℕ) → all is_byte bytes ≡ true → LineShown bytes (ended (read_from start bytes))
unfolding ended
line-shown bytes h = rw (read_from-fields start bytes)
    (by-fields (fields_of bytes) (some-field bytes) (first-bytes bytes h))
  where
    by-fields : (fs : List (List ℕ)) → non_empty fs ≡ true → all is_byte (first_field fs) ≡ true
        → ShowsFields fs (items_in (rest fs)) (line_of (closed (read_fields start fs)))
    by-fields [] e b = absurd (false≢true e)
    by-fields (w ∷ fs) e b =
        rw (closed-fields-read w fs)
        (shown-fields w fs b (items_in fs) (took_all (word_read w) fs) (took_all-items (word_read w) fs refl (omega arith)))
