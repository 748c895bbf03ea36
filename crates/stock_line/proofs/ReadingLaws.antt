-- A line as it is read: how a field that ends, and a byte more, change what is kept. Assumes nothing.
use Prim.Native.Nat.{ℕ, ◌≤◌}
use mathlib.Core.Path.{◌≡◌, refl, sym, ◌∙◌}
use mathlib.Core.Bool.{Bool, true, false, cond, false≢true}
use mathlib.Core.List.{List, [], ◌∷◌}
use native.Mathlib.Omega.{arith}
use lib.Dec.{eqb}
use borrow.Author.Tests.{ne_eqb}
use Rattle.lists.specs.Filter.{non_empty}
use Rattle.stock_line.specs.Line.{longer, fields_of}
use Rattle.stock_line.specs.declared.Reading.{Reading}
use Rattle.stock_line.specs.LineBytes.{closed, opened, added, fed, read_from, word_with, field_with}
use Rattle.stock_line.proofs.FieldLaws.{field_from}

pub closed-fields : (r : Reading) → r.fields ≤ 7 → (closed r).fields ≤ 7
unfolding closed
closed-fields r l = by-test (eqb r.fields 0) refl
  where
    by-test : (β : Bool) → eqb r.fields 0 ≡ β → (closed r).fields ≤ 7
    by-test true e = rw e l
    by-test false e = rw e l

-- a word, byte by byte
abbrev pub word_from : ℕ → List ℕ → ℕ
word_from w [] = w
word_from w (c ∷ cs) = word_from (word_with w c) cs

-- ---- field by field

-- the bytes of a field
abbrev pub added_all : Reading → List ℕ → Reading
added_all r [] = r
added_all r (c ∷ cs) = added_all (added r c) cs

-- fields, each behind a space
abbrev pub spaced : Reading → List (List ℕ) → Reading
spaced r [] = r
spaced r (f ∷ fs) = spaced (added_all (opened (closed r)) f) fs

-- a field that is read and ended
abbrev pub took : Reading → List ℕ → Reading
took r f = closed (added_all (opened r) f)

abbrev pub took_all : Reading → List (List ℕ) → Reading
took_all r [] = r
took_all r (f ∷ fs) = took_all (took r f) fs

abbrev pub read_fields : Reading → List (List ℕ) → Reading
read_fields r [] = r
read_fields r (f ∷ fs) = spaced (added_all r f) fs

pub some-field : (cs : List ℕ) → non_empty (fields_of cs) ≡ true
unfolding fields_of
some-field [] = refl
some-field (c ∷ cs) = by-space (eqb c 32) (fields_of cs)
  where
    by-space : (β : Bool) (fs : List (List ℕ)) → non_empty (cond β ([] ∷ fs) (longer c fs)) ≡ true
    by-space true fs = refl
    by-space false [] = refl
    by-space false (f ∷ fs) = refl

pub read_from-fields : (r : Reading) (cs : List ℕ) → read_from r cs ≡ read_fields r (fields_of cs)
unfolding fields_of fed
read_from-fields r [] = refl
read_from-fields r (c ∷ cs) = by-space (eqb c 32) (λ q. read_from-fields q cs)
  where
    after-space : (fs : List (List ℕ)) → non_empty fs ≡ true → read_fields (opened (closed r)) fs ≡ read_fields r ([] ∷ fs)
    after-space [] e = absurd (false≢true e)
    after-space (f ∷ fs) e = refl

    longer-read : (fs : List (List ℕ)) → read_fields (added r c) fs ≡ read_fields r (longer c fs)
    longer-read [] = refl
    longer-read (f ∷ fs) = refl

    by-space : (β : Bool) → ((q : Reading) → read_from q cs ≡ read_fields q (fields_of cs))
        → read_from (cond β (opened (closed r)) (added r c)) cs
        ≡ read_fields r (cond β ([] ∷ fields_of cs) (longer c (fields_of cs)))
    by-space true k = k (opened (closed r)) ∙ after-space (fields_of cs) (some-field cs)
    by-space false k = k (added r c) ∙ longer-read (fields_of cs)

pub closed-spaced : (r : Reading) (fs : List (List ℕ)) → closed (spaced r fs) ≡ took_all (closed r) fs
closed-spaced r [] = refl
closed-spaced r (f ∷ fs) = closed-spaced (added_all (opened (closed r)) f) fs

-- ---- the bytes of one field

-- in the word
pub added_all-word : (r : Reading) (f : List ℕ) → r.fields ≡ 0
    → added_all r f ≡ record {
      word = word_from r.word f;
      fields = 0;
      field = r.field;
      star = r.star;
      kept = r.kept;
    }
unfolding added
added_all-word r [] e = rw (sym e)
added_all-word r (c ∷ cs) e = rw e (added_all-word (record {
  word = word_with r.word c;
  fields = 0;
  field = r.field;
  star = r.star;
  kept = r.kept;
}) cs refl)

-- behind it
pub added_all-field : (r : Reading) (f : List ℕ) → 1 ≤ r.fields
    → added_all r f ≡ record {
      word = r.word;
      fields = r.fields;
      field = field_from r.field f;
      star = r.star;
      kept = r.kept;
    }
unfolding added
added_all-field r [] l = refl
added_all-field r (c ∷ cs) l =
    rw (ne_eqb r.fields 0 (λ e. omega arith))
    (added_all-field (record {
      word = r.word;
      fields = r.fields;
      field = field_with r.field c;
      star = r.star;
      kept = r.kept;
    }) cs l)
