-- What a run over input prints are the replies to the lines that its bytes show; a line of which nothing was read has
-- no bytes. Assumes nothing.
use Prim.Native.Nat.{ℕ, zero, suc, ◌+◌, ◌*◌, ◌≤◌, ◌<◌}
use mathlib.Core.Path.{◌≡◌, refl, sym, ap, ◌∙◌}
use mathlib.Core.Bool.{Bool, true, false, cond}
use mathlib.Core.List.{List, [], ◌∷◌, ◌++◌}
use mathlib.Core.Logic.{◌⊎◌, inl, inr}
use native.Mathlib.Omega.{arith}
use lib.Dec.{eqb, ltb}
use lib.ListN.{get_or}
use borrow.Author.Tests.{ltb-false, lt-ltb, eqb-true, eqb-false}
use Rattle.lists.specs.Filter.{all}
use Rattle.lists.proofs.Bools.{and_split, and_both}
use Rattle.lists.proofs.FilterLaws.{all_append}
use Rattle.stock_line.specs.LineBytes.{start, fed, ended, read_from, closed, opened, added, word_with, field_with}
use Rattle.stock_line.specs.declared.Reading.{Reading}
use Rattle.stock_line.proofs.ShownLaws.{line-shown}
use Rattle.stock_input.specs.Input.{Standing, LineEnded, ByteRead, Stepped, Ran, nothing_read}
use Rattle.stock_input.specs.Printed.{Printed, LinePrinted, BytePrinted, PrintedFrom}

-- ---- bytes read one after the other

read_from-snoc : (r : Reading) (cs : List ℕ) (c : ℕ) → read_from r (cs ++ c ∷ []) ≡ fed (read_from r cs) c
read_from-snoc r [] c = refl
read_from-snoc r (b ∷ cs) c = read_from-snoc (fed r b) cs c

abbrev is_byte : ℕ → Bool
is_byte c = ltb c 256

all_snoc : (cs : List ℕ) (c : ℕ) → all is_byte cs ≡ true → c < 256 → all is_byte (cs ++ c ∷ []) ≡ true
all_snoc cs c h l = all_append is_byte cs (c ∷ []) h (and_both (is_byte c) true (lt-ltb c 256 l) refl)

-- ---- lines

-- with the bytes of the line that has not ended
abbrev pub printed_of : List ℕ → Standing → Printed
printed_of part s = record { part = part; session = s.session; memory = s.memory; text = s.text }

-- these bytes are what was read
pub record PartRead (part : List ℕ) (r : Reading) : Type 0 where
  pub reading-is : r ≡ read_from start part
  pub bytes : all is_byte part ≡ true

module _ (part : List ℕ) (before after : Standing) (h : PartRead part before.reading) where
  line-printed : LineEnded before after → LinePrinted (printed_of part before) (printed_of [] after)
  line-printed l =
      record {
        line = ended (read_from start part);
        shown = line-shown part h.bytes;
        bytes = l.bytes;
        replied = rw (← h.reading-is) l.replied;
        text-is = l.text-is;
        part-is = refl;
      }

  module _ (c : ℕ) (l : ByteRead c before after) where
    byte-printed : BytePrinted c (printed_of part before) (printed_of (part ++ c ∷ []) after)
    byte-printed =
        record { part-is = refl; session-is = l.session-is; memory-is = l.memory-is; text-is = l.text-is }

    part-read : c < 256 → PartRead (part ++ c ∷ []) after.reading
    part-read k =
        record {
          reading-is = l.reading-is ∙ ap (λ r. fed r c) h.reading-is ∙ sym (read_from-snoc start part c);
          bytes = all_snoc part c h.bytes k;
        }

module _ (bytes : List ℕ) (from : ℕ) (small : (i : ℕ) → get_or bytes i 0 < 256) (before : Standing) (part : List ℕ)
    (h : PartRead part before.reading) where
  -- what was printed, with the bytes of the line that has not ended then
  abbrev pub Prints : ℕ → Standing → Type 0
  Prints n after =
      (part' : List ℕ) × PartRead part' after.reading
      × PrintedFrom bytes from n (printed_of part before) (printed_of part' after)

  pub ran-printed : (n : ℕ) (after : Standing) → Ran bytes from n before after → Prints n after
  ran-printed zero after e =
      (part, record { reading-is = ap (λ s. s.reading) e ∙ h.reading-is; bytes = h.bytes }, ap (printed_of part) e)
  ran-printed (suc n) after ran = by_byte ran.0 (ran-printed n ran.0 ran.1) ran.2
    where
      by_byte : (between : Standing) → Prints n between → Stepped (get_or bytes (from + n) 0) between after
          → Prints (suc n) after
      by_byte between p (inl (e, l)) = (
        [],
        record { reading-is = l.reading-is; bytes = refl },
        (printed_of p.0 between, p.2, inl (e, line-printed p.0 between after p.1 l)),
      )
      by_byte between p (inr (e, l)) =
          let c = get_or bytes (from + n) 0 in (
            p.0 ++ c ∷ [],
            part-read p.0 between after p.1 c l (small (from + n)),
            (printed_of p.0 between, p.2, inr (e, byte-printed p.0 between after p.1 c l)),
          )

-- ---- a line of which nothing was read

-- a byte leaves a field, or a word of one byte or more
abbrev SomeRead : Reading → Type 0
SomeRead r = (1 ≤ r.fields) ⊎ (256 ≤ r.word)

word_with-le : (w c : ℕ) → 1 ≤ w → 256 ≤ word_with w c
unfolding word_with
word_with-le w c h = by-test (ltb w 281474976710656) refl
  where
    by-test : (β : Bool) → ltb w 281474976710656 ≡ β → 256 ≤ cond β (w * 256 + c) w
    by-test true e = omega arith
    by-test false e = omega (arith, ltb-false w 281474976710656 e)

added-some : (r : Reading) (c : ℕ) → SomeRead r ⊎ (1 ≤ r.word) → SomeRead (added r c)
unfolding added
added-some r c h = by-test (eqb r.fields 0) refl h
  where
    by-test : (β : Bool) → eqb r.fields 0 ≡ β → SomeRead r ⊎ (1 ≤ r.word)
        → SomeRead
        (cond β
        (record { word = word_with r.word c; fields = 0; field = r.field; star = r.star; kept = r.kept })
        (record {
          word = r.word;
          fields = r.fields;
          field = field_with r.field c;
          star = r.star;
          kept = r.kept;
        }))
    by-test true e (inl (inl k)) = absurd (omega (arith, eqb-true r.fields 0 e))
    by-test true e (inl (inr k)) = inr (word_with-le r.word c (omega arith))
    by-test true e (inr k) = inr (word_with-le r.word c k)
    by-test false e k =
        let some : r.fields ≡ 0 → ⊥ = eqb-false r.fields 0 e in
        inl (omega (arith, some))

opened_some : (r : Reading) → SomeRead (opened r)
unfolding opened
opened_some r = inl (omega arith)

fed-some : (r : Reading) (c : ℕ) → SomeRead r ⊎ (1 ≤ r.word) → SomeRead (fed r c)
unfolding fed
fed-some r c h = by-space (eqb c 32)
  where
    by-space : (β : Bool) → SomeRead (cond β (opened (closed r)) (added r c))
    by-space true = opened_some (closed r)
    by-space false = added-some r c h

read_from-some : (r : Reading) (cs : List ℕ) → SomeRead r → SomeRead (read_from r cs)
read_from-some r [] h = h
read_from-some r (c ∷ cs) h = read_from-some (fed r c) cs (fed-some r c (inl h))

start_word : 1 ≤ start.word
unfolding start
start_word = omega arith

-- "an empty rest is none": where nothing was read of a line, it has no bytes
pub no_part : (part : List ℕ) → nothing_read (read_from start part) ≡ true → part ≡ []
no_part [] e = refl
no_part (c ∷ cs) e = by_read (read_from-some (fed start c) cs (fed-some start c (inr start_word)))
  where
    by_read : SomeRead (read_from (fed start c) cs) → (c ∷ cs) ≡ []
    by_read k =
        let r = read_from (fed start c) cs in
        let both = and_split (eqb r.fields 0) (eqb r.word 1) e in
        contradiction k (eqb-true r.fields 0 both.0) (eqb-true r.word 1 both.1)
      where
        contradiction : SomeRead (read_from (fed start c) cs) → (read_from (fed start c) cs).fields ≡ 0
            → (read_from (fed start c) cs).word ≡ 1 → (c ∷ cs) ≡ []
        contradiction (inl k) f w = absurd (omega arith)
        contradiction (inr k) f w = absurd (omega arith)
