-- A line that is read byte by byte shows its fields. Assumes nothing.
use Prim.Native.Nat.{ℕ, suc, ◌+◌, ◌-◌, min, ◌≤◌, ◌<◌}
use mathlib.Core.Path.{◌≡◌, refl, sym, ap, ◌∙◌}
use mathlib.Core.Bool.{Bool, true, false, ◌||◌, cond}
use mathlib.Core.List.{List, [], ◌∷◌}
use mathlib.Core.Logic.{◌⊎◌, inl, inr}
use mathlib.Core.Option.{Option, none, some}
use native.Mathlib.Omega.{arith}
use lib.ListN.{get_or, length, set, length-set}
use lib.Seq.{get_or-set_same, get_or-set_other}
use lib.Dec.{ltb}
use borrow.Author.Tests.{ne_eqb, lt-ltb, le-ltb}
use Rattle.lists.proofs.Numbers.{lt-or-le, eq-or-ne}
use Rattle.stock_line.specs.Line.{item_in, with_item, items_in, field_of, has_star}
use Rattle.stock_line.specs.declared.Field.{Field}
use Rattle.stock_line.specs.declared.Field.TheVariants.{Empty, Number, Any, Wrong}
use Rattle.stock_line.specs.declared.Reading.{Reading}
use Rattle.stock_line.specs.LineBytes.{closed, opened, kept_word, star_with}
use Rattle.stock_line.proofs.FieldLaws.{field_from, FieldFor, for-star, for-number, for-empty, for-wrong, field_for-bytes}
use Rattle.stock_line.proofs.ReadingLaws.{took, took_all, added_all-field}

-- ---- one field

-- what is kept behind one field more, of k before it
abbrev kept_with : List Field → ℕ → Field → List Field
kept_with fields k field = cond (ltb (min 7 (suc k)) 7) (set fields (min 7 (suc k) - 1) field) fields

-- the reading behind it
abbrev behind : Reading → Field → Reading
behind r field = record {
  word = kept_word r.word field;
  fields = min 7 (suc r.fields);
  field = field;
  star = star_with r.star field;
  kept = kept_with r.kept r.fields field;
}

took-field : (r : Reading) (f : List ℕ) → took r f ≡ behind r (field_from Empty f)
unfolding closed opened
took-field r f =
    rw (added_all-field (opened r) f (omega arith)) (rw (ne_eqb (min 7 (suc r.fields)) 0 (λ e. omega arith)))

module _ (fields : List Field) (size : length fields ≡ 6) (k : ℕ) (field : Field) where
  kept_with-same : 6 ≤ k → kept_with fields k field ≡ fields
  kept_with-same m = rw (le-ltb (min 7 (suc k)) 7 (omega arith))

  kept_with-set : k < 6 → kept_with fields k field ≡ set fields k field
  kept_with-set m =
      let e : min 7 (suc k) ≡ suc k = omega arith in
      let e' : suc k - 1 ≡ k = omega arith in
      rw (e, lt-ltb (suc k) 7 (omega arith), e')

  kept_with-length : length (kept_with fields k field) ≡ 6
  kept_with-length = by_place (lt-or-le k 6)
    where
      by_place : (k < 6) ⊎ (6 ≤ k) → length (kept_with fields k field) ≡ 6
      by_place (inl m) = ap length (kept_with-set m) ∙ length-set fields k field ∙ size
      by_place (inr m) = ap length (kept_with-same m) ∙ size

  kept_with-earlier : (j : ℕ) → j < k → get_or (kept_with fields k field) j Empty ≡ get_or fields j Empty
  kept_with-earlier j m = by_place (lt-or-le k 6)
    where
      by_place : (k < 6) ⊎ (6 ≤ k) → get_or (kept_with fields k field) j Empty ≡ get_or fields j Empty
      by_place (inl n) =
          ap (λ l. get_or l j Empty) (kept_with-set n) ∙ get_or-set_other fields k j field Empty (λ e. omega arith)
      by_place (inr n) = ap (λ l. get_or l j Empty) (kept_with-same n)

  kept_with-here : k < 6 → get_or (kept_with fields k field) k Empty ≡ field
  kept_with-here m =
      ap (λ l. get_or l k Empty) (kept_with-set m) ∙ get_or-set_same fields k field Empty (omega (arith, size))

-- ---- all of them

-- what is kept of items behind those that r has
pub record Kept (r : Reading) (items : List (Option ℕ)) (q : Reading) : Type 0 where
  pub word : q.word ≡ r.word
  pub star : q.star ≡ (r.star || has_star items)
  pub fields : q.fields ≡ min 7 (r.fields + length items)
  pub earlier : (j : ℕ) → j < 6 → j < r.fields → get_or q.kept j Empty ≡ get_or r.kept j Empty
  pub later : (j : ℕ) → j < 6 → r.fields ≤ j → j < r.fields + length items
      → get_or q.kept j Empty ≡ field_of (get_or items (j - r.fields) none)

kept_word-item : (w : ℕ) (item : Option ℕ) → kept_word w (field_of item) ≡ w
kept_word-item w none = refl
kept_word-item w (some v) = refl

kept_word-zero : (field : Field) → kept_word 0 field ≡ 0
kept_word-zero Empty = refl
kept_word-zero (Number v) = refl
kept_word-zero Any = refl
kept_word-zero Wrong = refl

-- a line with a wrong field has no word
took_all-zero : (r : Reading) (fs : List (List ℕ)) → r.word ≡ 0 → (took_all r fs).word ≡ 0
took_all-zero r [] e = e
took_all-zero r (f ∷ fs) e =
    took_all-zero (took r f) fs
    (ap (λ q. q.word) (took-field r f)
    ∙ ap (λ w. kept_word w (field_from Empty f)) e
    ∙ kept_word-zero (field_from Empty f))

or-false : (β : Bool) → (β || false) ≡ β
or-false true = refl
or-false false = refl

star_with-item : (β : Bool) (item : Option ℕ) (items : List (Option ℕ))
    → (star_with β (field_of item) || has_star items) ≡ (β || has_star (item ∷ items))
star_with-item true none items = refl
star_with-item true (some v) items = refl
star_with-item false none items = refl
star_with-item false (some v) items = refl

-- the items of the others are kept
kept-suc : (r : Reading) (item : Option ℕ) (items : List (Option ℕ)) (q : Reading) → length r.kept ≡ 6
    → r.fields ≤ 7 → Kept (behind r (field_of item)) items q → Kept r (item ∷ items) q
kept-suc r item items q size l kept =
    record {
      word = kept.word ∙ kept_word-item r.word item;
      star = kept.star ∙ star_with-item r.star item items;
      fields = kept.fields ∙ (omega arith);
      earlier = λ j a b.
          kept.earlier j a (omega arith) ∙ kept_with-earlier r.kept size r.fields (field_of item) j b;
      later = λ j a b c. by_place j a b c (eq-or-ne j r.fields);
    }
  where
    by_place : (j : ℕ) → j < 6 → r.fields ≤ j → j < r.fields + suc (length items)
        → (j ≡ r.fields) ⊎ (j ≡ r.fields → ⊥)
        → get_or q.kept j Empty ≡ field_of (get_or (item ∷ items) (j - r.fields) none)
    by_place j a b c (inl e) =
        let z : j - r.fields ≡ 0 = omega arith in
        kept.earlier j a (omega arith)
        ∙ ap (λ i. get_or (kept_with r.kept r.fields (field_of item)) i Empty) e
        ∙ kept_with-here r.kept size r.fields (field_of item) (omega arith)
        ∙ ap (λ i. field_of (get_or (item ∷ items) i none)) (sym z)
    by_place j a b c (inr n) =
        let m : min 7 (suc r.fields) ≡ suc r.fields = omega arith in
        let z : j - r.fields ≡ suc (j - suc r.fields) = omega arith in
        kept.later j a (omega arith) (omega arith)
        ∙ ap (λ i. field_of (get_or items (j - i) none)) m
        ∙ ap (λ i. field_of (get_or (item ∷ items) i none)) (sym z)

-- or the line has no word
abbrev pub KeptAs : Reading → Option (List (Option ℕ)) → Reading → Type 0
KeptAs r none q = q.word ≡ 0
KeptAs r (some items) q = Kept r items q

kept_as-suc : (r : Reading) (i : Option (Option ℕ)) (field : Field) → FieldFor i field → length r.kept ≡ 6
    → r.fields ≤ 7 → (items : Option (List (Option ℕ))) (fs : List (List ℕ))
    → KeptAs (behind r field) items (took_all (behind r field) fs)
    → KeptAs r (with_item i items) (took_all (behind r field) fs)
kept_as-suc r none field for-empty size m items fs h = took_all-zero (behind r field) fs refl
kept_as-suc r none field for-wrong size m items fs h = took_all-zero (behind r field) fs refl
kept_as-suc r (some item) field c size m none fs h = h
kept_as-suc r (some none) field for-star size m (some items) fs h =
    kept-suc r none items (took_all (behind r field) fs) size m h
kept_as-suc r (some (some v)) field for-number size m (some items) fs h =
    kept-suc r (some v) items (took_all (behind r field) fs) size m h

pub took_all-items : (r : Reading) (fs : List (List ℕ)) → length r.kept ≡ 6 → r.fields ≤ 7
    → KeptAs r (items_in fs) (took_all r fs)
took_all-items r [] size l =
    record {
      word = refl;
      star = sym (or-false r.star);
      fields = omega arith;
      earlier = λ j a b. refl;
      later = λ j a b c. absurd (omega arith);
    }
took_all-items r (f ∷ fs) size l =
    let field = field_from Empty f in
    rw (took-field r f)
    (kept_as-suc r (item_in f) field (field_for-bytes f) size l (items_in fs) fs
    (took_all-items (behind r field) fs (kept_with-length r.kept size r.fields field) (omega arith)))
