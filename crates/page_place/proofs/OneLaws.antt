-- Laws of the first record with bit 1 at a split step: turns of the search; in a page whose records are in split order
-- from that step on it is where the records with bit 1 begin. Assumes nothing.
use Prim.Native.Nat.{ℕ, zero, suc, ◌+◌, ◌-◌, ◌/◌, ◌%◌, ◌≤◌, ◌<◌}
use mathlib.Core.Path.{◌≡◌, refl, sym, ap, ◌∙◌}
use mathlib.Core.Bool.{Bool, true, false, cond, beq, false≢true}
use mathlib.Core.List.{List, [], ◌∷◌, ◌++◌}
use native.Mathlib.Nat.{add-zero, zero-add}
use native.Mathlib.Numerals.{add-one}
use native.Mathlib.Omega.{arith}
use lib.ListN.{length, take, drop, get_or}
use lib.Seq.{take_at, drop_at}
use Rattle.lists.specs.Filter.{all}
use Rattle.lists.proofs.Bools.{and_split}
use Rattle.lists.proofs.FilterLaws.{filter_none}
use Rattle.shape.specs.Shape.{shape_number, widths_of, Fit}
use Rattle.shape.specs.declared.Shape.{Shape}
use Rattle.split.specs.Steps.{steps_below}
use Rattle.split.specs.Bits.{bit_of}
use Rattle.region.specs.Sets.{before, sorted}
use Rattle.region.specs.Division.{side}
use Rattle.region.proofs.OrderLaws.{side-append-side}
use Rattle.record.specs.Record.{Record, record_bit}
use Rattle.record.specs.Bytes.{record_size, record_of}
use Rattle.record.specs.Packed.{packed_value, unpacked_key}
use Rattle.record.proofs.ByteLaws.{AreBytes, AreBytes-field}
use Rattle.record.specs.Lanes.{bias_key}
use Rattle.record.proofs.FieldLaws.{unpacked_key-key_in}
use Rattle.page.specs.Page.{records_from}
use Rattle.page.specs.Fields.{record_offset, record_field, code_at}
use Rattle.pairs.specs.Pairs.{pair_bit}
use Rattle.key_order.proofs.PairLaws.{pair_bit-unpacked_key}
use Rattle.pairs.proofs.PlaceLaws.{split_bit-place}
use Rattle.page_place.specs.Find.{first_one}

-- ---- at record i of n

module _ (ws : List ℕ) (bias g : ℕ) (page : List ℕ) (n i : ℕ) where
  pub first_one-end : n ≤ i → first_one ws bias g page (n - i) i ≡ i
  unfolding first_one
  first_one-end h = let e : n - i ≡ 0 = omega arith in rw e

  module _ (l : i < n) (key : ℕ) (e : key ≡ code_at bias page i) where
    abbrev bit : Bool
    bit = bit_of (get_or ws (g % 4) 0) (packed_value key (g % 4)) (g / 4)

    bit-there : pair_bit ws (unpacked_key (code_at bias page i)) g ≡ bit
    bit-there = ap (λ k. pair_bit ws (unpacked_key k) g) (sym e) ∙ pair_bit-unpacked_key ws key g

    more : n - i ≡ suc (n - suc i)
    more = omega arith

    pub first_one-here : true ≡ bit → first_one ws bias g page (n - i) i ≡ i
    unfolding first_one
    first_one-here q = rw (more, bit-there ∙ sym q)

    pub first_one-next : false ≡ bit → first_one ws bias g page (n - i) i ≡ first_one ws bias g page (n - (i + 1)) (i + 1)
    unfolding first_one
    first_one-next q = rw (add-one i, more, bit-there ∙ sym q)

-- it is one of the k from i on, or the end
pub first_one-le : (ws : List ℕ) (bias g : ℕ) (page : List ℕ) (k i : ℕ) → first_one ws bias g page k i ≤ i + k
unfolding first_one
first_one-le ws bias g page zero i = omega arith
first_one-le ws bias g page (suc k) i = go (pair_bit ws (unpacked_key (code_at bias page i)) g) (first_one-le ws bias g page k (suc i))
  where
    go : (β : Bool) → first_one ws bias g page k (suc i) ≤ suc i + k → cond β i (first_one ws bias g page k (suc i)) ≤ i + suc k
    go true ih = omega arith
    go false ih = omega arith

-- ---- where the records with bit 1 begin

-- behind a record with bit 1 all have it
above-one : (α γ m : Bool) → α ≡ true → cond (beq α γ) m γ ≡ true → beq false γ ≡ false
above-one true true m e k = refl
above-one true false m e k = sym k
above-one false γ m e k = absurd (false≢true e)

module _ {R : Type 0} (bit : R → ℕ → Bool) (m t : ℕ) where
  side-one : (x : R) (xs : List R) → sorted bit (suc m) t (x ∷ xs) ≡ true → bit x t ≡ true → side bit false t xs ≡ []
  side-one x xs o e =
      filter_none (before bit (suc m) t x) (λ y. beq false (bit y t))
      (λ y k. above-one (bit x t) (bit y t) (before bit m (suc t) x y) e k) xs
      (and_split (all (before bit (suc m) t x) xs) (sorted bit (suc m) t xs) o).0

module _ (s : Shape) (good : shape_number s ≡ 0) (fit : Fit (widths_of s)) (g : ℕ) (live : g / 4 < get_or (widths_of s) (g % 4) 0) (page : List ℕ)
    (b : AreBytes page) (m : ℕ) where
  abbrev t : ℕ
  t = length (steps_below (widths_of s) g)

  -- split bit t of record i is its bit at place g
  bit-record : (i : ℕ)
      → pair_bit (widths_of s) (unpacked_key (code_at (bias_key s) page i)) g ≡ record_bit s (record_of s (record_field page i)) t
  bit-record i =
      ap (λ k. pair_bit (widths_of s) k g)
      (unpacked_key-key_in s good (record_field page i) (AreBytes-field page (record_offset i) record_size b))
      ∙ sym (split_bit-place (widths_of s) fit (record_of s (record_field page i)).key g live)

  first_one-length : (k i : ℕ) → sorted (record_bit s) (suc m) t (records_from s k (record_offset i) page) ≡ true
      → first_one (widths_of s) (bias_key s) g page k i
      ≡ i + length (side (record_bit s) false t (records_from s k (record_offset i) page))
  unfolding first_one
  first_one-length zero i o = sym (add-zero i)
  first_one-length (suc k) i o =
      ap (λ β. cond β i (first_one (widths_of s) (bias_key s) g page k (suc i))) (bit-record i)
      ∙ go (record_bit s r t) refl (first_one-length k (suc i))
    where
      r : Record
      r = record_of s (record_field page i)

      rest : List Record
      rest = records_from s k (record_offset i + record_size) page

      next : record_offset (suc i) ≡ record_offset i + record_size
      next = omega arith

      go : (β : Bool) → record_bit s r t ≡ β
          → (sorted (record_bit s) (suc m) t (records_from s k (record_offset (suc i)) page) ≡ true
          → first_one (widths_of s) (bias_key s) g page k (suc i)
          ≡ suc i + length (side (record_bit s) false t (records_from s k (record_offset (suc i)) page)))
          → cond β i (first_one (widths_of s) (bias_key s) g page k (suc i))
          ≡ i + length (cond (beq false (record_bit s r t)) (r ∷ []) [] ++ side (record_bit s) false t rest)
      go true e ih =
          sym
          (ap (λ β. i + length (cond (beq false β) (r ∷ []) [] ++ side (record_bit s) false t rest)) e
          ∙ ap (λ l. i + length l) (side-one (record_bit s) m t r rest o e)
          ∙ add-zero i)
      go false e ih =
          let o' = (and_split (all (before (record_bit s) (suc m) t r) rest) (sorted (record_bit s) (suc m) t rest) o).1 in
          ih (rw next o')
          ∙ ap (λ f. suc i + length (side (record_bit s) false t (records_from s k f page))) next
          ∙ omega (arith, ap (λ β. length (cond (beq false β) (r ∷ []) [] ++ side (record_bit s) false t rest)) e)

  module _ (n : ℕ) (o : sorted (record_bit s) (suc m) t (records_from s n 2 page) ≡ true) where
    abbrev place : ℕ
    place = first_one (widths_of s) (bias_key s) g page n 0

    place-length : length (side (record_bit s) false t (records_from s n 2 page)) ≡ place
    place-length = sym (first_one-length n 0 o ∙ zero-add _)

    -- the records with bit 0, and those with bit 1
    pub take-first_one : take place (records_from s n 2 page) ≡ side (record_bit s) false t (records_from s n 2 page)
    take-first_one =
        let rs = records_from s n 2 page in
        ap (take place) (sym (side-append-side (record_bit s) m t rs o))
        ∙ take_at (side (record_bit s) false t rs) (side (record_bit s) true t rs) place place-length

    pub drop-first_one : drop place (records_from s n 2 page) ≡ side (record_bit s) true t (records_from s n 2 page)
    drop-first_one =
        let rs = records_from s n 2 page in
        ap (drop place) (sym (side-append-side (record_bit s) m t rs o))
        ∙ drop_at (side (record_bit s) false t rs) (side (record_bit s) true t rs) place place-length
