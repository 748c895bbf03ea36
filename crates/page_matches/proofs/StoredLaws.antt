-- Laws of the search of a page for a key: the place found is that of the first record with the key, and where there is
-- none, no record has it. Assumes nothing.
use Prim.Native.Nat.{ℕ, zero, suc, ◌+◌}
use mathlib.Core.Path.{◌≡◌, refl, sym, ap, ◌∙◌}
use mathlib.Core.Bool.{Bool, true, false, cond}
use mathlib.Core.List.{List, [], ◌∷◌, ◌++◌}
use native.Mathlib.Omega.{arith}
use native.Mathlib.Nat.{add-zero, zero-add}
use lib.Dec.{eqb}
use lib.ListN.{length}
use Rattle.lists.specs.Filter.{filter}
use Rattle.shape.specs.Shape.{shape_number}
use Rattle.shape.specs.declared.Shape.{Shape}
use Rattle.record.specs.Record.{same_key}
use Rattle.record.specs.Bytes.{record_size, record_of}
use Rattle.record.specs.Packed.{packed_key, SixteenBits, key_in}
use Rattle.record.specs.Lanes.{fields_key}
use Rattle.record.proofs.ByteLaws.{AreBytes, AreBytes-field}
use Rattle.record.proofs.CodecLaws.{SixteenBits-record_of, key_in-lt}
use Rattle.record.proofs.FieldLaws.{packed_key-record_of, eqb-fields_key}
use Rattle.record.proofs.PackedLaws.{packed_key-lt}
use Rattle.model.proofs.PackedLaws.{same_key-packed}
use Rattle.page.specs.Page.{records_from}
use Rattle.page.specs.Fields.{record_offset, record_field}
use Rattle.page.proofs.FieldLaws.{length-records_from}
use Rattle.page_matches.specs.KeyPlace.{key_place}

-- ---- the first element that passes a test, in any list

module _ {A : Type 0} (test : A → Bool) where
  -- its place; the length of the list where none passes
  abbrev pub first_place : List A → ℕ
  first_place [] = 0
  first_place (x ∷ xs) = cond (test x) 0 (suc (first_place xs))

  pub filter-absent : (xs : List A) → first_place xs ≡ length xs → filter test xs ≡ []
  filter-absent [] e = refl
  filter-absent (x ∷ xs) e = go (test x) e (filter-absent xs)
    where
      go : (β : Bool) → cond β 0 (suc (first_place xs)) ≡ suc (length xs)
          → (first_place xs ≡ length xs → filter test xs ≡ [])
          → cond β (x ∷ []) [] ++ filter test xs ≡ []
      go true e ih = absurd (omega arith)
      go false e ih = ih (omega arith)

-- ---- the search of a page

module _ (s : Shape) (good : shape_number s ≡ 0) (key : List ℕ) (six : SixteenBits key) where
  -- the packed fields of the key
  abbrev fields : ℕ
  fields = fields_key s (packed_key key)

  -- a record has the key exactly if its bytes have these fields
  pub same_key-key_in : (bytes : List ℕ) → SixteenBits (record_of s bytes).key
      → same_key key (record_of s bytes) ≡ eqb (key_in bytes) fields
  same_key-key_in bytes b =
      same_key-packed key (record_of s bytes) six b
      ∙ ap (λ k. eqb k (packed_key key)) (packed_key-record_of s good bytes b)
      ∙ sym (eqb-fields_key s good (key_in bytes) (packed_key key) (key_in-lt s bytes b) (packed_key-lt key six))

  module _ (page : List ℕ) (b : AreBytes page) where
    key_place-first_place : (k i : ℕ)
        → key_place fields page k i ≡ i + first_place (same_key key) (records_from s k (record_offset i) page)
    unfolding key_place
    key_place-first_place zero i = sym (add-zero i)
    key_place-first_place (suc k) i =
        ap (λ β. cond β i (key_place fields page k (suc i)))
        (sym
        (same_key-key_in (record_field page i)
        (SixteenBits-record_of s (record_field page i) (AreBytes-field page (record_offset i) record_size b))))
        ∙ go (same_key key (record_of s (record_field page i))) (key_place-first_place k (suc i))
      where
        next : record_offset (suc i) ≡ record_offset i + record_size
        next = omega arith

        go : (β : Bool)
            → key_place fields page k (suc i)
            ≡ suc i + first_place (same_key key) (records_from s k (record_offset (suc i)) page)
            → cond β i (key_place fields page k (suc i))
            ≡ i + cond β 0 (suc (first_place (same_key key) (records_from s k (record_offset i + record_size) page)))
        go true ih = sym (add-zero i)
        go false ih =
            ih
            ∙ ap (λ o. suc i + first_place (same_key key) (records_from s k o page)) next
            ∙ omega arith

    module _ (n : ℕ) where
      abbrev place : ℕ
      place = key_place fields page n 0

      place-first : place ≡ first_place (same_key key) (records_from s n 2 page)
      place-first = key_place-first_place n 0 ∙ zero-add _

      -- no record has the key
      pub same_key-absent : place ≡ n → filter (same_key key) (records_from s n 2 page) ≡ []
      same_key-absent e =
          filter-absent (same_key key) (records_from s n 2 page)
          (sym place-first ∙ e ∙ sym (length-records_from s n 2 page))
