-- The test of a page's first and last record passes where the page shows a leaf of a set: in a sound store, for every
-- leaf with a page. Assumes nothing.
use Prim.Native.Nat.{ℕ, ◌+◌, ◌-◌, ◌%◌, ◌^◌, ◌≤◌, ◌<◌}
use mathlib.Core.Path.{◌≡◌, sym, ap, ◌∙◌, subst}
use mathlib.Core.Bool.{Bool, true, ◌&&◌, false≢true}
use mathlib.Core.List.{List, [], ◌∷◌}
use native.Mathlib.Omega.{arith}
use lib.ListN.{length}
use Rattle.lists.specs.Filter.{all, non_empty}
use Rattle.lists.proofs.Bools.{and_split, and_both}
use Rattle.lists.proofs.FilterLaws.{all-and}
use Rattle.shape.specs.Shape.{widths_of, total, index_fits, shape_number}
use Rattle.shape.specs.declared.Shape.{Shape}
use Rattle.region.specs.Strings.{same_bits}
use Rattle.region.specs.Division.{leaf_depth, leaf_records}
use Rattle.region.proofs.StringLaws.{same_bits-comm}
use Rattle.region.proofs.StringLeafLaws.{all-leaf_records, all-same_bits-leaf_records}
use Rattle.record.specs.Record.{Record, record_bit}
use Rattle.record.specs.Bytes.{record_of}
use Rattle.record.specs.Lanes.{bias_key}
use Rattle.record.specs.Packed.{unpacked_key}
use Rattle.record.proofs.FieldLaws.{unpacked_key-within}
use Rattle.record.proofs.KeyLaws.{key-below-bytes}
use Rattle.page.specs.Fields.{record_field, code_at}
use Rattle.page.specs.Page.{count_of, records_of, page_at}
use Rattle.page.proofs.FieldLaws.{length-records_from, get_d-records_from}
use Rattle.page_place.proofs.SortedLaws.{all_get_d}
use Rattle.model.specs.Sets.{in_shape, is_set, division_of}
use Rattle.model.proofs.SetLaws.{length-of-in_shape, fits-of-in_shape, in_shape-of-is_set}
use Rattle.store.specs.Store.{Store}
use Rattle.store.specs.Sound.{Sound}
use Rattle.store.proofs.ShownLaws.{word_on, shape-of-Sound, leaf_records-page}
use Rattle.page_ends.specs.Ends.{key_begins, ends_begin}

length-of-non_empty : {A : Type 0} (xs : List A) → non_empty xs ≡ true → 1 ≤ length xs
length-of-non_empty [] e = absurd (false≢true e)
length-of-non_empty (x ∷ xs) e = omega arith

module _ (s : Shape) (good : shape_number s ≡ 0) where
  -- ---- a record of a page whose key is within the shape

  unpacked_key-code_at : (page : List ℕ) (i : ℕ) → in_shape s (record_of s (record_field page i)) ≡ true
      → unpacked_key (code_at (bias_key s) page i) ≡ (record_of s (record_field page i)).key
  unpacked_key-code_at page i e =
      let r : Record = record_of s (record_field page i) in
      unpacked_key-within s good (record_field page i)
      (key-below-bytes s good r.key (length-of-in_shape s r e) (fits-of-in_shape s r e))

  -- ---- a page that shows a leaf of a set

  module _ (S : List Record) (set : is_set s S ≡ true) (p : ℕ → Bool) where
    -- the leaf's depth and its records
    abbrev x : ℕ
    x = leaf_depth p 0 (division_of s S)

    abbrev rs : List Record
    rs = leaf_records p 0 (division_of s S)

    -- a record in shape that begins with the leaf's string
    abbrev stands : Record → Bool
    stands r = in_shape s r && same_bits p (record_bit s r) x 0

    all-stand : all stands rs ≡ true
    unfolding division_of
    all-stand =
        all-and (in_shape s) (λ r. same_bits p (record_bit s r) x 0) rs
        (all-leaf_records (record_bit s) s.capacity p (in_shape s) (total (widths_of s)) 0 S (in_shape-of-is_set s S set))
        (all-same_bits-leaf_records (record_bit s) s.capacity p (total (widths_of s)) 0 S)

    module _ (page : List ℕ) (shown : records_of s page ≡ rs) where
      -- each of its records
      pub key_begins-shown : (i : ℕ) → i < count_of page → key_begins (widths_of s) x p (unpacked_key (code_at (bias_key s) page i)) ≡ true
      unfolding key_begins
      key_begins-shown i l =
          let r : Record = record_of s (record_field page i) in
          let here : stands r ≡ true =
          subst (λ t. stands t ≡ true) (get_d-records_from s (count_of page) i 2 page r l)
          (all_get_d stands (records_of s page) i r (subst (λ l. all stands l ≡ true) (sym shown) all-stand)
          (omega (arith, length-records_from s (count_of page) 2 page))) in
          let parts = and_split (in_shape s r) (same_bits p (record_bit s r) x 0) here in
          rw (unpacked_key-code_at page i parts.0)
          (and_both (index_fits (widths_of s) r.key) (same_bits (record_bit s r) p x 0) (fits-of-in_shape s r parts.0)
          (same_bits-comm (record_bit s r) p x 0 ∙ parts.1))

      -- the first and the last
      pub ends_begin-shown : non_empty rs ≡ true → ends_begin (widths_of s) (bias_key s) x p page (count_of page) ≡ true
      unfolding ends_begin
      ends_begin-shown e =
          let some : 1 ≤ count_of page =
          omega (arith, length-of-non_empty rs e, ap length shown, length-records_from s (count_of page) 2 page) in
          and_both _ _ (key_begins-shown 0 some) (key_begins-shown (count_of page - 1) (omega arith))

-- ---- sound stores

-- the page that a leaf's word names
pub ends_begin-sound : (store : Store) (S : List Record) → Sound store S → (p : ℕ → Bool) (g : ℕ)
    → word_on store p % 2 ^ 16 ≡ g + 1
    → let s = store.state.shape in
    let page = page_at s.capacity store.memory.bytes g in
    ends_begin (widths_of s) (bias_key s) (leaf_depth p 0 (division_of s S)) p page (count_of page) ≡ true
ends_begin-sound store S sound p g e =
    let s = store.state.shape in
    let h = leaf_records-page store S sound p g e in
    ends_begin-shown s (shape-of-Sound store S sound) S sound.set p (page_at s.capacity store.memory.bytes g)
    h.2 h.3
