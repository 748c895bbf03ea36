-- Laws of the lent pages after a delete, on a sound store: the page of the key's leaf loses the key's record; joined
-- with its sibling's, the page that is kept has the records of both in split order. Assumes nothing.
use Prim.Native.Nat.{ℕ, suc, ◌+◌, ◌-◌, ◌%◌, ◌^◌, ◌≤◌, ◌<◌}
use mathlib.Core.Path.{◌≡◌, sym, ap, ◌∙◌}
use mathlib.Core.Bool.{Bool, true}
use mathlib.Core.List.{List}
use native.Mathlib.Nat.{le_trans}
use native.Mathlib.Omega.{arith}
use lib.ListN.{length, get_or}
use borrow.Author.Tests.{eq-eqb}
use Rattle.lists.specs.Filter.{all, non_empty}
use Rattle.shape.specs.Shape.{widths_of, total, index_fits, shape_number}
use Rattle.shape.specs.declared.Shape.{Shape}
use Rattle.shape.proofs.ShapeLaws.{capacity-bounds}
use Rattle.region.specs.Sets.{in_order}
use Rattle.region.proofs.StringLeafLaws.{all-leaf_records}
use Rattle.record.specs.Record.{Record, record_bit, same_key}
use Rattle.record.specs.Bytes.{record_of}
use Rattle.record.specs.Lanes.{lane_sum, bias_key, fields_key}
use Rattle.record.specs.Packed.{packed_key}
use Rattle.record.proofs.FieldLaws.{packed_key-record_of, lane_sum-fields_key}
use Rattle.record.proofs.KeyLaws.{key-below-bytes}
use Rattle.record.proofs.PackedLaws.{packed_key-lt}
use Rattle.page.specs.Page.{count_of, records_of, page_at}
use Rattle.page.specs.Fields.{record_field, key_at}
use Rattle.page.specs.Changes.{remove_at}
use Rattle.page.proofs.FieldLaws.{get_d-records_from}
use Rattle.pages.specs.Pages.{PageLent}
use Rattle.page.proofs.PartLaws.{page-end-le}
use Rattle.page_place.proofs.SortedLaws.{all_get_d}
use Rattle.directory_word.specs.Word.{word_of}
use Rattle.directory_word.specs.declared.Leaf.TheVariants.{Page}
use Rattle.directory_word.proofs.WordLaws.{word_of-page}
use Rattle.model.specs.Sets.{in_shape, stored, without_key, division_of}
use Rattle.model.proofs.SetLaws.{length-of-in_shape, fits-of-in_shape, in_shape-of-is_set}
use Rattle.store.specs.Store.{Store}
use Rattle.store.specs.Sound.{Sound}
use Rattle.store.proofs.ShownLaws.{page_records, word_on, shape-of-Sound}
use Rattle.store.proofs.KeyLaws.{key_word}
use Rattle.change.specs.Delete.{key_string, JoinFound}
use Rattle.change.proofs.BoundLaws.{count-bounds}
use Rattle.change.proofs.DeleteWordLaws.{length-page_records, leaf-of-page-word}
use Rattle.change.proofs.DeletePlaceLaws.{non_empty-filter, without_key-place}
use Rattle.model.proofs.PackedLaws.{same_key-packed}
use Rattle.delete_pages.specs.PageBytes.{removed_bytes, kept_page, freed_page, joined_bytes}
use Rattle.delete_pages.proofs.PageLaws.{records_of-removed_bytes, page_at-removed_bytes-other}
use Rattle.delete_pages.proofs.PageLaws.{count_of-joined_bytes-freed, records_of-joined_bytes-kept}
use Rattle.delete_pages.proofs.PageLaws.{page_at-joined_bytes-other}

module _ (before : Store) (S : List Record) (sound : Sound before S) where
  abbrev s : Shape
  s = before.state.shape

  abbrev P : ℕ
  P = before.state.limits.pages

  abbrev b : ℕ
  b = before.state.shape.capacity

  abbrev bytes : List ℕ
  bytes = before.memory.bytes

  abbrev records_on : ℕ → List Record
  records_on g = page_records s bytes g

  abbrev good : shape_number s ≡ 0
  good = shape-of-Sound before S sound

  -- each of the P pages is lent
  pub lent-of-sound : (g : ℕ) → g < P → PageLent b g bytes
  lent-of-sound g l =
      record {
        capacity-le = (capacity-bounds s good).1;
        number_lt = omega (arith, sound.most-pages);
        whole = le_trans (page-end-le b g P l) sound.pages-lent;
      }

  -- a leaf with page g has at most b records
  count-le : (q : ℕ → Bool) (g x : ℕ) → g < P → word_on before q ≡ word_of (Page g x) → count_of (page_at b bytes g) ≤ b
  count-le q g x l e = (count-bounds before S sound q g x (omega (arith, sound.most-pages)) e).1

  module _ (key : List ℕ) where
    module _ (four : length key ≡ 4) (fits : index_fits (widths_of s) key ≡ true) (g x : ℕ) (within : g < P)
        (own : word_on before (key_string before key) ≡ word_of (Page g x)) (i n : ℕ)
        (count : count_of (page_at b bytes g) ≡ n) (l : i < n)
        (here : key_at (page_at b bytes g) i ≡ fields_key s (packed_key key)) where
      abbrev page : List ℕ
      page = page_at b bytes g

      abbrev r : Record
      r = record_of s (record_field page i)

      few : n ≤ b
      few = omega (arith, count, count-le (key_string before key) g x within own)

      place : i < length (records_on g)
      place = omega (arith, count, length-page_records s bytes g)

      -- ---- record i is the key's

      record-here : get_or (records_on g) i r ≡ r
      record-here = get_d-records_from s (count_of page) i 2 page r (omega (arith, count))

      in_shape-here : in_shape s r ≡ true
      unfolding division_of
      in_shape-here =
          let shown = (leaf-of-page-word before S sound (key_string before key) g x within own).1 in
          let inside : all (in_shape s) (records_on g) ≡ true =
          ap (all (in_shape s)) shown
          ∙ all-leaf_records (record_bit s) b (key_string before key) (in_shape s) (total (widths_of s)) 0 S
          (in_shape-of-is_set s S sound.set) in
          ap (in_shape s) (sym record-here) ∙ all_get_d (in_shape s) (records_on g) i r inside place

      same_key-here : same_key key (get_or (records_on g) i r) ≡ true
      same_key-here =
          let six = key-below-bytes s good key four fits in
          let small = key-below-bytes s good r.key (length-of-in_shape s r in_shape-here)
          (fits-of-in_shape s r in_shape-here) in
          ap (same_key key) record-here
          ∙ same_key-packed key r six small
          ∙ eq-eqb (packed_key r.key) (packed_key key)
          (packed_key-record_of s good (record_field page i) small
          ∙ ap (λ k. lane_sum k (bias_key s)) here
          ∙ lane_sum-fields_key s good (packed_key key) (packed_key-lt key six))

      without_key-remove_at : without_key key (records_on g) ≡ remove_at i (records_on g)
      unfolding remove_at
      without_key-remove_at =
          let field : key_word before key % 2 ^ 16 ≡ g + 1 =
          ap (λ w. w % 2 ^ 16) own ∙ word_of-page g x (omega (arith, sound.most-pages)) in
          without_key-place before S sound key fits g field i r place same_key-here

      pub stored_here : non_empty (stored key (page_records before.state.shape before.memory.bytes g)) ≡ true
      stored_here = non_empty-filter (same_key key) (records_on g) i r place same_key-here

      -- ---- removed

      pub records-removed : page_records s (removed_bytes b g i n bytes) g ≡ without_key key (page_records s bytes g)
      records-removed =
          records_of-removed_bytes b g i n bytes (lent-of-sound g within) l few s count ∙ sym without_key-remove_at

      pub records-removed-other : (h : ℕ) → (h ≡ g → ⊥)
          → page_records s (removed_bytes b g i n bytes) h ≡ page_records s bytes h
      records-removed-other h o =
          ap (records_of s) (page_at-removed_bytes-other b g i n bytes (lent-of-sound g within) l few h o)

    -- ---- joined

    module _ (four : length key ≡ 4) (fits : index_fits (widths_of s) key ≡ true) (g h m y : ℕ)
        (found : JoinFound before key g h m y) (apart : h ≡ g → ⊥) (i n k : ℕ) (count : count_of (page_at b bytes g) ≡ n)
        (count-h : count_of (page_at b bytes h) ≡ k) (l : i < n)
        (here : key_at (page_at b bytes g) i ≡ fields_key s (packed_key key)) where
      abbrev β : Bool
      β = key_string before key m

      lent-g : PageLent b g bytes
      lent-g = lent-of-sound g found.own-within

      lent-h : PageLent b h bytes
      lent-h = lent-of-sound h found.other-within

      few-g : n ≤ b
      few-g = omega (arith, count, count-le (key_string before key) g (suc m) found.own-within found.own)

      few-h : k ≤ b
      few-h = omega (arith, count-h, count-le found.other.0 h (suc m) found.other-within found.other.2)

      fit : n - 1 + k ≤ b
      fit = omega (arith, found.fit, count, count-h)

      pub records-joined : page_records s (joined_bytes (key_string before key m) b g i n h k bytes)
          (kept_page (key_string before key m) g h)
          ≡ in_order (key_string before key m) (without_key key (page_records s bytes g)) (page_records s bytes h)
      records-joined =
          records_of-joined_bytes-kept b g i n bytes lent-g l few-g h k lent-h few-h fit apart s count count-h β
          ∙ ap (λ rs. in_order β rs (records_on h))
          (sym (without_key-remove_at four fits g (suc m) found.own-within found.own i n count l here))

      pub count-freed : count_of (page_at b (joined_bytes (key_string before key m) b g i n h k bytes)
          (freed_page (key_string before key m) g h)) ≡ 0
      count-freed = count_of-joined_bytes-freed b g i n bytes lent-g l few-g h k lent-h few-h fit apart β

      pub records-joined-other : (q : ℕ) → (q ≡ g → ⊥) → (q ≡ h → ⊥)
          → page_records s (joined_bytes (key_string before key m) b g i n h k bytes) q ≡ page_records s bytes q
      records-joined-other q ng nh =
          ap (records_of s) (page_at-joined_bytes-other b g i n bytes lent-g l few-g h k lent-h few-h fit β q ng nh)
