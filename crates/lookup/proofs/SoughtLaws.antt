-- Laws of lookup's answer on a store that is sound where the key is read: what is stored under the key decides. Only
-- the page of the key's leaf is looked at. Assumes nothing.
use Prim.Native.Nat.{ℕ, zero, suc, ◌+◌, ◌/◌, ◌%◌, ◌^◌, ◌≤◌, ◌<◌}
use mathlib.Core.Path.{◌≡◌, refl, sym, ap, ◌∙◌}
use mathlib.Core.Bool.{Bool, true, not, cond}
use mathlib.Core.List.{List, [], ◌∷◌}
use native.Mathlib.Numerals.{add-one}
use native.Mathlib.Omega.{arith}
use lib.ListN.{length}
use Rattle.lists.specs.Filter.{all, non_empty}
use Rattle.lists.proofs.FilterLaws.{all_filter}
use Rattle.shape.specs.Shape.{shape_number, widths_of}
use Rattle.shape.specs.Key.{key_fits, encodings}
use Rattle.shape.specs.declared.Shape.{Shape}
use Rattle.shape.proofs.AttributeLaws.{per_attribute-get_d}
use Rattle.split.specs.Bits.{split_bit}
use Rattle.region.specs.Strings.{same_bits}
use Rattle.region.specs.Division.{leaf_depth, leaf_records}
use Rattle.record.specs.Record.{Record, record_bit}
use Rattle.record.specs.Lanes.{bias_key, fields_key}
use Rattle.record.specs.Packed.{packed_key, unpacked_key, SixteenBits}
use Rattle.record.proofs.PackedLaws.{unpacked_key-packed_key}
use Rattle.page.specs.Page.{count_of, records_of, page_at}
use Rattle.page.proofs.FieldLaws.{length-records_from}
use Rattle.directory_word.specs.Word.{leaf_of, word_of}
use Rattle.directory_word.specs.declared.Leaf.TheVariants.{Page}
use Rattle.directory_word.proofs.LeafLaws.{leaf_of-empty}
use Rattle.model.specs.Sets.{in_shape, is_set, stored, division_of, key_depth}
use Rattle.model.proofs.SetLaws.{length-encodings, SixteenBits-encodings, in_shape-of-is_set}
use Rattle.store.specs.Store.{Store}
use Rattle.store.specs.Sound.{Sound}
use Rattle.store.specs.Promises.{key_number, depth_at, key_query, with_bytes, SoundWhereRead}
use Rattle.store.proofs.ShownLaws.{word_on-depth, shape-of-Sound, leaf_records-page}
use Rattle.store.proofs.SetLaws.{length-leaf_records}
use Rattle.store.proofs.DividedLaws.{leaf_depth-le-total, leaf_records-division_of}
use Rattle.store.proofs.KeyLaws.{key_word, stored-no-page, stored-page, depth_at-sound}
use Rattle.refusals.proofs.LentLaws.{lent_number_by-none, key_number_by-key, key_number-by}
use Rattle.refusals.proofs.LimitsLaws.{limits-of-sound}
use Rattle.leaf_word.specs.Hold.{own_page}
use Rattle.leaf_word.proofs.HoldLaws.{word-of-sound}
use Rattle.page_ends.specs.Ends.{ends_begin}
use Rattle.page_ends.specs.Fair.{fair_count}
use Rattle.page_ends.proofs.FairLaws.{fair_count-own}
use Rattle.page_ends.proofs.SoundLaws.{ends_begin-shown}
use Rattle.lookup.specs.Private.{count_answer, page_answer, word_answer, sought_answer}
use Rattle.lookup.proofs.CaseLaws.{count_answer-some, word_answer-empty, word_answer-page, sought_answer-word}
use Rattle.lookup.proofs.KeyBitLaws.{agrees-key_query}
use Rattle.lookup.proofs.StoredLaws.{stored_answer, place_answer-stored}

-- ---- a leaf's page

-- a page that shows a leaf's records
module _ (s : Shape) (good : shape_number s ≡ 0) (S : List Record) (set : is_set s S ≡ true) (p : ℕ → Bool) where
  abbrev records : List Record
  records = leaf_records p 0 (division_of s S)

  all-in_shape : all (in_shape s) records ≡ true
  all-in_shape =
      let x = leaf_depth p 0 (division_of s S) in
      rw (leaf_records-division_of s S p)
      (all_filter (in_shape s) (λ r. same_bits p (record_bit s r) x 0) (in_shape s) (λ r f e. f) S
      (in_shape-of-is_set s S set))

  pub count_answer-stored : (x b : ℕ) (own : Bool) (key page : List ℕ) → own ≡ true → SixteenBits key
      → records_of s page ≡ records → non_empty records ≡ true → length records ≤ b
      → count_answer x (fair_count b own page) page (fields_key s (packed_key key))
      ≡ stored_answer x (stored key (records_of s page))
  count_answer-stored x b own key page o k e h l =
      let n = count_of page in
      let count : n ≡ length records = sym (length-records_from s n 2 page) ∙ ap length e in
      let not-zero : n ≡ 0 → ⊥ = λ z. some records h (sym count ∙ z) in
      let fields = fields_key s (packed_key key) in
      ap (λ m. count_answer x m page fields) (sym (fair_count-own b own page n refl not-zero (omega arith) o))
      ∙ sym (count_answer-some x page n fields not-zero)
      ∙ place_answer-stored s good x key page k n n 0 (omega arith) (ap (all (in_shape s)) e ∙ all-in_shape)
    where
      some : (rs : List Record) → non_empty rs ≡ true → length rs ≡ 0 → ⊥
      some [] h z = let d : ◌≡◌ {A = ℕ} 0 1 = cc in omega arith
      some (r ∷ rs) h z = omega arith

-- ---- a store that is sound where the key is read

leaf_of-suc : (word g : ℕ) → word % 2 ^ 16 ≡ suc g → leaf_of word ≡ Page g (word / 2 ^ 16)
unfolding leaf_of
leaf_of-suc word g e = rw e

module _ (store : Store) (values : List ℕ) (S : List Record)
    (w : SoundWhereRead store (key_query store.state.shape values) S) where
  abbrev s : Shape
  s = store.state.shape

  -- the key's encodings, and its split bits
  abbrev key : List ℕ
  key = encodings s values

  abbrev bits : ℕ → Bool
  bits = split_bit (widths_of s) key

  -- the sound store that it is, but for other keys' pages
  abbrev whole : Store
  whole = with_bytes store w.0

  -- the depth that the word at the key's cell names
  abbrev depth : ℕ
  depth = depth_at whole values

  sound : Sound whole S
  sound = w.1

  good : shape_number s ≡ 0
  good = shape-of-Sound whole S sound

  -- none of 1, 14, 15 and 2 holds
  pub key_number-read : key_number store values ≡ cond (not (key_fits s values)) 3 0
  key_number-read =
      let st = store.state in
      let words = store.memory.words in
      let bytes = store.memory.bytes in
      key_number-by st words bytes values
      ∙ key_number_by-key st (length words) (length bytes) values
      (lent_number_by-none st (length words) (length bytes)
      (record {
        shape = good;
        words-lent = sound.words-lent;
        pages-lent = omega (arith, sound.pages-lent, w.2);
      }))

  word_answer-sound : key_fits s values ≡ true → (field : ℕ) → key_word whole key % 2 ^ 16 ≡ field
      → word_answer store.state store.memory.bytes (packed_key key) (key_word whole key)
      ≡ stored_answer depth (stored key S)
  word_answer-sound f zero e =
      sym (word_answer-empty store.state store.memory.bytes (packed_key key) (key_word whole key)
      (word-of-sound whole S sound bits) _ (leaf_of-empty (key_word whole key) e))
      ∙ ap (stored_answer depth) (sym (stored-no-page whole S sound key e))
  word_answer-sound f (suc g) e =
      sym (word_answer-page store.state store.memory.bytes (packed_key key) (key_word whole key)
      (word-of-sound whole S sound bits) g _ (leaf_of-suc (key_word whole key) g e))
      ∙ ap (page_answer s depth (packed_key key)) read
      ∙ count_answer-stored s good S sound.set bits depth s.capacity _ key page own sixteen leaf.2 leaf.3
      (length-leaf_records s S sound.set sound.shape bits)
      ∙ ap (stored_answer depth) (sym (stored-page whole S sound key g plus).1)
    where
      plus : key_word whole key % 2 ^ 16 ≡ g + 1
      plus = e ∙ sym (add-one g)

      page : List ℕ
      page = page_at s.capacity w.0 g

      leaf : (g < store.state.limits.pages)
          × (key_word whole key ≡ word_of (Page g (leaf_depth bits 0 (division_of s S))))
          × (records_of s page ≡ leaf_records bits 0 (division_of s S))
          × (non_empty (leaf_records bits 0 (division_of s S)) ≡ true)
      leaf = leaf_records-page whole S sound bits g plus

      sixteen : SixteenBits key
      sixteen = SixteenBits-encodings s values good f

      -- the key back from its packed form
      unpacked : unpacked_key (packed_key key) ≡ key
      unpacked = unpacked_key-packed_key key sixteen ∙ per_attribute-get_d 0 key (length-encodings s values)

      own : own_page s depth (packed_key key) page (count_of page) ≡ true
      own =
          ap (λ k. ends_begin (widths_of s) (bias_key s) depth (split_bit (widths_of s) k) page (count_of page)) unpacked
          ∙ ap (λ x. ends_begin (widths_of s) (bias_key s) x bits page (count_of page)) (word_on-depth whole S sound bits)
          ∙ ends_begin-shown s good S sound.set bits page leaf.2 leaf.3

      -- the page of the key's leaf is as that of the sound store
      read : page_at s.capacity store.memory.bytes g ≡ page
      read = w.3 bits (agrees-key_query s values good _ (leaf_depth-le-total s S bits)) g _ leaf.0 leaf.1

  pub sought_answer-stored : key_fits s values ≡ true
      → sought_answer store key ≡ stored_answer (key_depth s key S) (stored key S)
  sought_answer-stored f =
      let limits = limits-of-sound whole S sound in
      sym (sought_answer-word store key limits (key_word whole key) (packed_key key) refl refl)
      ∙ word_answer-sound f (key_word whole key % 2 ^ 16) refl
      ∙ ap (λ x. stored_answer x (stored key S)) (depth_at-sound whole S sound values)
