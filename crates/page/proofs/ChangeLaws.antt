-- Laws of changed pages: their length, their count, and their records as a list that is cut, has one more or one less,
-- or more behind it. `records_from s n 2 page` are the records of a page whose count is n. Assumes nothing.
use Prim.Native.Nat.{ℕ, suc, ◌+◌, ◌-◌, ◌*◌, ◌^◌, ◌≤◌, ◌<◌}
use mathlib.Core.Path.{◌≡◌, sym, ap, ◌∙◌}
use mathlib.Core.List.{List, ◌∷◌, ◌++◌, map}
use native.Mathlib.Nat.{mod-eq_of_lt}
use native.Mathlib.Omega.{arith}
use lib.ListN.{length, take, drop, length-drop}
use lib.Seq.{paste, length-paste, take-length}
use Rattle.moves.proofs.PasteLaws.{window-paste-before, window-paste-in, drop-paste-past}
use Rattle.shape.specs.declared.Shape.{Shape}
use Rattle.record.specs.Bytes.{record_size, little_endian, number_of, field, record_of}
use Rattle.record.proofs.ByteLaws.{number_of-little_endian-two}
use Rattle.page.specs.Page.{count_of, records_from, records_of}
use Rattle.page.specs.Fields.{record_offset, fields_from}
use Rattle.page.specs.Changes.{counted_page, inserted_page, removed_page, appended_page, insert_at, remove_at}
use Rattle.page.proofs.FieldLaws.{records_from-fields, take-records_from, records_from-window}
use Rattle.page.proofs.FieldLaws.{fields_from-add, take-fields_from, drop-fields_from, fields_from-window}
use Rattle.page.proofs.PlaceLaws.{map-append, map-insert_at, map-remove_at}

-- ---- a count

module _ (n : ℕ) (page : List ℕ) (h : 2 ≤ length page) where
  pub length-counted_page : length (counted_page n page) ≡ length page
  unfolding counted_page
  length-counted_page = length-paste page 0 (little_endian 2 n) 2 h (omega arith)

  pub count_of-counted_page : n < 2 ^ 16 → count_of (counted_page n page) ≡ n
  unfolding counted_page
  count_of-counted_page l =
      ap number_of (window-paste-in page 0 (little_endian 2 n) 2 (omega arith) (omega arith) 0 2 (omega arith))
      ∙ number_of-little_endian-two n
      ∙ mod-eq_of_lt l

  drop-counted_page : (offset : ℕ) → 2 ≤ offset → drop offset (counted_page n page) ≡ drop offset page
  unfolding counted_page
  drop-counted_page offset l = drop-paste-past page 0 (little_endian 2 n) 2 (omega arith) (omega arith) offset l

  -- the records of a page are those that its count says, whatever page is so counted
  pub records_of-counted : (s : Shape) → n < 2 ^ 16 → records_of s (counted_page n page) ≡ records_from s n 2 page
  records_of-counted s l =
      ap (λ k. records_from s k 2 (counted_page n page)) (count_of-counted_page l)
      ∙ records_from-window s n 2 2 (counted_page n page) page
      (ap (take (record_size * n)) (drop-counted_page 2 (omega arith)))

-- the first m records stay
pub records_of-counted_page : (s : Shape) (m : ℕ) (page : List ℕ) → 2 ≤ length page → m < 2 ^ 16 → m ≤ count_of page
    → records_of s (counted_page m page) ≡ take m (records_of s page)
records_of-counted_page s m page h l k =
    records_of-counted m page h s l ∙ sym (take-records_from s m (count_of page) 2 page k)

-- ---- records appended

module _ (n k : ℕ) (source page : List ℕ) (h : record_offset (n + k) ≤ length page)
    (g : record_size * k ≤ length source) where
  length-appended : length (paste page (record_offset n) source (record_size * k)) ≡ length page
  length-appended = length-paste page (record_offset n) source (record_size * k) (omega arith) g

  pub length-appended_page : length (appended_page n k source page) ≡ length page
  unfolding appended_page
  length-appended_page =
      length-counted_page (n + k) (paste page (record_offset n) source (record_size * k)) (omega (arith, length-appended))
      ∙ length-appended

  fields_from-appended : fields_from (n + k) 2 (paste page (record_offset n) source (record_size * k))
      ≡ fields_from n 2 page ++ fields_from k 0 source
  fields_from-appended =
      let after = paste page (record_offset n) source (record_size * k) in
      let e : record_offset n + 0 ≡ record_offset n = omega arith in
      fields_from-add n k 2 after
      ∙ ap (λ l. l ++ fields_from k (record_offset n) after)
      (fields_from-window n 2 2 after page
      (window-paste-before page (record_offset n) source (record_size * k) (omega arith) g 2 (record_size * n)
      (omega arith)))
      ∙ ap (λ l. fields_from n 2 page ++ l)
      (fields_from-window k (record_offset n) 0 after source
      (ap (λ o. field after o (record_size * k)) (sym e)
      ∙ window-paste-in page (record_offset n) source (record_size * k) (omega arith) g 0 (record_size * k) (omega arith)))

  pub records_of-appended_page : (s : Shape) → n + k < 2 ^ 16
      → records_of s (appended_page n k source page) ≡ records_from s n 2 page ++ records_from s k 0 source
  unfolding appended_page
  records_of-appended_page s l =
      let after = paste page (record_offset n) source (record_size * k) in
      records_of-counted (n + k) after (omega (arith, length-appended)) s l
      ∙ records_from-fields s (n + k) 2 after
      ∙ ap (map (record_of s)) fields_from-appended
      ∙ map-append (record_of s) (fields_from n 2 page) (fields_from k 0 source)
      ∙ ap (λ l. l ++ map (record_of s) (fields_from k 0 source)) (sym (records_from-fields s n 2 page))
      ∙ ap (λ l. records_from s n 2 page ++ l) (sym (records_from-fields s k 0 source))

-- ---- a record removed

module _ (i n : ℕ) (page : List ℕ) (l : i < n) (h : record_offset n ≤ length page) where
  abbrev after_removal : List ℕ
  after_removal = paste page (record_offset i) (drop (record_offset i + record_size) page) (record_size * (n - i - 1))

  behind-long : record_size * (n - i - 1) ≤ length (drop (record_offset i + record_size) page)
  behind-long = simp length-drop (omega arith)

  length_removed : length after_removal ≡ length page
  length_removed =
      length-paste page (record_offset i) (drop (record_offset i + record_size) page) (record_size * (n - i - 1))
      (omega arith) behind-long

  pub length-removed_page : length (removed_page i n page) ≡ length page
  unfolding removed_page
  length-removed_page = length-counted_page (n - 1) after_removal (omega (arith, length_removed)) ∙ length_removed

  fields_from-removed : fields_from (n - 1) 2 after_removal ≡ remove_at i (fields_from n 2 page)
  unfolding remove_at
  fields_from-removed =
      let k = n - i - 1 in
      let source = drop (record_offset i + record_size) page in
      let count : n - 1 ≡ i + k = omega arith in
      let left : n - suc i ≡ k = omega arith in
      let to : record_offset i ≡ record_offset i + 0 = omega arith in
      let from : 2 + record_size * suc i ≡ record_offset i + record_size = omega arith in
      ap (λ m. fields_from m 2 after_removal) count
      ∙ fields_from-add i k 2 after_removal
      ∙ ap (λ fs. fs ++ fields_from k (record_offset i) after_removal)
      (fields_from-window i 2 2 after_removal page
      (window-paste-before page (record_offset i) source (record_size * k) (omega arith) behind-long 2 (record_size * i)
      (omega arith)))
      ∙ ap (λ fs. fields_from i 2 page ++ fs)
      (fields_from-window k (record_offset i) (record_offset i + record_size) after_removal page
      (ap (λ o. field after_removal o (record_size * k)) to
      ∙ window-paste-in page (record_offset i) source (record_size * k) (omega arith) behind-long 0 (record_size * k)
      (omega arith)))
      ∙ sym
      (ap (λ fs. fs ++ drop (suc i) (fields_from n 2 page)) (take-fields_from i n 2 page (omega arith))
      ∙ ap (λ fs. fields_from i 2 page ++ fs)
      (drop-fields_from (suc i) n 2 page l ∙ (λ j. fields_from (left j) (from j) page)))

  pub records_of-removed_page : (s : Shape) → n < 2 ^ 16
      → records_of s (removed_page i n page) ≡ remove_at i (records_from s n 2 page)
  unfolding removed_page
  records_of-removed_page s b =
      records_of-counted (n - 1) after_removal (omega (arith, length_removed)) s (omega arith)
      ∙ records_from-fields s (n - 1) 2 after_removal
      ∙ ap (map (record_of s)) fields_from-removed
      ∙ map-remove_at (record_of s) i (fields_from n 2 page)
      ∙ ap (remove_at i) (sym (records_from-fields s n 2 page))

-- ---- a record inserted

module _ (i n : ℕ) (bytes page : List ℕ) (l : i ≤ n) (e : length bytes ≡ record_size)
    (h : record_offset n + record_size ≤ length page) where
  abbrev moved_up : List ℕ
  moved_up = paste page (record_offset i + record_size) (drop (record_offset i) page) (record_size * (n - i))

  abbrev after_insertion : List ℕ
  after_insertion = paste moved_up (record_offset i) bytes record_size

  run_long : record_size * (n - i) ≤ length (drop (record_offset i) page)
  run_long = simp length-drop (omega arith)

  length-moved_up : length moved_up ≡ length page
  length-moved_up =
      length-paste page (record_offset i + record_size) (drop (record_offset i) page) (record_size * (n - i))
      (omega arith) run_long

  length_inserted : length after_insertion ≡ length page
  length_inserted =
      length-paste moved_up (record_offset i) bytes record_size (omega (arith, length-moved_up)) (omega arith)
      ∙ length-moved_up

  pub length-inserted_page : length (inserted_page i n bytes page) ≡ length page
  unfolding inserted_page
  length-inserted_page = length-counted_page (n + 1) after_insertion (omega (arith, length_inserted)) ∙ length_inserted

  -- the records before the place, at it, behind it
  fields-before : fields_from i 2 after_insertion ≡ fields_from i 2 page
  fields-before =
      fields_from-window i 2 2 after_insertion page
      (window-paste-before moved_up (record_offset i) bytes record_size (omega (arith, length-moved_up)) (omega arith)
      2 (record_size * i) (omega arith)
      ∙ window-paste-before page (record_offset i + record_size) (drop (record_offset i) page) (record_size * (n - i))
      (omega arith) run_long 2 (record_size * i) (omega arith))

  field-here : field after_insertion (record_offset i) record_size ≡ bytes
  field-here =
      let at : record_offset i ≡ record_offset i + 0 = omega arith in
      ap (λ o. field after_insertion o record_size) at
      ∙ window-paste-in moved_up (record_offset i) bytes record_size (omega (arith, length-moved_up))
      (omega arith) 0 record_size (omega arith)
      ∙ ap (λ m. take m bytes) (sym e)
      ∙ take-length bytes

  fields-behind : fields_from (n - i) (record_offset i + record_size) after_insertion
      ≡ fields_from (n - i) (record_offset i) page
  fields-behind =
      let from = record_offset i + record_size in
      let at : from ≡ from + 0 = omega arith in
      fields_from-window (n - i) from (record_offset i) after_insertion page
      (ap (take (record_size * (n - i)))
      (drop-paste-past moved_up (record_offset i) bytes record_size (omega (arith, length-moved_up)) (omega arith) from
      (omega arith))
      ∙ ap (λ o. field moved_up o (record_size * (n - i))) at
      ∙ window-paste-in page from (drop (record_offset i) page) (record_size * (n - i)) (omega arith) run_long
      0 (record_size * (n - i)) (omega arith))

  fields_from-inserted : fields_from (n + 1) 2 after_insertion ≡ insert_at i bytes (fields_from n 2 page)
  unfolding insert_at
  fields_from-inserted =
      let count : n + 1 ≡ i + suc (n - i) = omega arith in
      ap (λ m. fields_from m 2 after_insertion) count
      ∙ fields_from-add i (suc (n - i)) 2 after_insertion
      ∙ (λ j. fields-before j ++ (field-here j ∷ fields-behind j))
      ∙ sym
      (ap (λ fs. fs ++ (bytes ∷ drop i (fields_from n 2 page))) (take-fields_from i n 2 page l)
      ∙ ap (λ fs. fields_from i 2 page ++ (bytes ∷ fs)) (drop-fields_from i n 2 page l))

  pub records_of-inserted_page : (s : Shape) → n + 1 < 2 ^ 16
      → records_of s (inserted_page i n bytes page) ≡ insert_at i (record_of s bytes) (records_from s n 2 page)
  unfolding inserted_page
  records_of-inserted_page s b =
      records_of-counted (n + 1) after_insertion (omega (arith, length_inserted)) s b
      ∙ records_from-fields s (n + 1) 2 after_insertion
      ∙ ap (map (record_of s)) fields_from-inserted
      ∙ map-insert_at (record_of s) i bytes (fields_from n 2 page)
      ∙ ap (insert_at i (record_of s bytes)) (sym (records_from-fields s n 2 page))
