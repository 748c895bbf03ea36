-- Every sound store has a twin: each of its pages, with the encodings of its records in place of their values, has as
-- many records and the same ones where no attribute is marked. Assumes nothing.
use Prim.Native.Nat.{ℕ, zero, suc, ◌+◌, ◌*◌, ◌≤◌, ◌<◌}
use mathlib.Core.Path.{◌≡◌, refl, sym, ap, ◌∙◌}
use mathlib.Core.Bool.{Bool}
use mathlib.Core.List.{List, [], ◌++◌, append-nil}
use mathlib.Core.Logic.{◌⊎◌, inl, inr}
use native.Mathlib.Nat.{le_trans}
use native.Mathlib.Omega.{arith}
use lib.ListN.{length, take, drop}
use lib.Seq.{paste, get_or-drop}
use Rattle.lists.proofs.Numbers.{lt-or-le, eq-or-ne}
use Rattle.shape.specs.declared.Shape.{Shape}
use Rattle.region.specs.Division.{leaf_depth, leaf_records}
use Rattle.record.specs.Record.{Record}
use Rattle.record.specs.Bytes.{record_size, little_endian, records_bytes}
use Rattle.record.proofs.ByteLaws.{AreBytes, AreBytes-append, AreBytes-field, AreBytes-little_endian}
use Rattle.record.proofs.ByteLaws.{AreBytes-records_bytes, number_of-field-lt, length-records_bytes}
use Rattle.page.specs.Page.{page_size, count_of, records_from, records_of, page_at}
use Rattle.page.specs.Fields.{record_offset}
use Rattle.page.specs.Changes.{counted_page, appended_page}
use Rattle.page.proofs.FieldLaws.{length-records_from}
use Rattle.page.proofs.PageLaws.{All-records_from, records_from-records_bytes}
use Rattle.page.proofs.ChangeLaws.{length-appended_page, records_of-appended_page}
use Rattle.page.proofs.PartLaws.{page-end-le, length-page_at}
use Rattle.pages.specs.Pages.{with_page}
use Rattle.pages.proofs.PageLaws.{length-with_page, page_at-with_page-same, page_at-with_page-other}
use Rattle.directory_word.specs.Word.{word_of}
use Rattle.directory_word.specs.declared.Leaf.TheVariants.{Page}
use Rattle.model.specs.Sets.{division_of}
use Rattle.store.specs.Store.{store, word_at}
use Rattle.store.specs.Sound.{Sound}
use Rattle.store.specs.declared.State.{State}
use Rattle.store.proofs.SetLaws.{length-leaf_records}
use Rattle.store.proofs.ShownLaws.{LeafWord-page}
use Rattle.twin.specs.Twin.{unmarked, TwinExists}

-- ---- bytes

AreBytes-paste : (xs : List ℕ) (offset : ℕ) (ys : List ℕ) (n : ℕ) → AreBytes xs → AreBytes ys
    → AreBytes (paste xs offset ys n)
AreBytes-paste xs offset ys n h k =
    AreBytes-append (take offset xs ++ take n ys) (drop (offset + n) xs)
    (AreBytes-append (take offset xs) (take n ys) (AreBytes-field xs 0 offset h) (AreBytes-field ys 0 n k))
    (λ i. rw (get_or-drop (offset + n) xs i 0) (h (offset + n + i)))

-- ---- one page

-- its records written anew, without marks: encodings in place of values
abbrev encoded_page : Shape → List ℕ → List ℕ
encoded_page s page = appended_page 0 (count_of page) (records_bytes (unmarked s) (records_of s page)) page

module _ (s : Shape) (page : List ℕ) where
  AreBytes-encoded_page : AreBytes page → AreBytes (encoded_page s page)
  unfolding appended_page counted_page
  AreBytes-encoded_page are =
      let n = count_of page in
      let bytes = records_bytes (unmarked s) (records_of s page) in
      AreBytes-paste (paste page (record_offset 0) bytes (record_size * n)) 0 (little_endian 2 (0 + n)) 2
      (AreBytes-paste page (record_offset 0) bytes (record_size * n) are
      (AreBytes-records_bytes (unmarked s) (records_of s page)))
      (AreBytes-little_endian 2 (0 + n))

  module _ (whole : record_offset (count_of page) ≤ length page) where
    written-long : record_size * count_of page ≤ length (records_bytes (unmarked s) (records_of s page))
    written-long =
        omega
        (arith, length-records_bytes (unmarked s) (records_of s page), length-records_from s (count_of page) 2 page)

    length-encoded_page : length (encoded_page s page) ≡ length page
    length-encoded_page =
        length-appended_page 0 (count_of page) (records_bytes (unmarked s) (records_of s page)) page (omega arith)
        written-long

    records_of-encoded_page : AreBytes page → records_of (unmarked s) (encoded_page s page) ≡ records_of s page
    records_of-encoded_page are =
        let rs = records_of s page in
        let bytes = records_bytes (unmarked s) rs in
        records_of-appended_page 0 (count_of page) bytes page (omega arith) written-long (unmarked s)
        (omega (arith, number_of-field-lt page are 0 2))
        ∙ (λ i.
        records_from (unmarked s) (sym (length-records_from s (count_of page) 2 page) i) 0 (sym (append-nil bytes) i))
        ∙ records_from-records_bytes (unmarked s) rs (All-records_from s page are (count_of page) 2) [] [] 0 refl

-- ---- the lent bytes

abbrev page_of : Shape → List ℕ → ℕ → List ℕ
page_of s bytes g = page_at s.capacity bytes g

-- the first n pages so written
abbrev encoded_pages : Shape → ℕ → List ℕ → List ℕ
encoded_pages s zero bytes = bytes
encoded_pages s (suc g) bytes = with_page s.capacity g (encoded_page s (page_of s bytes g)) (encoded_pages s g bytes)

module _ (s : Shape) (P : ℕ) (bytes : List ℕ) (lent : P * page_size s.capacity ≤ length bytes)
    (few : (g : ℕ) → g < P → count_of (page_of s bytes g) ≤ s.capacity) where
  abbrev b : ℕ
  b = s.capacity

  abbrev written : ℕ → List ℕ
  written g = encoded_page s (page_of s bytes g)

  -- ---- their lengths

  page-lent : (g : ℕ) → g < P → g * page_size b + page_size b ≤ length bytes
  page-lent g l = le_trans (page-end-le b g P l) lent

  records-within : (g : ℕ) → g < P → record_offset (count_of (page_of s bytes g)) ≤ length (page_of s bytes g)
  records-within g l = omega (arith, few g l, length-page_at b g bytes (page-lent g l))

  length-written : (g : ℕ) → g < P → length (written g) ≡ page_size b
  length-written g l =
      length-encoded_page s (page_of s bytes g) (records-within g l) ∙ length-page_at b g bytes (page-lent g l)

  length-encoded_pages : (n : ℕ) → n ≤ P → length (encoded_pages s n bytes) ≡ length bytes
  length-encoded_pages zero h = refl
  length-encoded_pages (suc n) h =
      let before = length-encoded_pages n (omega arith) in
      length-with_page b n (written n) (encoded_pages s n bytes) (omega (arith, before, page-lent n (omega arith)))
      (length-written n (omega arith))
      ∙ before

  -- ---- one of them

  page_of-encoded_pages : (n : ℕ) → n ≤ P → (g : ℕ) → g < n → page_of s (encoded_pages s n bytes) g ≡ written g
  page_of-encoded_pages zero h g l = absurd (omega arith)
  page_of-encoded_pages (suc n) h g l = go (eq-or-ne g n) (λ k. page_of-encoded_pages n (omega arith) g k)
    where
      before : List ℕ
      before = encoded_pages s n bytes

      lent-before : n * page_size b + page_size b ≤ length before
      lent-before = omega (arith, length-encoded_pages n (omega arith), page-lent n (omega arith))

      go : (g ≡ n) ⊎ (g ≡ n → ⊥) → (g < n → page_of s before g ≡ written g)
          → page_of s (encoded_pages s (suc n) bytes) g ≡ written g
      go (inl e) earlier =
          ap (page_of s (encoded_pages s (suc n) bytes)) e
          ∙ page_at-with_page-same b n (written n) before lent-before (length-written n (omega arith))
          ∙ ap written (sym e)
      go (inr e) earlier =
          page_at-with_page-other b n (written n) before lent-before (length-written n (omega arith)) g e
          ∙ earlier (omega arith)

  -- ---- what they hold

  module _ (are : AreBytes bytes) where
    AreBytes-page_of : (g : ℕ) → AreBytes (page_of s bytes g)
    AreBytes-page_of g = AreBytes-field bytes (g * page_size b) (page_size b) are

    AreBytes-encoded_pages : (n : ℕ) → AreBytes (encoded_pages s n bytes)
    AreBytes-encoded_pages zero = are
    AreBytes-encoded_pages (suc n) =
        AreBytes-paste (encoded_pages s n bytes) (n * page_size b) (written n) (page_size b) (AreBytes-encoded_pages n)
        (AreBytes-encoded_page s (page_of s bytes n) (AreBytes-page_of n))

    records_of-encoded_pages : (g : ℕ) → g < P
        → records_of (unmarked s) (page_of s (encoded_pages s P bytes) g) ≡ records_of s (page_of s bytes g)
    records_of-encoded_pages g l =
        ap (records_of (unmarked s)) (page_of-encoded_pages P (omega arith) g l)
        ∙ records_of-encoded_page s (page_of s bytes g) (records-within g l) (AreBytes-page_of g)

    count_of-encoded_pages : (g : ℕ) → g < P
        → count_of (page_of s (encoded_pages s P bytes) g) ≡ count_of (page_of s bytes g)
    count_of-encoded_pages g l =
        let page = page_of s bytes g in
        let encoded = page_of s (encoded_pages s P bytes) g in
        sym (length-records_from (unmarked s) (count_of encoded) 2 encoded)
        ∙ ap length (records_of-encoded_pages g l)
        ∙ length-records_from s (count_of page) 2 page

-- ---- sound stores

module _ (st : State) (words bytes : List ℕ) (S : List Record) (sound : Sound (store st words bytes) S) where
  abbrev s : Shape
  s = st.shape

  abbrev P : ℕ
  P = st.limits.pages

  -- the page of a leaf has the at most b records of the leaf
  count_of-leaf : (p : ℕ → Bool) (g x : ℕ) → g < P → word_at s st.deepest words p ≡ word_of (Page g x)
      → count_of (page_of s bytes g) ≤ s.capacity
  count_of-leaf p g x l e =
      let page = page_of s bytes g in
      let rs = leaf_records p 0 (division_of s S) in
      let shown : records_of s page ≡ rs =
      (LeafWord-page s P bytes sound.most-pages rs (leaf_depth p 0 (division_of s S))
      (word_at s st.deepest words p) (sound.shown.word p) g x (omega (arith, sound.most-pages)) e).2 in
      omega (
        arith,
        ap length shown,
        length-records_from s (count_of page) 2 page,
        length-leaf_records s S sound.set sound.shape p,
      )

  -- a page without a leaf has none
  count_of-sound : (g : ℕ) → g < P → count_of (page_of s bytes g) ≤ s.capacity
  count_of-sound g l = go (lt-or-le s.capacity (count_of (page_of s bytes g)))
    where
      go : (s.capacity < count_of (page_of s bytes g)) ⊎ (count_of (page_of s bytes g) ≤ s.capacity)
          → count_of (page_of s bytes g) ≤ s.capacity
      go (inr few) = few
      go (inl many) = omega (arith, sound.shown.free g l (λ p x e. omega (arith, count_of-leaf p g x l e)))

pub twin-exists : TwinExists
twin-exists st words bytes are S sound =
    let s = st.shape in
    let P = st.limits.pages in
    let lent = sound.pages-lent in
    let few = count_of-sound st words bytes S sound in (
      encoded_pages s P bytes,
      record {
        same_length = length-encoded_pages s P bytes lent few P (omega arith);
        same_count = count_of-encoded_pages s P bytes lent few are;
        same-records = records_of-encoded_pages s P bytes lent few are;
      },
      AreBytes-encoded_pages s P bytes lent few are P,
    )
