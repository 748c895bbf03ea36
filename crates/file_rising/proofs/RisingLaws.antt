-- Laws of records in split order, told from neighbours, and of the loop over a file's records: those before place i are
-- in split order, and fit exactly if the bits that any of them has do. Assumes nothing.
use Prim.Native.Nat.{ℕ, zero, suc, ◌+◌, ◌*◌, ◌^◌, ◌≤◌, ◌<◌}
use mathlib.Core.Path.{◌≡◌, refl, sym, ap, ◌∙◌}
use mathlib.Core.Bool.{Bool, true, false, ◌&&◌, ◌||◌, and-true, and_assoc, false≢true, true≢false}
use mathlib.Core.List.{List, [], ◌∷◌, ◌++◌, map}
use mathlib.Core.Logic.{◌⊎◌, inl, inr}
use native.Mathlib.Nat.{zero-add}
use native.Mathlib.Omega.{arith}
use lib.Bits.{bit_or}
use lib.Dec.{ltb, eqb}
use lib.ListN.{length, get_or}
use lib.Pow.{pow_pos}
use borrow.Author.Tests.{lt-ltb, eq-eqb, ne_eqb}
use Rattle.std.specs.Ordering.{is_lt}
use Rattle.lists.specs.Filter.{all}
use Rattle.lists.proofs.Bools.{and_split, and_both, eq-of-iff}
use Rattle.lists.proofs.FilterLaws.{all-imp}
use Rattle.lists.proofs.Numbers.{lt-or-le}
use Rattle.shape.specs.Shape.{width_of, widths_of, total, index_fits, shape_number}
use Rattle.shape.specs.declared.Shape.{Shape}
use Rattle.split.specs.Bits.{split_bit}
use Rattle.region.specs.Sets.{before, sorted}
use Rattle.region.proofs.OrderLaws.{before-trans}
use Rattle.record.specs.Record.{Record, record_bit}
use Rattle.record.specs.Bytes.{record_size, field, record_of}
use Rattle.record.specs.Packed.{unpacked_key}
use Rattle.record.specs.Lanes.{bias_key}
use Rattle.record.proofs.ByteLaws.{AreBytes, AreBytes-field}
use Rattle.record.proofs.FieldLaws.{unpacked_key-key_in}
use Rattle.key_order.specs.Order.{compared}
use Rattle.page.specs.Page.{records_from}
use Rattle.page.specs.Fields.{fields_from}
use Rattle.page.proofs.PlaceLaws.{map-append}
use Rattle.page.proofs.FieldLaws.{records_from-fields, fields_from-add, length-records_from, get_d-records_from}
use Rattle.model.specs.Sets.{in_shape, is_set}
use Rattle.model.proofs.SetLaws.{sorted-of-is_set}
use Rattle.check_test.proofs.CodeLaws.{before-code}
use Rattle.check_page.specs.PageTest.{key_code}
use Rattle.check_page.proofs.CodeLaws.{is_lt-compared}
use Rattle.check_page.proofs.KeyLaws.{index_fits-or}
use Rattle.file.specs.File.{record_at, encodings_at}

-- ---- neighbours

module _ {R : Type 0} (bit : R → ℕ → Bool) (n t : ℕ) (none : R) where
  -- neighbours in split order are enough
  pub sorted-of-neighbours : (S : List R)
      → ((i : ℕ) → suc i < length S → before bit n t (get_or S i none) (get_or S (suc i) none) ≡ true)
      → sorted bit n t S ≡ true
  sorted-of-neighbours [] h = refl
  sorted-of-neighbours (x ∷ []) h = refl
  sorted-of-neighbours (x ∷ y ∷ ys) h =
      let rest = sorted-of-neighbours (y ∷ ys) (λ i k. h (suc i) (omega arith)) in
      let first = h 0 (omega arith) in
      let later = (and_split (all (before bit n t y) ys) (sorted bit n t ys) rest).0 in
      and_both (all (before bit n t x) (y ∷ ys)) (sorted bit n t (y ∷ ys))
      (and_both (before bit n t x y) (all (before bit n t x) ys) first
      (all-imp _ _ (λ z k. before-trans bit n t x y z first k) ys later))
      rest

  -- and needed
  pub neighbours-of-sorted : (S : List R) → sorted bit n t S ≡ true → (i : ℕ) → suc i < length S
      → before bit n t (get_or S i none) (get_or S (suc i) none) ≡ true
  neighbours-of-sorted [] e i h = absurd (omega arith)
  neighbours-of-sorted (x ∷ []) e i h = absurd (omega arith)
  neighbours-of-sorted (x ∷ y ∷ ys) e zero h =
      (and_split (before bit n t x y) (all (before bit n t x) ys)
      (and_split (all (before bit n t x) (y ∷ ys)) (sorted bit n t (y ∷ ys)) e).0).0
  neighbours-of-sorted (x ∷ y ∷ ys) e (suc i) h =
      neighbours-of-sorted (y ∷ ys) (and_split (all (before bit n t x) (y ∷ ys)) (sorted bit n t (y ∷ ys)) e).1 i
      (omega arith)

-- a test on all elements, with one more at the end
pub all_snoc : {A : Type 0} (f : A → Bool) (xs : List A) (x : A) → all f (xs ++ (x ∷ [])) ≡ (all f xs && f x)
all_snoc f [] x = and-true (f x)
all_snoc f (y ∷ ys) x = ap (λ β. f y && β) (all_snoc f ys x) ∙ sym (and_assoc (f y) (all f ys) (f x))

-- ---- whether a record may follow the one before it

module _ (ws a b : List ℕ) (i : ℕ) where
  -- record i, with the key b, is the first one, or stands behind the one before it, with the key a
  abbrev may_follow : Bool
  may_follow = eqb i 0 || before (split_bit ws) (total ws) 0 a b

  pub may_follow-first : i ≡ 0 → true ≡ may_follow
  may_follow-first e = sym (ap (λ β. β || before (split_bit ws) (total ws) 0 a b) (eq-eqb i 0 e))

  may_follow-other : (i ≡ 0 → ⊥) → may_follow ≡ before (split_bit ws) (total ws) 0 a b
  may_follow-other n = ap (λ β. β || before (split_bit ws) (total ws) 0 a b) (ne_eqb i 0 n)

  pub may_follow-compared : (i ≡ 0 → ⊥) → is_lt (compared ws a b) ≡ may_follow
  unfolding key_code
  may_follow-compared n =
      is_lt-compared ws a b ∙ sym (before-code (split_bit ws) (total ws) 0 a b) ∙ sym (may_follow-other n)

-- ---- the records of a file

module _ (s : Shape) (file : List ℕ) where
  abbrev ws : List ℕ
  ws = widths_of s

  abbrev W : ℕ
  W = total (widths_of s)

  -- record i
  abbrev pub record_in : ℕ → Record
  record_in i = record_of s (record_at file i)

  -- its key, as it is read
  pub unpacked_key-read : shape_number s ≡ 0 → AreBytes file → (i key bias : ℕ) → key ≡ encodings_at bias file i
      → bias ≡ bias_key s → unpacked_key key ≡ (record_in i).key
  unpacked_key-read good bytes i key bias read e =
      ap unpacked_key (read ∙ ap (λ b. encodings_at b file i) e)
      ∙ unpacked_key-key_in s good (record_at file i) (AreBytes-field file (record_size * i) record_size bytes)

  pub get_d-file : (n i : ℕ) (r : Record) → i < n → get_or (records_from s n 0 file) i r ≡ record_in i
  get_d-file n i r h =
      get_d-records_from s n i 0 file r h ∙ ap (λ o. record_of s (field file o record_size)) (zero-add (record_size * i))

  pub records_from-snoc : (i : ℕ) → records_from s (i + 1) 0 file ≡ records_from s i 0 file ++ (record_in i ∷ [])
  records_from-snoc i =
      records_from-fields s (i + 1) 0 file
      ∙ ap (map (record_of s)) (fields_from-add i 1 0 file)
      ∙ map-append (record_of s) (fields_from i 0 file) (fields_from 1 (0 + record_size * i) file)
      ∙ (λ k.
      sym (records_from-fields s i 0 file) k
      ++ (record_of s (field file (zero-add (record_size * i) k) record_size) ∷ []))

  -- two neighbours among n records
  before-file : (n i : ℕ) → suc i < n
      → before (record_bit s) W 0 (get_or (records_from s n 0 file) i (record_in 0))
      (get_or (records_from s n 0 file) (suc i) (record_in 0))
      ≡ before (record_bit s) W 0 (record_in i) (record_in (suc i))
  before-file n i h k =
      before (record_bit s) W 0 (get_d-file n i (record_in 0) (omega arith) k) (get_d-file n (suc i) (record_in 0) h k)

  in_shape-key : (i key : ℕ) → unpacked_key key ≡ (record_in i).key
      → in_shape s (record_in i) ≡ index_fits ws (unpacked_key key)
  unfolding record_of
  in_shape-key i key e = ap (index_fits ws) (sym e)

  before-keys : (i j last key : ℕ) → unpacked_key last ≡ (record_in i).key → unpacked_key key ≡ (record_in j).key
      → before (split_bit ws) W 0 (unpacked_key last) (unpacked_key key)
      ≡ before (record_bit s) W 0 (record_in i) (record_in j)
  before-keys i j last key e f =
      (λ k. before (split_bit ws) W 0 (e k) (f k))
      ∙ before-code (split_bit ws) W 0 (record_in i).key (record_in j).key
      ∙ sym (before-code (record_bit s) W 0 (record_in i) (record_in j))

  -- ---- the loop

  -- the records before place i are in split order, have the bits `bits`, and the last of them has the encodings `last`
  pub record Risen (last bits i : ℕ) : Type 0 where
    pub rising : (k : ℕ) → suc k < i → before (record_bit s) W 0 (record_in k) (record_in (suc k)) ≡ true
    pub fits : all (in_shape s) (records_from s i 0 file) ≡ index_fits ws (unpacked_key bits)
    pub last-key : (k : ℕ) → suc k ≡ i → unpacked_key last ≡ (record_in k).key

  zero-fits : (w : ℕ) → ltb 0 (2 ^ w) ≡ true
  zero-fits w = lt-ltb 0 (2 ^ w) (pow_pos w)

  index_fits-zero : index_fits ws (unpacked_key 0) ≡ true
  unfolding widths_of unpacked_key
  index_fits-zero =
      rw (zero-fits (width_of s 0), zero-fits (width_of s 1), zero-fits (width_of s 2), zero-fits (width_of s 3))

  pub risen-none : Risen 0 0 0
  risen-none = record {
    rising = λ k l. absurd (omega arith);
    fits = sym index_fits-zero;
    last-key = λ k e. absurd (omega arith);
  }

  module _ (last bits i : ℕ) (risen : Risen last bits i) where
    sorted-risen : sorted (record_bit s) W 0 (records_from s i 0 file) ≡ true
    sorted-risen =
        sorted-of-neighbours (record_bit s) W 0 (record_in 0) (records_from s i 0 file)
        (λ k l.
        let h : suc k < i = omega (arith, length-records_from s i 0 file) in
        before-file i k h ∙ risen.rising k h)

    pub risen-end : (n : ℕ) → i ≤ n → n ≤ i → index_fits ws (unpacked_key bits) ≡ is_set s (records_from s n 0 file)
    unfolding is_set
    risen-end n h l =
        let S = records_from s i 0 file in
        let e : i ≡ n = omega arith in
        sym (ap (λ β. β && all (in_shape s) S) sorted-risen ∙ risen.fits)
        ∙ ap (λ m. is_set s (records_from s m 0 file)) e

    -- at record i, by the widths at hand
    module _ (key : ℕ) (at : unpacked_key key ≡ (record_in i).key) (own : List ℕ) (same : own ≡ ws) where
      abbrev follows : Bool
      follows = may_follow own (unpacked_key last) (unpacked_key key) i

      neighbour : (k : ℕ) → suc k ≡ i → follows ≡ before (record_bit s) W 0 (record_in k) (record_in (suc k))
      neighbour k d =
          ap (λ w. may_follow w (unpacked_key last) (unpacked_key key) i) same
          ∙ may_follow-other ws (unpacked_key last) (unpacked_key key) i (λ z. omega arith)
          ∙ before-keys k i last key (risen.last-key k d) at
          ∙ ap (λ m. before (record_bit s) W 0 (record_in k) (record_in m)) (sym d)

      pub risen-next : true ≡ follows → Risen key (bit_or bits key) (i + 1)
      unfolding widths_of
      risen-next e = record {
        rising = λ k l. go k l (lt-or-le (suc k) i);
        fits =
            ap (all (in_shape s)) (records_from-snoc i)
            ∙ all_snoc (in_shape s) (records_from s i 0 file) (record_in i)
            ∙ (λ k. risen.fits k && in_shape-key i key at k)
            ∙ sym (index_fits-or (width_of s 0) (width_of s 1) (width_of s 2) (width_of s 3) bits key);
        last-key = λ k d. let there : i ≡ k = omega arith in at ∙ ap (λ m. (record_in m).key) there;
      }
        where
          go : (k : ℕ) → suc k < i + 1 → (suc k < i) ⊎ (i ≤ suc k)
              → before (record_bit s) W 0 (record_in k) (record_in (suc k)) ≡ true
          go k l (inl h) = risen.rising k h
          go k l (inr h) = sym (e ∙ neighbour k (omega arith))

      pub risen-stop : (n : ℕ) → i < n → false ≡ follows → false ≡ is_set s (records_from s n 0 file)
      risen-stop n h e = go i refl
        where
          go : (m : ℕ) → m ≡ i → false ≡ is_set s (records_from s n 0 file)
          go zero d =
              absurd
              (true≢false (may_follow-first own (unpacked_key last) (unpacked_key key) i (sym d) ∙ sym e))
          go (suc k) d =
              eq-of-iff false (is_set s (records_from s n 0 file)) (λ f. absurd (false≢true f))
              (λ f.
              absurd
              (true≢false
              (sym
              (neighbours-of-sorted (record_bit s) W 0 (record_in 0) (records_from s n 0 file)
              (sorted-of-is_set s (records_from s n 0 file) f) k (omega (arith, length-records_from s n 0 file)))
              ∙ before-file n k (omega arith)
              ∙ sym (e ∙ neighbour k d))))
