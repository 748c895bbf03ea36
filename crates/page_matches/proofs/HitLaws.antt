-- Laws of the records of a page that pass a test: they are whole records, and those that pass a test of records; all
-- where nothing is given; all written at once. Assumes nothing.
use Prim.Native.Nat.{ℕ, zero, suc, ◌+◌, ◌-◌, ◌*◌, ◌/◌, ◌≤◌, min}
use mathlib.Core.Path.{◌≡◌, refl, sym, ap, ◌∙◌}
use mathlib.Core.Bool.{Bool, true}
use mathlib.Core.List.{List, [], ◌∷◌, ◌++◌, map}
use native.Mathlib.Omega.{arith}
use lib.Bits.{bit_and, and_zero_r}
use lib.Dec.{eqb}
use lib.ListN.{length, take, drop, length-drop}
use lib.Seq.{paste, paste-zero, take-take, length-take-le}
use borrow.Author.Tests.{eqb-true}
use Rattle.lists.specs.Filter.{filter}
use Rattle.lists.specs.Members.{All}
use Rattle.lists.proofs.Bools.{and_split}
use Rattle.lists.proofs.FilterLaws.{filter-ext, filter-true, filter_map, length-filter-le}
use Rattle.lists.proofs.MemberLaws.{All-imp, All-filter}
use Rattle.shape.specs.declared.Shape.{Shape}
use Rattle.record.specs.Record.{Record}
use Rattle.record.specs.Bytes.{record_size, field, record_of}
use Rattle.record.specs.Packed.{key_in}
use Rattle.record.proofs.ByteLaws.{AreBytes, AreBytes-field, field-append-field}
use Rattle.page.specs.Page.{records_from}
use Rattle.page.specs.Fields.{record_offset, fields_from}
use Rattle.page.proofs.FieldLaws.{records_from-fields, length-fields_from, take-fields_from}
use Rattle.page_matches.specs.declared.Pattern.{Pattern}
use Rattle.page_matches.specs.Pattern.{gives_nothing, passes}
use Rattle.page_matches.specs.Output.{hits, emit}
use Rattle.page_matches.proofs.EmitLaws.{IsField, joined, emit-joined, take_min}

-- ---- whole records

IsField-fields_from : (n offset : ℕ) (page : List ℕ) → AreBytes page → offset + record_size * n ≤ length page
    → All IsField (fields_from n offset page)
IsField-fields_from zero offset page b h = tt
IsField-fields_from (suc n) offset page b h = (
  (
    length-take-le record_size (drop offset page)
        (simp length-drop (omega arith)),
    AreBytes-field page offset record_size b,
  ),
  IsField-fields_from n (offset + record_size) page b (omega arith),
)

pub IsField-hits : (test : List ℕ → Bool) (n : ℕ) (page : List ℕ) → AreBytes page → record_offset n ≤ length page
    → All IsField (hits test n page)
unfolding hits
IsField-hits test n page b h =
    All-imp _ IsField (λ f k. k.0) (hits test n page)
    (All-filter IsField test (fields_from n 2 page) (IsField-fields_from n 2 page b h))

pub length-hits-le : (test : List ℕ → Bool) (n : ℕ) (page : List ℕ) → length (hits test n page) ≤ n
unfolding hits
length-hits-le test n page =
    omega (arith, length-filter-le test (fields_from n 2 page), length-fields_from n 2 page)

-- ---- the records that pass

filter-All : {A : Type 0} (f g : A → Bool) (xs : List A) → All (λ x. f x ≡ g x) xs → filter f xs ≡ filter g xs
filter-All f g [] h = refl
filter-All f g (x ∷ xs) h = rw (h.0, filter-All f g xs h.1)

-- a test of bytes that is a test of the record which they hold
pub map-hits : (s : Shape) (test : List ℕ → Bool) (wanted : Record → Bool)
    → ((bytes : List ℕ) → AreBytes bytes → test bytes ≡ wanted (record_of s bytes))
    → (n : ℕ) (page : List ℕ) → AreBytes page → record_offset n ≤ length page
    → map (record_of s) (hits test n page) ≡ filter wanted (records_from s n 2 page)
unfolding hits
map-hits s test wanted same n page b h =
    let fields = fields_from n 2 page in
    ap (map (record_of s))
    (filter-All test (λ f. wanted (record_of s f)) fields
    (All-imp IsField _ (λ f k. same f k.1) fields (IsField-fields_from n 2 page b h)))
    ∙ sym (filter_map wanted (record_of s) fields)
    ∙ ap (filter wanted) (sym (records_from-fields s n 2 page))

-- ---- all records

-- a pattern that gives nothing
pub hits-all : (p : Pattern) (n : ℕ) (page : List ℕ) → gives_nothing p ≡ true
    → hits (passes p) n page ≡ fields_from n 2 page
unfolding hits passes gives_nothing
hits-all p n page e =
    let parts = and_split (eqb p.mask 0) (eqb p.value 0) e in
    let mask = eqb-true p.mask 0 parts.0 in
    let value = eqb-true p.value 0 parts.1 in
    filter-ext (passes p) (λ f. true)
    (λ f. (λ i. eqb (bit_and (key_in f) (mask i)) (value i)) ∙ ap (λ k. eqb k 0) (and_zero_r (key_in f)))
    (fields_from n 2 page)
    ∙ filter-true (fields_from n 2 page)

joined-fields_from : (n offset : ℕ) (page : List ℕ)
    → joined (fields_from n offset page) ≡ field page offset (record_size * n)
joined-fields_from zero offset page = refl
joined-fields_from (suc n) offset page =
    let size : record_size + record_size * n ≡ record_size * suc n = omega arith in
    ap (λ l. field page offset record_size ++ l) (joined-fields_from n (offset + record_size) page)
    ∙ field-append-field page offset record_size (record_size * n)
    ∙ ap (field page offset) size

module _ (page out : List ℕ) (n i : ℕ) (are : AreBytes page) (h : record_offset n ≤ length page) where
  abbrev room : ℕ
  room = length out / record_size - i

  whole : emit out i (fields_from n 2 page)
      ≡ paste out (record_size * i) (joined (take room (fields_from n 2 page)))
      (record_size * length (take room (fields_from n 2 page)))
  whole = emit-joined (fields_from n 2 page) out i (IsField-fields_from n 2 page are h)

  pub emit-none : length out / record_size ≤ i → emit out i (fields_from n 2 page) ≡ out
  emit-none l =
      let none : room ≡ 0 = omega arith in
      whole
      ∙ ap (λ k. paste out (record_size * i) (joined (take k (fields_from n 2 page)))
      (record_size * length (take k (fields_from n 2 page)))) none
      ∙ sym (paste-zero out (record_size * i) [])

  -- as many as fit, in one move
  pub emit-all : (fit : ℕ) → fit ≡ min n room → (after : List ℕ)
      → after ≡ paste out (record_size * i) (drop 2 page) (record_size * fit) → after ≡ emit out i (fields_from n 2 page)
  emit-all fit e after w =
      let fields = fields_from n 2 page in
      let size = record_size * fit in
      let to = record_size * i in
      let least : fit ≤ n = omega arith in
      let cut : take room fields ≡ fields_from fit 2 page =
      take_min fields room
      ∙ ap (λ k. take (min k room) fields) (length-fields_from n 2 page)
      ∙ ap (λ k. take k fields) (sym e)
      ∙ take-fields_from fit n 2 page least in
      w
      ∙ ap (λ l. take to out ++ l ++ drop (to + size) out)
      (sym (take-take size size (drop 2 page) (omega arith)))
      ∙ ap (λ l. paste out to l size) (sym (joined-fields_from fit 2 page))
      ∙ ap (λ k. paste out to (joined (fields_from fit 2 page)) (record_size * k)) (sym (length-fields_from fit 2 page))
      ∙ ap (λ l. paste out to (joined l) (record_size * length l)) (sym cut)
      ∙ sym whole
