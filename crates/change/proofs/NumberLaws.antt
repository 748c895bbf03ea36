-- The model's number of a record that is added, from what it meets in a sound store: 4, 6, 7 or none. Assumes nothing.
use Prim.Native.Nat.{ℕ, suc, ◌-◌, ◌+◌, ◌≤◌, ◌<◌}
use mathlib.Core.Path.{◌≡◌, ap, ◌∙◌}
use mathlib.Core.Bool.{true, false, cond}
use mathlib.Core.List.{List}
use native.Mathlib.Omega.{arith}
use lib.Dec.{ltb}
use lib.ListN.{length}
use borrow.Author.Tests.{le-ltb, lt-ltb, lt-leb}
use Rattle.lists.specs.Filter.{all, non_empty}
use Rattle.shape.specs.Key.{key_fits}
use Rattle.shape.specs.declared.Shape.{Shape}
use Rattle.shape.proofs.ShapeLaws.{capacity-bounds}
use Rattle.region.specs.Strings.{same_bits}
use Rattle.region.specs.Division.{Division, non_empty_leaves, leaf_depth, leaf_records}
use Rattle.record.specs.declared.Content.{Content}
use Rattle.record.specs.Record.{Record, record_bit}
use Rattle.directory_word.specs.Word.{word_of}
use Rattle.directory_word.specs.declared.Leaf.TheVariants.{Empty}
use Rattle.model.specs.Sets.{stored}
use Rattle.model.specs.Model.{record_for}
use Rattle.model.specs.Add.{add_number}
use Rattle.model.proofs.AddRefusalLaws.{add_number-stored, add_number-room, add_number-alike, add_number-full}
use Rattle.store.specs.Store.{Store, fixed_of}
use Rattle.store.specs.Sound.{Sound}
use Rattle.store.proofs.ShownLaws.{word_on, division_on, shape-of-Sound, leaf_depth-le-depth}
use Rattle.store.proofs.RoomLaws.{FreePage, non_empty_leaves-le-pages, non_empty_leaves-lt-pages, pages-le-non_empty_leaves}
use Rattle.change.proofs.MeetLaws.{all_have, all-same_bits-of, not-all-same_bits, records_on, MeetsPage}
use Rattle.change.proofs.MeetLaws.{records-of-page, non_empty-page, stored-of-page, depth-of-page, shared-page}
use Rattle.change.proofs.MeetLaws.{records-of-empty, stored-of-empty}

-- no page is free
abbrev pub NoFreePage : Store → Type 0
NoFreePage before = (g : ℕ) → g < before.state.limits.pages → FreePage before g → ⊥

module _ (before : Store) (values : List ℕ) (content : Content) (fits : key_fits before.state.shape values ≡ true)
    (S : List Record) (sound : Sound before S) where
  abbrev s : Shape
  s = before.state.shape

  abbrev r : Record
  r = record_for s values content

  abbrev D : Division Record
  D = division_on before S

  abbrev number : ℕ
  number = add_number (fixed_of before.state) S values content

  leaf_depth-le-limit : leaf_depth (record_bit s r) 0 D ≤ before.state.limits.depth
  leaf_depth-le-limit = omega (arith, leaf_depth-le-depth before S sound (record_bit s r), sound.depth-within)

  -- in a leaf with room
  number-room : non_empty (stored r.key S) ≡ false → length (leaf_records (record_bit s r) 0 D) < s.capacity
      → number
      ≡ cond (ltb before.state.limits.pages
      (non_empty_leaves D + cond (non_empty (leaf_records (record_bit s r) 0 D)) 0 1)) 7 0
  number-room new room =
      add_number-room (fixed_of before.state) S values content fits new (shape-of-Sound before S sound)
      sound.set room leaf_depth-le-limit

  -- ---- the leaf is empty

  module _ (x : ℕ) (word : word_on before (record_bit s r) ≡ word_of (Empty x)) where
    pub new-of-empty : non_empty (stored r.key S) ≡ false
    new-of-empty = ap non_empty (stored-of-empty before r S sound x word)

    pub room-of-empty : length (leaf_records (record_bit s r) 0 D) < s.capacity
    room-of-empty =
        omega (
          arith,
          ap length (records-of-empty before r S sound x word),
          (capacity-bounds s (shape-of-Sound before S sound)).0,
        )

    number-empty : number ≡ cond (ltb before.state.limits.pages (non_empty_leaves D + 1)) 7 0
    number-empty =
        number-room new-of-empty room-of-empty
        ∙ ap (λ rs. cond (ltb before.state.limits.pages (non_empty_leaves D + cond (non_empty rs) 0 1)) 7 0)
        (records-of-empty before r S sound x word)

    pub number-empty-none : NoFreePage before → number ≡ 7
    number-empty-none none =
        number-empty
        ∙ rw (lt-ltb before.state.limits.pages (non_empty_leaves D + 1)
        (omega (arith, pages-le-non_empty_leaves before S sound none)))

    pub number-empty-free : (g : ℕ) → g < before.state.limits.pages → FreePage before g → number ≡ 0
    number-empty-free g l free =
        number-empty
        ∙ rw (le-ltb before.state.limits.pages (non_empty_leaves D + 1)
        (omega (arith, non_empty_leaves-lt-pages before S sound g l free)))

  -- ---- the leaf has page g

  module _ (g x : ℕ) (meets : MeetsPage before r g x) where
    pub number-stored : non_empty (stored r.key (records_on before g)) ≡ true → number ≡ 4
    number-stored e =
        add_number-stored (fixed_of before.state) S values content fits
        (ap non_empty (stored-of-page before r S sound g x meets) ∙ e)

    module _ (absent : non_empty (stored r.key (records_on before g)) ≡ false) where
      pub new-of-page : non_empty (stored r.key S) ≡ false
      new-of-page = ap non_empty (stored-of-page before r S sound g x meets) ∙ absent

      pub number-page : length (records_on before g) < s.capacity → number ≡ 0
      number-page room =
          number-room new-of-page (rw (records-of-page before r S sound g x meets) room)
          ∙ rw (
            records-of-page before r S sound g x meets,
            non_empty-page before r S sound g x meets,
            le-ltb before.state.limits.pages (non_empty_leaves D + 0)
                (omega (arith, non_empty_leaves-le-pages before S sound)),
          )

      -- ---- and it is full

      module _ (full : length (records_on before g) ≡ s.capacity) where
        full-leaf : length (leaf_records (record_bit s r) 0 D) ≡ s.capacity
        full-leaf = ap length (records-of-page before r S sound g x meets) ∙ full

        -- its records have r's bits from x on to n
        pub alike-leaf : (n : ℕ) → x ≤ n
            → ((t : ℕ) → x ≤ t → t < n → all_have (record_bit s) (record_bit s r) (records_on before g) t ≡ true)
            → all (λ y. same_bits (record_bit s r) (record_bit s y) n 0) (leaf_records (record_bit s r) 0 D) ≡ true
        alike-leaf n h k =
            rw (records-of-page before r S sound g x meets)
            (all-same_bits-of (record_bit s) (record_bit s r) (records_on before g) (n - x) x n (omega arith)
            (shared-page before r S sound g x meets) k)

        pub number-alike :
            ((t : ℕ) → x ≤ t → t < before.state.limits.depth
            → all_have (record_bit s) (record_bit s r) (records_on before g) t ≡ true)
            → number ≡ 6
        number-alike k =
            add_number-alike (fixed_of before.state) S values content fits new-of-page
            (shape-of-Sound before S sound) sound.set full-leaf leaf_depth-le-limit
            (alike-leaf before.state.limits.depth
            (omega (arith, leaf_depth-le-limit, depth-of-page before r S sound g x meets)) k)

        module _ (m : ℕ) (h : x ≤ m)
            (alike : (t : ℕ) → x ≤ t → t < m
            → all_have (record_bit s) (record_bit s r) (records_on before g) t ≡ true)
            (differ : all_have (record_bit s) (record_bit s r) (records_on before g) m ≡ false)
            (deep : m < before.state.limits.depth) where
          pub differ-leaf : all (λ y. same_bits (record_bit s r) (record_bit s y) (suc m) 0)
              (leaf_records (record_bit s r) 0 D)
              ≡ false
          differ-leaf =
              rw (records-of-page before r S sound g x meets)
              (not-all-same_bits (record_bit s) (record_bit s r) (records_on before g) m differ)

          number-full : number ≡ cond (ltb before.state.limits.pages (suc (non_empty_leaves D))) 7 0
          number-full =
              add_number-full (fixed_of before.state) S values content fits new-of-page
              (shape-of-Sound before S sound) sound.set full-leaf m (alike-leaf m h alike) differ-leaf
              ∙ rw (lt-leb before.state.limits.depth m deep)

          pub number-full-none : NoFreePage before → number ≡ 7
          number-full-none none =
              number-full
              ∙ rw (lt-ltb before.state.limits.pages (suc (non_empty_leaves D))
              (omega (arith, pages-le-non_empty_leaves before S sound none)))

          pub number-full-free : (k : ℕ) → k < before.state.limits.pages → FreePage before k → number ≡ 0
          number-full-free k l free =
              number-full
              ∙ rw (le-ltb before.state.limits.pages (suc (non_empty_leaves D))
              (non_empty_leaves-lt-pages before S sound k l free))
