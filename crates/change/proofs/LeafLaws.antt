-- The leaf that an insert meets, and to which leaves strings lead afterwards: outside it to those that they led to, in
-- it to the leaf with the record, or, if it was full, along a chain of empty siblings to its two halves. Assumes
-- nothing.
use Prim.Native.Nat.{ℕ, suc, ◌+◌, ◌-◌, ◌≤◌, ◌<◌}
use mathlib.Core.Path.{◌≡◌, refl, sym, ap, ◌∙◌}
use mathlib.Core.Bool.{Bool, true, false}
use mathlib.Core.List.{List, []}
use native.Mathlib.Omega.{arith}
use native.Mathlib.Nat.{zero-add}
use lib.ListN.{length}
use Rattle.lists.specs.Filter.{all, non_empty}
use Rattle.shape.specs.Shape.{widths_of, total, shape_number}
use Rattle.shape.specs.declared.Shape.{Shape}
use Rattle.cell.specs.Cell.{Agree}
use Rattle.region.specs.Strings.{same_bits}
use Rattle.region.specs.Sets.{insert}
use Rattle.region.specs.Division.{Division, leaf, divided, side, leaf_depth, leaf_records}
use Rattle.region.proofs.StringLeafLaws.{all-same_bits-leaf_records}
use Rattle.region.proofs.DivideLaws.{divided_along}
use Rattle.region.proofs.CountLaws.{tally-insert_dividing}
use Rattle.region.proofs.InsertLaws.{SameLeaf, leaf_inserted, divide-insert, insert_dividing-other, insert_dividing-same}
use Rattle.region.proofs.LeafInsertLaws.{non_empty-length, leaf_depth-divide-le, leaf_inserted-room}
use Rattle.region.proofs.FullLeafLaws.{length-half, leaf_inserted-full}
use Rattle.record.specs.Record.{Record, record_bit}
use Rattle.model.specs.Sets.{in_shape, is_set, stored, with_record, division_of}
use Rattle.shape.proofs.ShapeLaws.{capacity-bounds}
use Rattle.model.proofs.AddRefusalLaws.{absent-of-new, differing-bounds}
use Rattle.store.specs.Sound.{tallies}
use Rattle.store.proofs.AgreeLaws.{same_bits-of-Agree, Agree-of-same_bits}
use Rattle.change.specs.Divided.{Leaves, divided_tally}
use Rattle.change.proofs.SharedLaws.{insert-shared, half_with, side-insert}
use Rattle.change.proofs.ChainLaws.{divided_along-sibling, divided_along-end}
use Rattle.change.proofs.TallyLaws.{TalliedBelow, tally-leaf_depth, tallies-same, tallies-divided}

module _ (s : Shape) (n : shape_number s ≡ 0) (S : List Record) (set : is_set s S ≡ true) (r : Record)
    (f : in_shape s r ≡ true) (new : non_empty (stored r.key S) ≡ false) where
  abbrev W : ℕ
  W = total (widths_of s)

  abbrev D : Division Record
  D = division_of s S

  abbrev D' : Division Record
  D' = division_of s (with_record s r S)

  -- depth and records of the leaf
  abbrev x : ℕ
  x = leaf_depth (record_bit s r) 0 D

  abbrev rs : List Record
  rs = leaf_records (record_bit s r) 0 D

  leaf_depth-le-bits : x ≤ W
  unfolding division_of
  leaf_depth-le-bits = leaf_depth-divide-le (record_bit s) s.capacity W r S (absent-of-new s n S set r f new)

  -- its records share x bits with r
  pub all_share : all (λ y. same_bits (record_bit s r) (record_bit s y) x 0) rs ≡ true
  unfolding division_of
  all_share = all-same_bits-leaf_records (record_bit s) s.capacity (record_bit s r) W 0 S

  pub leaf-other : (q : ℕ → Bool) → (Agree x (record_bit s r) q → ⊥) → SameLeaf q 0 D' D
  unfolding division_of
  leaf-other q o =
      rw (divide-insert (record_bit s) s.capacity r W 0 S (absent-of-new s n S set r f new))
      (insert_dividing-other (record_bit s) s.capacity r q W 0 D (no (same_bits (record_bit s r) q x 0) refl))
    where
      no : (β : Bool) → same_bits (record_bit s r) q x 0 ≡ β → β ≡ false
      no true e = absurd (o (Agree-of-same_bits (record_bit s r) q x e))
      no false e = refl

  -- the strings of the leaf lead to leaves of its division
  leaf-same : (q : ℕ → Bool) → Agree x (record_bit s r) q
      → (leaf_depth q 0 D' ≡ x + leaf_depth q x (leaf_inserted (record_bit s) s.capacity r (W - x) x rs))
      × (leaf_records q 0 D' ≡ leaf_records q x (leaf_inserted (record_bit s) s.capacity r (W - x) x rs))
  unfolding division_of
  leaf-same q i =
      rw (divide-insert (record_bit s) s.capacity r W 0 S (absent-of-new s n S set r f new))
      (insert_dividing-same (record_bit s) s.capacity r q W 0 D x (W - x) x refl (omega (arith, leaf_depth-le-bits))
      (zero-add x) (same_bits-of-Agree (record_bit s r) q x i))

  -- the tally, by the leaf's division
  tallied-below : TalliedBelow D D' x (leaf_inserted (record_bit s) s.capacity r (W - x) x rs)
  unfolding division_of
  tallied-below i =
      rw (divide-insert (record_bit s) s.capacity r W 0 S (absent-of-new s n S set r f new))
      (tally-insert_dividing (record_bit s) s.capacity r W 0 D x (W - x) x i refl (omega (arith, leaf_depth-le-bits))
      (zero-add x))

  -- ---- it has room

  pub leaf_room : length rs < s.capacity → (q : ℕ → Bool) → Agree x (record_bit s r) q
      → (leaf_depth q 0 D' ≡ x) × (leaf_records q 0 D' ≡ with_record s r rs)
  unfolding division_of
  leaf_room room q i =
      let k = leaf-same q i in
      let bits : x + (W - x) ≡ W = omega (arith, leaf_depth-le-bits) in
      let one = leaf_inserted-room (record_bit s) s.capacity W r S (absent-of-new s n S set r f new) room in (
        omega (arith, k.0, ap (leaf_depth q x) one),
        k.1
            ∙ ap (leaf_records q x) one
            ∙ sym (insert-shared (record_bit s) x (W - x) 0 x (zero-add x) r rs all_share)
            ∙ ap (λ w. insert (record_bit s) w 0 r rs) bits,
      )

  pub tallies-room : length rs < s.capacity → tallies D 0 13 ≡ tallies D' 0 13
  unfolding division_of
  tallies-room room =
      let one = leaf_inserted-room (record_bit s) s.capacity W r S (absent-of-new s n S set r f new) room in
      tallies-same D D' x 13 (insert (record_bit s) (W - x) x r rs) (λ i. rw one at (tallied-below i))

  -- ---- it is full, and its keys and r's differ first in split bit m

  module _ (full : length rs ≡ s.capacity) (m : ℕ)
      (alike : all (λ y. same_bits (record_bit s r) (record_bit s y) m 0) rs ≡ true)
      (differ : all (λ y. same_bits (record_bit s r) (record_bit s y) (suc m) 0) rs ≡ false) where
    bounds : (x ≤ m) × (m < W)
    bounds = differing-bounds s n S set r f new full m alike differ

    -- the two halves
    abbrev half : Bool → List Record
    half β = half_with (record_bit s) W m r β rs

    side-of-leaf : (β : Bool) → side (record_bit s) β m (insert (record_bit s) (W - x) x r rs) ≡ half β
    side-of-leaf β =
        let bits : x + (W - x) ≡ W = omega (arith, leaf_depth-le-bits) in
        ap (side (record_bit s) β m)
        (sym (insert-shared (record_bit s) x (W - x) 0 x (zero-add x) r rs all_share)
        ∙ ap (λ w. insert (record_bit s) w 0 r rs) bits)
        ∙ side-insert (record_bit s) W m bounds.1 rs r alike β

    -- neither is empty
    pub non_empty-half : (β : Bool) → non_empty (half β) ≡ true
    unfolding division_of
    non_empty-half β = non_empty-length (half β) (rw (side-of-leaf β) at (some β))
      where
        both : (1 ≤ length (side (record_bit s) false m (insert (record_bit s) (W - x) x r rs)))
            × (1 ≤ length (side (record_bit s) true m (insert (record_bit s) (W - x) x r rs)))
        both =
            length-half (record_bit s) s.capacity W r S (absent-of-new s n S set r f new) full
            (capacity-bounds s n).0 m alike differ

        some : (β : Bool) → 1 ≤ length (side (record_bit s) β m (insert (record_bit s) (W - x) x r rs))
        some true = both.1
        some false = both.0

    chain : leaf_inserted (record_bit s) s.capacity r (W - x) x rs
        ≡ divided_along (m - x) (record_bit s r) x (divided (leaf (half false)) (leaf (half true)))
    unfolding division_of
    chain =
        leaf_inserted-full (record_bit s) s.capacity W r S (absent-of-new s n S set r f new) full
        (capacity-bounds s n).0 m alike differ
        ∙ rw (side-of-leaf false, side-of-leaf true)

    -- divided from depth x down to m
    pub tallies-full : m < 12 → divided_tally x (suc (m - x)) (tallies D 0 13) ≡ tallies D' 0 13
    tallies-full h =
        tallies-divided D D' x 13 (record_bit s r) x (m - x) (half false) (half true)
        (λ i. rw chain at (tallied-below i)) (omega (arith, bounds.0)) (tally-leaf_depth (record_bit s r) 0 D)

    -- where q leaves r's bits above m: an empty leaf
    pub leaf-sibling : (q : ℕ → Bool) (z : ℕ) → x ≤ z → z < m → Leaves (record_bit s r) q z
        → (leaf_depth q 0 D' ≡ suc z) × (leaf_records q 0 D' ≡ [])
    leaf-sibling q z h l k =
        let i = leaf-same q (λ j d. k.agree j (omega arith)) in
        let c = divided_along-sibling (record_bit s r) q (divided (leaf (half false)) (leaf (half true))) (m - x) x z h
        (omega (arith, bounds.0)) k in
        (i.0 ∙ ap (λ E. x + leaf_depth q x E) chain ∙ c.0, i.1 ∙ ap (leaf_records q x) chain ∙ c.1)

    -- where it does not: the half of its bit m
    pub leaf-half : (q : ℕ → Bool) → Agree m (record_bit s r) q
        → (leaf_depth q 0 D' ≡ suc m) × (leaf_records q 0 D' ≡ half (q m))
    leaf-half q a =
        let two : Division Record = divided (leaf (half false)) (leaf (half true)) in
        let i = leaf-same q (λ j d. a j (omega (arith, bounds.0))) in
        let c = divided_along-end (record_bit s r) q two (m - x) x m (omega (arith, bounds.0)) a in
        let b = by_bit (q m) refl in (
          omega (arith, i.0, ap (leaf_depth q x) chain, c.0, b.0, bounds.0),
          i.1 ∙ ap (leaf_records q x) chain ∙ c.1 ∙ b.1,
        )
      where
        by_bit : (β : Bool) → q m ≡ β
            → (leaf_depth q m (divided (leaf (half false)) (leaf (half true))) ≡ 1)
            × (leaf_records q m (divided (leaf (half false)) (leaf (half true))) ≡ half (q m))
        by_bit true e = rw e (refl, refl)
        by_bit false e = rw e (refl, refl)
