-- Laws of a set's records that join one after the other: where L reaches the set's greatest depth and P its non-empty
-- leaves, none is refused with 6 or 7. Assumes nothing.
use Prim.Native.Nat.{ℕ, suc, ◌≤◌, ◌<◌}
use mathlib.Core.Path.{◌≡◌, ap, ◌∙◌}
use mathlib.Core.Bool.{Bool, true}
use mathlib.Core.List.{List, [], ◌∷◌}
use native.Mathlib.Omega.{arith}
use lib.ListN.{length, get_or, take, drop, length-append, take-append-drop}
use lib.Seq.{take_all, drop-cons}
use borrow.Author.Tests.{lt-leb, le-ltb}
use Rattle.lists.specs.Filter.{filter}
use Rattle.lists.proofs.FilterLaws.{filter-append, length-filter-imp}
use Rattle.shape.specs.Refusal.{first_number}
use Rattle.shape.specs.Shape.{widths_of, total, shape_number}
use Rattle.shape.specs.declared.Shape.{Shape}
use Rattle.region.specs.Strings.{same_bits}
use Rattle.region.specs.Division.{divide, greatest_depth, non_empty_leaves, leaf_depth}
use Rattle.region.proofs.StringLaws.{same_bits-refl, same_bits-le}
use Rattle.region.proofs.StringLeafLaws.{leaf_depth-le, leaf_records-divide}
use Rattle.record.specs.Record.{Record, record_bit}
use Rattle.model.specs.Sets.{is_set, with_record, sharing, division_of}
use Rattle.model.specs.Model.{Fixed, room_conditions}
use Rattle.model.proofs.AddRefusalLaws.{length-leaf-le}
use Rattle.file.specs.Loading.{join_conditions}
use Rattle.file_scan.proofs.ModelLaws.{with_record-take, non_empty_leaves-take-le, join-of-room}

-- the records that share as many bits as the greatest depth, or more, are in one leaf
length-sharing-le : (s : Shape) → shape_number s ≡ 0 → (S : List Record) → is_set s S ≡ true → (L : ℕ) (r : Record)
    → greatest_depth (division_of s S) ≤ L → length (sharing s L r S) ≤ s.capacity
unfolding division_of
length-sharing-le s good S set L r deep =
    let p = record_bit s r in
    let D = divide (record_bit s) s.capacity (total (widths_of s)) 0 S in
    let more =
    length-filter-imp (λ y. same_bits p (record_bit s y) L 0) (λ y. same_bits p (record_bit s y) (leaf_depth p 0 D) 0)
    (λ y e. same_bits-le p (record_bit s y) (leaf_depth p 0 D) L 0 (omega (arith, leaf_depth-le p 0 D)) e) S in
    let few = length-leaf-le s good S set p in
    omega (arith, ap length (leaf_records-divide (record_bit s) s.capacity p (total (widths_of s)) 0 S))

module _ (f : Fixed) (good : shape_number f.shape ≡ 0) (S : List Record) (set : is_set f.shape S ≡ true)
    (deep : greatest_depth (division_of f.shape S) ≤ f.depth_limit)
    (paged : non_empty_leaves (division_of f.shape S) ≤ f.page_limit) where
  -- stands past the end, and is never looked at
  abbrev past : Record
  past = record { key = []; content = record { payload = 0 } }

  module _ (i : ℕ) (h : i < length S) where
    abbrev r : Record
    r = get_or S i past

    -- not 6: record i itself is one of the b at most that share so many bits with it
    few-sharing : length (sharing f.shape f.depth_limit r (take i S)) < f.shape.capacity
    few-sharing =
        let p = record_bit f.shape r in
        let same : Record → Bool = λ y. same_bits p (record_bit f.shape y) f.depth_limit 0 in
        let own : filter same (r ∷ drop (suc i) S) ≡ r ∷ filter same (drop (suc i) S) =
        rw (same_bits-refl p f.depth_limit 0) in
        omega (
          arith,
          length-sharing-le f.shape good S set f.depth_limit r deep,
          ap (λ l. length (filter same l)) (take-append-drop i S),
          ap length (filter-append same (take i S) (drop i S)),
          length-append (filter same (take i S)) (filter same (drop i S)),
          ap (λ l. length (filter same l)) (drop-cons S i past h) ∙ ap length own,
        )

    -- not 7: the leaves never become fewer
    few-leaves : non_empty_leaves (division_of f.shape (with_record f.shape r (take i S))) ≤ f.page_limit
    few-leaves =
        omega (
          arith,
          ap (λ l. non_empty_leaves (division_of f.shape l)) (with_record-take f.shape S set past i h),
          non_empty_leaves-take-le f.shape S set good (suc i) (length S) h (omega arith),
          ap (λ l. non_empty_leaves (division_of f.shape l)) (take_all (length S) S (omega arith)),
        )

    room : first_number (room_conditions f (take i S) r) ≡ 0
    unfolding first_number
    room = rw (lt-leb _ _ few-sharing, le-ltb _ _ few-leaves)

  pub first_number-join : first_number (join_conditions f [] S) ≡ 0
  first_number-join = join-of-room f S set past room
