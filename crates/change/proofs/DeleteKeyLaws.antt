-- The set without a key: its record, and the leaves of the set without it, where the record's leaf stays and where it
-- is joined with its sibling. Assumes nothing.
use Prim.Native.Nat.{ℕ, suc, ◌+◌, ◌≤◌, ◌<◌}
use mathlib.Core.Path.{◌≡◌, refl, sym, ap, ◌∙◌}
use mathlib.Core.Bool.{Bool, true, false, not, false≢true}
use mathlib.Core.List.{List, [], ◌∷◌}
use mathlib.Core.Logic.{◌⊎◌, inl, inr}
use native.Mathlib.Omega.{arith}
use lib.ListN.{length}
use Rattle.lists.specs.Filter.{all, non_empty}
use Rattle.lists.proofs.Bools.{and_split}
use Rattle.lists.proofs.FilterLaws.{all_filter, all-filter-same, filter-cong}
use Rattle.shape.specs.Shape.{widths_of, total, index_fits, shape_number}
use Rattle.shape.specs.declared.Shape.{Shape}
use Rattle.cell.specs.Cell.{Agree}
use Rattle.region.specs.Strings.{same_bits, sibling}
use Rattle.region.specs.Sets.{sorted, with_prefix, remove, in_order}
use Rattle.region.specs.Division.{Division, greatest_depth, tally, leaf_depth, leaf_records}
use Rattle.region.proofs.InsertLaws.{SameLeaf}
use Rattle.region.proofs.StringLeafLaws.{all-leaf_records}
use Rattle.region.proofs.LeafRemoveLaws.{Joined, same-leaf-other, leaf_depth-remove-alone, leaf_records-remove-alone}
use Rattle.region.proofs.LeafRemoveLaws.{leaf_depth-remove-joined, length-leaf_records-remove-joined}
use Rattle.region.proofs.JoinLaws.{leaf_records-remove-joined, lt-leaf_depth-joined, leaf-joined}
use Rattle.region.proofs.JoinCountLaws.{tally-remove-alone, greatest_depth-remove-alone, tally-joined-at}
use Rattle.region.proofs.JoinCountLaws.{tally-joined-between, tally-joined-below, tally-joined-above, tally-joined-past}
use Rattle.record.specs.Record.{Record, record_bit, same_key}
use Rattle.record.proofs.KeyLaws.{same_key-same_bits, eq-of-same_key}
use Rattle.model.specs.Sets.{in_shape, is_set, stored, without_key, division_of}
use Rattle.model.proofs.SetLaws.{length-of-in_shape, fits-of-in_shape, sorted-of-is_set, in_shape-of-is_set}
use Rattle.model.proofs.SetLaws.{stored-with_prefix, without_key-remove, length-stored-le}
use Rattle.shape.proofs.ShapeLaws.{capacity-bounds}
use Rattle.store.proofs.AgreeLaws.{same_bits-of-Agree, Agree-of-same_bits}

module _ (s : Shape) (n : shape_number s ≡ 0) (S : List Record) (set : is_set s S ≡ true) where
  abbrev W : ℕ
  W = total (widths_of s)

  -- ---- the record of a key

  pub stored-record : (key : List ℕ) → length key ≡ 4 → index_fits (widths_of s) key ≡ true
      → non_empty (stored key S) ≡ true → (r : Record) × (stored key S ≡ r ∷ []) × (r.key ≡ key)
  stored-record key len f has = by-list (stored key S) refl has (length-stored-le s n S set key f)
    where
      same : (r : Record) (rs : List Record) → stored key S ≡ r ∷ rs → r.key ≡ key
      same r rs e =
          let k = (and_split (same_key key r) (all (same_key key) rs) (rw e at (all-filter-same (same_key key) S))).0 in
          let g = (and_split (in_shape s r) (all (in_shape s) rs)
          (rw e at (all_filter (in_shape s) (same_key key) (in_shape s) (λ q a b. a) S (in_shape-of-is_set s S set)))).0 in
          sym (eq-of-same_key key r len (length-of-in_shape s r g) k)

      by-list : (rs : List Record) → stored key S ≡ rs → non_empty rs ≡ true → length (stored key S) ≤ 1
          → (r : Record) × (stored key S ≡ r ∷ []) × (r.key ≡ key)
      by-list [] e h l = absurd (false≢true h)
      by-list (r ∷ []) e h l = (r, e, same r [] e)
      by-list (r ∷ q ∷ rs) e h l = absurd (omega (arith, ap length e))

  module _ (r : Record) (held : stored r.key S ≡ r ∷ []) where
    abbrev p : ℕ → Bool
    p = record_bit s r

    -- the leaves before and after
    abbrev D : Division Record
    D = division_of s S

    abbrev D' : Division Record
    D' = division_of s (without_key r.key S)

    abbrev rs : List Record
    rs = leaf_records p 0 D

    some : 1 ≤ s.capacity
    some = (capacity-bounds s n).0

    order : sorted (record_bit s) W 0 S ≡ true
    order = sorted-of-is_set s S set

    in_shape-held : in_shape s r ≡ true
    in_shape-held =
        (and_split (in_shape s r) true
        (rw held at (all_filter (in_shape s) (same_key r.key) (in_shape s) (λ q a b. a) S (in_shape-of-is_set s S set)))
        ).0

    held-prefix : with_prefix (record_bit s) p W 0 S ≡ r ∷ []
    held-prefix = sym (stored-with_prefix s n S set r.key (fits-of-in_shape s r in_shape-held)) ∙ held

    set-remove : without_key r.key S ≡ remove (record_bit s) W 0 r S
    set-remove = without_key-remove s n S set r in_shape-held

    leaf-remove : remove (record_bit s) W 0 r rs ≡ without_key r.key rs
    unfolding division_of
    leaf-remove =
        filter-cong (in_shape s) _ _
        (λ q e.
        ap not (sym (same_key-same_bits s n r.key q (fits-of-in_shape s r in_shape-held) (fits-of-in_shape s q e))))
        rs (all-leaf_records (record_bit s) s.capacity p (in_shape s) W 0 S (in_shape-of-is_set s S set))

    -- strings that do not begin with that of r's leaf afterwards lead to the leaves that they led to
    pub leaf-other : (q : ℕ → Bool) → (Agree (leaf_depth p 0 D') p q → ⊥) → SameLeaf q 0 D' D
    unfolding division_of
    leaf-other q o =
        let kept : same_bits p q (leaf_depth p 0 D') 0 ≡ false → SameLeaf q 0 D D' =
        rw set-remove (same-leaf-other (record_bit s) s.capacity W r S some order held-prefix q) in
        let k = kept (no (same_bits p q (leaf_depth p 0 D') 0) refl) in
        (sym k.0, sym k.1)
      where
        no : (β : Bool) → same_bits p q (leaf_depth p 0 D') 0 ≡ β → same_bits p q (leaf_depth p 0 D') 0 ≡ false
        no true e = absurd (o (Agree-of-same_bits p q _ e))
        no false e = e

    -- ---- the leaf stays

    -- it has no sibling, or that is divided, or both do not fit one page without r
    abbrev pub KeyAlone : Type 0
    KeyAlone =
        (m : ℕ) → leaf_depth p 0 D ≡ suc m → leaf_depth (sibling p m) 0 D ≡ suc m
        → suc s.capacity < length rs + length (leaf_records (sibling p m) 0 D)

    module _ (alone : KeyAlone) where
      pub leaf_depth-alone : leaf_depth p 0 D' ≡ leaf_depth p 0 D
      unfolding division_of
      leaf_depth-alone =
          rw set-remove (leaf_depth-remove-alone (record_bit s) s.capacity W r S some order held-prefix alone)

      pub leaf_records-alone : leaf_records p 0 D' ≡ without_key r.key rs
      unfolding division_of
      leaf_records-alone =
          rw set-remove (leaf_records-remove-alone (record_bit s) s.capacity W r S some order held-prefix alone)
          ∙ leaf-remove

      pub tally-alone : (i : ℕ) → tally D' i ≡ tally D i
      unfolding division_of
      tally-alone i =
          rw set-remove (tally-remove-alone (record_bit s) s.capacity W r S some order held-prefix alone i)

      pub greatest_depth-alone : greatest_depth D' ≡ greatest_depth D
      unfolding division_of
      greatest_depth-alone =
          rw set-remove (greatest_depth-remove-alone (record_bit s) s.capacity W r S some order held-prefix alone)

    -- ---- the leaf is joined

    -- its sibling is a leaf and both fit one page without r; above, the siblings are empty leaves from depth y + 1 on,
    -- and that at depth y is none
    pub record KeyJoined (m y : ℕ) : Type 0 where
      pub depth : leaf_depth p 0 D ≡ suc m
      pub sibling-depth : leaf_depth (sibling p m) 0 D ≡ suc m
      pub fit : length rs + length (leaf_records (sibling p m) 0 D) ≤ suc s.capacity
      pub above : y ≤ m
      pub empty-depth : (z : ℕ) → y ≤ z → z < m → leaf_depth (sibling p z) 0 D ≡ suc z
      pub empty-records : (z : ℕ) → y ≤ z → z < m → leaf_records (sibling p z) 0 D ≡ []
      pub top : (z : ℕ) → y ≡ suc z → leaf_depth (sibling p z) 0 D ≡ suc z → leaf_records (sibling p z) 0 D ≡ [] → ⊥

    module _ (m y : ℕ) (j : KeyJoined m y) where
      joined : Joined (record_bit s) s.capacity W r S some order held-prefix m y
      unfolding division_of
      joined =
          record {
            depth = j.depth;
            sibling-depth = j.sibling-depth;
            fit = j.fit;
            above = j.above;
            empty-depth = j.empty-depth;
            empty-records = j.empty-records;
            top = j.top;
          }

      pub leaf_depth-joined : leaf_depth p 0 D' ≡ y
      unfolding division_of
      leaf_depth-joined =
          rw set-remove (leaf_depth-remove-joined (record_bit s) s.capacity W r S some order held-prefix m y joined)

      -- it is full, with the records of the two leaves but r
      pub length-leaf_records-joined : length (leaf_records p 0 D') ≡ s.capacity
      unfolding division_of
      length-leaf_records-joined =
          rw set-remove
          (length-leaf_records-remove-joined (record_bit s) s.capacity W r S some order held-prefix m y joined)

      pub leaf_records-joined : leaf_records p 0 D'
          ≡ in_order (p m) (without_key r.key rs) (leaf_records (sibling p m) 0 D)
      unfolding division_of
      leaf_records-joined =
          rw set-remove (leaf_records-remove-joined (record_bit s) s.capacity W r S some order held-prefix m y joined)
          ∙ ap (λ l. in_order (p m) l (leaf_records (sibling p m) 0 D)) leaf-remove

      -- in its region every leaf lay deeper, and only the two had records
      module _ (q : ℕ → Bool) (inside : Agree y p q) where
        pub lt-leaf_depth-inside : y < leaf_depth q 0 D
        unfolding division_of
        lt-leaf_depth-inside =
            lt-leaf_depth-joined (record_bit s) s.capacity W r S some order held-prefix m y joined q
            (same_bits-of-Agree p q y inside)

        pub leaf-inside : non_empty (leaf_records q 0 D) ≡ true → Agree (suc m) p q ⊎ Agree (suc m) (sibling p m) q
        unfolding division_of
        leaf-inside has =
            by-half (leaf-joined (record_bit s) s.capacity W r S some order held-prefix m y joined q
            (same_bits-of-Agree p q y inside) has)
          where
            by-half : (same_bits p q (suc m) 0 ≡ true) ⊎ (same_bits (sibling p m) q (suc m) 0 ≡ true)
                → Agree (suc m) p q ⊎ Agree (suc m) (sibling p m) q
            by-half (inl e) = inl (Agree-of-same_bits p q (suc m) e)
            by-half (inr e) = inr (Agree-of-same_bits (sibling p m) q (suc m) e)

      -- one leaf more at depth y, one less at each depth between, two less at depth m + 1
      pub tally-at : tally D' y ≡ tally D y + 1
      unfolding division_of
      tally-at = rw set-remove (tally-joined-at (record_bit s) s.capacity W r S some order held-prefix m y joined)

      pub tally-between : (i : ℕ) → y < i → i ≤ m → tally D i ≡ tally D' i + 1
      unfolding division_of
      tally-between i h k =
          rw set-remove (tally-joined-between (record_bit s) s.capacity W r S some order held-prefix m y joined i h k)

      pub tally-below : tally D (suc m) ≡ tally D' (suc m) + 2
      unfolding division_of
      tally-below =
          rw set-remove (tally-joined-below (record_bit s) s.capacity W r S some order held-prefix m y joined)

      pub tally-above : (i : ℕ) → i < y → tally D' i ≡ tally D i
      unfolding division_of
      tally-above i h =
          rw set-remove (tally-joined-above (record_bit s) s.capacity W r S some order held-prefix m y joined i h)

      pub tally-past : (i : ℕ) → suc m < i → tally D' i ≡ tally D i
      unfolding division_of
      tally-past i h =
          rw set-remove (tally-joined-past (record_bit s) s.capacity W r S some order held-prefix m y joined i h)
