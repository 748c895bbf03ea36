-- Laws of a set's records, each of which joins those before it in split order, as in a load: the set with the record, 4
-- never holds, leaves never become fewer; 6 and 7 of one record and of all; and the main law, that the scan by
-- neighbours finds them. Assumes nothing.
use Prim.Native.Nat.{ℕ, zero, suc, ◌+◌, ◌-◌, ◌≤◌, ◌<◌}
use mathlib.Core.Path.{◌≡◌, refl, sym, ap, ◌∙◌}
use mathlib.Core.Bool.{true, false}
use mathlib.Core.List.{List, [], ◌∷◌, ◌++◌}
use mathlib.Core.Logic.{◌⊎◌, inl, inr}
use native.Mathlib.Nat.{add-zero}
use native.Mathlib.Omega.{arith}
use lib.Dec.{leb, ltb}
use lib.ListN.{length, get_or, take, drop, drop_of_length-le}
use lib.Seq.{drop-cons}
use borrow.Author.Tests.{not-true}
use Rattle.lists.specs.Filter.{non_empty}
use Rattle.lists.proofs.Numbers.{eq-or-ne}
use Rattle.shape.specs.Refusal.{Condition, refusal, first_number}
use Rattle.shape.specs.Shape.{widths_of, total, shape_number}
use Rattle.shape.specs.Key.{key_fits}
use Rattle.shape.specs.declared.Shape.{Shape}
use Rattle.shape.proofs.ShapeLaws.{capacity-bounds}
use Rattle.region.specs.Division.{non_empty_leaves}
use Rattle.region.proofs.DivideLaws.{divide-leaf}
use Rattle.record.specs.declared.Content.{Content}
use Rattle.record.specs.Record.{Record, record_bit}
use Rattle.page_place.proofs.SortedLaws.{all_get_d}
use Rattle.model.specs.Sets.{in_shape, is_set, stored, with_record, sharing, division_of}
use Rattle.model.specs.Model.{Fixed, record_for, room_conditions, if_accepted}
use Rattle.model.specs.Add.{add_number, add_next}
use Rattle.model.proofs.SetLaws.{sorted-of-is_set, in_shape-of-is_set, is_set-of-parts, absent-stored}
use Rattle.model.proofs.ConditionLaws.{first_number-rest, first_number-none}
use Rattle.model.proofs.AddRefusalLaws.{add_number-new}
use Rattle.file.specs.Loading.{join_conditions}
use Rattle.file_scan.specs.Scan.{depth_at, leaves_with, scan_conditions}
use Rattle.file_scan.proofs.RisingLaws.{all_take, sorted-take}
use Rattle.file_scan.proofs.WindowLaws.{StepsOf, absent-get_d, insert-get_d}
use Rattle.file_scan.proofs.MetLaws.{non_empty_leaves-insert-met}
use Rattle.file_scan.proofs.GrowthLaws.{leb-with_prefix-depth_at, non_empty_leaves-take-suc}

-- stands past the end of a list, and is never looked at
abbrev pub past : Record
past = record { key = []; content = record { payload = 0 } }

-- ---- the first records of a set

module _ (s : Shape) (S : List Record) (set : is_set s S ≡ true) where
  pub is_set-take : (i : ℕ) → is_set s (take i S) ≡ true
  is_set-take i =
      is_set-of-parts s (take i S) (sorted-take (record_bit s) (total (widths_of s)) 0 i S (sorted-of-is_set s S set))
      (all_take (in_shape s) i S (in_shape-of-is_set s S set))

  module _ (none : Record) (i : ℕ) (h : i < length S) where
    -- record i joins those before it
    pub with_record-take : with_record s (get_or S i none) (take i S) ≡ take (suc i) S
    with_record-take = insert-get_d (record_bit s) (total (widths_of s)) none S (sorted-of-is_set s S set) i h

    -- its key is not stored already
    pub stored-take : shape_number s ≡ 0 → non_empty (stored (get_or S i none).key (take i S)) ≡ false
    stored-take n =
        not-true _
        (sym (absent-stored s n (take i S) (is_set-take i) (get_or S i none)
        (all_get_d (in_shape s) S i none (in_shape-of-is_set s S set) h))
        ∙ absent-get_d (record_bit s) (total (widths_of s)) none S (sorted-of-is_set s S set) i h)

  -- ---- their leaves

  module _ (n : shape_number s ≡ 0) where
    -- the non-empty leaves of the first i
    abbrev leaves_to : ℕ → ℕ
    leaves_to i = non_empty_leaves (division_of s (take i S))

    leaves-suc : (i : ℕ) → i < length S → leaves_to i ≤ leaves_to (suc i)
    unfolding division_of
    leaves-suc i h =
        let W : ℕ = total (widths_of s) in
        let rising = sorted-of-is_set s S set in
        let met =
        non_empty_leaves-insert-met (record_bit s) s.capacity W (capacity-bounds s n).0 (get_or S i past) (take i S)
        (sorted-take (record_bit s) W 0 i S rising) (absent-get_d (record_bit s) W past S rising i h) in
        rw (← with_record-take past i h) (omega (arith, met))

    leaves-add : (k i : ℕ) → i + k ≤ length S → leaves_to i ≤ leaves_to (i + k)
    leaves-add zero i h = rw (add-zero i) (omega arith)
    leaves-add (suc k) i h =
        let e : i + suc k ≡ suc (i + k) = omega arith in
        rw e (omega (arith, leaves-add k i (omega arith), leaves-suc (i + k) (omega arith)))

    -- they never become fewer
    pub non_empty_leaves-take-le : (i j : ℕ) → i ≤ j → j ≤ length S
        → non_empty_leaves (division_of s (take i S)) ≤ non_empty_leaves (division_of s (take j S))
    non_empty_leaves-take-le i j h k =
        let e : i + (j - i) ≡ j = omega arith in
        rw e at (leaves-add (j - i) i (omega arith))

-- ---- 6 and 7 of one record and of all

module _ (f : Fixed) (S : List Record) (set : is_set f.shape S ≡ true) (none : Record) where
  -- 6 and 7 of record i, which joins those before it
  abbrev pub room_at : ℕ → List Condition
  room_at i = room_conditions f (take i S) (get_or S i none)

  -- and of it and those that follow
  abbrev join_from : ℕ → List Condition
  join_from i = join_conditions f (take i S) (drop i S)

  pub join_conditions-drop : (i : ℕ) → i < length S
      → join_conditions f (take i S) (drop i S)
      ≡ room_conditions f (take i S) (get_or S i none) ++ join_conditions f (take (suc i) S) (drop (suc i) S)
  join_conditions-drop i h =
      ap (join_conditions f (take i S)) (drop-cons S i none h)
      ∙ ap (λ T. room_at i ++ join_conditions f T (drop (suc i) S)) (with_record-take f.shape S set none i h)

  join_from-end : (i : ℕ) → i ≡ length S → join_from i ≡ []
  join_from-end i e = ap (join_conditions f (take i S)) (drop_of_length-le S {i = i} (omega arith))

  room-from : (k i j : ℕ) → i + k ≡ length S → first_number (join_from i) ≡ 0 → i ≤ j → j < length S
      → first_number (room_at j) ≡ 0
  room-from zero i j e z h l = absurd (omega arith)
  room-from (suc k) i j e z h l = by_place (eq-or-ne i j) (room-from k (suc i) j)
    where
      both : (first_number (room_at i) ≡ 0) × (first_number (join_from (suc i)) ≡ 0)
      both =
          first_number-none (room_at i) (join_from (suc i)) refl
          (ap first_number (sym (join_conditions-drop i (omega arith))) ∙ z)

      by_place : (i ≡ j) ⊎ (i ≡ j → ⊥)
          → (suc i + k ≡ length S → first_number (join_from (suc i)) ≡ 0 → suc i ≤ j → j < length S
          → first_number (room_at j) ≡ 0)
          → first_number (room_at j) ≡ 0
      by_place (inl d) ih = ap (λ m. first_number (room_at m)) (sym d) ∙ both.0
      by_place (inr d) ih = ih (omega arith) both.1 (omega arith) l

  -- none holds of all exactly if none holds of each
  pub room-of-join : first_number (join_conditions f [] S) ≡ 0 → (i : ℕ) → i < length S
      → first_number (room_conditions f (take i S) (get_or S i none)) ≡ 0
  room-of-join z i h = room-from (length S) 0 i (omega arith) z (omega arith) h

  join-from : (k i : ℕ) → i + k ≡ length S → ((j : ℕ) → j < length S → first_number (room_at j) ≡ 0)
      → first_number (join_from i) ≡ 0
  unfolding first_number
  join-from zero i e each = ap first_number (join_from-end i (omega arith))
  join-from (suc k) i e each =
      ap first_number (join_conditions-drop i (omega arith))
      ∙ first_number-rest (room_at i) (join_from (suc i)) refl (each i (omega arith))
      ∙ join-from k (suc i) (omega arith) each

  pub join-of-room : ((i : ℕ) → i < length S → first_number (room_conditions f (take i S) (get_or S i none)) ≡ 0)
      → first_number (join_conditions f [] S) ≡ 0
  join-of-room each = join-from (length S) 0 (omega arith) each

  -- ---- an added record, where none holds of all

  module _ (n : shape_number f.shape ≡ 0) (z : first_number (join_conditions f [] S) ≡ 0) (i : ℕ) (h : i < length S)
      (values : List ℕ) (content : Content) (fits : key_fits f.shape values ≡ true)
      (e : get_or S i none ≡ record_for f.shape values content) where
    pub add_number-take : add_number f (take i S) values content ≡ 0
    unfolding first_number
    add_number-take =
        add_number-new f (take i S) values content fits
        (ap (λ r. non_empty (stored r.key (take i S))) (sym e) ∙ stored-take f.shape S set none i h n)
        ∙ ap (λ r. first_number (room_conditions f (take i S) r)) (sym e)
        ∙ room-of-join z i h

    pub add_next-take : add_next f (take i S) values content ≡ take (suc i) S
    add_next-take =
        ap (λ m. if_accepted m (with_record f.shape (record_for f.shape values content) (take i S)) (take i S))
        add_number-take
        ∙ ap (λ r. with_record f.shape r (take i S)) (sym e)
        ∙ with_record-take f.shape S set none i h

-- ---- the scan

module _ (f : Fixed) (n : shape_number f.shape ≡ 0) (within : f.depth_limit ≤ total (widths_of f.shape))
    (none : Record) (S : List Record) (set : is_set f.shape S ≡ true) (step : ℕ → ℕ → ℕ)
    (steps : StepsOf (record_bit f.shape) (total (widths_of f.shape)) none S step) where
  abbrev s : Shape
  s = f.shape

  abbrev W : ℕ
  W = total (widths_of s)

  -- the conditions of the k records from i on, the first i having c non-empty leaves
  abbrev scanned : ℕ → ℕ → ℕ → List Condition
  scanned k i c = scan_conditions step s.capacity f.depth_limit f.page_limit k i c

  scan-from : (k i c : ℕ) → i + k ≡ length S → c ≡ non_empty_leaves (division_of s (take i S))
      → join_conditions f (take i S) (drop i S) ≡ scanned k i c
  unfolding division_of
  scan-from zero i c e d = join_from-end f S set none i (omega arith)
  scan-from (suc k) i c e d =
      join_conditions-drop f S set none i h
      ∙ (λ t. refusal 6 (crowds t) ∷ refusal 7 (ltb f.page_limit (leaves t)) ∷ scan-from k (suc i) c' (omega arith)
      (sym grows) t)
    where
      h : i < length S
      h = omega arith

      c' : ℕ
      c' = leaves_with step s.capacity i c

      crowds : leb s.capacity (length (sharing s f.depth_limit (get_or S i none) (take i S)))
          ≡ ltb f.depth_limit (depth_at step s.capacity i)
      crowds =
          leb-with_prefix-depth_at (record_bit s) W none S (sorted-of-is_set s S set) step steps s.capacity
          (capacity-bounds s n).0 f.depth_limit i within h

      grows : non_empty_leaves (division_of s (take (suc i) S)) ≡ c'
      grows =
          non_empty_leaves-take-suc (record_bit s) W none S (sorted-of-is_set s S set) step steps s.capacity
          (capacity-bounds s n).0 i h
          ∙ ap (leaves_with step s.capacity i) (sym d)

      leaves : non_empty_leaves (division_of s (with_record s (get_or S i none) (take i S))) ≡ c'
      leaves = ap (λ T. non_empty_leaves (division_of s T)) (with_record-take s S set none i h) ∙ grows

  -- a load's 6 and 7 are those of the scan
  pub join_conditions-scan : join_conditions f [] S
      ≡ scan_conditions step f.shape.capacity f.depth_limit f.page_limit (length S) 0 0
  unfolding division_of
  join_conditions-scan =
      scan-from (length S) 0 0 (omega arith)
      (sym (ap non_empty_leaves (divide-leaf (record_bit s) s.capacity W 0 [] (omega arith))))
