-- Laws of records in split order: how many of the first i share m split bits with one that stands at i − 1 or later is
-- told by a single record, the k-th from the end of those. Assumes nothing.
use Prim.Native.Nat.{ℕ, suc, ◌-◌, ◌≤◌, ◌<◌}
use mathlib.Core.Path.{◌≡◌, refl, sym, ap, ◌∙◌}
use mathlib.Core.Bool.{Bool, true, false, ◌&&◌, ◌||◌}
use mathlib.Core.List.{List, [], ◌∷◌, ◌++◌}
use mathlib.Core.Logic.{◌⊎◌, inl, inr}
use native.Mathlib.Omega.{arith}
use lib.Dec.{leb}
use lib.ListN.{length, get_or, take, drop, length-append, length-drop}
use lib.Seq.{length-take-le, take-suc, take-take, split_at, get_or-take}
use borrow.Author.Tests.{le-leb, lt-leb}
use Rattle.lists.specs.Filter.{filter, all}
use Rattle.lists.proofs.Bools.{and_split, and_both}
use Rattle.lists.proofs.Numbers.{lt-or-le}
use Rattle.lists.proofs.FilterLaws.{all-imp, all-and, all_append, filter-append, filter-all, filter_none}
use Rattle.lists.proofs.FilterLaws.{length-filter-le}
use Rattle.region.specs.Strings.{same_bits}
use Rattle.region.specs.Sets.{before, sorted, with_prefix, absent, insert}
use Rattle.region.proofs.StringLaws.{same_bits-refl, same_bits-comm, same_bits-join, same_bits-le}
use Rattle.key_order.specs.Order.{common_bits}
use Rattle.key_order.proofs.FirstLaws.{same_bits-common_bits, same_bits-between}
use Rattle.page_place.proofs.SortedLaws.{all_get_d}
use Rattle.file_scan.proofs.RisingLaws.{all-append-split, all_take, sorted-append-split, sorted-take}
use Rattle.file_scan.proofs.RisingLaws.{insert-last, absent-last}

-- `step i j` is the first of W split steps in which the records at i and j differ; W where they do not
abbrev pub StepsOf : {R : Type 0} → (R → ℕ → Bool) → ℕ → R → List R → (ℕ → ℕ → ℕ) → Type 0
StepsOf bit W none S step =
    (i j : ℕ) → i < length S → j < length S → step i j ≡ common_bits (bit (get_or S i none)) (bit (get_or S j none)) W 0

or_left : (α β : Bool) → α ≡ true → (α || β) ≡ true
or_left α β e = rw e

or_right : (α β : Bool) → β ≡ true → (α || β) ≡ true
or_right true β e = refl
or_right false β e = e

module _ {R : Type 0} (bit : R → ℕ → Bool) where
  -- ---- records that share m bits with q

  module _ (W : ℕ) (q : R) where
    -- y stands before q, or has its key
    abbrev pub up_to : R → Bool
    up_to y = before bit W 0 y q || same_bits (bit q) (bit y) W 0

    module _ (m : ℕ) (within : m ≤ W) where
      abbrev pub shares : R → Bool
      shares y = same_bits (bit q) (bit y) m 0

      shares-later : (y z : R) → before bit W 0 y z ≡ true → up_to z ≡ true → shares y ≡ true → shares z ≡ true
      shares-later y z yz zq e = by_order (before bit W 0 z q) refl
        where
          by_order : (β : Bool) → before bit W 0 z q ≡ β → shares z ≡ true
          by_order true d =
              let k =
              same_bits-between bit m W 0 y z q within yz d (same_bits-comm (bit y) (bit q) m 0 ∙ e) in
              same_bits-join (bit q) (bit z) (bit y) m 0 e (same_bits-comm (bit z) (bit y) m 0 ∙ k)
          by_order false d = same_bits-le (bit q) (bit z) m W 0 within (rw d at zq)

      not-shares-earlier : (x y : R) → before bit W 0 x y ≡ true → up_to y ≡ true → shares y ≡ false → shares x ≡ false
      not-shares-earlier x y xy yq e = by-test (shares x) refl
        where
          by-test : (β : Bool) → shares x ≡ β → β ≡ false
          by-test true d = sym (shares-later x y xy yq d) ∙ e
          by-test false d = refl

      -- the records from y on share so many bits, or none up to y does
      count-shares : (xs : List R) (y : R) (zs : List R) → sorted bit W 0 (xs ++ y ∷ zs) ≡ true
          → all up_to (xs ++ y ∷ zs) ≡ true
          → leb (suc (length zs)) (length (with_prefix bit (bit q) m 0 (xs ++ y ∷ zs))) ≡ shares y
      count-shares xs y zs s u = by-test (shares y) refl
        where
          parts : (sorted bit W 0 xs ≡ true) × (sorted bit W 0 (y ∷ zs) ≡ true)
              × (all (λ x. all (before bit W 0 x) (y ∷ zs)) xs ≡ true)
          parts = sorted-append-split bit W 0 xs (y ∷ zs) s

          later : all (before bit W 0 y) zs ≡ true
          later = (and_split (all (before bit W 0 y) zs) (sorted bit W 0 zs) parts.1).0

          earlier : all (λ x. before bit W 0 x y) xs ≡ true
          earlier =
              all-imp _ (λ x. before bit W 0 x y)
              (λ x k. (and_split (before bit W 0 x y) (all (before bit W 0 x) zs) k).0) xs parts.2

          up_to-y : (up_to y ≡ true) × (all up_to zs ≡ true)
          up_to-y = and_split (up_to y) (all up_to zs) (all-append-split up_to xs (y ∷ zs) u).1

          sum : length (with_prefix bit (bit q) m 0 (xs ++ y ∷ zs))
              ≡ length (filter shares xs ++ filter shares (y ∷ zs))
          sum = ap length (filter-append shares xs (y ∷ zs))

          both : R → Bool
          both z = before bit W 0 y z && up_to z

          by-test : (β : Bool) → shares y ≡ β
              → leb (suc (length zs)) (length (with_prefix bit (bit q) m 0 (xs ++ y ∷ zs))) ≡ β
          by-test true d =
              let whole : filter shares zs ≡ zs =
              filter-all both shares
              (λ z k. let l = and_split (before bit W 0 y z) (up_to z) k in shares-later y z l.0 l.1 d) zs
              (all-and (before bit W 0 y) up_to zs later up_to-y.1) in
              let tail : length (filter shares (y ∷ zs)) ≡ suc (length zs) = rw (d, whole) in
              le-leb (suc (length zs)) (length (with_prefix bit (bit q) m 0 (xs ++ y ∷ zs)))
              (omega (arith, sum, length-append (filter shares xs) (filter shares (y ∷ zs)), tail))
          by-test false d =
              let empty : filter shares xs ≡ [] =
              filter_none (λ x. before bit W 0 x y) shares (λ x k. not-shares-earlier x y k up_to-y.0 d) xs earlier in
              let tail : length (filter shares (y ∷ zs)) ≡ length (filter shares zs) = rw d in
              lt-leb (suc (length zs)) (length (with_prefix bit (bit q) m 0 (xs ++ y ∷ zs)))
              (omega (
                arith,
                sum,
                length-append (filter shares xs) (filter shares (y ∷ zs)),
                ap length empty,
                tail,
                length-filter-le shares zs,
              ))

      -- k of them do exactly if the k-th from the end does
      pub leb-with_prefix-up_to : (none : R) (T : List R) (k : ℕ) → 1 ≤ k → sorted bit W 0 T ≡ true → all up_to T ≡ true
          → leb k (length (with_prefix bit (bit q) m 0 T))
          ≡ (leb k (length T) && leb m (common_bits (bit (get_or T (length T - k) none)) (bit q) W 0))
      leb-with_prefix-up_to none T k some s u = by_order (lt-or-le (length T) k)
        where
          by_order : (length T < k) ⊎ (k ≤ length T)
              → leb k (length (with_prefix bit (bit q) m 0 T))
              ≡ (leb k (length T) && leb m (common_bits (bit (get_or T (length T - k) none)) (bit q) W 0))
          by_order (inl h) =
              lt-leb k _ (omega (arith, length-filter-le shares T)) ∙ rw (lt-leb k (length T) h)
          by_order (inr h) =
              let j : ℕ = length T - k in
              let y : R = get_or T j none in
              let cut : T ≡ take j T ++ y ∷ drop (suc j) T = split_at T j none (omega arith) in
              let k≡ : k ≡ suc (length (drop (suc j) T)) = omega (arith, length-drop (suc j) T) in
              ap (λ n. leb n (length (with_prefix bit (bit q) m 0 T))) k≡
              ∙ ap (λ U. leb (suc (length (drop (suc j) T))) (length (with_prefix bit (bit q) m 0 U))) cut
              ∙ count-shares (take j T) y (drop (suc j) T) (ap (sorted bit W 0) (sym cut) ∙ s)
              (ap (all up_to) (sym cut) ∙ u)
              ∙ same_bits-comm (bit q) (bit y) m 0
              ∙ same_bits-common_bits (bit y) (bit q) m W 0 within
              ∙ rw (le-leb k (length T) h)

  -- ---- windows of a sorted list

  module _ (W : ℕ) (none : R) (S : List R) (rising : sorted bit W 0 S ≡ true) where
    -- those before record j stand before it
    pub all-before : (j : ℕ) → j < length S → all (λ y. before bit W 0 y (get_or S j none)) (take j S) ≡ true
    all-before j h =
        let r : R = get_or S j none in
        let parts =
        sorted-append-split bit W 0 (take j S) (r ∷ drop (suc j) S)
        (ap (sorted bit W 0) (sym (split_at S j none h)) ∙ rising) in
        all-imp _ (λ y. before bit W 0 y r)
        (λ y k. (and_split (before bit W 0 y r) (all (before bit W 0 y) (drop (suc j) S)) k).0) (take j S) parts.2

    pub before-get_d : (i j : ℕ) → i < j → j < length S → before bit W 0 (get_or S i none) (get_or S j none) ≡ true
    before-get_d i j h k =
        ap (λ y. before bit W 0 y (get_or S j none)) (sym (get_or-take j S i none h))
        ∙ all_get_d (λ y. before bit W 0 y (get_or S j none)) (take j S) i none (all-before j k)
        (omega (arith, length-take-le j S (omega arith)))

    pub absent-get_d : (j : ℕ) → j < length S → absent bit W 0 (get_or S j none) (take j S) ≡ true
    absent-get_d j h = absent-last bit W 0 (get_or S j none) (take j S) (all-before j h)

    -- the next record joins those before it
    pub insert-get_d : (j : ℕ) → j < length S → insert bit W 0 (get_or S j none) (take j S) ≡ take (suc j) S
    insert-get_d j h = insert-last bit W 0 (get_or S j none) (take j S) (all-before j h) ∙ sym (take-suc S j none h)

    all-up_to : (i j : ℕ) → j < length S → i ≤ suc j → all (up_to W (get_or S j none)) (take i S) ≡ true
    all-up_to i j h k =
        ap (all (up_to W r)) (sym (take-take i (suc j) S k))
        ∙ all_take (up_to W r) i (take (suc j) S)
        (ap (all (up_to W r)) (take-suc S j none h)
        ∙ all_append (up_to W r) (take j S) (r ∷ [])
        (all-imp _ (up_to W r) (λ y e. or_left (before bit W 0 y r) _ e) (take j S) (all-before j h))
        (and_both (up_to W r r) true (or_right (before bit W 0 r r) _ (same_bits-refl (bit r) W 0)) refl))
      where
        r : R
        r = get_or S j none

    -- of the first i, k or more share m bits with record j exactly if record i − k does
    pub leb-with_prefix-window : (step : ℕ → ℕ → ℕ) → StepsOf bit W none S step → (i j k m : ℕ) → j < length S
        → i ≤ suc j → 1 ≤ k → m ≤ W
        → leb k (length (with_prefix bit (bit (get_or S j none)) m 0 (take i S))) ≡ (leb k i && leb m (step (i - k) j))
    leb-with_prefix-window step steps i j k m h g some within =
        by_order (lt-or-le i k) ∙ ap (λ x. leb k i && leb m x) (sym (steps (i - k) j (omega arith) h))
      where
        r : R
        r = get_or S j none

        size : length (take i S) ≡ i
        size = length-take-le i S (omega arith)

        counted : leb k (length (with_prefix bit (bit r) m 0 (take i S)))
            ≡ (leb k i && leb m (common_bits (bit (get_or (take i S) (i - k) none)) (bit r) W 0))
        counted =
            rw size at (leb-with_prefix-up_to W r m within none (take i S) k some (sorted-take bit W 0 i S rising)
            (all-up_to i j h g))

        by_order : (i < k) ⊎ (k ≤ i)
            → leb k (length (with_prefix bit (bit r) m 0 (take i S)))
            ≡ (leb k i && leb m (common_bits (bit (get_or S (i - k) none)) (bit r) W 0))
        by_order (inl d) = counted ∙ rw (lt-leb k i d)
        by_order (inr d) =
            counted
            ∙ ap (λ y. leb k i && leb m (common_bits (bit y) (bit r) W 0)) (get_or-take i S (i - k) none (omega arith))
