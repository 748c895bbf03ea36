-- Laws of a list in split order, whose elements share their first m bits with r, cut where bit m becomes 1: the part
-- that r falls into, r's place in it, and its room. Assumes nothing.
use Prim.Native.Nat.{ℕ, ◌+◌, ◌-◌, ◌≤◌, ◌<◌}
use mathlib.Core.Path.{◌≡◌, sym, ap, ◌∙◌, subst}
use mathlib.Core.Bool.{Bool, true, false, beq, false≢true, true≢false}
use mathlib.Core.List.{List}
use mathlib.Core.Logic.{◌⊎◌, inl, inr}
use native.Mathlib.Omega.{arith}
use native.Mathlib.Nat.{zero-add}
use lib.ListN.{length, get_or, take, drop, length-take, length-drop}
use lib.Seq.{get_or-take, get_or-drop}
use Rattle.lists.specs.Filter.{all}
use Rattle.lists.proofs.Bools.{eq-of-beq}
use Rattle.lists.proofs.Numbers.{lt-or-le}
use Rattle.lists.proofs.FilterLaws.{all-filter-same}
use Rattle.region.specs.Strings.{same_bits}
use Rattle.region.specs.Sets.{before, sorted, insert}
use Rattle.region.specs.Division.{side}
use Rattle.region.proofs.StringLaws.{bit-of-same_bits}
use Rattle.region.proofs.OrderLaws.{before-asym, sorted_filter}
use Rattle.page.specs.Changes.{insert_at}
use Rattle.key_order.proofs.CommonLaws.{AgreeFrom, before-differ}
use Rattle.page_place.proofs.SortedLaws.{Between, all_get_d, insert_at-between}

module _ {R : Type 0} (bit : R → ℕ → Bool) (W : ℕ) (r d : R) (S : List R) (i : ℕ) (o : sorted bit W 0 S ≡ true)
    (b : Between bit W 0 r d S i) (m : ℕ) (l : m < W) (cut : ℕ) (within : cut ≤ length S)
    (low : take cut S ≡ side bit false m S) (high : drop cut S ≡ side bit true m S) where
  -- ---- the bit of an element by its place

  low_bit : (k : ℕ) → k < cut → bit (get_or S k d) m ≡ false
  low_bit k h =
      let part : all (λ y. beq false (bit y m)) (take cut S) ≡ true =
      rw low (all-filter-same (λ y. beq false (bit y m)) S) in
      ap (λ y. bit y m) (sym (get_or-take cut S k d h))
      ∙ eq-of-beq false (bit (get_or (take cut S) k d) m)
      (all_get_d (λ y. beq false (bit y m)) (take cut S) k d part (simp length-take (omega arith)))

  high_bit : (k : ℕ) → cut ≤ k → k < length S → bit (get_or S k d) m ≡ true
  high_bit k h u =
      let part : all (λ y. beq true (bit y m)) (drop cut S) ≡ true =
      rw high (all-filter-same (λ y. beq true (bit y m)) S) in
      let at : cut + (k - cut) ≡ k = omega arith in
      ap (λ j. bit (get_or S j d) m) (sym at)
      ∙ ap (λ y. bit y m) (sym (get_or-drop cut S (k - cut) d))
      ∙ eq-of-beq true (bit (get_or (drop cut S) (k - cut) d) m)
      (all_get_d (λ y. beq true (bit y m)) (drop cut S) (k - cut) d part (simp length-drop (omega arith)))

  -- ---- r's place

  module _ (shared : all (λ y. same_bits (bit r) (bit y) m 0) S ≡ true) where
    agree : (k : ℕ) → k < length S → (u : ℕ) → u < m → bit (get_or S k d) u ≡ bit r u
    agree k h u v =
        bit-of-same_bits (bit r) (bit (get_or S k d)) m 0 (all_get_d (λ y. same_bits (bit r) (bit y) m 0) S k d shared h) u
        (omega arith) (omega (arith, zero-add m))

    agree-from : (k : ℕ) → k < length S → AgreeFrom (bit r) (bit (get_or S k d)) m 0
    agree-from k h u v = sym (agree k h (0 + u) (omega (arith, zero-add u)))

    agree-back : (k : ℕ) → k < length S → AgreeFrom (bit (get_or S k d)) (bit r) m 0
    agree-back k h u v = agree k h (0 + u) (omega (arith, zero-add u))

    -- with bit 0 it is in the first part
    pub place-low : bit r m ≡ false → i ≤ cut
    place-low e = go (lt-or-le cut i)
      where
        go : (cut < i) ⊎ (i ≤ cut) → i ≤ cut
        go (inr h) = h
        go (inl h) =
            let k = i - 1 in
            let inside : k < length S = omega (arith, b.0) in
            let one : bit (get_or S k d) (0 + m) ≡ true =
            ap (bit (get_or S k d)) (zero-add m) ∙ high_bit k (omega arith) inside in
            let none : bit r (0 + m) ≡ false = ap (bit r) (zero-add m) ∙ e in
            let first = before-differ bit r (get_or S k d) W 0 m l (agree-from k inside)
            (λ q. false≢true (sym none ∙ q ∙ one)) ∙ one in
            absurd (true≢false (sym (b.1 k (omega arith)) ∙ before-asym bit W 0 r (get_or S k d) first))

    -- with bit 1 in the second
    pub place-high : bit r m ≡ true → cut ≤ i
    place-high e = go (lt-or-le i cut)
      where
        go : (i < cut) ⊎ (cut ≤ i) → cut ≤ i
        go (inr h) = h
        go (inl h) =
            let inside : i < length S = omega arith in
            let none : bit (get_or S i d) (0 + m) ≡ false = ap (bit (get_or S i d)) (zero-add m) ∙ low_bit i h in
            let one : bit r (0 + m) ≡ true = ap (bit r) (zero-add m) ∙ e in
            let first = before-differ bit (get_or S i d) r W 0 m l (agree-back i inside)
            (λ q. false≢true (sym none ∙ q ∙ one)) ∙ one in
            absurd (true≢false (sym (b.2 inside) ∙ before-asym bit W 0 (get_or S i d) r first))

  -- ---- r inserted into its part

  pub insert-low : i ≤ cut → insert_at i r (take cut S) ≡ insert bit W 0 r (side bit false m S)
  insert-low h =
      insert_at-between bit W 0 r d (take cut S) i (rw low (sorted_filter bit W 0 _ S o)) between
      ∙ ap (insert bit W 0 r) low
    where
      size : length (take cut S) ≡ cut
      size = simp length-take (omega arith)

      between : Between bit W 0 r d (take cut S) i
      between = (
        omega (arith, size),
        (λ k q. rw (get_or-take cut S k d (omega arith)) (b.1 k q)),
        (λ u.
            let below : i < cut = omega (arith, size) in
            rw (get_or-take cut S i d below) (b.2 (omega arith))),
      )

  pub insert-high : cut ≤ i → insert_at (i - cut) r (drop cut S) ≡ insert bit W 0 r (side bit true m S)
  insert-high h =
      insert_at-between bit W 0 r d (drop cut S) (i - cut) (rw high (sorted_filter bit W 0 _ S o)) between
      ∙ ap (insert bit W 0 r) high
    where
      size : length (drop cut S) ≡ length S - cut
      size = simp length-drop (omega arith)

      at : cut + (i - cut) ≡ i
      at = omega arith

      between : Between bit W 0 r d (drop cut S) (i - cut)
      between = (
        omega (arith, size, b.0),
        (λ k q. rw (get_or-drop cut S k d) (b.1 (cut + k) (omega arith))),
        (λ u.
            rw (get_or-drop cut S (i - cut) d)
            (subst (λ j. before bit W 0 r (get_or S j d) ≡ true) (sym at) (b.2 (omega (arith, size))))),
      )
