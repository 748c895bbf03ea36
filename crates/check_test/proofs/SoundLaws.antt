-- The test passes exactly the sound stores, and a sound store shows one set: the one that is read off its pages.
-- Assumes nothing.
use Prim.Native.Nat.{ℕ}
use mathlib.Core.Path.{◌≡◌, refl, sym, ap, ◌∙◌}
use mathlib.Core.Bool.{Bool, true, ◌&&◌, false≢true}
use mathlib.Core.List.{List, [], ◌∷◌}
use native.Mathlib.Omega.{arith}
use native.Mathlib.Nat.{zero-add}
use lib.Dec.{eqb}
use lib.ListN.{length}
use borrow.Author.Tests.{eqb-true, eq-eqb}
use Rattle.lists.specs.Filter.{all}
use Rattle.lists.proofs.Bools.{and_split, and_both}
use Rattle.lists.proofs.FilterLaws.{all_true}
use Rattle.shape.specs.Shape.{widths_of, total}
use Rattle.shape.specs.declared.Shape.{Shape}
use Rattle.shape.proofs.ShapeLaws.{shape_number-true, in_bounds-of, capacity-bounds}
use Rattle.region.specs.Strings.{empty_string}
use Rattle.region.specs.Sets.{sorted}
use Rattle.region.specs.Division.{Division, greatest_depth, non_empty_leaves, all_records}
use Rattle.region.proofs.DivideLaws.{all_records-divide}
use Rattle.record.specs.Record.{Record, record_bit}
use Rattle.model.specs.Sets.{in_shape, is_set, division_of}
use Rattle.store.specs.Store.{Store}
use Rattle.store.specs.Sound.{Sound, tallies}
use Rattle.store.specs.Promises.{lent_number}
use Rattle.refusals.specs.Lengths.{MemoryLent, lent_number_by}
use Rattle.refusals.specs.Limits.{limits_hold}
use Rattle.refusals.proofs.LentLaws.{memory_lent, lent_number_by-none, lent_number-by}
use Rattle.refusals.proofs.LimitsLaws.{limits-parts, limits-of-sound}
use Rattle.check_test.specs.Walk.{pages_in_use}
use Rattle.check_test.specs.Test.{same_numbers, view_of, shown_division, shown_set, lent_test, walk_test, sums_test}
use Rattle.check_test.specs.Test.{sound_test}
use Rattle.check_test.proofs.ReadLaws.{Read, read-of-test}
use Rattle.check_test.proofs.PassLaws.{division-passes}
use Rattle.check_test.proofs.ShowsLaws.{word_at-local, shown-of-Shows}
use Rattle.check_test.proofs.ShowsLaws.{pages_in_use-Shows, Shows-of-shown}

-- ---- lists of numbers

pub eq-of-same_numbers : (xs ys : List ℕ) → same_numbers xs ys ≡ true → xs ≡ ys
eq-of-same_numbers [] [] e = refl
eq-of-same_numbers [] (y ∷ ys) e = absurd (false≢true e)
eq-of-same_numbers (x ∷ xs) [] e = absurd (false≢true e)
eq-of-same_numbers (x ∷ xs) (y ∷ ys) e =
    let k = and_split (eqb x y) (same_numbers xs ys) e in
    rw (eqb-true x y k.0, eq-of-same_numbers xs ys k.1)

pub same_numbers-refl : (xs : List ℕ) → same_numbers xs xs ≡ true
same_numbers-refl [] = refl
same_numbers-refl (x ∷ xs) = and_both (eqb x x) (same_numbers xs xs) (eq-eqb x x refl) (same_numbers-refl xs)

module _ (store : Store) where
  abbrev s : Shape
  s = store.state.shape

  abbrev P : ℕ
  P = store.state.limits.pages

  abbrev T : ℕ
  T = store.state.deepest

  abbrev W : ℕ
  W = total (widths_of s)

  -- ---- the sums

  -- T, the tally and the pages in use are those of a division
  pub record Sums (D : Division Record) : Type 0 where
    pub deepest : T ≡ greatest_depth D
    pub tallied : store.state.tally.leaves ≡ tallies D 0 13
    pub in_use : pages_in_use (view_of store) P ≡ non_empty_leaves D

  abbrev tally_test : Division Record → Bool
  tally_test D = same_numbers store.state.tally.leaves (tallies D 0 13)

  abbrev in_use_test : Division Record → Bool
  in_use_test D = eqb (pages_in_use (view_of store) P) (non_empty_leaves D)

  sums-of-test : sums_test store ≡ true → Sums (shown_division store)
  sums-of-test e =
      let D = shown_division store in
      let k₁ = and_split (eqb T (greatest_depth D)) (tally_test D && in_use_test D) e in
      let k₂ = and_split (tally_test D) (in_use_test D) k₁.1 in
      record {
        deepest = eqb-true T (greatest_depth D) k₁.0;
        tallied = eq-of-same_numbers store.state.tally.leaves (tallies D 0 13) k₂.0;
        in_use = eqb-true (pages_in_use (view_of store) P) (non_empty_leaves D) k₂.1;
      }

  sums_test-true : Sums (shown_division store) → sums_test store ≡ true
  sums_test-true k =
      let D = shown_division store in
      and_both (eqb T (greatest_depth D)) (tally_test D && in_use_test D) (eq-eqb T (greatest_depth D) k.deepest)
      (and_both (tally_test D) (in_use_test D) (rw k.tallied (same_numbers-refl (tallies D 0 13)))
      (eq-eqb (pages_in_use (view_of store) P) (non_empty_leaves D) k.in_use))

  -- ---- what is lent

  by_lengths : lent_number store
      ≡ lent_number_by store.state (length store.memory.words) (length store.memory.bytes)
  by_lengths = lent_number-by store.state store.memory.words store.memory.bytes

  abbrev Lent : Type 0
  Lent = MemoryLent store.state (length store.memory.words) (length store.memory.bytes)

  lent-of-test : lent_test store ≡ true → Lent
  lent-of-test e = memory_lent store.state _ _ (sym by_lengths ∙ eqb-true (lent_number store) 0 e)

  lent_test-true : Lent → lent_test store ≡ true
  lent_test-true l = eq-eqb (lent_number store) 0 (by_lengths ∙ lent_number_by-none store.state _ _ l)

  -- ---- yes is right

  sound-of-parts : Lent → limits_hold store.state ≡ true → walk_test store ≡ true → Sums (shown_division store)
      → Sound store (shown_set store)
  unfolding division_of is_set
  sound-of-parts l e w k =
      let b = limits-parts store.state e in
      let read : Read (view_of store) T (word_at-local store l.shape) T empty_string 0 (shown_division store) =
      read-of-test (view_of store) T (word_at-local store l.shape) T empty_string 0 w in
      let d : division_of s (shown_set store) ≡ shown_division store =
      read.divides W (omega (arith, b.4, b.3)) in
      record {
        shape = in_bounds-of s l.shape;
        words-lent = l.words-lent;
        pages-lent = l.pages-lent;
        some-page = b.0;
        most-pages = b.1;
        depth-limit = b.2;
        depth-bits = b.3;
        depth-within = b.4;
        set = and_both (sorted (record_bit s) W 0 (shown_set store)) (all (in_shape s) (shown_set store))
            (read.ordered (omega (arith, b.4, b.3))) read.fit;
        deepest = rw d k.deepest;
        tallied = rw d k.tallied;
        shown = Shows-of-shown store (shown_set store) b.1 (rw d (read.shows (zero-add T)))
            (rw d k.in_use);
      }

  pub yes-sound : sound_test store ≡ true → Sound store (shown_set store)
  unfolding sound_test
  yes-sound e =
      let k₁ = and_split (lent_test store) (limits_hold store.state && (walk_test store && sums_test store)) e in
      let k₂ = and_split (limits_hold store.state) (walk_test store && sums_test store) k₁.1 in
      let k₃ = and_split (walk_test store) (sums_test store) k₂.1 in
      sound-of-parts (lent-of-test k₁.0) k₂.0 k₃.0 (sums-of-test k₃.1)

  -- ---- no is right

  module _ (S : List Record) (h : Sound store S) where
    set-parts : (sorted (record_bit s) W 0 S ≡ true) × (all (in_shape s) S ≡ true)
    unfolding is_set
    set-parts = and_split (sorted (record_bit s) W 0 S) (all (in_shape s) S) h.set

    -- the walk passes, and reads the division of the set
    pub sound-read : (walk_test store ≡ true) × (shown_division store ≡ division_of s S)
    unfolding division_of
    sound-read =
        division-passes (view_of store) T W empty_string 0 S (capacity-bounds s (shape_number-true s h.shape)).0
        (record {
          left-ordered = set-parts.0;
          ordered = set-parts.0;
          fit = set-parts.1;
          begins = all_true S;
        })
        (omega (arith, h.deepest)) (shown-of-Shows store (division_of s S) h.most-pages h.shown)

    -- the set that is read is the one that the store shows
    pub sound-set : shown_set store ≡ S
    unfolding division_of
    sound-set = ap all_records sound-read.1 ∙ all_records-divide (record_bit s) s.capacity W 0 S set-parts.0

    pub sound-yes : sound_test store ≡ true
    unfolding sound_test
    sound-yes =
        and_both (lent_test store) (limits_hold store.state && (walk_test store && sums_test store)) lent
        (and_both (limits_hold store.state) (walk_test store && sums_test store) (limits-of-sound store S h)
        (and_both (walk_test store) (sums_test store) sound-read.0 (sums_test-true sums)))
      where
        lent : lent_test store ≡ true
        lent =
            lent_test-true
            (record {
              shape = shape_number-true s h.shape;
              words-lent = h.words-lent;
              pages-lent = h.pages-lent;
            })

        sums : Sums (shown_division store)
        sums =
            rw sound-read.1
            (record {
              deepest = h.deepest;
              tallied = h.tallied;
              in_use = pages_in_use-Shows store S h.most-pages h.shown;
            })
