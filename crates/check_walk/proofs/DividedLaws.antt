-- Laws of what the walk tells of a region by the word of its first cell: a leaf; deeper than the directory; divided,
-- with the sums of its sides. Assumes nothing.
use Prim.Native.Nat.{ℕ, suc, ◌+◌, ◌*◌, ◌^◌, ◌≤◌, ◌<◌}
use mathlib.Core.Path.{◌≡◌, refl, sym, ap, ◌∙◌}
use mathlib.Core.Bool.{Bool, true, false, cond, ◌&&◌}
use mathlib.Core.List.{List}
use native.Mathlib.Omega.{arith}
use native.Mathlib.Nat.{mul-le-mul, two-pow-succ}
use lib.Dec.{ltb}
use lib.ListN.{length, length-append}
use Rattle.std.specs.Prelude.{Option, Some, None}
use lib.Pow.{pow_mono}
use borrow.Author.Tests.{ne_eqb}
use Rattle.region.specs.Strings.{with_bit}
use Rattle.region.specs.Division.{Division, leaf, divided, all_records}
use Rattle.record.specs.Record.{Record}
use Rattle.directory_word.specs.Word.{depth_field, page_field}
use Rattle.check_test.specs.Walk.{View, field_records, leaf_test, read_division}
use Rattle.check_test.specs.Walk.{record_count, region_test}
use Rattle.check_test.proofs.WalkLaws.{read_division-leaf, region_test-leaf, read_division-divided, record_count-divided}
use Rattle.check_test.proofs.WalkLaws.{region_test-divided, greatest_depth-read_division-le}
use Rattle.check_test.proofs.WalkLaws.{non_empty_leaves-read_division-le}
use Rattle.check_seen.specs.declared.Seen.{Seen}
use Rattle.check_seen.specs.Seen.{sums_of, joined_seen, JoinFits}
use Rattle.check_walk.specs.Sums.{SumsOf, Sees, Tells, TallyRoom}
use Rattle.check_walk.proofs.SumLaws.{sees-some, sees-none, tells-none}
use Rattle.check_walk.proofs.SumLaws.{leaves_at-read_division-le, record_count-le-capacity}

-- the tally has room for a side
pub room-lower : (n m : ℕ) → n ≡ suc m → (tally : List ℕ) → TallyRoom n tally → TallyRoom m tally
room-lower n m e tally r = record {
  depths = r.depths;
  room = λ y l. omega (arith, r.room y l, ap (λ k. 2 ^ k) e, two-pow-succ m);
}

-- ---- a region, n steps above the cells

-- a leaf
pub region-leaf : (v : View Record) (n : ℕ) (p : ℕ → Bool) (x : ℕ) → depth_field (v.word p) ≤ x
    → (before : List ℕ) (told : Option Seen) (after : List ℕ)
    → Tells x before told after (leaf_test v n p x) (leaf (field_records v (page_field (v.word p))))
    → Tells x before told after (region_test v n p x) (read_division v n p x)
region-leaf v n p x shallow before told after k =
    rw (region_test-leaf v n p x shallow, read_division-leaf v n p x shallow) k

-- deeper than the directory
pub region-too-deep : (v : View Record) (n : ℕ) (p : ℕ → Bool) (x : ℕ) → x < depth_field (v.word p) → n ≡ 0
    → (before : List ℕ) → Tells x before None before (region_test v n p x) (read_division v n p x)
region-too-deep v n p x deeper e before =
    tells-none x before before (region_test v n p x) (read_division v n p x)
    (ap (λ m. region_test v m p x) e ∙ rw (ne_eqb (depth_field (v.word p)) x (λ d. omega arith)))

-- divided: its sides have the depth y, m steps above the cells
pub record Divided (v : View Record) (n m : ℕ) (p : ℕ → Bool) (x y : ℕ) : Type 0 where
  pub deeper : x < depth_field (v.word p)
  pub steps : n ≡ suc m
  pub next : y ≡ suc x

module _ (v : View Record) (n m : ℕ) (p : ℕ → Bool) (x y : ℕ) (d : Divided v n m p x y) (before : List ℕ) where
  abbrev lower : Division Record
  lower = read_division v m (with_bit p x false) y

  abbrev upper : Division Record
  upper = read_division v m (with_bit p x true) y

  abbrev lower_test : Bool
  lower_test = region_test v m (with_bit p x false) y

  abbrev upper_test : Bool
  upper_test = region_test v m (with_bit p x true) y

  division : read_division v n p x ≡ divided lower upper
  division =
      ap (λ k. read_division v k p x) d.steps
      ∙ read_division-divided v m p x d.deeper
      ∙ ap (λ z. divided (read_division v m (with_bit p x false) z) (read_division v m (with_bit p x true) z))
      (sym d.next)

  tests : region_test v n p x
      ≡ (lower_test && (upper_test && ltb v.capacity (length (all_records lower) + length (all_records upper))))
  tests =
      ap (λ k. region_test v k p x) d.steps
      ∙ region_test-divided v m p x d.deeper
      ∙ ap (λ c. region_test v m (with_bit p x false) (suc x)
      && (region_test v m (with_bit p x true) (suc x) && ltb v.capacity c)) (record_count-divided v m p x d.deeper)
      ∙ ap (λ z. region_test v m (with_bit p x false) z && (region_test v m (with_bit p x true) z
      && ltb v.capacity (record_count v m (with_bit p x false) z + record_count v m (with_bit p x true) z)))
      (sym d.next)

  pub region-lower-fails : (middle : List ℕ) → Tells y before None middle lower_test lower
      → Tells x before None middle (region_test v n p x) (read_division v n p x)
  region-lower-fails middle told =
      tells-none x before middle (region_test v n p x) (read_division v n p x) (tests ∙ rw (sym told.sees.ok))

  module _ (l : Seen) (middle : List ℕ) (told : Tells y before (Some l) middle lower_test lower) where
    passes : lower_test ≡ true
    passes = sym told.sees.ok

    sums : SumsOf lower l
    sums = told.sees.sums l refl

    -- the tally has room for the upper side
    pub room-upper : TallyRoom n before → length middle ≡ length before → TallyRoom m middle
    room-upper room len = record {
      depths = len ∙ room.depths;
      room = λ z h. omega (
        arith,
        room.room z h,
        told.tallied passes z h,
        leaves_at-read_division-le v m (with_bit p x false) y y z,
        ap (λ k. 2 ^ k) d.steps,
        two-pow-succ m,
      );
    }

    pub region-upper-fails : (after : List ℕ) → Tells y middle None after upper_test upper
        → Tells x before None after (region_test v n p x) (read_division v n p x)
    region-upper-fails after told' =
        tells-none x before after (region_test v n p x) (read_division v n p x)
        (tests ∙ rw (passes, sym told'.sees.ok))

    module _ (u : Seen) (after : List ℕ) (told' : Tells y middle (Some u) after upper_test upper) where
      passes' : upper_test ≡ true
      passes' = sym told'.sees.ok

      sums' : SumsOf upper u
      sums' = told'.sees.sums u refl

      pub sums-fit : v.capacity ≤ 16 → m ≤ 12 → JoinFits l u
      sums-fit few short =
          let top : 2 ^ m ≤ 2 ^ 12 = pow_mono short in
          let most : v.capacity * 2 ^ m ≤ 16 * 2 ^ 12 = mul-le-mul few top in
          let a = record_count-le-capacity v m (with_bit p x false) y passes in
          let b = record_count-le-capacity v m (with_bit p x true) y passes' in
          let c = non_empty_leaves-read_division-le v m (with_bit p x false) y in
          let d = non_empty_leaves-read_division-le v m (with_bit p x true) y in
          let g = greatest_depth-read_division-le v m (with_bit p x false) y in
          let h = greatest_depth-read_division-le v m (with_bit p x true) y in
          record {
            records = omega (arith, a, b, sums.records, sums'.records);
            pages = omega (arith, c, d, sums.pages, sums'.pages);
            lower-depth = omega (arith, g, sums.depth);
            upper-depth = omega (arith, h, sums'.depth);
          }

      -- more than b records: what is told by the test
      joined : (γ : Bool) → Sees γ (divided lower upper) (cond γ (Some (sums_of l u)) None)
      joined true =
          sees-some (divided lower upper) (sums_of l u)
          (record {
            records = rw (sums.records, sums'.records) (sym (length-append (all_records lower) (all_records upper)));
            pages = rw (sums.pages, sums'.pages) refl;
            depth = omega (arith, sums.depth, sums'.depth);
          })
      joined false = sees-none false (divided lower upper) refl

      pub region-joined :
          Tells x before (joined_seen v.capacity l u) after (region_test v n p x) (read_division v n p x)
      unfolding joined_seen
      region-joined =
          let e : region_test v n p x ≡ ltb v.capacity (l.records + u.records) =
          tests ∙ rw (passes, passes', sums.records, sums'.records) refl in
          rw (division, e) (record {
            sees = joined (ltb v.capacity (l.records + u.records));
            tallied = λ k z h. rw (← d.next) (omega (arith, told.tallied passes z h, told'.tallied passes' z h));
          })
