-- A saved set loads again: in slices that are large enough L reaches the set's greatest depth and P its non-empty
-- leaves, so that no record is refused; and slices in which a load is accepted are large enough. Assumes nothing.
use Prim.Native.Nat.{ℕ, zero, suc, ◌*◌, ◌/◌, ◌^◌, ◌≤◌, ◌<◌}
use mathlib.Core.Path.{◌≡◌, refl, ap, subst, ◌∙◌}
use mathlib.Core.Bool.{Bool, true, false}
use mathlib.Core.List.{List}
use native.Mathlib.Omega.{arith}
use native.Mathlib.Nat.{le_trans, le-div_iff_mul-le, mul-le-mul_right}
use lib.Dec.{ltb}
use lib.ListN.{length}
use lib.Pow.{pow_mono, pow_pos}
use borrow.Author.Tests.{ltb-true, le-ltb, ne_eqb}
use Rattle.shape.specs.Refusal.{accepted, first_number}
use Rattle.shape.specs.Shape.{widths_of, total, shape_number}
use Rattle.shape.specs.declared.Shape.{Shape}
use Rattle.shape.proofs.ShapeLaws.{shape_number-true, in_bounds-of}
use Rattle.split.specs.Bits.{split_bit}
use Rattle.region.specs.Division.{divide, greatest_depth, non_empty_leaves}
use Rattle.region.proofs.DivideLaws.{greatest_depth-divide-le}
use Rattle.record.specs.Record.{Record, record_bit}
use Rattle.page.specs.Page.{page_size}
use Rattle.model.specs.Limits.{logarithm, page_limit_of, depth_limit_of, fresh_shape, fixed_by}
use Rattle.model.specs.Model.{Fixed}
use Rattle.model.specs.Sets.{is_set, division_of}
use Rattle.model.proofs.LimitLaws.{widths_of-fresh_shape, in_bounds-fresh_shape}
use Rattle.store.specs.Store.{Store, Memory}
use Rattle.store.specs.Sound.{Sound}
use Rattle.store.specs.Fresh.{fresh_conditions}
use Rattle.store.proofs.ShownLaws.{shape-of-Sound}
use Rattle.store.proofs.RoomLaws.{non_empty_leaves-le-pages}
use Rattle.file.specs.File.{file_size, file_of, file_shape}
use Rattle.file.specs.Loading.{load_fixed, load_number}
use Rattle.file.specs.Promises.{LoadPromise}
use Rattle.file.proofs.AcceptedLaws.{Passed, load_number-passed}
use Rattle.file.proofs.FreshLaws.{is_set-fresh_shape}
use Rattle.file.proofs.FileLaws.{SmallPayloads, file_shape-file_of, is_plain-file_of, shape_number-file_of, is_whole-file_of}
use Rattle.file.proofs.FileLaws.{file_records-file_of, is_set-file_of}
use Rattle.file.proofs.LoadingLaws.{answered_by-load}
use Rattle.file.proofs.SoundLaws.{file_size-set-lt, payloads-of-sound}
use Rattle.saved.specs.Again.{LargeEnough, LoadsAgain, OwnSlicesEnough}
use Rattle.saved.proofs.JoinLaws.{first_number-join}

-- ---- limits that are reached

-- the logarithm is the greatest exponent
le-logarithm : (n k m : ℕ) → k ≤ n → 2 ^ k ≤ m → k ≤ logarithm n m
unfolding logarithm
le-logarithm n zero m h l = omega arith
le-logarithm zero (suc k) m h l = absurd (omega arith)
le-logarithm (suc n) (suc k) m h l =
    by-test (ltb m 2) refl (le-logarithm n k (m / 2) (omega arith) (omega arith))
  where
    by-test : (β : Bool) → ltb m 2 ≡ β → k ≤ logarithm n (m / 2) → suc k ≤ logarithm (suc n) m
    by-test true e ih = absurd (omega (arith, ltb-true m 2 e, pow_pos k))
    by-test false e ih = rw (e, logarithm) (omega arith)

module _ (s : Shape) where
  le-depth_limit_of : (words k : ℕ) → k ≤ 12 → k ≤ total (widths_of s) → 2 ^ k ≤ words → k ≤ depth_limit_of s words
  unfolding depth_limit_of
  le-depth_limit_of words k h w l = omega (arith, le-logarithm 64 k words (omega arith) l)

  pages-le-page_limit_of : (bytes k : ℕ) → k ≤ 4096 → k * page_size s.capacity ≤ bytes → k ≤ page_limit_of s bytes
  unfolding page_limit_of
  pages-le-page_limit_of bytes k h l =
      let whole : k ≤ bytes / page_size s.capacity =
      (le-div_iff_mul-le {k = page_size s.capacity} {x = k} {y = bytes} (omega arith)).1 l in
      omega arith

  -- ---- a shape as Fresh holds it has the same leaves

  capacity-fresh_shape : (fresh_shape s).capacity ≡ s.capacity
  unfolding fresh_shape
  capacity-fresh_shape = refl

  division_of-fresh_shape : (S : List Record) → division_of (fresh_shape s) S ≡ division_of s S
  unfolding division_of fresh_shape
  division_of-fresh_shape S =
      ap (λ ws. divide (λ r t. split_bit ws r.key t) s.capacity (total ws) 0 S) (widths_of-fresh_shape s)

-- ---- slices of a store's own size

pub own-slices-enough : OwnSlicesEnough
own-slices-enough store S sound m words pages =
    let b = store.state.shape.capacity in
    record {
      words = rw (← sound.deepest) (le_trans (pow_mono sound.depth-within) words);
      pages = le_trans (mul-le-mul_right (page_size b) (non_empty_leaves-le-pages store S sound)) pages;
      some-page = omega (arith, mul-le-mul_right (page_size b) sound.some-page, pages);
    }

-- ---- the file of a set passes every test

module _ (s : Shape) (good : shape_number s ≡ 0) (S : List Record) (set : is_set s S ≡ true) (small : SmallPayloads S)
    (few : file_size (length S) < 2 ^ 32) (m : Memory) where
  abbrev f : Fixed
  f = fixed_by (fresh_shape s) (length m.words) (length m.bytes)

  fixed-file : load_fixed (file_of s S) m ≡ f
  fixed-file = ap (λ h. fixed_by h (length m.words) (length m.bytes)) (file_shape-file_of s S)

  shape-good : shape_number f.shape ≡ 0
  unfolding fixed_by
  shape-good =
      shape_number-true (fresh_shape (fresh_shape s))
      (in_bounds-fresh_shape (fresh_shape s) (in_bounds-fresh_shape s (in_bounds-of s good)))

  shape-set : is_set f.shape S ≡ true
  unfolding fixed_by
  shape-set = is_set-fresh_shape (fresh_shape s) S ∙ is_set-fresh_shape s S ∙ set

  shape-division : division_of f.shape S ≡ division_of s S
  unfolding fixed_by
  shape-division = division_of-fresh_shape (fresh_shape s) S ∙ division_of-fresh_shape s S

  module _ (shallow : greatest_depth (division_of s S) ≤ 12) (paged : non_empty_leaves (division_of s S) ≤ 4096)
      (large : LargeEnough s S m) where
    deep-enough : greatest_depth (division_of f.shape S) ≤ f.depth_limit
    unfolding fixed_by division_of
    deep-enough =
        rw shape-division
        (le-depth_limit_of (fresh_shape s) (length m.words) (greatest_depth (division_of s S)) shallow
        (rw (widths_of-fresh_shape s)
        (greatest_depth-divide-le (record_bit s) s.capacity (total (widths_of s)) 0 S))
        large.words)

    pages-enough : non_empty_leaves (division_of f.shape S) ≤ f.page_limit
    unfolding fixed_by
    pages-enough =
        rw shape-division
        (pages-le-page_limit_of (fresh_shape s) (length m.bytes) (non_empty_leaves (division_of s S)) paged
        (rw (capacity-fresh_shape s) large.pages))

    lent-enough : first_number (fresh_conditions (fresh_shape s) m) ≡ 0
    unfolding first_number
    lent-enough =
        rw (
          ne_eqb (length m.words) 0 (λ e. omega (arith, large.words, pow_pos (greatest_depth (division_of s S)))),
          capacity-fresh_shape s,
          le-ltb (length m.bytes) (page_size s.capacity) large.some-page,
        )

    pub passed-file_of : Passed (file_of s S) m
    passed-file_of =
        record {
          whole = is_whole-file_of s S few;
          shape = in_bounds-of (file_shape (file_of s S)) (shape_number-file_of s S good);
          plain = is_plain-file_of s S;
          set = is_set-file_of s S few good set small;
          lent = rw (file_shape-file_of s S) lent-enough;
          joined =
              rw (fixed-file, file_records-file_of s S few good set small)
              (first_number-join f shape-good S shape-set deep-enough pages-enough);
        }

  -- ---- an accepted load

  module _ (after : Store) (p : LoadPromise (file_of s S) m (accepted tt) after) where
    pub shown-file_of : Sound after S
    shown-file_of = rw (file_records-file_of s S few good set small) at (p.shown refl)

    -- its slices are large enough
    pub large_enough-of-accepted : LargeEnough s S m
    large_enough-of-accepted =
        let same : after.state.shape ≡ fresh_shape s = p.shape-as refl ∙ file_shape-file_of s S in
        let own =
        own-slices-enough after S shown-file_of m (rw p.words-length at shown-file_of.words-lent)
        (rw p.bytes-length at shown-file_of.pages-lent) in
        let held : LargeEnough (fresh_shape s) S m = rw same at own in
        record {
          words = rw (division_of-fresh_shape s S) at held.words;
          pages = rw (division_of-fresh_shape s S, capacity-fresh_shape s) at held.pages;
          some-page = rw (capacity-fresh_shape s) at held.some-page;
        }

-- ---- the set of a sound store loads again

pub loads-again : LoadsAgain
loads-again store S sound bytes m =
    let s = store.state.shape in
    let good = shape-of-Sound store S sound in
    let small = payloads-of-sound store S sound bytes in
    let few = file_size-set-lt store S sound in
    let shallow : greatest_depth (division_of s S) ≤ 12 =
    omega (arith, sound.deepest, sound.depth-within, sound.depth-limit) in
    let paged : non_empty_leaves (division_of s S) ≤ 4096 =
    omega (arith, non_empty_leaves-le-pages store S sound, sound.most-pages) in
    let none-met : LargeEnough s S m → load_number (file_of s S) m ≡ 0 =
    λ large. load_number-passed (file_of s S) m
    (passed-file_of s good S sound.set small few m shallow paged large) in
    record {
      no-refusal = none-met;
      exactly = λ answer after p. (
        λ e. large_enough-of-accepted s good S sound.set small few m after
            (subst (λ a. LoadPromise (file_of s S) m a after) e p),
        λ large. p.answered-as ∙ answered_by-load (file_of s S) m (none-met large),
      );
      shown = shown-file_of s good S sound.set small few m;
    }
