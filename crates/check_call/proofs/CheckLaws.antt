-- Laws of the call's tests, one for each way that a function ends: the sums of the whole walk, the answer.
-- Assumes nothing.
use Prim.Native.Nat.{ℕ, ◌+◌, ◌-◌, ◌^◌, ◌≤◌, ◌<◌}
use mathlib.Core.Path.{◌≡◌, refl, sym, ap, ◌∙◌, subst}
use mathlib.Core.Bool.{Bool, true, false, ◌&&◌}
use mathlib.Core.List.{List}
use native.Mathlib.Omega.{arith}
use native.Mathlib.Nat.{le_trans, sub-zero}
use Rattle.std.specs.Prelude.{Option, Some, None}
use lib.Dec.{eqb}
use lib.ListN.{length, get_or, replicate, get_or-replicate}
use lib.Pow.{pow_mono}
use borrow.Author.Tests.{eq-eqb, ne_eqb}
use Rattle.shape.specs.Refusal.{accepted, told, answered_by}
use Rattle.shape.specs.declared.refusal.Refusal.{Refusal}
use Rattle.shape.proofs.TestLaws.{told-answered_by}
use Rattle.shape.specs.Shape.{Fit, widths_of, total}
use Rattle.shape.proofs.ShapeLaws.{widths_of-fit}
use Rattle.region.specs.Strings.{empty_string}
use Rattle.region.specs.Division.{Division, non_empty_leaves}
use Rattle.record.specs.Record.{Record}
use Rattle.shape.proofs.ShapeLaws.{capacity-bounds}
use Rattle.store.specs.Store.{Store, store, lent_conditions}
use Rattle.store.specs.declared.State.{State}
use Rattle.store.specs.Sound.{tallies}
use Rattle.store.specs.Promises.{lent_number, CheckPromise}
use Rattle.check_test.specs.Walk.{region_test, read_division, pages_in_use}
use Rattle.check_test.specs.Test.{view_of, shown_division, same_numbers, walk_test, sums_test, sound_test, check_answer}
use Rattle.check_test.proofs.AnswerLaws.{check_answer-accepted, check-promise}
use Rattle.refusals.specs.Lengths.{lent_by, lent_number_by}
use Rattle.refusals.specs.Limits.{limits_hold}
use Rattle.refusals.proofs.LentLaws.{memory_lent, lent_number-by}
use Rattle.refusals.proofs.LimitsLaws.{limits-parts}
use Rattle.check_counts.specs.Counts.{used_pages, same_tally}
use Rattle.check_counts.proofs.CountLaws.{pages_in_use-used_pages}
use Rattle.check_seen.specs.declared.Seen.{Seen}
use Rattle.check_walk.specs.declared.regions.Region.{Region}
use Rattle.check_walk.specs.Regions.{whole_region}
use Rattle.check_walk.specs.Sums.{view_by, SumsOf, Tells, Walks, Walked, TallyRoom}
use Rattle.check_walk.proofs.RegionLaws.{names-whole, region_in-whole}
use Rattle.check_call.specs.Private.{StoreLent}
use Rattle.check_call.proofs.TallyLaws.{same_numbers-same_tally}

-- ---- the whole walk

-- a walk from the empty string may start
pub walks-whole : (st : State) (words bytes : ℕ) → StoreLent st words bytes → (ws : List ℕ) → ws ≡ widths_of st.shape
    → (r : Region) → r ≡ whole_region
    → Walks st ws words bytes r × TallyRoom (st.deepest - r.depth) (replicate 13 0)
unfolding whole_region
walks-whole st words bytes k ws same r whole =
    subst (λ r. Walks st ws words bytes r × TallyRoom (st.deepest - r.depth) (replicate 13 0)) (sym whole) (
      record {
        shape = k.shape;
        directory = record {
          fit = subst Fit (sym same) (widths_of-fit st.shape k.shape);
          deep = subst (λ v. st.deepest ≤ total v) (sym same) (le_trans k.within k.bits);
          short = le_trans k.within k.short;
          room = le_trans (pow_mono k.within) k.words-lent;
        };
        within = omega arith;
        region = region_in-whole ws;
        capacity = (capacity-bounds st.shape k.shape).1;
        pages-lent = k.pages-lent;
      },
      record {
        depths = refl;
        room = λ y h. room y h;
      },
    )
  where
    room : (y : ℕ) → y < 13 → get_or (replicate 13 0) y 0 + 2 ^ (st.deepest - 0) ≤ 8192
    room y h =
        let m : 2 ^ (st.deepest - 0) ≤ 2 ^ 12 = pow_mono {j = 12} (omega (arith, k.within, k.short)) in
        omega (arith, get_or-replicate {A = ℕ} 13 y 0 0 h)

-- what it tells
pub tells-whole : (st : State) (words bytes ws : List ℕ) → ws ≡ widths_of st.shape → (r : Region) → r ≡ whole_region
    → (told : Option Seen) (counts : List ℕ) → Walked st ws words bytes r (replicate 13 0) told counts
    → let lent = store st words bytes in
    Tells 0 (replicate 13 0) told counts (walk_test lent) (shown_division lent)
unfolding whole_region
tells-whole st words bytes ws same r whole told counts walked =
    subst
    (λ v. Tells 0 (replicate 13 0) told counts (region_test (view_by v st words bytes) st.deepest empty_string 0)
    (read_division (view_by v st words bytes) st.deepest empty_string 0)) same
    (subst
    (λ n. Tells 0 (replicate 13 0) told counts (region_test (view_by ws st words bytes) n empty_string 0)
    (read_division (view_by ws st words bytes) n empty_string 0)) (sub-zero st.deepest)
    (subst (λ r. Walked st ws words bytes r (replicate 13 0) told counts) whole walked empty_string (names-whole ws)))

module _ (st : State) (words bytes : List ℕ) where
  abbrev lent : Store
  lent = store st words bytes

  abbrev D : Division Record
  D = shown_division lent

  abbrev shows : Bool
  shows = walk_test lent && sums_test lent

  pub shows-walk-fails : (counts : List ℕ) → Tells 0 (replicate 13 0) None counts (walk_test lent) D → false ≡ shows
  shows-walk-fails counts tells = ap (λ β. β && sums_test lent) tells.sees.ok

  module _ (seen : Seen) (counts : List ℕ) (tells : Tells 0 (replicate 13 0) (Some seen) counts (walk_test lent) D) where
    passes : walk_test lent ≡ true
    passes = sym tells.sees.ok

    sums : SumsOf D seen
    sums = tells.sees.sums seen refl

    abbrev tally_test : Bool
    tally_test = same_numbers st.tally.leaves (tallies D 0 13)

    abbrev pages_test : Bool
    pages_test = eqb (pages_in_use (view_of lent) st.limits.pages) (non_empty_leaves D)

    walked : shows ≡ (eqb st.deepest seen.depth && (tally_test && pages_test))
    walked =
        ap (λ β. β && sums_test lent) passes
        ∙ ap (λ d. eqb st.deepest d && (tally_test && pages_test)) (sym sums.depth)

    pub shows-depth-fails : (seen.depth ≡ st.deepest → ⊥) → false ≡ shows
    shows-depth-fails ne = sym (walked ∙ rw (ne_eqb st.deepest seen.depth (λ e. ne (sym e))))

    module _ (depth : seen.depth ≡ st.deepest) (depths : length st.tally.leaves ≡ 13) where
      tallied : shows ≡ (same_tally st.tally.leaves counts && pages_test)
      tallied =
          walked
          ∙ ap (λ β. β && (tally_test && pages_test)) (eq-eqb st.deepest seen.depth (sym depth))
          ∙ ap (λ β. β && pages_test)
          (same_numbers-same_tally D st.tally.leaves counts depths (tells.tallied passes))

      pub shows-tally-fails : same_tally st.tally.leaves counts ≡ false → false ≡ shows
      shows-tally-fails e = sym (tallied ∙ ap (λ β. β && pages_test) e)

      pub shows-pages : same_tally st.tally.leaves counts ≡ true → (used : ℕ)
          → used ≡ used_pages st.shape.capacity bytes st.limits.pages → eqb used seen.pages ≡ shows
      shows-pages e used count =
          rw (
            count,
            ← pages_in_use-used_pages (view_of lent) st.shape _ bytes (λ g. refl) st.limits.pages,
            sums.pages,
          )
          (sym (tallied ∙ ap (λ β. β && pages_test) e))

-- ---- the answer

module _ (st : State) (words bytes : List ℕ) where
  abbrev whole : Store
  whole = store st words bytes

  -- 1, 14, 15 or 2
  pub check-refused : (r : Refusal) → told r ≡ answered_by (lent_by st (length words) (length bytes)) (tt {0})
      → CheckPromise whole (told r)
  unfolding check_answer lent_conditions lent_by
  check-refused r e =
      subst (CheckPromise whole)
      (sym (told-answered_by tt r (lent_by st (length words) (length bytes)) (sound_test whole) e)) (check-promise whole)

  module _ (none : lent_number_by st (length words) (length bytes) ≡ 0) where
    lent_none : lent_number whole ≡ 0
    lent_none = lent_number-by st words bytes ∙ none

    answer : (β : Bool) → sound_test whole ≡ β → CheckPromise whole (accepted β)
    answer β e =
        subst (CheckPromise whole) (check_answer-accepted whole lent_none ∙ ap accepted e) (check-promise whole)

    sound : sound_test whole ≡ (limits_hold st && (walk_test whole && sums_test whole))
    unfolding sound_test
    sound = rw lent_none

    pub check-limits-fail : limits_hold st ≡ false → CheckPromise whole (accepted false)
    check-limits-fail e = answer false (sound ∙ ap (λ β. β && (walk_test whole && sums_test whole)) e)

    module _ (limits : limits_hold st ≡ true) where
      pub store_lent : StoreLent st (length words) (length bytes)
      store_lent =
          let b = limits-parts st limits in
          let k = memory_lent st (length words) (length bytes) none in
          record {
            shape = k.shape;
            words-lent = k.words-lent;
            pages-lent = k.pages-lent;
            short = b.2;
            bits = b.3;
            within = b.4;
          }

      pub check-shows : (β : Bool) → β ≡ (walk_test whole && sums_test whole) → CheckPromise whole (accepted β)
      check-shows β e = answer β (sound ∙ ap (λ γ. γ && (walk_test whole && sums_test whole)) limits ∙ sym e)
