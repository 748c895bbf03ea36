-- The test of a lent store and the answer of check (document 01, "Calls": "Check, after 1 and 2, says yes exactly for a
-- sound store and otherwise no; it never gives 9"; document 02, request 7: 14 and 15 before 2). Assumes nothing.
use Rattle.std.specs.Prelude.{ℕ, Bool, true, false, ◌&&◌, List, [], ◌∷◌, eqb}
use Rattle.shape.specs.Refusal.{Answer, answered_by}
use Rattle.shape.specs.Shape.{widths_of, total}
use Rattle.region.specs.Strings.{empty_string}
use Rattle.region.specs.Division.{Division, greatest_depth, non_empty_leaves, all_records}
use Rattle.record.specs.Record.{Record, record_bit}
use Rattle.page.specs.Page.{records_of, page_at}
use Rattle.model.specs.Sets.{in_shape}
use Rattle.store.specs.Store.{Store, word_at, lent_conditions}
use Rattle.store.specs.Sound.{tallies}
use Rattle.store.specs.Promises.{lent_number}
use Rattle.refusals.specs.Limits.{limits_hold}
use Rattle.check_test.specs.Walk.{View, read_division, region_test, pages_in_use}

-- two lists of numbers are equal
abbrev pub same_numbers : List ℕ → List ℕ → Bool
same_numbers [] [] = true
same_numbers [] (y ∷ ys) = false
same_numbers (x ∷ xs) [] = false
same_numbers (x ∷ xs) (y ∷ ys) = eqb x y && same_numbers xs ys

module _ (store : Store) where
  -- the store's records, words and pages
  abbrev pub view_of : View Record
  view_of =
      let st = store.state in
      let s = st.shape in
      record {
        bit = record_bit s;
        fits = in_shape s;
        bits = total (widths_of s);
        capacity = s.capacity;
        pages = st.limits.pages;
        word = word_at s st.deepest store.memory.words;
        shown = λ g. records_of s (page_at s.capacity store.memory.bytes g);
      }

  -- the division that words and pages show, from the empty string, and its records
  abbrev pub shown_division : Division Record
  shown_division = read_division view_of store.state.deepest empty_string 0

  abbrev pub shown_set : List Record
  shown_set = all_records shown_division

  -- none of 1, 14, 15 and 2
  abbrev pub lent_test : Bool
  lent_test = eqb (lent_number store) 0

  -- "words and pages show the leaves of some set"
  abbrev pub walk_test : Bool
  walk_test = region_test view_of store.state.deepest empty_string 0

  -- T and the tally are those of the leaves; "every page without a leaf is free": as many pages are in use as there are
  -- leaves with a page
  abbrev pub sums_test : Bool
  sums_test =
      let st = store.state in
      eqb st.deepest (greatest_depth shown_division)
      && (same_numbers st.tally.leaves (tallies shown_division 0 13)
      && eqb (pages_in_use view_of st.limits.pages) (non_empty_leaves shown_division))

  -- the store is sound: none of 1, 14, 15 and 2, the limits, then what words and pages show
  unfoldable pub sound_test : Bool
  sound_test = lent_test && (limits_hold store.state && (walk_test && sums_test))

  -- 1, 14, 15, 2, then yes or no
  unfoldable pub check_answer : Answer Bool
  check_answer = answered_by (lent_conditions store) sound_test
