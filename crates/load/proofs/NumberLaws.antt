-- Laws of the tests of a load, one for each way that they end; the same conditions in the words of the promise.
-- Assumes nothing.
use Prim.Native.Nat.{ℕ}
use mathlib.Core.Path.{◌≡◌, refl, sym, ap, subst, ◌∙◌}
use mathlib.Core.Bool.{Bool, true, false, not, cond, ◌&&◌}
use mathlib.Core.List.{List, [], ◌∷◌, ◌++◌}
use native.Mathlib.Omega.{arith}
use lib.ListN.{length}
use Rattle.lists.proofs.Bools.{and_split}
use Rattle.std.specs.Prelude.{Result, Err}
use Rattle.shape.specs.Refusal.{Condition, Answer, accepted, refused, refusal, told, tested, answered_by}
use Rattle.shape.specs.declared.refusal.Refusal.{Refusal}
use Rattle.shape.specs.Shape.{shape_conditions, shape_number}
use Rattle.shape.specs.declared.Shape.{Shape}
use Rattle.shape.proofs.RefusalLaws.{accepted-answered_by}
use Rattle.shape.proofs.TestLaws.{told-append, passed-append}
use Rattle.page.specs.Page.{records_from}
use Rattle.model.specs.Sets.{is_set}
use Rattle.model.specs.Limits.{page_limit_of, depth_limit_of, fixed_by}
use Rattle.model.proofs.LimitLaws.{depth_limit_of-le}
use Rattle.store.specs.Store.{Memory}
use Rattle.store.specs.declared.Limits.{Limits}
use Rattle.fresh.specs.Memory.{lacks_word_or_page}
use Rattle.file.specs.File.{file_size, file_count, file_shape, file_records, is_whole, is_plain}
use Rattle.file.specs.Loading.{join_conditions, content_conditions, load_refusals}
use Rattle.file.proofs.PlainLaws.{fresh_shape-file_shape}
use Rattle.file_scan.specs.Asked.{Scannable, fixed_with}
use Rattle.load.specs.Lengths.{load_conditions_by}

-- a file's shape and its records, as they are read
module _ (file : List ℕ) (s : Shape) (shape-read : s ≡ file_shape file) (n : ℕ) (counted : n ≡ file_count file) where
  pub records-read : records_from s n 0 file ≡ file_records file
  unfolding file_records
  records-read = λ i. records_from (shape-read i) (counted i) 0 file

  pub set-read : is_set s (records_from s n 0 file) ≡ is_set (file_shape file) (file_records file)
  set-read = λ i. is_set (shape-read i) (records-read i)

-- a shape that passes its test
pub shape-good : (s : Shape) → accepted (tt {0}) ≡ answered_by (shape_conditions s) tt → shape_number s ≡ 0
unfolding shape_number
shape-good s good = accepted-answered_by tt tt (shape_conditions s) good

-- ---- each way that the tests end

-- what a test of some conditions gives
abbrev test : List Condition → Answer (Unit {0})
test cs = answered_by cs tt

module _ (file : List ℕ) (words bytes : ℕ) where
  -- the conditions from 6, from 2 and from 13 on
  abbrev joins : List Condition
  joins = join_conditions (fixed_by (file_shape file) words bytes) [] (file_records file)

  abbrev lends : List Condition
  lends = refusal 2 (lacks_word_or_page (file_shape file) words bytes) ∷ joins

  abbrev contents : List Condition
  contents = content_conditions file ++ lends

  abbrev pub load_test : Answer (Unit {0})
  load_test = answered_by (load_conditions_by file words bytes) tt

  pub test-not-whole : is_whole file ≡ false → refused 12 ≡ load_test
  unfolding load_conditions_by answered_by
  test-not-whole e = rw e

  -- a whole file, whose shape is read
  module _ (whole : is_whole file ≡ true) (s : Shape) (shape-read : s ≡ file_shape file) where
    test-whole : load_test ≡ test (shape_conditions s ++ contents)
    unfolding load_conditions_by answered_by
    test-whole = rw (whole, shape-read) refl

    pub test-shape-out : (r : Refusal) → told r ≡ test (shape_conditions s) → told r ≡ load_test
    test-shape-out r e = told-append tt r (shape_conditions s) contents tt e ∙ sym test-whole

    -- what the test of the shape tells, the load tells
    pub shape_first : (shown : Result (Unit {0}) Refusal) (r : Refusal) → tested shown ≡ test (shape_conditions s)
        → shown ≡ Err r → told r ≡ load_test
    shape_first shown r e is = test-shape-out r (subst (λ t. tested t ≡ test (shape_conditions s)) is e)

    module _ (good : accepted (tt {0}) ≡ test (shape_conditions s)) (content : Bool)
        (tested : content ≡ (is_plain file && is_set (file_shape file) (file_records file))) where
      test-shape : load_test ≡ cond (not content) (refused 13) (test lends)
      unfolding answered_by
      test-shape =
          test-whole
          ∙ passed-append tt (shape_conditions s) contents tt good
          ∙ ap (λ b. cond (not b) (refused 13) (test lends)) (sym tested)

      pub test-content-not : content ≡ false → refused 13 ≡ load_test
      test-content-not e = sym (test-shape ∙ ap (λ b. cond (not b) (refused 13) (test lends)) e)

      module _ (holds : content ≡ true) where
        test-content : load_test ≡ cond (lacks_word_or_page s words bytes) (refused 2) (test joins)
        unfolding answered_by
        test-content =
            test-shape
            ∙ ap (λ b. cond (not b) (refused 13) (test lends)) holds
            ∙ ap (λ (t : Shape). cond (lacks_word_or_page t words bytes) (refused 2) (test joins)) (sym shape-read)

        pub test-lacks : lacks_word_or_page s words bytes ≡ true → refused 2 ≡ load_test
        test-lacks e = sym (test-content ∙ ap (λ b. cond b (refused 2) (test joins)) e)

        -- what the content test tells
        held : (is_plain file ≡ true) × (is_set (file_shape file) (file_records file) ≡ true)
        held = and_split (is_plain file) (is_set (file_shape file) (file_records file)) (sym tested ∙ holds)

        -- Fresh would hold the shape as it stands
        fixed-read : (l : Limits) → l.pages ≡ page_limit_of s bytes → l.depth ≡ depth_limit_of s words
            → fixed_with s l ≡ fixed_by (file_shape file) words bytes
        unfolding fixed_by
        fixed-read l p d =
            λ i. record {
              shape = (shape-read ∙ sym (fresh_shape-file_shape file held.0)) i;
              page_limit = (p ∙ ap (λ (t : Shape). page_limit_of t bytes) shape-read) i;
              depth_limit = (d ∙ ap (λ (t : Shape). depth_limit_of t words) shape-read) i;
            }

        module _ (n : ℕ) (counted : n ≡ file_count file) (l : Limits) (d : l.depth ≡ depth_limit_of s words) where
          pub scannable : file_size n ≡ length file → Scannable s l n file
          scannable size =
              record {
                shape = shape-good s good;
                lent = omega (arith, size);
                set = set-read file s shape-read n counted ∙ held.1;
                depth-bits = omega (arith, d, (depth_limit_of-le s words).1);
              }

          pub test-room : lacks_word_or_page s words bytes ≡ false → l.pages ≡ page_limit_of s bytes
              → (answer : Answer (Unit {0}))
              → answer ≡ test (join_conditions (fixed_with s l) [] (records_from s n 0 file)) → answer ≡ load_test
          test-room e p answer found =
              found
              ∙ (λ i. test (join_conditions (fixed-read l p d i) [] (records-read file s shape-read n counted i)))
              ∙ sym (test-content ∙ ap (λ b. cond b (refused 2) (test joins)) e)

-- ---- in the words of the promise

pub load_refusals-by : (file : List ℕ) (m : Memory)
    → load_refusals file m ≡ load_conditions_by file (length m.words) (length m.bytes)
unfolding load_refusals load_conditions_by
load_refusals-by file m = refl
