-- Laws of a load's number: it is 0 exactly if every test of the file is passed, and of an accepted load it is 0.
-- Assumes nothing.
use Prim.Native.Nat.{ℕ}
use mathlib.Core.Path.{◌≡◌, refl, ◌∙◌}
use mathlib.Core.Bool.{true, not, ◌&&◌}
use mathlib.Core.List.{List, [], ◌++◌}
use borrow.Author.Tests.{not-false}
use Rattle.lists.proofs.Bools.{and_split}
use Rattle.shape.specs.Refusal.{accepted, first_number}
use Rattle.shape.specs.Shape.{in_bounds, shape_conditions}
use Rattle.shape.proofs.ShapeLaws.{shape_number-first, shape_number-true, in_bounds-of}
use Rattle.shape.proofs.RefusalLaws.{first_number-shape, accepted-answered_by}
use Rattle.model.specs.Sets.{is_set}
use Rattle.model.proofs.ConditionLaws.{first_number-zero, first_number-none, first_number-rest, numbered-shape}
use Rattle.store.specs.Store.{Store, Memory}
use Rattle.store.specs.Fresh.{fresh_conditions}
use Rattle.file.specs.File.{file_shape, file_records, is_whole, is_plain}
use Rattle.file.specs.Loading.{load_fixed, join_conditions, content_conditions, load_refusals, load_number}
use Rattle.file.specs.Promises.{LoadPromise}

-- every test is passed
pub record Passed (file : List ℕ) (m : Memory) : Type 0 where
  pub whole : is_whole file ≡ true
  pub shape : in_bounds (file_shape file) ≡ true
  pub plain : is_plain file ≡ true
  pub set : is_set (file_shape file) (file_records file) ≡ true
  pub lent : first_number (fresh_conditions (file_shape file) m) ≡ 0
  pub joined : first_number (join_conditions (load_fixed file m) [] (file_records file)) ≡ 0

module _ (file : List ℕ) (m : Memory) where
  pub load_number-passed : Passed file m → load_number file m ≡ 0
  unfolding load_refusals first_number
  load_number-passed p =
      let s = file_shape file in
      let joining = join_conditions (load_fixed file m) [] (file_records file) in
      let behind : first_number (content_conditions file ++ (fresh_conditions s m ++ joining)) ≡ 0 =
      rw (p.plain, p.set) (first_number-rest (fresh_conditions s m) joining refl p.lent ∙ p.joined) in
      rw p.whole
      (first_number-shape s (content_conditions file ++ (fresh_conditions s m ++ joining))
      (shape_number-true s p.shape)
      ∙ behind)

  pub passed-of-load_number : load_number file m ≡ 0 → Passed file m
  unfolding load_refusals
  passed-of-load_number e =
      let s = file_shape file in
      let whole = first_number-zero 11 (not (is_whole file)) _ e in
      let shape = first_number-none (shape_conditions s) _ (numbered-shape s) whole.1 in
      let contents = first_number-zero 12 (not (is_plain file && is_set s (file_records file))) _ shape.1 in
      let parts = and_split (is_plain file) (is_set s (file_records file)) (not-false _ contents.0) in
      let room =
      first_number-none (fresh_conditions s m) (join_conditions (load_fixed file m) [] (file_records file)) refl
      contents.1 in
      record {
        whole = not-false _ whole.0;
        shape = in_bounds-of s (shape_number-first s shape.0);
        plain = parts.0;
        set = parts.1;
        lent = room.0;
        joined = room.1;
      }

  pub passed-of-accepted : (loaded : Store) → LoadPromise file m (accepted tt) loaded → Passed file m
  passed-of-accepted loaded p =
      passed-of-load_number (accepted-answered_by tt tt (load_refusals file m) p.answered-as)
