-- Laws of a range's walk over the leaves of a set: it enters every region that a record inside the box begins with, and
-- the leaves that it reads are those whose box of values meets the query's. Assumes nothing.
use Prim.Native.Nat.{ℕ, suc}
use mathlib.Core.Path.{◌≡◌, refl, sym, ◌∙◌}
use mathlib.Core.Bool.{true}
use mathlib.Core.List.{List}
use mathlib.Core.Option.{Option}
use native.Mathlib.Omega.{arith}
use Rattle.shape.specs.Shape.{shape_number}
use Rattle.shape.specs.Range.{Interval, range_fits}
use Rattle.shape.specs.declared.Shape.{Shape}
use Rattle.region.specs.Strings.{empty_string}
use Rattle.region.specs.Query.{holds_records, walk_reads}
use Rattle.region.proofs.LeafWalkLaws.{walk_reads-leaves}
use Rattle.record.specs.Record.{Record, record_bit}
use Rattle.range_box.specs.Box.{Box, box_of, in_box, box_meets, box_enters}
use Rattle.range_box.proofs.BoxLaws.{box_meets-beginning, box_meets-whole, box_meets-same, box_meets-le}
use Rattle.range_box.proofs.RangeLaws.{box_fits-box_of}
use Rattle.model.specs.Sets.{in_shape, division_of, range_reads_of}
use Rattle.model.proofs.SetLaws.{length-of-in_shape, fits-of-in_shape}

module _ (s : Shape) (n : shape_number s ≡ 0) where
  -- every beginning of a record inside the box is met
  pub box_meets-record : (box : Box) (r : Record) → in_shape s r ≡ true → in_box box r.key ≡ true → (x : ℕ)
      → box_meets s box (record_bit s r) x ≡ true
  box_meets-record box r f e x =
      box_meets-beginning s box n r.key (length-of-in_shape s r f) (fits-of-in_shape s r f) e x

  -- "Reads are the non-empty leaves whose box of values meets the query's."
  pub range_reads_of-walk : (r : List (Option Interval)) → range_fits s r ≡ true → (S : List Record)
      → range_reads_of s r S ≡ walk_reads (box_enters s (box_of s r)) holds_records empty_string 0 (division_of s S)
  unfolding range_reads_of
  range_reads_of-walk r fits S =
      let box : Box = box_of s r in
      sym (walk_reads-leaves (box_enters s box) (λ x p q e. box_meets-same s box p q x e)
      (λ x p e. box_meets-le s box p x (suc x) (omega arith) e)
      holds_records (λ x p q rs e. refl) empty_string (division_of s S)
      (box_meets-whole s box n (box_fits-box_of s r ∙ fits) empty_string))
