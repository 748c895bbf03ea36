-- `directory_cell::near_cell` meets its contract: the depths before the place, and that many bits of each encoding.
-- Assumes nothing.
use Prim.Native.Nat.{ℕ}
use mathlib.Core.Path.{◌≡◌, ap, ◌∙◌}
use native.Mathlib.Omega.{arith}
use Rattle.shape.specs.Shape.{width_list}
use Rattle.split.specs.Bits.{bit_of}
use Rattle.split.proofs.StepLaws.{depth_before}
use Rattle.cell.specs.Cell.{sum_bits}
use Rattle.record.specs.Packed.{unpacked_key}
use Rattle.directory_cell.proofs.KeyLaws.{cell-split_bit}
use Rattle.pairs.proofs.PlaceLaws.{depth-few}
use borrow.Author.Rules.{rules}
use Rattle.directory_cell.proofs.near_cell.Statement.{statement}
use Rattle.directory_cell.proofs.near_cell.Tie as tie

depth-before-requires : tie.Need-depth_before-d0-requires
depth-before-requires c κs = search rules

depth-before-requires-2 : tie.Need-depth_before-d1-requires
depth-before-requires-2 c κs = search rules

depth-before-requires-3 : tie.Need-depth_before-d2-requires
depth-before-requires-3 c κs = search rules

depth-before-requires-4 : tie.Need-depth_before-d3-requires
depth-before-requires-4 c κs = search rules

value-at-requires : tie.Need-value_at-requires
value-at-requires c κs = search rules

index-of-few-requires : tie.Need-index_of_few-i0-requires
index-of-few-requires c κs = (
  omega (arith, c.depth_before-d0.ensures),
  c.requires.0 0,
  depth-few _ _ 0 _ c.requires.1 c.depth_before-d0.ensures,
)

value-at-requires-2 : tie.Need-value_at-requires-2
value-at-requires-2 c κs = search rules

index-of-few-requires-2 : tie.Need-index_of_few-i1-requires
index-of-few-requires-2 c κs = (
  omega (arith, c.depth_before-d1.ensures),
  c.requires.0 1,
  depth-few _ _ 1 _ c.requires.1 c.depth_before-d1.ensures,
)

value-at-requires-3 : tie.Need-value_at-requires-3
value-at-requires-3 c κs = search rules

index-of-few-requires-3 : tie.Need-index_of_few-i2-requires
index-of-few-requires-3 c κs = (
  omega (arith, c.depth_before-d2.ensures),
  c.requires.0 2,
  depth-few _ _ 2 _ c.requires.1 c.depth_before-d2.ensures,
)

value-at-requires-4 : tie.Need-value_at-requires-4
value-at-requires-4 c κs = search rules

index-of-few-requires-4 : tie.Need-index_of_few-i3-requires
index-of-few-requires-4 c κs = (
  omega (arith, c.depth_before-d3.ensures),
  c.requires.0 3,
  depth-few _ _ 3 _ c.requires.1 c.depth_before-d3.ensures,
)

-- an index from a value that was taken out of the key
taken : (w h v v' i : ℕ) → i ≡ sum_bits (bit_of w v) h → v ≡ v' → i ≡ sum_bits (bit_of w v') h
taken w h v v' i e l = e ∙ ap (λ v. sum_bits (bit_of w v) h) l

returns : tie.Need-returns
unfolding depth_before unpacked_key
returns c =
    cell-split_bit (width_list c.args.widths) c.requires.0 c.args.g (unpacked_key c.args.key) _ _ _ _ _ _ _ _
    (omega arith) c.depth_before-d0.ensures c.depth_before-d1.ensures c.depth_before-d2.ensures
    c.depth_before-d3.ensures (taken _ _ _ _ _ c.index_of_few-i0.ensures c.value_at.ensures)
    (taken _ _ _ _ _ c.index_of_few-i1.ensures c.value_at-2.ensures)
    (taken _ _ _ _ _ c.index_of_few-i2.ensures c.value_at-3.ensures)
    (taken _ _ _ _ _ c.index_of_few-i3.ensures c.value_at-4.ensures)

pub near_cell_spec : {M : Type 1} → statement M
near_cell_spec =
    tie.close
    (tie.spec
    depth-before-requires
    depth-before-requires-2
    depth-before-requires-3
    depth-before-requires-4
    value-at-requires
    index-of-few-requires
    value-at-requires-2
    index-of-few-requires-2
    value-at-requires-3
    index-of-few-requires-3
    value-at-requires-4
    index-of-few-requires-4
    returns)
