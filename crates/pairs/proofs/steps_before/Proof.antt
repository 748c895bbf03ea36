-- `pairs::steps_before` meets its contract: the depths at a place add up. Assumes nothing.
use Prim.Native.Nat.{ℕ, ◌≤◌, min}
use mathlib.Core.Path.{◌≡◌}
use native.Mathlib.Omega.{arith}
use Rattle.pairs.proofs.PlaceLaws.{steps_before-depths}
use borrow.Author.Rules.{rules}
use Rattle.pairs.proofs.steps_before.Statement.{statement}
use Rattle.pairs.proofs.steps_before.Tie as tie

depth-before-requires : tie.Need-depth_before-h0-requires
depth-before-requires c κs = search rules

depth-before-requires-2 : tie.Need-depth_before-h1-requires
depth-before-requires-2 c κs = search rules

depth-before-requires-3 : tie.Need-depth_before-h2-requires
depth-before-requires-3 c κs = search rules

depth-before-requires-4 : tie.Need-depth_before-h3-requires
depth-before-requires-4 c κs = search rules

-- a depth is at most 16
depth_le : (w n h : ℕ) → h ≡ min w n → w ≤ 16 → h ≤ 16
depth_le w n h e l = omega arith

add-result : tie.Need-overflow_add-result
add-result c =
    let p = c.requires.0 in
    let d0 = depth_le _ _ _ c.depth_before-h0.ensures (p 0) in
    let d1 = depth_le _ _ _ c.depth_before-h1.ensures (p 1) in
    record { fits = omega arith }

add-result-2 : tie.Need-overflow_add-result-2
add-result-2 c =
    let p = c.requires.0 in
    let d0 = depth_le _ _ _ c.depth_before-h0.ensures (p 0) in
    let d1 = depth_le _ _ _ c.depth_before-h1.ensures (p 1) in
    let d2 = depth_le _ _ _ c.depth_before-h2.ensures (p 2) in
    record { fits = omega arith }

add-result-3 : tie.Need-overflow_add-result-3
add-result-3 c =
    let p = c.requires.0 in
    let d0 = depth_le _ _ _ c.depth_before-h0.ensures (p 0) in
    let d1 = depth_le _ _ _ c.depth_before-h1.ensures (p 1) in
    let d2 = depth_le _ _ _ c.depth_before-h2.ensures (p 2) in
    let d3 = depth_le _ _ _ c.depth_before-h3.ensures (p 3) in
    record { fits = omega arith }

returns : tie.Need-returns
returns c =
    let w = c.args.widths in
    steps_before-depths w.w0 w.w1 w.w2 w.w3 c.args.g _ _ _ _ c.requires.1
    c.depth_before-h0.ensures c.depth_before-h1.ensures c.depth_before-h2.ensures c.depth_before-h3.ensures

pub steps_before_spec : {M : Type 1} → statement M
steps_before_spec =
    tie.close
    (tie.spec
    depth-before-requires
    depth-before-requires-2
    depth-before-requires-3
    depth-before-requires-4
    add-result
    add-result-2
    add-result-3
    returns)
