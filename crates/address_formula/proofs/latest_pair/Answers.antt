-- After the latest pair are the fewest.
use Rattle.std.proofs.Common.{◌≡◌, ◌-◌, arith}
use Rattle.address_formula.specs.Index.{index_list}
use Rattle.address_formula.specs.LatestPair.{latest_pair}
use Rattle.address_formula.proofs.LatestPairLaws.{latest_pair-after}
use Rattle.address_formula.proofs.latest_pair.Goals as goal
use Rattle.address_formula.proofs.latest_pair.Goals.{After-min-n}

least : (c : After-min-n) → latest_pair (index_list c.args.index) ≡ 256 - c.min-n.result
least c =
    let after =
    latest_pair-after (index_list c.args.index) _ _ _ _ c.pairs_after-n0.ensures c.pairs_after-n1.ensures
    c.pairs_after-n2.ensures c.pairs_after-n3.ensures in
    omega arith

pub returns-then-n-lt256 : goal.returns-then-n-lt256
returns-then-n-lt256 c = let e = least c.before in (omega arith, omega arith)

pub returns-else-n-lt256 : goal.returns-else-n-lt256
returns-else-n-lt256 c = let e = least c.before in (omega arith, omega arith)
