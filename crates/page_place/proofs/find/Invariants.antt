-- `page_place::find`: the key stands behind the record just below `low` and before the record at `high`. Falling
-- number: the records between. Assumes nothing.
use Rattle.std.proofs.Common.{◌≡◌, ℕ, suc, ◌-◌, ◌≤◌, ◌<◌}
use Rattle.std.specs.declared.cmp.Ordering.TheVariants.{Less, Greater}
use Rattle.shape.specs.Shape.{width_list}
use Rattle.record.specs.Packed.{unpacked_key}
use Rattle.page_place.specs.Find.{order_to}
use Rattle.page_place.proofs.find.Given as goal

abbrev pub invariant-loop-low : goal.invariant-loop-low
invariant-loop-low l = record {
  ordered : l.low ≤ l.high;
  within : l.high ≤ l.n;
  behind : (k : ℕ) → suc k ≡ l.low → order_to (width_list l.widths) l.bias (unpacked_key l.key) l.page k ≡ Greater;
  before : l.high < l.n → order_to (width_list l.widths) l.bias (unpacked_key l.key) l.page l.high ≡ Less;
}

abbrev pub decreases-loop-low : goal.decreases-loop-low
decreases-loop-low l = l.high - l.low
