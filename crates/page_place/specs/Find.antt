-- Places in a page: that of a key, told from the records beside it; that of the first record with bit 1 at a split
-- step. Assumes nothing.
use Rattle.std.specs.Prelude.{ℕ, zero, suc, ◌≤◌, ◌<◌, ◌≡◌, cond, List, Result, Ok, Err}
use Rattle.record.specs.Packed.{unpacked_key}
use Rattle.page.specs.Fields.{code_at}
use Rattle.key_order.specs.Order.{compared}
use Rattle.pairs.specs.Pairs.{pair_bit}
use Rattle.std.specs.declared.cmp.Ordering.{Ordering}
use Rattle.std.specs.declared.cmp.Ordering.TheVariants.{Less, Equal, Greater}

-- how a key stands to record i of a page, where a shape adds a bias to its values
abbrev pub order_to : List ℕ → ℕ → List ℕ → List ℕ → ℕ → Ordering
order_to ws bias key page i = compared ws key (unpacked_key (code_at bias page i))

-- Ok i: record i has the key; Err i: the key stands behind the record just before place i, and before the record at it
abbrev pub Placed : List ℕ → ℕ → List ℕ → List ℕ → ℕ → Result ℕ ℕ → Type 0
Placed ws bias key page n (Ok i) = (i < n) × (order_to ws bias key page i ≡ Equal)
Placed ws bias key page n (Err i) =
    (i ≤ n) × ((k : ℕ) → suc k ≡ i → order_to ws bias key page k ≡ Greater) ×
    (i < n → order_to ws bias key page i ≡ Less)

-- the first of the k records from i on whose bit at the place g of a split step is 1; i + k where none has it
unfoldable pub first_one : List ℕ → ℕ → ℕ → List ℕ → ℕ → ℕ → ℕ
first_one ws bias g page zero i = i
first_one ws bias g page (suc k) i =
    cond (pair_bit ws (unpacked_key (code_at bias page i)) g) i (first_one ws bias g page k (suc i))
