use Rattle.std.proofs.Common.{◌≡◌, ◌+◌, ◌-◌, ◌<◌, suc, length, bit_and, arith, add-one, sym, ap, ◌∙◌}
use native.Mathlib.Nat.{add-zero, lt_of_le_of_lt}
use lib.Bits.{and_le_r}
use Rattle.page_matches.specs.Output.{emit}
use Rattle.page_matches.specs.Mask.{slots_of, picked_by}
use Rattle.page_matches.proofs.BitLaws.{picked_none, trailing_lt, picked_next}
use Rattle.page_matches.proofs.put_picked.Goals as goal

pub put_record-requires : goal.put_record-requires
put_record-requires c =
    let loop = c.loop-left in
    let page = c.args.page.now in
    let some : 0 < loop.left = omega arith in
    let fits = lt_of_le_of_lt loop.invariant.0 c.ranges.mask.fits in
    let below = lt_of_le_of_lt loop.invariant.0 c.requires.0 in
    let lt = trailing_lt page (slots_of page) loop.left fits some below in
    let next = ap length (picked_next page (slots_of page) loop.left fits some below) in
    (omega arith, omega arith)

pub loop-left-preserved : goal.loop-left-preserved
unfolding emit
loop-left-preserved c =
    let loop = c.loop-left in
    let page = c.args.page.now in
    let some : 0 < loop.left = omega arith in
    let fits = lt_of_le_of_lt loop.invariant.0 c.ranges.mask.fits in
    let below = lt_of_le_of_lt loop.invariant.0 c.requires.0 in
    let next = picked_next page (slots_of page) loop.left fits some below in
    let less = and_le_r loop.left (loop.left - 1) in
    let rest = picked_by (bit_and loop.left (loop.left - 1)) page in
    let count : loop.found + suc (length rest) ≡ loop.found + 1 + length rest = omega arith in (
      omega arith,
      loop.invariant.1 ∙ ap (λ l. loop.found + length l) next ∙ count,
      loop.invariant.2
          ∙ ap (emit loop.out loop.found) next
          ∙ (λ k. emit (sym c.put_record.ensures k) (sym (add-one loop.found) k) rest),
    )

pub returns : goal.returns
unfolding emit
returns c =
    let loop = c.loop-left in
    let page = c.args.page.now in
    let none = ap (λ m. picked_by m page) c.loop-left-test.false ∙ picked_none page (slots_of page) 0 in
    record {
      value = sym (loop.invariant.1 ∙ ap (λ l. loop.found + length l) none ∙ add-zero loop.found);
      out_after = sym (loop.invariant.2 ∙ ap (emit loop.out loop.found) none);
    }
