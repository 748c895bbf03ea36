-- `page::page_start` meets its contract: the product is below 2^32 times a page's size. Assumes nothing.
use Prim.Native.Nat.{◌*◌, ◌^◌, ◌≤◌}
use mathlib.Core.Path.{ap}
use native.Mathlib.Nat.{mul-le-mul_right}
use native.Mathlib.Omega.{arith}
use borrow.Author.Rules.{rules}
use Rattle.page.proofs.page_start.Statement.{statement}
use Rattle.page.proofs.page_start.Tie as tie

page-size-requires : tie.Need-page_size-requires
page-size-requires c κs = search rules

mul-result : tie.Need-overflow_mul-result
mul-result c =
    let a = c.args in
    let size = c.page_size.result in
    let least : a.g ≤ 2 ^ 32 = omega arith in
    let most : a.g * size ≤ 2 ^ 32 * size = mul-le-mul_right size least in
    record { fits = omega arith }

returns : tie.Need-returns
returns c = ap (λ k. c.args.g * k) c.page_size.ensures

pub page_start_spec : {M : Type 1} → statement M
page_start_spec = tie.close (tie.spec page-size-requires mul-result returns)
