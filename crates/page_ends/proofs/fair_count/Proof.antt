-- `page_ends::fair_count` meets its contract: each way that it ends is a law of the count. Assumes nothing.
use mathlib.Core.Path.{◌≡◌, sym, ap, ◌∙◌}
use native.Mathlib.Omega.{arith}
use Rattle.page.specs.Page.{count_of}
use Rattle.page_ends.specs.Ends.{ends_agree}
use Rattle.page_ends.specs.Fair.{positive}
use Rattle.page_ends.proofs.FairLaws.{fair_count-none, fair_count-many, fair_count-other, fair_count-own, positive-some}
use borrow.Author.Rules.{rules}
use Rattle.page_ends.proofs.fair_count.Statement.{statement}
use Rattle.page_ends.proofs.fair_count.Tie as tie

-- what the test of the first and the last record is told, of the page's own count
own : (c : tie.After-ends_agree)
    → let a = c.args in
    c.ends_agree.result ≡ ends_agree a.bias a.mask a.key a.page.now (count_of a.page.now)
own c =
    let a = c.args in
    c.ends_agree.ensures
    ∙ ap (ends_agree a.bias a.mask a.key a.page.now) c.count-n.ensures.0

count-requires : tie.Need-count-n-requires
count-requires c κs = search rules

returns : tie.Need-returns-then-n-eq0
returns c =
    let a = c.args in
    let count = c.count-n in
    ap positive (fair_count-none a.capacity _ a.page.now count.result count.ensures.0 c.if-n-eq0.true)

returns-2 : tie.Need-returns-then-capacity-n
returns-2 c =
    let a = c.args in
    let count = c.count-n in
    ap positive (fair_count-many a.capacity _ a.page.now count.result count.ensures.0 c.if-capacity-n.true)

ends-agree-requires : tie.Need-ends_agree-requires
ends-agree-requires c κs = search rules

returns-3 : tie.Need-returns-then-ends_agree
returns-3 c =
    let a = c.args in
    let count = c.count-n in
    positive-some count.result c.if-n-eq0.false
    ∙ ap positive
    (fair_count-own a.capacity _ a.page.now count.result count.ensures.0
    c.if-n-eq0.false (omega arith) (sym (own c.before) ∙ c.if-ends_agree.true))

returns-4 : tie.Need-returns-else-ends_agree
returns-4 c =
    let a = c.args in
    let count = c.count-n in
    ap positive
    (fair_count-other a.capacity _ a.page.now count.result count.ensures.0
    c.if-n-eq0.false (omega arith) (sym (own c.before) ∙ c.if-ends_agree.false))

pub fair_count_spec : {M : Type 1} → statement M
fair_count_spec =
    tie.close (tie.spec count-requires returns returns-2 ends-agree-requires returns-3 returns-4)
