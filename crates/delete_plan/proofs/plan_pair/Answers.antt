-- Each way that it ends is a law of a leaf and its sibling.
use Rattle.std.proofs.Common.{◌≡◌, ℕ, List, refl, sym, ap, ◌∙◌, subst}
use Rattle.shape.specs.declared.Shape.{Shape}
use Rattle.record.specs.Lanes.{bias_key}
use Rattle.record.specs.Packed.{unpacked_key}
use Rattle.page.specs.Page.{count_of}
use Rattle.page_ends.specs.Ends.{ends_agree}
use Rattle.page_ends.specs.Fair.{fair_count}
use Rattle.page_ends.proofs.FairLaws.{fair-of-count}
use Rattle.store.specs.Store.{store}
use Rattle.refusals.proofs.PassedLaws.{SixteenBits-passed, unpacked_key-passed}
use Rattle.delete_plan.specs.Met.{JoinMade}
use Rattle.delete_plan.proofs.MetLaws.{directory_lent, page_lent}
use Rattle.delete_plan.proofs.PairLaws.{refused-other, refused-tally, stays-full, join_planned}
use Rattle.delete_plan.proofs.plan_pair.Goals as goal

-- its count, by the shape's bias
counted : (s : Shape) (bias mask key : ℕ) (page : List ℕ) (n : ℕ) → bias ≡ bias_key s
    → n ≡ fair_count s.capacity (ends_agree bias mask key page (count_of page)) page
    → n ≡ fair_count s.capacity (ends_agree (bias_key s) mask key page (count_of page)) page
counted s bias mask key page n e k =
    k ∙ ap (λ h. fair_count s.capacity (ends_agree h mask key page (count_of page)) page) e

pub count_on-requires : goal.count_on-requires
count_on-requires c =
    let a = c.args in
    page_lent (store a.state a.dir.now a.pages.now) a.encoded.values a.found.page a.found.depth c.requires.leaf.found.leaf
    a.other c.requires.other-within

pub returns-in_default : goal.returns-in_default
returns-in_default c =
    let a = c.args in
    refused-other (store a.state a.dir.now a.pages.now) a.encoded.values a.found a.mask a.other a.beside c.requires
    0 (counted a.state.shape _ _ _ _ _ c.bias_key-bias.ensures c.in_default.ensures) refl

pub returns-then-capacity-found : goal.returns-then-capacity-found
returns-then-capacity-found c =
    let a = c.args in
    record {
      found = c.requires.leaf.found;
      alone =
          stays-full (store a.state a.dir.now a.pages.now) a.encoded.values a.found a.mask a.other a.beside c.requires _
          (fair-of-count a.state.shape.capacity _ _ _
          (counted a.state.shape _ _ _ _ _ c.bias_key-bias.ensures c.in-Some.ensures.is) c.in-Some.ensures.some)
          c.if-capacity-found.true;
    }

pub returns-then-not-tally_holds : goal.returns-then-not-tally_holds
returns-then-not-tally_holds c =
    let a = c.args in
    refused-tally (store a.state a.dir.now a.pages.now) a.encoded.values a.found a.mask a.other a.beside c.requires
    (sym c.if-not-tally_holds.ensures)

pub pack_key-requires : goal.pack_key-requires
pack_key-requires c = SixteenBits-passed _ _ c.requires.leaf.found.leaf.passed

pub plan_join-join-requires : goal.plan_join-join-requires
plan_join-join-requires c =
    let a = c.args in
    let leaf = c.requires.leaf.found.leaf in
    record {
      lent = directory_lent (store a.state a.dir.now a.pages.now) a.encoded.values a.found.page a.found.depth leaf;
      divided = c.requires.leaf.divided;
      deep = leaf.deep;
    }

pub returns : goal.returns
returns c =
    let a = c.args in
    let back = ap unpacked_key c.pack_key.ensures ∙ unpacked_key-passed _ _ c.requires.leaf.found.leaf.passed in
    join_planned (store a.state a.dir.now a.pages.now) a.encoded.values a.found a.mask a.other a.beside c.requires _
    (fair-of-count a.state.shape.capacity _ _ _
    (counted a.state.shape _ _ _ _ _ c.bias_key-bias.ensures c.in-Some.ensures.is) c.in-Some.ensures.some)
    c.if-capacity-found.false (sym c.if-not-tally_holds.ensures) _
    (subst
    (λ v. JoinMade a.state a.dir.now v a.found.depth a.other c.in-Some.count c.plan_join-join.result) back
    c.plan_join-join.ensures)
