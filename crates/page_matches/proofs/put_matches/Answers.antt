use Rattle.std.proofs.Common.{◌+◌, ◌^◌, ◌<◌, length, arith, sym, ap, subst, ◌∙◌}
use Rattle.page.proofs.FieldLaws.{length-fields_from}
use Rattle.page_matches.specs.Pattern.{passes}
use Rattle.page_matches.specs.Output.{emit}
use Rattle.page_matches.specs.Mask.{slots_of, picked_by}
use Rattle.page_matches.proofs.MaskLaws.{match_mask-lt-slots, picked_by-match_mask}
use Rattle.page_matches.proofs.HitLaws.{hits-all, length-hits-le}
use Rattle.page_matches.proofs.put_matches.Goals as goal

-- all records where nothing is given
pub returns-then-gives_nothing : goal.returns-then-gives_nothing
returns-then-gives_nothing c =
    let a = c.args in
    let all = sym (hits-all a.pattern a.n a.page.now (sym c.gives_nothing.ensures ∙ c.if-gives_nothing.true)) in
    record {
      value = c.put_all.ensures.value
          ∙ ap (λ k. a.total + k) (sym (length-fields_from a.n 2 a.page.now))
          ∙ ap (λ l. a.total + length l) all;
      out_after = c.put_all.ensures.out_after ∙ ap (emit a.out.now a.total) all;
    }

pub put_picked-requires : goal.put_picked-requires
put_picked-requires c =
    let a = c.args in
    let page = a.page.now in
    let test = passes a.pattern in
    let few = ap (λ m. length (picked_by m page)) c.match_mask.ensures
    ∙ ap length (picked_by-match_mask test page a.n c.requires.1) in (
      subst (λ m. m < 2 ^ slots_of page) (sym c.match_mask.ensures) (match_mask-lt-slots test page a.n c.requires.1),
      omega (arith, few, length-hits-le test a.n page),
    )

-- else those that the mask picks
pub returns : goal.returns
returns c =
    let a = c.args in
    let page = a.page.now in
    let picks = ap (λ m. picked_by m page) c.match_mask.ensures
    ∙ picked_by-match_mask (passes a.pattern) page a.n c.requires.1 in
    record {
      value = c.put_picked.ensures.value ∙ ap (λ l. a.total + length l) picks;
      out_after = c.put_picked.ensures.out_after ∙ ap (emit a.out.now a.total) picks;
    }
