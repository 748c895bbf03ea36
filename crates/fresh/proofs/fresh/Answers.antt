-- Each way that the call ends is a law of the promise.
use Rattle.std.proofs.Common.{length, refl, sym, ◌∙◌}
use Rattle.std.proofs.lemmas.Result.{err_from_is_err_and}
use Rattle.shape.specs.declared.refusal.Refusal.TheVariants as why
use Rattle.shape.proofs.TestLaws.{passed-shape}
use Rattle.fresh.proofs.LimitLaws.{page_limit_of-fits}
use Rattle.fresh.proofs.PromiseLaws.{word-of-lent, told-shape, told-lacks, fresh_number-none}
use Rattle.fresh.proofs.PromiseLaws.{promise-refused, fresh_state-of, promise-accepted}
use Rattle.fresh.proofs.fresh.Goals as goal

pub returns-in_err-validate : goal.returns-in_err-validate
returns-in_err-validate c =
    let a = c.args in
    let p = err_from_is_err_and c.from_residual.result c.from_residual.ensures.1 in
    rw (p.1, p.2)
    (promise-refused a.shape a.dir.now a.pages.now _
    (told-shape a.shape a.dir.now a.pages.now _ c.in_err-validate.ensures))

pub returns-then-lacks_word_or_page : goal.returns-then-lacks_word_or_page
returns-then-lacks_word_or_page c =
    let a = c.args in
    promise-refused a.shape a.dir.now a.pages.now why.Memory
    (told-lacks a.shape a.dir.now a.pages.now (passed-shape tt tt a.shape c.in_ok-validate.ensures)
    (sym c.lacks_word_or_page.ensures ∙ c.if-lacks_word_or_page.true))

pub depth_limit-limit-requires : goal.depth_limit-limit-requires
depth_limit-limit-requires c =
    let a = c.args in (
      passed-shape tt tt a.shape c.in_ok-validate.ensures,
      word-of-lent a.shape (length a.dir.now) (length a.pages.now)
          (sym c.lacks_word_or_page.ensures ∙ c.if-lacks_word_or_page.false),
    )

pub clear_counts-requires : goal.clear_counts-requires
clear_counts-requires c =
    rw c.page_limit-page_count.ensures (page_limit_of-fits c.args.shape (length c.args.pages.now))

pub fresh_shape-requires : goal.fresh_shape-requires
fresh_shape-requires c = passed-shape tt tt c.args.shape c.in_ok-validate.ensures

pub returns : goal.returns
returns c =
    let a = c.args in
    promise-accepted a.shape a.dir.now a.pages.now _ _ _
    (fresh_number-none a.shape a.dir.now a.pages.now (passed-shape tt tt a.shape c.in_ok-validate.ensures)
    (sym c.lacks_word_or_page.ensures ∙ c.if-lacks_word_or_page.false))
    (fresh_state-of a.shape a.dir.now a.pages.now _ _ _ _ c.fresh_shape.ensures c.one_leaf.ensures
    c.page_limit-page_count.ensures c.depth_limit-limit.ensures)
    refl (rw c.page_limit-page_count.ensures at c.clear_counts.ensures)
