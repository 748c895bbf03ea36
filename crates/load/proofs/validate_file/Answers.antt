-- Each way that the tests end is a law of the conditions.
use Rattle.std.proofs.Common.{◌≡◌, true, false, sym, ◌∙◌, ap, arith}
use Rattle.std.proofs.lemmas.Result.{err_from_is_err_and}
use Rattle.shape.specs.Shape.{shape_number}
use Rattle.fresh.specs.Memory.{lacks_word_or_page}
use Rattle.fresh.proofs.PromiseLaws.{word-of-lent}
use Rattle.file.specs.File.{is_whole}
use Rattle.file.proofs.WrittenLaws.{end-within}
use Rattle.load.proofs.NumberLaws.{test-not-whole, test-shape-out, test-content-not, test-lacks, scannable, test-room, shape-good}
use Rattle.load.proofs.validate_file.Goals as goal

pub returns-then-not-is_whole : goal.returns-then-not-is_whole
returns-then-not-is_whole c =
    let a = c.args in
    let out : is_whole a.file.now ≡ false = cc in
    test-not-whole a.file.now a.words a.bytes out

pub shape_in-shape-requires : goal.shape_in-shape-requires
shape_in-shape-requires c =
    let whole : is_whole c.args.file.now ≡ true = cc in
    end-within c.args.file.now whole

pub returns-in_err-validate : goal.returns-in_err-validate
returns-in_err-validate c =
    let a = c.args in
    let whole : is_whole a.file.now ≡ true = cc in
    let p = err_from_is_err_and c.from_residual.result c.from_residual.ensures.1 in
    rw (p.1, p.2)
    (test-shape-out a.file.now a.words a.bytes whole _ c.shape_in-shape.ensures _ c.in_err-validate.ensures)

pub content_holds-content-requires : goal.content_holds-content-requires
content_holds-content-requires c =
    let a = c.args in
    let whole : is_whole a.file.now ≡ true = cc in (
      whole,
      ap shape_number (sym c.shape_in-shape.ensures)
          ∙ shape-good _ c.in_ok-validate.ensures,
    )

-- what is returned is told as 13
pub returns-then-not-content : goal.returns-then-not-content
returns-then-not-content c =
    let a = c.args in
    let whole : is_whole a.file.now ≡ true = cc in
    let out : c.content_holds-content.result ≡ false = cc in
    (grind arith)
    ∙ test-content-not a.file.now a.words a.bytes whole _ c.shape_in-shape.ensures c.in_ok-validate.ensures _
    c.content_holds-content.ensures out

pub returns-then-lacking : goal.returns-then-lacking
returns-then-lacking c =
    let a = c.args in
    let whole : is_whole a.file.now ≡ true = cc in
    let held : c.content_holds-content.result ≡ true = cc in
    let lacking : lacks_word_or_page c.shape_in-shape.result a.words a.bytes ≡ true = cc in
    test-lacks a.file.now a.words a.bytes whole _ c.shape_in-shape.ensures c.in_ok-validate.ensures _
    c.content_holds-content.ensures held lacking

pub depth_limit-requires : goal.depth_limit-requires
depth_limit-requires c =
    let a = c.args in
    let lent : lacks_word_or_page c.shape_in-shape.result a.words a.bytes ≡ false = cc in (
      shape-good _ c.in_ok-validate.ensures,
      word-of-lent c.shape_in-shape.result a.words a.bytes lent,
    )

pub validate_room-requires : goal.validate_room-requires
validate_room-requires c =
    let a = c.args in
    let whole : is_whole a.file.now ≡ true = cc in
    let held : c.content_holds-content.result ≡ true = cc in
    scannable a.file.now a.words a.bytes whole _ c.shape_in-shape.ensures c.in_ok-validate.ensures _
    c.content_holds-content.ensures held _ c.record_count.ensures.0 _ c.depth_limit.ensures c.record_count.ensures.1

pub returns : goal.returns
returns c =
    let a = c.args in
    let whole : is_whole a.file.now ≡ true = cc in
    let held : c.content_holds-content.result ≡ true = cc in
    let lent : lacks_word_or_page c.shape_in-shape.result a.words a.bytes ≡ false = cc in
    test-room a.file.now a.words a.bytes whole _ c.shape_in-shape.ensures c.in_ok-validate.ensures _
    c.content_holds-content.ensures held _ c.record_count.ensures.0 _ c.depth_limit.ensures lent c.page_limit.ensures _
    c.validate_room.ensures
