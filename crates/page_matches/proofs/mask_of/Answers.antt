use Rattle.std.proofs.Common.{◌-◌, ◌/◌, length, arith, ◌∙◌}
use Rattle.record.specs.Bytes.{record_size}
use Rattle.page_matches.proofs.MaskLaws.{match_mask-cut}
use Rattle.page_matches.proofs.mask_of.Goals as goal
use Rattle.page_matches.proofs.mask_of.Goals.{then-page-eq-SIXTEEN_RECORDS, else-page-eq-SIXTEEN_RECORDS}

-- of 16 records, or of those that the page has room for
pub returns : goal.returns
returns g c passed d =
    let n = c.args.n in
    let page = c.args.page.now in
    let slots = (length page - 2) / record_size in
    elim c.if-page-eq-SIXTEEN_RECORDS.branch [
      | then-page-eq-SIXTEEN_RECORDS w ↦
          match_mask-cut passed page n 16 _ (omega arith) (omega arith) (w.mask-is ∙ w.mask_among-mask.ensures passed d)
      | else-page-eq-SIXTEEN_RECORDS w ↦
          match_mask-cut passed page n slots _ (omega arith) (omega arith)
          (w.mask-is ∙ w.mask_among-mask-else-page-eq-SIXTEEN_RECORDS.ensures passed d)
    ]
