use Rattle.std.proofs.Common.{◌≡◌, ◌-◌, ◌/◌, min, length, arith, ◌∙◌}
use Rattle.record.specs.Bytes.{record_size}
use Rattle.page_matches.specs.KeyPlace.{key_place}
use Rattle.page_matches.proofs.PlaceLaws.{key_place-cut, place_below-cut}
use Rattle.page_matches.proofs.find_key.Goals as goal
use Rattle.page_matches.proofs.find_key.Goals.{then-page-eq-SIXTEEN_RECORDS, else-page-eq-SIXTEEN_RECORDS}

-- of 16 records, or of those that the page has room for
pub returns : goal.returns
returns c =
    let a = c.args in
    let page = a.page.now in
    let slots = (length page - 2) / record_size in
    let cut : key_place a.key page a.n 0 ≡ min c.if-page-eq-SIXTEEN_RECORDS.place a.n =
    elim c.if-page-eq-SIXTEEN_RECORDS.branch [
      | then-page-eq-SIXTEEN_RECORDS w ↦
          key_place-cut a.key page a.n 16 _ (omega arith) (w.place-is ∙ w.find_among-place.ensures)
      | else-page-eq-SIXTEEN_RECORDS w ↦
          key_place-cut a.key page a.n slots _ (omega arith)
          (w.place-is ∙ w.find_among-place-else-page-eq-SIXTEEN_RECORDS.ensures)
    ] in
    let told = place_below-cut a.n (key_place a.key page a.n 0) c.if-page-eq-SIXTEEN_RECORDS.place cut in
    grind arith
