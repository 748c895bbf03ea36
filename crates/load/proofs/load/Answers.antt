-- A refused load changes nothing, an accepted one joins the file's records to a fresh store.
use Rattle.std.proofs.Common.{◌≡◌, ℕ, List, length, refl}
use Rattle.std.proofs.lemmas.Result.{err_from_is_err_and}
use Rattle.shape.specs.Refusal.{accepted, answered_by}
use Rattle.shape.proofs.RefusalLaws.{accepted-answered_by}
use Rattle.store.specs.Store.{Memory, memory}
use Rattle.file.specs.Loading.{load_refusals, load_number}
use Rattle.file.specs.File.{is_whole}
use Rattle.file.proofs.WrittenLaws.{end-within}
use Rattle.load.specs.Lengths.{load_conditions_by}
use Rattle.load.proofs.NumberLaws.{load_refusals-by}
use Rattle.load.proofs.PromiseLaws.{promise-refused, whole-passed, fresh-accepts, joining-made, promise-joined}
use Rattle.load.proofs.load.Goals as goal

-- no condition holds
none : (file : List ℕ) (m : Memory)
    → accepted (tt {0}) ≡ answered_by (load_conditions_by file (length m.words) (length m.bytes)) (tt {0})
    → load_number file m ≡ 0
unfolding load_refusals load_conditions_by
none file m e = accepted-answered_by tt tt (load_refusals file m) e

pub returns-in_err-validate_file : goal.returns-in_err-validate_file
unfolding load_refusals load_conditions_by
returns-in_err-validate_file c =
    let a = c.args in
    let p = err_from_is_err_and c.from_residual.result c.from_residual.ensures.1 in
    rw (p.1, p.2)
    (promise-refused a.file.now (memory a.dir.now a.pages.now) _ c.in_err-validate_file.ensures _ refl refl)

pub shape_in-requires : goal.shape_in-requires
shape_in-requires c =
    let a = c.args in
    end-within a.file.now
    (whole-passed a.file.now (memory a.dir.now a.pages.now) (none a.file.now (memory a.dir.now a.pages.now) c.in_ok-validate_file.ensures))

pub returns-in_err-empty : goal.returns-in_err-empty
returns-in_err-empty c =
    let a = c.args in
    fresh-accepts a.file.now (memory a.dir.now a.pages.now)
    (none a.file.now (memory a.dir.now a.pages.now) c.in_ok-validate_file.ensures) _ c.shape_in.ensures _ _
    c.in_err-empty.ensures

pub record_count-n-requires : goal.record_count-n-requires
record_count-n-requires c =
    let a = c.args in
    whole-passed a.file.now (memory a.dir.now a.pages.now)
    (none a.file.now (memory a.dir.now a.pages.now) c.in_ok-validate_file.ensures)

pub add_records-requires : goal.add_records-requires
add_records-requires c =
    let a = c.args in
    joining-made a.file.now (memory a.dir.now a.pages.now)
    (none a.file.now (memory a.dir.now a.pages.now) c.in_ok-validate_file.ensures) _ c.record_count-n.ensures.0 _
    c.shape_in.ensures _ _ c.in_ok-empty.ensures c.record_count-n.ensures.1

pub returns : goal.returns
returns c =
    let a = c.args in
    promise-joined a.file.now (memory a.dir.now a.pages.now)
    (none a.file.now (memory a.dir.now a.pages.now) c.in_ok-validate_file.ensures) _ c.record_count-n.ensures.0 _
    c.shape_in.ensures _ _ c.in_ok-empty.ensures _ c.add_records.ensures
