use Rattle.std.proofs.Common.{◌≡◌, ℕ, Bool, List, eqb, get_or, length, Decides, arith, rules, ap, eq-eqb, eqb-true}
use Rattle.std.proofs.lemmas.Bool.Decides.{same_from_decides, Decides-eqb}
use Rattle.std.proofs.lemmas.List.{ext_get_or}
use Rattle.std.proofs.lemmas.Slice.Eq.{slice_eq-Decides}
use Rattle.shape.proofs.BoundsLaws.{all_below-true, test-of-all_below}
use Rattle.check_counts.specs.Counts.{same_tally}
use Rattle.check_counts.proofs.same_tally.Goals as goal

same_tally-Decides : (xs ys : List ℕ) → length xs ≡ 13 → length ys ≡ 13 → Decides (same_tally xs ys) (xs ≡ ys)
same_tally-Decides xs ys l m =
    let test : ℕ → Bool = λ x. eqb (get_or xs x 0) (get_or ys x 0) in (
      λ e. ext_get_or 0 xs ys (omega arith) (λ i k. eqb-true _ _ (test-of-all_below test 13 i e (omega arith))),
      λ e. all_below-true 13 test (λ i k. eq-eqb _ _ (ap (λ zs. get_or zs i 0) e)),
    )

pub returns : goal.returns
returns c =
    let xs = c.args.tally.leaves in
    let ys = c.args.counts.now in
    let full : length xs ≡ 13 = search rules in
    let same = slice_eq-Decides Decides-eqb xs ys c.eq.result c.eq.ensures in
    (same_from_decides c.eq.result (same_tally xs ys) same (same_tally-Decides xs ys full c.requires), full)
