-- Two loads of one file are answered alike by calls that read: of what Fresh fixes, the model's answers to these go by
-- the shape alone. Assumes nothing.
use mathlib.Core.Path.{◌≡◌, refl, sym, ◌∙◌}
use mathlib.Core.Bool.{true, false≢true}
use mathlib.Core.List.{List, [], ◌∷◌}
use Rattle.lists.specs.Filter.{all}
use Rattle.lists.proofs.Bools.{and_split}
use Rattle.record.specs.Record.{Record}
use Rattle.model.specs.Limits.{fixed_by}
use Rattle.model.specs.Model.{Fixed, Call, insert_call, delete_call, lookup_call, query_call, range_call}
use Rattle.model.specs.Model.{number_for, output_of, reply_to, output_after, outcome, set_after, next, run}
use Rattle.history.proofs.HistoryLaws.{same_set}
use Rattle.file.specs.File.{file_records}
use Rattle.file.specs.Loading.{load_fixed}
use Rattle.saved.specs.Again.{reads_only, LoadedAlike}
use Rattle.saved.proofs.HistoryFromLaws.{loaded-history}

module _ (f f' : Fixed) (same : f.shape ≡ f'.shape) (S : List Record) where
  outcome-reads : (c : Call) → reads_only c ≡ true → outcome f S c ≡ outcome f' S c
  unfolding outcome number_for reply_to output_after output_of
  outcome-reads (insert_call values content) h = absurd (false≢true h)
  outcome-reads (delete_call values) h = absurd (false≢true h)
  outcome-reads (lookup_call values) h = rw same
  outcome-reads (query_call q out) h = rw same
  outcome-reads (range_call r out) h = rw same

  next-reads : (g : Fixed) (c : Call) → reads_only c ≡ true → next g S c ≡ S
  unfolding set_after
  next-reads g (insert_call values content) h = absurd (false≢true h)
  next-reads g (delete_call values) h = absurd (false≢true h)
  next-reads g (lookup_call values) h = same_set g S (lookup_call values) refl
  next-reads g (query_call q out) h = same_set g S (query_call q out) refl
  next-reads g (range_call r out) h = same_set g S (range_call r out) refl

  run-reads : (calls : List Call) → all reads_only calls ≡ true → run f S calls ≡ run f' S calls
  unfolding run
  run-reads [] h = refl
  run-reads (c ∷ cs) h =
      let parts = and_split (reads_only c) (all reads_only cs) h in
      rw (outcome-reads c parts.0, next-reads f c parts.0, next-reads f' c parts.0, run-reads cs parts.1)

pub loaded-alike : LoadedAlike
unfolding fixed_by
loaded-alike file m m' one other p q calls h outcomes outcomes' after after' r r' =
    (loaded-history file m one p calls outcomes after r).0
    ∙ run-reads (load_fixed file m) (load_fixed file m') refl (file_records file) calls h
    ∙ sym (loaded-history file m' other q calls outcomes' after' r').0
