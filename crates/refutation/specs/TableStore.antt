-- The store of the proof table's entries (a) and (b): the words that the table computes are those of a sound store.
-- Assumes nothing.
use Rattle.std.specs.Prelude.{◌≡◌, []}
use Rattle.model.specs.Model.{last_set}
use Rattle.store.specs.Sound.{Sound}
use Rattle.table.specs.Table.{four_inserts, fixed_amply, division_after, directory_words}
use Rattle.refutation.specs.Stores.{four_records, set_of_four}

pub record TableStore : Type 0 where
  -- the set after the four inserts, ..
  pub set : last_set fixed_amply [] four_inserts ≡ set_of_four
  -- .. a sound store that shows it, ..
  pub sound : Sound four_records set_of_four
  -- .. and its words
  pub words : four_records.memory.words ≡ directory_words (division_after four_inserts)
