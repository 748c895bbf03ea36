-- What the records that a load adds ask, and what they leave. Only the code's contracts cite it. Assumes nothing.
use Rattle.std.specs.Prelude.{ℕ, ◌*◌, ◌^◌, ◌≤◌, ◌≡◌, true, List, [], length, drop}
use Rattle.shape.specs.Refusal.{first_number}
use Rattle.record.specs.Bytes.{record_size}
use Rattle.page.specs.Page.{records_from}
use Rattle.model.specs.Sets.{is_set}
use Rattle.store.specs.Store.{Store, fixed_of, pages_size}
use Rattle.store.specs.Sound.{Sound}
use Rattle.file.specs.Loading.{join_conditions}

-- a store without records, and n records of a file in split order of which none meets 6 or 7
pub record Joining (before : Store) (n : ℕ) (file : List ℕ) : Type 0 where
  pub sound : Sound before []
  pub lent : record_size * n ≤ length file
  pub set : is_set before.state.shape (records_from before.state.shape n 0 file) ≡ true
  pub room : first_number (join_conditions (fixed_of before.state) [] (records_from before.state.shape n 0 file)) ≡ 0

-- the store after the first i of them
pub record Joined (before : Store) (i : ℕ) (file : List ℕ) (after : Store) : Type 0 where
  pub shape-kept : after.state.shape ≡ before.state.shape
  pub limits-kept : after.state.limits ≡ before.state.limits
  pub words-length : length after.memory.words ≡ length before.memory.words
  pub bytes-length : length after.memory.bytes ≡ length before.memory.bytes
  pub words-past : drop (2 ^ before.state.limits.depth) after.memory.words
      ≡ drop (2 ^ before.state.limits.depth) before.memory.words
  pub bytes_past : drop (pages_size before.state) after.memory.bytes
      ≡ drop (pages_size before.state) before.memory.bytes
  pub shown : Sound after (records_from before.state.shape i 0 file)
