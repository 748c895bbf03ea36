-- Loaded stores in use (document 02, request 5): demand 3 from a loaded store, that a saved set loads again, and that
-- two loads of one file are read alike. Over the promise of load, so of any programs that keep it. Assumes nothing.
use Rattle.std.specs.Prelude.{ℕ, ◌*◌, ◌^◌, ◌≤◌, ◌<◌, ◌≡◌, Bool, true, false, List, ◌↔◌, length, get_or}
use Rattle.lists.specs.Filter.{all}
use Rattle.shape.specs.Refusal.{Answer, accepted}
use Rattle.shape.specs.declared.Shape.{Shape}
use Rattle.region.specs.Division.{greatest_depth, non_empty_leaves}
use Rattle.record.specs.Record.{Record}
use Rattle.page.specs.Page.{page_size}
use Rattle.model.specs.Model.{Call, insert_call, delete_call, lookup_call, query_call, range_call, Outcome}
use Rattle.model.specs.Model.{run, last_set}
use Rattle.model.specs.Sets.{division_of}
use Rattle.store.specs.Store.{Store, Memory, pages_size}
use Rattle.store.specs.Sound.{Sound}
use Rattle.history.specs.History.{Run, WithinBounds}
use Rattle.file.specs.File.{file_of, file_records}
use Rattle.file.specs.Loading.{load_fixed, load_number}
use Rattle.file.specs.Promises.{LoadPromise}

-- ---- demand 3 from a loaded store

-- "Loading makes a sound store of the file's shape and records in lent slices, with P and L set as by Fresh": the store
-- that an accepted load leaves is a start of demand 3 as a fresh one is. The plain model begins with the file's
-- records; any list of calls is answered as it answers, each query's reads are within the bound, and the store that is
-- left shows the model's set
abbrev pub LoadedHistory : Type 0
LoadedHistory =
    (file : List ℕ) (m : Memory) (loaded : Store) → LoadPromise file m (accepted tt) loaded
    → (calls : List Call) (outcomes : List Outcome) (after : Store) → Run loaded calls outcomes after
    → (outcomes ≡ run (load_fixed file m) (file_records file) calls)
    × WithinBounds (load_fixed file m) (file_records file) calls outcomes
    × Sound after (last_set (load_fixed file m) (file_records file) calls)

-- ---- loading again

-- slices that are large enough for a set: a word for each cell of a directory of its greatest depth, a page for each of
-- its non-empty leaves, and one page at least
pub record LargeEnough (s : Shape) (S : List Record) (m : Memory) : Type 0 where
  pub words : 2 ^ greatest_depth (division_of s S) ≤ length m.words
  pub pages : non_empty_leaves (division_of s S) * page_size s.capacity ≤ length m.bytes
  pub some-page : page_size s.capacity ≤ length m.bytes

-- what holds of a load of the file of the set S and the shape s into slices m
pub record Reloads (s : Shape) (S : List Record) (m : Memory) : Type 0 where
  -- slices that are large enough meet no condition for refusal, so that the load is accepted exactly in these ..
  pub no-refusal : LargeEnough s S m → load_number (file_of s S) m ≡ 0
  pub exactly : (answer : Answer (Unit {0})) (after : Store) → LoadPromise (file_of s S) m answer after
      → (answer ≡ accepted tt) ↔ LargeEnough s S m
  -- .. and leaves a store that shows the set
  pub shown : (after : Store) → LoadPromise (file_of s S) m (accepted tt) after → Sound after S

-- the set of every sound store loads again; the store's page bytes are below 256, as those of a slice are
abbrev pub LoadsAgain : Type 0
LoadsAgain =
    (store : Store) (S : List Record) → Sound store S → ((i : ℕ) → get_or store.memory.bytes i 0 < 256)
    → (m : Memory) → Reloads store.state.shape S m

-- slices as the store itself may have, with 2^L words and P pages, are large enough
abbrev pub OwnSlicesEnough : Type 0
OwnSlicesEnough =
    (store : Store) (S : List Record) → Sound store S
    → (m : Memory) → 2 ^ store.state.limits.depth ≤ length m.words → pages_size store.state ≤ length m.bytes
    → LargeEnough store.state.shape S m

-- ---- two loads of one file

-- a call that writes nothing in the store
abbrev pub reads_only : Call → Bool
reads_only (insert_call values content) = false
reads_only (delete_call values) = false
reads_only (lookup_call values) = true
reads_only (query_call q out) = true
reads_only (range_call r out) = true

-- into slices of any lengths: calls that read are answered alike, payloads, depths, lists, totals and reads
abbrev pub LoadedAlike : Type 0
LoadedAlike =
    (file : List ℕ) (m m' : Memory) (one other : Store) → LoadPromise file m (accepted tt) one
    → LoadPromise file m' (accepted tt) other → (calls : List Call) → all reads_only calls ≡ true
    → (outcomes outcomes' : List Outcome) (after after' : Store) → Run one calls outcomes after
    → Run other calls outcomes' after' → outcomes ≡ outcomes'
