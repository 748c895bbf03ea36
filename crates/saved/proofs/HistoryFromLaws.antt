-- Demand 3 from a loaded store: what an accepted load fixes is what the model is given. Assumes nothing.
use Prim.Native.Nat.{ℕ}
use mathlib.Core.Path.{◌≡◌, refl}
use mathlib.Core.List.{List}
use Rattle.shape.specs.Refusal.{accepted}
use Rattle.model.specs.Limits.{fixed_by}
use Rattle.store.specs.Store.{Store, Memory, fixed_of}
use Rattle.store.specs.Fresh.{fresh_state}
use Rattle.history.proofs.HistoryLaws.{listed-as}
use Rattle.file.specs.File.{file_records}
use Rattle.file.specs.Loading.{load_fixed}
use Rattle.file.specs.Promises.{LoadPromise}
use Rattle.file.proofs.AcceptedLaws.{passed-of-accepted}
use Rattle.file.proofs.PlainLaws.{fresh_shape-file_shape}
use Rattle.saved.specs.Again.{LoadedHistory}

-- what an accepted load fixes is what the model is given
pub fixed_of-loaded : (file : List ℕ) (m : Memory) (loaded : Store) → LoadPromise file m (accepted tt) loaded
    → fixed_of loaded.state ≡ load_fixed file m
unfolding fixed_by fresh_state
fixed_of-loaded file m loaded p =
    rw (p.shape-as refl, p.limits-as refl, fresh_shape-file_shape file (passed-of-accepted file m loaded p).plain)

pub loaded-history : LoadedHistory
loaded-history file m loaded p calls outcomes after r =
    listed-as (load_fixed file m) (file_records file) (fixed_of-loaded file m loaded p) (p.shown refl) r
