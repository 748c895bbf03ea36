-- What the bytes of saved stores say (document 02, request 5): "Two sound stores of one shape save equal bytes exactly
-- when they hold equal sets of records, and saving after an accepted load gives the same bytes." Over the promises of
-- save and load, so of any programs that keep them. Assumes nothing.
use Rattle.std.specs.Prelude.{ℕ, ◌≤◌, ◌<◌, ◌≡◌, true, List, ◌++◌, ◌↔◌, length, get_or, take, drop}
use Rattle.lists.specs.Members.{Member}
use Rattle.shape.specs.Refusal.{Answer, accepted, refused}
use Rattle.shape.specs.declared.Shape.{Shape}
use Rattle.record.specs.Record.{Record}
use Rattle.model.specs.Limits.{fresh_shape}
use Rattle.model.specs.Sets.{is_set}
use Rattle.store.specs.Store.{Store, Memory}
use Rattle.store.specs.Sound.{Sound}
use Rattle.file.specs.Promises.{SavePromise, LoadPromise}

-- "Two sound stores of one shape save equal bytes exactly when they hold equal sets of records": the bytes are those
-- whose number the save returns. One shape is one as Fresh holds it, without widths and marks past d, which are
-- ignored. The sets are given as their lists in split order, and the stores' bytes are below 256, as those of a slice
abbrev pub EqualBytes : Type 0
EqualBytes =
    (one other : Store) (S U : List Record) → Sound one S → Sound other U
    → ((i : ℕ) → get_or one.memory.bytes i 0 < 256) → ((i : ℕ) → get_or other.memory.bytes i 0 < 256)
    → fresh_shape one.state.shape ≡ fresh_shape other.state.shape
    → (n k : ℕ) (out out' other_out other_out' : List ℕ) → SavePromise one out (accepted n) out'
    → SavePromise other other_out (accepted k) other_out' → (take n out' ≡ take k other_out') ↔ (S ≡ U)

-- for the reader of the lists: two are equal exactly if they have the same records
abbrev pub EqualSets : Type 0
EqualSets =
    (s : Shape) (S U : List Record) → is_set s S ≡ true → is_set s U ≡ true
    → (S ≡ U) ↔ ((r : Record) → Member r S ↔ Member r U)

-- "saving after an accepted load gives the same bytes", from the output's first byte, and leaves the others; an output
-- that is shorter than the file gets 2 and is left as it came
abbrev pub SavedAgain : Type 0
SavedAgain =
    (file : List ℕ) → ((i : ℕ) → get_or file i 0 < 256) → (m : Memory) (loaded : Store)
    → LoadPromise file m (accepted tt) loaded
    → (out : List ℕ) (answer : Answer ℕ) (out' : List ℕ) → SavePromise loaded out answer out'
    → (length file ≤ length out → (answer ≡ accepted (length file)) × (out' ≡ file ++ drop (length file) out))
    × (length out < length file → (answer ≡ refused 2) × (out' ≡ out))
