-- What save and load promise (document 02, requests 5 and 7). Each promise is one definition, which the call's
-- `ensures` and the theorems of crate `saved` cite. Assumes nothing.
use Rattle.std.specs.Prelude.{ℕ, ◌*◌, ◌^◌, ◌≤◌, ◌<◌, ◌≡◌, true, List, [], ◌∷◌, ◌++◌, ◌⊎◌, ltb, length, drop}
use Rattle.shape.specs.Refusal.{Answer, accepted, refused, answered, answered_by, is_refused, refusal, first_number}
use Rattle.shape.specs.Refusal.{RefusedFirst}
use Rattle.region.specs.Query.{LeafTest}
use Rattle.record.specs.Record.{Record}
use Rattle.record.specs.Bytes.{record_size}
use Rattle.page.specs.Page.{page_size}
use Rattle.model.specs.Model.{if_accepted}
use Rattle.store.specs.Store.{Store, Memory, lent_conditions}
use Rattle.store.specs.Sound.{Sound}
use Rattle.store.specs.Fresh.{fresh_state, no_state}
use Rattle.store.specs.Promises.{lent_number, SoundWhere}
use Rattle.file.specs.File.{file_size, end_bytes, file_of, file_shape, file_records}
use Rattle.file.specs.Loading.{load_fixed, load_refusals}

-- ---- save

-- every leaf's page is read
abbrev pub every_leaf : LeafTest Record
every_leaf p x rs = true

-- "gives 2 if they don't fit"
abbrev pub fit_number : List Record → List ℕ → ℕ
fit_number S out = first_number (refusal 2 (ltb (length out) (file_size (length S))) ∷ [])

-- no store has more: 4,096 pages of 16 records
abbrev pub most_records : ℕ
most_records = 4096 * 16

-- save on a store, with an output as it came, answered and left the output. Shut out: the trailer written before the
-- fit is known (unchanged); bytes written behind the file, records in another order, marks written without an attribute
-- (saved-as)
pub record SavePromise (store : Store) (out : List ℕ) (answer : Answer ℕ) (out' : List ℕ) : Type 0 where
  -- 1, 14, 15, 2
  pub early-refused : RefusedFirst (lent_conditions store) answer
  pub unchanged : is_refused answer ≡ true → out' ≡ out
  -- on any store a file of some records that fits, with its shape and trailer, the bytes behind it untouched; 2, where
  -- a file may be longer than the output; or 9
  pub ordinary : lent_number store ≡ 0
      → ((n : ℕ) × (body : List ℕ) × (n ≤ most_records) × (answer ≡ accepted (file_size n)) × (file_size n ≤ length out)
      × (length body ≡ record_size * n)
      × (out' ≡ body ++ (end_bytes store.state.shape n ++ drop (file_size n) out)))
      ⊎ (((answer ≡ refused 2) × (length out < file_size most_records)) ⊎ (answer ≡ refused 9))
  -- on a sound store, whatever the pages hold that no leaf has: "Saving writes the file's bytes only, from the output's
  -- first byte, returns their number, and gives 2 if they don't fit."
  pub saved-as : (S : List Record) → SoundWhere store every_leaf S
      → (answer ≡ answered (fit_number S out) (file_size (length S)))
      × (out' ≡ if_accepted (fit_number S out) (file_of store.state.shape S ++ drop (file_size (length S)) out) out)

-- ---- load

-- load of a file into lent memory answered, and left a store. Left free: which page a leaf has, words at 2^T and above,
-- bytes past a page's count, the contents of free pages. Shut out: 1 for a bad width or capacity, 2 before 13, equal
-- keys accepted, 7 with empty leaves counted, a stored payload of 0 refused (answered-as); a load that writes before it
-- knows of 6 or 7 (memory_kept)
pub record LoadPromise (file : List ℕ) (m : Memory) (answer : Answer (Unit {0})) (after : Store) : Type 0 where
  pub answered-as : answer ≡ answered_by (load_refusals file m) tt
  -- "All of them return the number and change nothing."; as after a refused Fresh there is no state to go on with
  pub no-state : is_refused answer ≡ true → after.state ≡ no_state
  pub memory_kept : is_refused answer ≡ true → after.memory ≡ m
  -- "Loading makes a sound store of the file's shape and records in lent slices, with P and L set as by Fresh."
  pub shape-as : answer ≡ accepted tt → after.state.shape ≡ file_shape file
  pub limits-as : answer ≡ accepted tt → after.state.limits ≡ (fresh_state (file_shape file) m).limits
  pub shown : answer ≡ accepted tt → Sound after (file_records file)
  -- "Words past the first 2^L and bytes past the P pages are never changed."
  pub words-length : length after.memory.words ≡ length m.words
  pub bytes-length : length after.memory.bytes ≡ length m.bytes
  pub words-past : drop (2 ^ (load_fixed file m).depth_limit) after.memory.words
      ≡ drop (2 ^ (load_fixed file m).depth_limit) m.words
  pub bytes_past : drop ((load_fixed file m).page_limit * page_size (file_shape file).capacity) after.memory.bytes
      ≡ drop ((load_fixed file m).page_limit * page_size (file_shape file).capacity) m.bytes
