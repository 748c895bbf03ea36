-- What the plan of a delete says of a store, sound or not: each case holds the facts that the steps and the promise
-- of delete need. `encoded` are the encodings of the key. Assumes nothing.
use Rattle.std.specs.Prelude.{Result, Ok, Err, ℕ, suc, ◌+◌, ◌≤◌, ◌<◌, ◌≡◌, true, List}
use Rattle.shape.specs.Refusal.{told}
use Rattle.shape.specs.declared.refusal.Refusal.{Refusal}
use Rattle.shape.specs.Shape.{widths_of}
use Rattle.region.specs.Strings.{sibling}
use Rattle.record.specs.Lanes.{bias_key, fields_key}
use Rattle.record.specs.Packed.{packed_key}
use Rattle.page.specs.Page.{count_of, page_at}
use Rattle.page.specs.Fields.{key_at}
use Rattle.directory_word.specs.Word.{word_of}
use Rattle.directory_word.specs.declared.Leaf.TheVariants.{Page}
use Rattle.store.specs.Store.{Store, word_at}
use Rattle.store.specs.Promises.{DeletePromise}
use Rattle.change.specs.Delete.{key_string, AtSibling, JoinFound}
use Rattle.refusals.specs.Limits.{limits_hold}
use Rattle.refusals.specs.Passed.{Passed, OfValues}
use Rattle.page_ends.specs.Ends.{ends_begin}
use Rattle.leaf_word.specs.Hold.{word_holds, own_page}
use Rattle.tally.specs.Tally.{tally_holds}
use Rattle.delete_plan.specs.declared.Stored.{Stored}
use Rattle.delete_plan.specs.declared.Join.{Join}
use Rattle.delete_plan.specs.declared.Plan.{Plan}
use Rattle.delete_plan.specs.declared.Plan.TheVariants as plan

module _ (before : Store) (encoded : List ℕ) where
  abbrev P : ℕ
  P = before.state.limits.pages

  abbrev T : ℕ
  T = before.state.deepest

  abbrev b : ℕ
  b = before.state.shape.capacity

  abbrev count_before : ℕ → ℕ
  count_before g = count_of (page_at b before.memory.bytes g)

  -- the key's leaf has page g and depth x, as the word of its cell says; 1, 14, 15, 2, 3 and the limits are passed
  pub record LeafMet (g x : ℕ) : Type 0 where
    pub passed : Passed before encoded
    pub limits : limits_hold before.state ≡ true
    pub own-within : g < P
    pub deep : x ≤ T
    pub holds : word_holds before.state
        (word_at before.state.shape T before.memory.words (key_string before encoded)) ≡ true
    pub own : word_at before.state.shape T before.memory.words (key_string before encoded) ≡ word_of (Page g x)

  -- and the page, whose first and last record have values in bounds and begin with the leaf's string, has the key's
  -- record
  pub record RecordFound (r : Stored) : Type 0 where
    pub leaf : LeafMet r.page r.depth
    pub counted : r.count ≡ count_before r.page
    pub few : r.count ≤ b
    pub ends : own_page before.state.shape r.depth (packed_key encoded)
        (page_at b before.memory.bytes r.page) r.count ≡ true
    pub place-lt : r.place < r.count
    pub here : key_at (page_at b before.memory.bytes r.page) r.place
        ≡ fields_key before.state.shape (packed_key encoded)

  -- its sibling is no leaf with a page, or both do not fit one page without the record
  abbrev pub StaysAlone : ℕ → ℕ → Type 0
  StaysAlone g x = (m : ℕ) → x ≡ suc m
      → AtSibling before encoded m (λ w. (h : ℕ) → h < P → w ≡ word_of (Page h (suc m))
      → suc b < count_before g + count_before h)

  -- the leaf keeps its region
  pub record KeepPlanned (r : Stored) : Type 0 where
    pub found : RecordFound r
    pub alone : StaysAlone r.page r.depth

  -- the leaf is joined with its sibling, whose page is another one
  pub record JoinPlanned (r : Stored) (j : Join) : Type 0 where
    pub found : RecordFound r
    pub depth-step : r.depth ≡ suc j.step
    pub met : JoinFound before encoded r.page j.other j.step j.top
    pub apart : r.page ≡ j.other → ⊥
    pub counted : j.count ≡ count_before j.other
    pub few : j.count ≤ b
    -- the sibling's first and last record have values in bounds and begin with its string
    pub ends : ends_begin (widths_of before.state.shape) (bias_key before.state.shape) (suc j.step)
        (sibling (key_string before encoded) j.step) (page_at b before.memory.bytes j.other) j.count ≡ true
    pub bit : j.bit ≡ key_string before encoded j.step
    pub tally : tally_holds before.state.tally.leaves ≡ true

  -- a refusal is what delete promises of the call's values
  abbrev pub RefusalMet : Refusal → Type 0
  RefusalMet r = OfValues before encoded (λ values. DeletePromise before values (told r) before)

  abbrev pub DeletePlanned : Result Plan Refusal → Type 0
  DeletePlanned (Ok (plan.Keep r)) = KeepPlanned r
  DeletePlanned (Ok (plan.Join r j)) = JoinPlanned r j
  DeletePlanned (Err r) = RefusalMet r
