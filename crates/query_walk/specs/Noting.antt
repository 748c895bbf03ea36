-- What `note_pages` asks and leaves: the pages that a walk over the regions sees, noted in a list (document 01,
-- "Calls"). Assumes nothing.
use Rattle.std.specs.Prelude.{Option, Some, None, ℕ, ◌^◌, ◌≤◌, ◌≡◌, true, cond, List, length}
use Rattle.shape.specs.Shape.{in_bounds, widths_of, total}
use Rattle.region.specs.Query.{QueryBit}
use Rattle.store.specs.declared.State.{State}
use Rattle.store.specs.Store.{pages_size}
use Rattle.std.proofs.lemmas.List.Edits.{sets}
use Rattle.query_rows.specs.Rows.{Table, most_pages}
use Rattle.query_seen.specs.Seen.{Seen, walk_seen}

-- what a walk returns: how many pages it noted, none where it met what no sound store has
abbrev pub Noted : Type 0
Noted = Option ℕ

-- what a walk answers
abbrev pub noted_by : Seen → Noted
noted_by s = cond s.sound (Some (length s.pages)) None

-- it noted what it saw from the front of the list on; also where damage ended it
pub record Put (list : List ℕ) (s : Seen) (r : Noted) (later : List ℕ) : Type 0 where
  pub answer : r ≡ noted_by s
  pub lines : later ≡ sets list 0 s.pages

-- of each query whose table this is
abbrev pub Noting : State → (rows words bytes list : List ℕ) → Noted → List ℕ → Type 0
Noting st rows words bytes list r later =
    (q : ℕ → QueryBit) → Table st q rows
    → Put list (walk_seen st words bytes q) r later

-- what the walk asks of a state, its table, the lengths of its slices and the room in the list
pub record Walkable (st : State) (rows : List ℕ) (words bytes room : ℕ) : Type 0 where
  pub shape : in_bounds st.shape ≡ true
  pub depth-twelve : st.deepest ≤ 12
  pub depth-bits : st.deepest ≤ total (widths_of st.shape)
  pub words-lent : 2 ^ st.deepest ≤ words
  pub most-pages : st.limits.pages ≤ 4096
  pub pages-lent : pages_size st ≤ bytes
  pub query : ℕ → QueryBit
  pub table : Table st query rows
  pub list-lent : most_pages rows st.deepest 0 ≤ room
