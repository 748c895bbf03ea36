-- What the steps of an insert that divides a leaf ask of state and words, and how they leave them. Assumes nothing.
use Rattle.std.specs.Prelude.{ℕ, suc, ◌-◌, ◌^◌, max, ◌≤◌, ◌<◌, ◌≡◌, Bool, true, List}
use Rattle.shape.specs.Shape.{widths_of, total, shape_number}
use Rattle.split.specs.Bits.{split_bit}
use Rattle.region.specs.Division.{Division}
use Rattle.record.specs.Record.{Record}
use Rattle.store.specs.Store.{memory}
use Rattle.store.specs.Sound.{Shows}
use Rattle.store.specs.declared.State.{State}
use Rattle.change.specs.Divided.{Deepened, LeavesSet, divided_tally}
use Rattle.tally.specs.Tally.{tally_holds}
use Rattle.insert_planned.specs.declared.Split.{Split}

-- ---- double

-- a directory of depth L fits the slice, and the new leaves are at most so deep
pub record DoublingAsked (st : State) (split : Split) (size : ℕ) : Type 0 where
  pub shape : shape_number st.shape ≡ 0
  pub lent : 2 ^ st.limits.depth ≤ size
  pub short : st.limits.depth ≤ 12
  pub bits : st.limits.depth ≤ total (widths_of st.shape)
  pub within-limit : st.deepest ≤ st.limits.depth
  pub deep : split.step < st.limits.depth

-- the directory was doubled to the greater of T and the new leaves' depth, and nothing else of words and state changed
pub record DirectoryDoubled (st : State) (split : Split) (before : List ℕ) (after : State)
    (words : List ℕ) : Type 0 where
  pub state : after
      ≡ record {
        shape = st.shape;
        limits = st.limits;
        deepest = max st.deepest (suc split.step);
        tally = st.tally;
      }
  pub deepened : Deepened (widths_of st.shape) st.deepest after.deepest before words
  -- "After the doubling, before any other word is set, the words show the old leaves at the new T": every division that
  -- they showed at the old one, whatever the pages hold
  pub shown : (P : ℕ) (bytes : List ℕ) (D : Division Record)
      → Shows st.shape P st.deepest (memory before bytes) D
      → Shows st.shape P after.deepest (memory words bytes) D

-- ---- set the words

-- the new leaves are at most T deep, their pages have numbers, and the bit is the key's
pub record LeavesAsked (st : State) (encoded : List ℕ) (split : Split) (bit : Bool) (free : ℕ) : Type 0 where
  pub below : split.depth ≤ split.step
  pub deep : split.step < st.deepest
  pub page-lt : split.page < 65535
  pub free-lt : free < 65535
  pub bit_is : bit ≡ split_bit (widths_of st.shape) encoded split.step

-- ---- the tally

-- the new leaves have depths of the tally, and the tally can be a sound store's
pub record TallyAsked (st : State) (split : Split) : Type 0 where
  pub below : split.depth ≤ split.step
  pub short : split.step < 12
  pub tally : tally_holds st.tally.leaves ≡ true

-- the new leaves are counted, and nothing else of the state changed
pub record LeavesCounted (st : State) (split : Split) (after : State) : Type 0 where
  pub state : after
      ≡ record { shape = st.shape; limits = st.limits; deepest = st.deepest; tally = after.tally }
  pub tallied : after.tally.leaves
      ≡ divided_tally split.depth (suc (split.step - split.depth)) st.tally.leaves

-- ---- all three

-- words that were doubled, then set, and the state with the new T and tally
pub record WordsDivided (st : State) (encoded : List ℕ) (split : Split) (free : ℕ) (words : List ℕ) (after : State)
    (words' : List ℕ) : Type 0 where
  pub doubled : List ℕ
  pub state : after
      ≡ record { shape = st.shape; limits = st.limits; deepest = after.deepest; tally = after.tally }
  pub deeper : after.deepest ≡ max st.deepest (suc split.step)
  pub tallied : after.tally.leaves
      ≡ divided_tally split.depth (suc (split.step - split.depth)) st.tally.leaves
  pub deepened : Deepened (widths_of st.shape) st.deepest after.deepest words doubled
  pub leaves : LeavesSet (widths_of st.shape) after.deepest split.depth split.step
      (split_bit (widths_of st.shape) encoded) split.page free doubled words'
