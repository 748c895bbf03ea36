-- What `note_met` leaves: the pages that a walk over the regions that meet a box sees, noted in a list (document 02,
-- request 1). A box is two packed keys, its low and its high end in each attribute. Assumes nothing.
use Rattle.std.specs.Prelude.{ℕ, ◌≤◌, ◌≡◌, Bool, List}
use Rattle.std.specs.Int.Bits.{bit_and}
use Rattle.shape.specs.Shape.{widths_of}
use Rattle.page_ends.specs.Ends.{fixed_bits}
use Rattle.store.specs.declared.State.{State}
use Rattle.key_between.specs.Between.{lies_between}
use Rattle.query_rows.specs.Corners.{Corner}
use Rattle.query_seen.specs.Seen.{walk_seen_by}
use Rattle.query_walk.specs.Noting.{Noted, Put}

-- the region with this low corner meets the box, where the mask has the bits that are fixed at its depth: in each
-- attribute the low end's fixed bits are at most the region's, and its lowest value is at most the high end. For one
-- attribute of 4 bits and the region of values 4 to 7, which fixes 2 of them, 5 to 9 is met: 4 is between 4 and 9
abbrev pub corner_meets : ℕ → ℕ → ℕ → ℕ → Bool
corner_meets mask low high corner = lies_between (bit_and low mask) high corner

-- a test of regions tells of each up to depth T whether it meets the box
abbrev pub TellsMeeting : List ℕ → ℕ → ℕ → ℕ → (ℕ → (ℕ → Bool) → Bool) → Type 0
TellsMeeting ws T low high enter =
    (x : ℕ) (p : ℕ → Bool) (corner : ℕ) → x ≤ T → Corner ws x p corner
    → corner_meets (fixed_bits ws x) low high corner ≡ enter x p

-- by each test that tells this
abbrev pub Meeting : State → ℕ → ℕ → (words bytes list : List ℕ) → Noted → List ℕ → Type 0
Meeting st low high words bytes list r later =
    (enter : ℕ → (ℕ → Bool) → Bool) → TellsMeeting (widths_of st.shape) st.deepest low high enter
    → Put list (walk_seen_by st words bytes enter) r later
