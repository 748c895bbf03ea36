-- A state in 32-bit words, as a host keeps it between calls: d, the four widths, b, P, L, T, the tally of depths 0 to
-- 12, and the marks of signed attributes. Assumes nothing.
use Rattle.std.specs.Prelude.{ℕ, zero, suc, ◌+◌, cond, List, [], ◌∷◌, ◌++◌, ltb, length, drop, get_or}
use Rattle.store.specs.Fresh.{no_state}
use Rattle.store.specs.declared.State.{State}

-- the words of a state
abbrev pub state_size : ℕ
state_size = 23

-- n numbers of a list, from place i on
abbrev pub words_from : ℕ → ℕ → List ℕ → List ℕ
words_from zero i words = []
words_from (suc n) i words = get_or words i 0 ∷ words_from n (i + 1) words

-- the state of the first words
unfoldable pub shown_state : List ℕ → State
shown_state words =
    record {
      shape =
          record {
            attributes = get_or words 0 0;
            widths = words_from 4 1 words;
            capacity = get_or words 5 0;
            signs = get_or words 22 0;
          };
      limits = record { pages = get_or words 6 0; depth = get_or words 7 0 };
      deepest = get_or words 8 0;
      tally = record { leaves = words_from 13 9 words };
    }

-- the state that a slice shows: fewer words than a state has show the state without attributes, on which every call is
-- refused with 1
unfoldable pub state_in : List ℕ → State
state_in words = cond (ltb (length words) state_size) no_state (shown_state words)

-- the words of a state; 4 widths and 13 tallies
unfoldable pub state_words : State → List ℕ
state_words s =
    s.shape.attributes
    ∷ (words_from 4 0 s.shape.widths
    ++ s.shape.capacity
    ∷ s.limits.pages
    ∷ s.limits.depth
    ∷ s.deepest
    ∷ words_from 13 0 s.tally.leaves
    ++ s.shape.signs ∷ [])

-- a slice after a state was written into its first words; its other words stay
unfoldable pub state_put : State → List ℕ → List ℕ
state_put s words = state_words s ++ drop state_size words
